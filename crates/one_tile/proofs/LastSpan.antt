-- The last span: where it starts, which times are in it, and what the round that comes to it makes of a time.
use mathlib.Core.Path.{◌≡◌, refl, sym, ap₂, ◌∙◌}
use mathlib.Core.Bool.{Bool, true, false, ◌&&◌, ◌||◌, and-false, false≢true}
use mathlib.Core.List.{List, [], ◌∷◌}
use mathlib.Core.Logic.{◌⊎◌, inl, inr, ◌≢◌}
use Prim.Native.Nat.{ℕ, zero, suc, ◌*◌, ◌-◌, ◌≤◌, ◌<◌, min}
use native.Mathlib.Omega.{arith}
use lib.Dec.{leb}
use lib.ListN.{length}
use borrow.Author.Tests.{ne_eqb, leb-true, leb-false, lt-leb}
use Rattle.eikonal.specs.Board.{never, time, cut}
use Rattle.eikonal.specs.Inner.Good.{Known}
use Rattle.eikonal.specs.Inner.Clip.{clip}
use Rattle.eikonal.proofs.Levels.{order}
use Rattle.eikonal.proofs.Good.{and-true, or-false}
use Rattle.eikonal.proofs.Up.{up-enough, up-short}
use Rattle.eikonal.proofs.Clip.{Clipped, kept, lost, clipped, clip_keeps, clip_loses}
use Rattle.one_tile.specs.Rounds.{strides, span_start, some_within, exact_rounds}

-- ---- K = k + 1 strides come to the horizon, fewer do not
pub strides-some : (s h : ℕ) → suc (strides s h - 1) ≡ strides s h
unfolding strides
strides-some s h = omega arith

module _ (s h k : ℕ) (low : 1 ≤ s) (is : suc k ≡ strides s h) where
  pub comes : h ≤ suc k * s
  unfolding strides
  comes = up-enough h s low (suc k) (omega arith)

  pub before : (j : ℕ) → 1 ≤ j → j ≤ k → j * s < h
  unfolding strides
  before j l m = up-short h s low j (omega arith)

-- ---- THE SPAN'S START: a time before it is of the strides before the last, a time from it on is not
start_splits : (s k t : ℕ) → (t < span_start s (suc k) → (1 ≤ k) × (t ≤ k * s)) × (span_start s (suc k) ≤ t → 1 ≤ k → k * s < t)
unfolding span_start
start_splits s zero t = (λ l. absurd (omega arith), λ l m. absurd (omega arith))
start_splits s (suc k) t =
    let one : suc (suc k) - 1 ≡ suc k = omega arith in
    rw (ne_eqb (suc (suc k)) 1 (omega arith), one) (λ l. (omega arith, omega arith), λ l m. omega arith)

-- ---- A TIME AFTER k ROUNDS of one tile
unfoldable pub time_after : (s h k t : ℕ) → ℕ
time_after s h zero t = never
time_after s h (suc k) t = clip (min (suc k * s) h) t

-- the round that comes to the horizon leaves a time off the last span,
pub still : (s h k t : ℕ) → 1 ≤ s → suc k ≡ strides s h → (t < span_start s (suc k)) ⊎ (h < t) → time_after s h (suc k) t ≡ time_after s h k t
unfolding time_after
still s h zero t low is (inl early) = absurd (omega (arith, ((start_splits s 0 t).0 early).0))
still s h zero t low is (inr past) = clip_loses (min (1 * s) h) t (omega arith)
still s h (suc k) t low is (inl early) =
    let short = before s h (suc k) low is (suc k) (omega arith) (omega arith) in
    let ahead = ((start_splits s (suc k) t).0 early).1 in
    clip_keeps (min (suc (suc k) * s) h) t (omega arith) ∙ sym (clip_keeps (min (suc k * s) h) t (omega arith))
still s h (suc k) t low is (inr past) =
    clip_loses (min (suc (suc k) * s) h) t (omega arith) ∙ sym (clip_loses (min (suc k * s) h) t (omega arith))

-- and alters one in it
pub moves : (s h k t : ℕ) → 1 ≤ s → h < never → suc k ≡ strides s h → span_start s (suc k) ≤ t → t ≤ h → time_after s h k t ≢ time_after s h (suc k) t
unfolding time_after
moves s h zero t low far is from to same = omega (arith, clip_keeps (min (1 * s) h) t (omega (arith, comes s h 0 low is)))
moves s h (suc k) t low far is from to same =
    omega (
      arith,
      clip_loses (min (suc k * s) h) t (omega (arith, (start_splits s (suc k) t).1 from (omega arith))),
      clip_keeps (min (suc (suc k) * s) h) t (omega (arith, comes s h (suc k) low is)),
    )

-- ---- SOME TIME of a list is in a span
module _ (l h : ℕ) where
  out : (t : ℕ) → leb l t && leb t h ≡ false → (t < l) ⊎ (h < t)
  out t = go (leb l t) refl (leb t h) refl
    where
      go : (p : Bool) → leb l t ≡ p → (q : Bool) → leb t h ≡ q → p && q ≡ false → (t < l) ⊎ (h < t)
      go false e q d z = inl (leb-false l t e)
      go true e q d z = inr (leb-false t h (d ∙ z))

  pub none_within : (ts : List ℕ) → some_within l h ts ≡ false → (c : ℕ) → c < length ts → (time ts c < l) ⊎ (h < time ts c)
  unfolding some_within time
  none_within [] e c i = absurd (omega arith)
  none_within (t ∷ ts) e zero i = out t (or-false (leb l t && leb t h) (some_within l h ts) e).0
  none_within (t ∷ ts) e (suc c) i = none_within ts (or-false (leb l t && leb t h) (some_within l h ts) e).1 c (omega arith)

  pub one-within : (ts : List ℕ) → some_within l h ts ≡ true → ((c : ℕ) → l ≤ time ts c → time ts c ≤ h → ⊥) → ⊥
  unfolding some_within time
  one-within [] e f = false≢true e
  one-within (t ∷ ts) e f = go (leb l t && leb t h) refl e (λ z. one-within ts z (λ c. f (suc c)))
    where
      go : (p : Bool) → leb l t && leb t h ≡ p → p || some_within l h ts ≡ true → (some_within l h ts ≡ true → ⊥) → ⊥
      go true q z more = let both = and-true (leb l t) (leb t h) q in f 0 (leb-true l t both.0) (leb-true t h both.1)
      go false q z more = more z

  all-out : (ts : List ℕ) → ((c : ℕ) → (time ts c < l) ⊎ (h < time ts c)) → some_within l h ts ≡ false
  unfolding some_within time
  all-out [] f = refl
  all-out (t ∷ ts) f = rw (off (f 0)) (all-out ts (λ c. f (suc c)))
    where
      off : (t < l) ⊎ (h < t) → leb l t && leb t h ≡ false
      off (inl early) = rw (lt-leb l t early)
      off (inr late) = rw (lt-leb t h late, and-false)

  -- a cut at its end keeps what is in it, and puts nothing there
  cut_test : h < never → (t : ℕ) → leb l (clip h t) && leb (clip h t) h ≡ leb l t && leb t h
  cut_test far t = go (clipped h t)
    where
      go : Clipped h t → leb l (clip h t) && leb (clip h t) h ≡ leb l t && leb t h
      go (kept i e) = rw e
      go (lost i e) = rw (e, lt-leb never h far, lt-leb t h i) (and-false (leb l never) ∙ sym (and-false (leb l t)))

  cut-within : h < never → (ts : List ℕ) → some_within l h (cut h ts) ≡ some_within l h ts
  unfolding some_within cut clip
  cut-within far [] = refl
  cut-within far (t ∷ ts) = ap₂ ◌||◌ (cut_test far t) (cut-within far ts)

pub exact_cut : (s h : ℕ) → h < never → (ts : List ℕ) → exact_rounds s h (cut h ts) ≡ exact_rounds s h ts
unfolding exact_rounds
exact_cut s h far ts = rw (cut-within (span_start s (strides s h)) h far ts)

-- no time past the strides before the last
pub exact_early : (s h m : ℕ) → h < never → (ts : List ℕ) → ((c : ℕ) → Known m (time ts c)) → 1 ≤ m → m ≤ (strides s h - 1) * s
    → exact_rounds s h ts ≡ strides s h
unfolding exact_rounds
exact_early s h m far ts known some early =
    rw (all-out (span_start s (strides s h)) h ts (λ c. go (time ts c) (known c) (order (time ts c) (span_start s (strides s h)))))
  where
    two : (k : ℕ) → m ≤ k * s → 1 ≤ k
    two zero l = absurd (omega arith)
    two (suc k) l = omega arith

    go : (t : ℕ) → Known m t → (t < span_start s (strides s h)) ⊎ (span_start s (strides s h) ≤ t) → (t < span_start s (strides s h)) ⊎ (h < t)
    go t (inl e) i = inr (omega arith)
    go t (inr l) (inl i) = inl i
    go t (inr l) (inr i) = absurd (omega (arith, (start_splits s (strides s h - 1) t).1 (rw (strides-some s h) i) (two (strides s h - 1) early)))
