-- Lists filled from the front, and times written and counted.
use mathlib.Core.Path.{◌≡◌, refl, sym, ap, ◌∙◌}
use mathlib.Core.Bool.{true, false, cond}
use mathlib.Core.Logic.{◌⊎◌, inl, inr}
use mathlib.Core.List.{List, [], ◌∷◌, ◌++◌}
use Prim.Native.Nat.{ℕ, ◌+◌, ◌*◌, ◌≤◌, ◌<◌}
use native.Mathlib.Omega.{arith}
use native.Mathlib.Numerals.{add-one}
use lib.Dec.{leb}
use lib.ListN.{length, get_or, set, take, drop, replicate, length-set, length-append, length-take, length-drop, length-replicate, get_or-replicate}
use lib.ListN.{get_or-append}
use lib.Seq.{drop_at, take-suc-set, take-length, ext_get_or}
use borrow.Author.Tests.{le-leb, lt-leb}
use Rattle.std.specs.Int.{from_bool}
use Rattle.eikonal.specs.Board.{never, reached}
use Rattle.eikonal.specs.Inner.Clip.{clip}
use Rattle.eikonal.proofs.Levels.{order}
use Rattle.eikonal.proofs.Clip.{Clipped, kept, lost, clipped}
use Rattle.queue.specs.Lists.{Filled}
use Rattle.queue.proofs.Filling.{Stored, here, elsewhere, after_store}
use Rattle.queue.proofs.Parts.{alike_from}
use Rattle.rows.specs.Lists.{Finished, due}
use Rattle.front.proofs.Theory.Reading.{time-at}

-- ---- filled from the front: as an equation
pub filled-front : {end x : ℕ} {old new : List ℕ} → end ≤ length old → Filled 0 end x old new → new ≡ replicate end x ++ drop end old
filled-front {end} {x} {old} {new} l f = ext_get_or 0 new (replicate end x ++ drop end old) (f.long ∙ sym long) (λ i h. at i (order i end))
  where
    long : length (replicate end x ++ drop end old) ≡ length old
    long = simp (length-append, length-replicate, length-drop) (omega arith)

    at : (i : ℕ) → (i < end) ⊎ (end ≤ i) → get_or new i 0 ≡ get_or (replicate end x ++ drop end old) i 0
    at i (inl h) =
        f.inside i (omega arith) h
        ∙ sym (get_or-append (replicate end x) (drop end old) 0 i (rw length-replicate h) ∙ get_or-replicate end i x 0 h)
    at i (inr h) =
        f.outside i (inr h)
        ∙ sym (alike_from (replicate end x ++ drop end old) old end i h (drop_at (replicate end x) (drop end old) end (length-replicate end x)))

-- ---- cells reached
abbrev pub tick : (t bound : ℕ) → ℕ
tick t h = cond (leb t h) 1 0

-- as the test's number
pub tick_is : (t h : ℕ) → from_bool (leb t h) ≡ tick t h
tick_is t h = elim (leb t h) as (λ b. from_bool b ≡ cond b 1 0) [ true ↦ refl | false ↦ refl ]

pub tick-most : (t h : ℕ) → tick t h ≤ 1
tick-most t h = go (order h t)
  where
    go : (h < t) ⊎ (t ≤ h) → tick t h ≤ 1
    go (inl l) = rw (lt-leb t h l) (omega arith)
    go (inr l) = rw (le-leb t h l) (omega arith)

-- a clipped time is reached just if the time is
tick-clip : (h t : ℕ) → h < never → tick (clip h t) h ≡ tick t h
tick-clip h t b = go (clipped h t)
  where
    go : Clipped h t → tick (clip h t) h ≡ tick t h
    go (kept l p) = ap (λ (u : ℕ). tick u h) p
    go (lost l p) = ap (λ (u : ℕ). tick u h) p ∙ rw (lt-leb never h b, lt-leb t h l)

pub reached-most : (h : ℕ) (xs : List ℕ) → reached h xs ≤ length xs
unfolding reached
reached-most h [] = omega arith
reached-most h (x ∷ xs) = omega (arith, tick-most x h, reached-most h xs)

reached-last : (h : ℕ) (xs : List ℕ) (x : ℕ) → reached h (xs ++ (x ∷ [])) ≡ reached h xs + tick x h
unfolding reached
reached-last h [] x = omega arith
reached-last h (y ∷ ys) x = omega (arith, reached-last h ys x)

reached-more : (h : ℕ) (xs : List ℕ) (i x : ℕ) → i < length xs → reached h (take (i + 1) (set xs i x)) ≡ reached h (take i xs) + tick x h
reached-more h xs i x l =
    ap (λ (u : ℕ). reached h (take u (set xs i x))) (add-one i) ∙ ap (reached h) (take-suc-set xs i x l) ∙ reached-last h (take i xs) x

-- ---- the times of the first c cells are written, and those reached are counted
pub record Finishing (bound n : ℕ) (work times : List ℕ) (count c : ℕ) : Type 0 where
  pub long : length times ≡ n
  pub upto : c ≤ n
  pub each : (d : ℕ) → d < c → get_or times d 0 ≡ due bound work n d
  pub counted : count ≡ reached bound (take c times)

pub finishing_none : (bound : ℕ) {n : ℕ} (work : List ℕ) {times : List ℕ} → length times ≡ n → Finishing bound n work times 0 0
unfolding reached
finishing_none bound work e = record { long = e; upto = omega arith; each = λ d l. absurd (omega arith); counted = refl }

module _ {bound n : ℕ} {work times : List ℕ} {count c : ℕ} (f : Finishing bound n work times count c) where
  pub finishing_most : count ≤ c
  finishing_most = omega (arith, f.counted, reached-most bound (take c times), length-take c times)

  pub finishing_more : {x k t : ℕ} → c < n → bound < never → t ≡ get_or work (2 * n + c) 0 → x ≡ clip bound t → k ≡ tick t bound
      → Finishing bound n work (set times c x) (count + k) (c + 1)
  finishing_more {x} {k} {t} l b et ex ek = record {
    long = length-set times c x ∙ f.long;
    upto = omega arith;
    each = λ d m. at d m (after_store times c x d (omega (arith, f.long)));
    counted = omega (arith, f.counted, reached-more bound times c x (omega (arith, f.long)), ap (λ (u : ℕ). tick u bound) ex, tick-clip bound t b, ek);
  }
    where
      at : (d : ℕ) → d < c + 1 → Stored times c x d → get_or (set times c x) d 0 ≡ due bound work n d
      at d m (here e p) = p ∙ ex ∙ ap (clip bound) (et ∙ ap (λ (u : ℕ). get_or work (2 * n + u) 0) (sym e))
      at d m (elsewhere e p) = p ∙ f.each d (omega (arith, e))

  pub finished : n ≤ c → Finished bound n work times count
  finished l =
      let e : c ≡ length times = omega (arith, f.long, f.upto) in
      record {
        long = f.long;
        each = λ d m. time-at times d (omega (arith, f.long)) ∙ f.each d (omega arith);
        counted = f.counted ∙ ap (λ (u : ℕ). reached bound (take u times)) e ∙ ap (reached bound) (take-length times);
      }
