-- The rounds of a tile run whose one tile covers the board, counted.
use mathlib.Core.Path.{◌≡◌, refl, sym, ap, ◌∙◌}
use mathlib.Core.Bool.{Bool, true, false, cond}
use mathlib.Core.List.{List}
use mathlib.Core.Logic.{◌⊎◌, inl, inr, ◌≢◌}
use Prim.Native.Nat.{ℕ, zero, suc, ◌*◌, ◌-◌, ◌≤◌, ◌<◌, min}
use native.Mathlib.Omega.{arith}
use lib.ListN.{length}
use lib.Seq.{ext_get_or}
use Rattle.eikonal.specs.Board.{Board, never, largest, size, time, solved, marched}
use Rattle.eikonal.specs.Tiles.{altered, after_rounds, last_round, rounds}
use Rattle.eikonal.specs.Inner.Good.{Good}
use Rattle.eikonal.proofs.Levels.{order}
use Rattle.eikonal.proofs.Clip.{cut-time}
use Rattle.eikonal.proofs.Altered.{altered-same}
use Rattle.eikonal.proofs.Passes.{never-time}
use Rattle.eikonal.proofs.Solution.{solved-long}
use Rattle.eikonal.proofs.LastRound.{not_yet, not_last, is_last}
use Rattle.eikonal.proofs.Rounds.{rounds-is, after-length}
use Rattle.one_tile.specs.Rounds.{strides, span_start, some_within, exact_rounds}
use Rattle.one_tile.proofs.March.{after_is}
use Rattle.one_tile.proofs.LastSpan.{strides-some, time_after, comes, before, still, moves, none_within, one-within}

module _ (b : Board) (g : Good b) (tw th : ℕ) (wide : b.wide ≤ tw) (high : b.high ≤ th) (s h : ℕ) (low : 1 ≤ s) (far : h ≤ largest) where
  abbrev after : ℕ → List ℕ
  after k = after_rounds k b tw th s h

  after_march : (k : ℕ) → after (suc k) ≡ marched b (min (suc k * s) h)
  after_march = after_is b g tw th wide high s h far

  after-time : (k c : ℕ) → time (after k) c ≡ time_after s h k (time (solved b) c)
  unfolding after_rounds time_after marched
  after-time zero c = never-time b c
  after-time (suc k) c =
      ap (λ (ts : List ℕ). time ts c) (after_march k) ∙ cut-time (min (suc k * s) h) (solved b) c (omega arith)

  long : (k : ℕ) → length (after k) ≡ size b
  long = after-length b g tw th s h low far

  -- ---- round K = k + 1 is the first at the horizon
  module _ (k : ℕ) (is : suc k ≡ strides s h) where
    earlier : (j : ℕ) → 1 ≤ j → j ≤ k → last_round b tw th s h j ≡ false
    earlier j l m = not_yet b tw th s h j (before s h k low is j l m)

    -- no time in the span: it alters nothing
    idle : some_within (span_start s (suc k)) h (solved b) ≡ false → after (suc k) ≡ after k
    unfolding time
    idle e = ext_get_or never (after (suc k)) (after k) (long (suc k) ∙ sym (long k)) same
      where
        same : (c : ℕ) → c < length (after (suc k)) → time (after (suc k)) c ≡ time (after k) c
        same c l =
            after-time (suc k) c
            ∙ still s h k (time (solved b) c) low is (none_within (span_start s (suc k)) h (solved b) e c (omega (arith, long (suc k), solved-long b)))
            ∙ sym (after-time k c)

    -- a time in the span: it alters that one,
    busy : some_within (span_start s (suc k)) h (solved b) ≡ true → altered (after k) (after (suc k)) ≢ 0
    busy e none =
        let same = altered-same (after k) (after (suc k)) (long k ∙ sym (long (suc k))) none in
        one-within (span_start s (suc k)) h (solved b) e
        (λ c from to.
        moves s h k (time (solved b) c) low (omega arith) is from to
        (sym (after-time k c) ∙ ap (λ (ts : List ℕ). time ts c) same ∙ after-time (suc k) c))

    -- and the next alters nothing
    done : after (suc (suc k)) ≡ after (suc k)
    done =
        let l = comes s h k low is in
        let first : min (suc k * s) h ≡ h = omega arith in
        let second : min (suc (suc k) * s) h ≡ h = omega arith in
        after_march (suc k) ∙ rw (first, second) refl ∙ sym (after_march k)

    counted : rounds b tw th s h ≡ cond (some_within (span_start s (suc k)) h (solved b)) (suc (suc k)) (suc k)
    counted = go (some_within (span_start s (suc k)) h (solved b)) refl
      where
        go : (p : Bool) → some_within (span_start s (suc k)) h (solved b) ≡ p → rounds b tw th s h ≡ cond p (suc (suc k)) (suc k)
        go false e =
            rounds-is b g tw th s h low far (suc k) (omega arith) (is_last b tw th s h k (comes s h k low is) (idle e)) (λ j l m. earlier j l (omega arith))
        go true e = rounds-is b g tw th s h low far (suc (suc k)) (omega arith) (is_last b tw th s h (suc k) (omega (arith, comes s h k low is)) done) none
          where
            none : (j : ℕ) → 1 ≤ j → j < suc (suc k) → last_round b tw th s h j ≡ false
            none j l m = by (order j (suc k))
              where
                by : (j < suc k) ⊎ (suc k ≤ j) → last_round b tw th s h j ≡ false
                by (inl n) = earlier j l (omega arith)
                by (inr n) = let z : j ≡ suc k = omega arith in rw z (not_last b tw th s h k (busy e))

  pub exact : rounds b tw th s h ≡ exact_rounds s h (solved b)
  unfolding exact_rounds
  exact = rw (strides-some s h) at (counted (strides s h - 1) (strides-some s h))
