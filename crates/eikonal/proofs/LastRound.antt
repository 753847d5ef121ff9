-- Which round of a tile run can be the last: the first one is, says Rounds.antt.
use mathlib.Core.Path.{◌≡◌}
use mathlib.Core.Bool.{true, false, and-false}
use mathlib.Core.List.{List}
use mathlib.Core.Logic.{◌≢◌}
use Prim.Native.Nat.{ℕ, suc, ◌*◌, ◌-◌, ◌≤◌, ◌<◌}
use native.Mathlib.Omega.{arith}
use lib.Dec.{leb, eqb}
use borrow.Author.Tests.{leb-true, le-leb, lt-leb, eqb-true, ne_eqb}
use Rattle.eikonal.specs.Board.{Board}
use Rattle.eikonal.specs.Tiles.{altered, after_rounds, last_round}
use Rattle.eikonal.proofs.Altered.{altered-none}
use Rattle.eikonal.proofs.Good.{and-true}

module _ (b : Board) (tw th s h : ℕ) where
  abbrev after : ℕ → List ℕ
  after k = after_rounds k b tw th s h

  -- none before the horizon
  pub not_yet : (k : ℕ) → k * s < h → last_round b tw th s h k ≡ false
  unfolding last_round
  not_yet k l = rw (lt-leb h (k * s) l)

  module _ (k : ℕ) where
    one_less : suc k - 1 ≡ k
    one_less = omega arith

    -- none that alters something
    pub not_last : altered (after k) (after (suc k)) ≢ 0 → last_round b tw th s h (suc k) ≡ false
    unfolding last_round
    not_last n = rw (one_less, ne_eqb (altered (after k) (after (suc k))) 0 n, and-false)

    -- each at the horizon that alters nothing
    pub is_last : h ≤ suc k * s → after (suc k) ≡ after k → last_round b tw th s h (suc k) ≡ true
    unfolding last_round
    is_last l e = rw (one_less, le-leb h (suc k * s) l, e, altered-none (after k))

    -- and no other
    pub last_says : last_round b tw th s h (suc k) ≡ true → (h ≤ suc k * s) × (altered (after k) (after (suc k)) ≡ 0)
    unfolding last_round
    last_says e =
        let both = and-true (leb h (suc k * s)) (eqb (altered (after (suc k - 1)) (after (suc k))) 0) e in
        let none = eqb-true (altered (after (suc k - 1)) (after (suc k))) 0 both.1 in
        (leb-true h (suc k * s) both.0, rw one_less at none)
