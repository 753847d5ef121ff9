-- The rising order names every tile once.
use mathlib.Core.Path.{◌≡◌, refl}
use mathlib.Core.Bool.{true, or-true}
use mathlib.Core.List.{List, [], ◌∷◌}
use Prim.Native.Nat.{ℕ, zero, suc, ◌≤◌, ◌<◌}
use native.Mathlib.Omega.{arith}
use lib.Dec.{eqb}
use lib.ListN.{length, get_or}
use borrow.Author.Tests.{eq-eqb}
use Rattle.eikonal.specs.Board.{Board}
use Rattle.eikonal.specs.Tiles.{tile_count}
use Rattle.eikonal.specs.Refusals.{member, all_there, order_good}

member-at : (xs : List ℕ) (k v : ℕ) → k < length xs → get_or xs k 0 ≡ v → member v xs ≡ true
unfolding member
member-at [] k v h e = absurd (omega arith)
member-at (x ∷ xs) zero v h e = rw (eq-eqb x v e)
member-at (x ∷ xs) (suc k) v h e = rw (member-at xs k v (omega arith) e, or-true (eqb x v))

module _ (xs : List ℕ) (rises : (k : ℕ) → k < length xs → get_or xs k 0 ≡ k) where
  all-rise : (n : ℕ) → n ≤ length xs → all_there n xs ≡ true
  unfolding all_there
  all-rise zero h = refl
  all-rise (suc n) h = rw (member-at xs n n h (rises n h), all-rise n (omega arith))

  pub rise-good : (b : Board) (tw th : ℕ) → length xs ≡ tile_count b tw th → order_good b tw th xs ≡ true
  unfolding order_good
  rise-good b tw th e = rw (eq-eqb (length xs) (tile_count b tw th) e, all-rise (tile_count b tw th) (omega arith))
