-- The entries before i are marked where they lie in the part.
use Rattle.std.proofs.Common.{◌≡◌, ℕ, ◌+◌, ◌<◌, length, take}
use Rattle.eikonal.specs.Refusals.{member}
use Rattle.tile_orders.specs.Orders.{marked}
use Rattle.tile_orders.proofs.part_there.Given as goal

abbrev pub invariant-loop-tile : goal.invariant-loop-tile
invariant-loop-tile l =
    (length l.seen ≡ 8192) × ((j : ℕ) → j < 8192 → marked l.seen j ≡ member (l.from + j) (take l.tile-index l.order))
