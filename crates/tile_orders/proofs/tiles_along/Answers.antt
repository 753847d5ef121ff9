-- `tile_orders::tiles_along` meets its contract.
use mathlib.Core.Path.{refl}
use Rattle.eikonal.specs.Tiles.{up}
use Rattle.tile_orders.proofs.tiles_along.Goals as goal

pub returns : goal.returns
unfolding up
returns c = refl
