-- `rows::tiles::write_tiles` keeps, while it loops: the tiles written so far are final.
use Rattle.std.proofs.Common.{◌≡◌, true, take}
use Rattle.eikonal.specs.Refusals.{member}
use Rattle.rows.specs.Lists.{due}
use Rattle.rows.specs.Rows.{Entered, tile_in}
use Rattle.rows.proofs.tiles.write_tiles.Given as goal

abbrev pub invariant-loop-tile : goal.invariant-loop-tile
invariant-loop-tile l =
    Entered (λ d. member (tile_in l.shape d) (take l.tile-index l.order) ≡ true) (due l.bound l.work l.shape.cells)
    l.initial.times l.times l.count
