-- `rows::tiles::write_storeys` keeps, while it loops: the storeys before this one are final.
use Rattle.std.proofs.Common.{◌*◌}
use Rattle.rows.specs.Lists.{due}
use Rattle.rows.specs.Rows.{Entered, PillarBefore}
use Rattle.rows.proofs.tiles.write_storeys.Given as goal

abbrev pub invariant-loop-storey : goal.invariant-loop-storey
invariant-loop-storey l =
    Entered (PillarBefore l.shape.width l.shape.height l.top l.bottom l.left l.right (l.storey * l.shape.height)) (due l.bound l.work l.shape.cells)
    l.initial.times l.times l.count
