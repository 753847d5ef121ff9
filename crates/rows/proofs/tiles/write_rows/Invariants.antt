-- `rows::tiles::write_rows` keeps, while it loops: the rows before `row` are final.
use Rattle.rows.specs.Lists.{due}
use Rattle.rows.specs.Rows.{Entered, Block}
use Rattle.rows.proofs.tiles.write_rows.Given as goal

abbrev pub invariant-loop-row : goal.invariant-loop-row
invariant-loop-row l =
    Entered (Block l.shape.width l.top l.row l.left l.right) (due l.bound l.work l.shape.cells) l.initial.times l.times l.count
