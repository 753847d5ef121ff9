-- `rows::tiles::write_row` meets its contract.
use Rattle.std.proofs.Common.{arith, ◌+◌, ◌*◌}
use Rattle.rows.proofs.Theory.Entered.{entered-part, entered_of}
use Rattle.rows.proofs.Theory.TileRows.{row-end, row-cells, part_read}
use Rattle.rows.proofs.tiles.write_row.Goals as goal

pub returns : goal.returns
returns c =
    let x = c.args in
    let from = x.row * x.shape.width + x.left in
    let to = x.row * x.shape.width + x.right in
    let ends = row-end c.requires.0 c.requires.1 c.requires.3 in
    entered_of _ (λ d l b. row-cells b)
    (entered-part x.times.now c.fill_row.new.row from to (omega arith) (omega (arith, ends, c.requires.0.many))
    (part_read x.bound x.shape.cells from to x.work.now) c.fill_row.ensures)
