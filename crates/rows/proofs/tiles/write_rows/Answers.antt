-- `rows::tiles::write_rows` meets its contract: the rows before `row` are final.
use Rattle.std.proofs.Common.{arith}
use Rattle.rows.proofs.Theory.Entered.{altered-most, entered-most, entered-none, entered-then}
use Rattle.rows.proofs.Theory.TileRows.{no_rows, one-row-more}
use Rattle.rows.proofs.tiles.write_rows.Goals as goal

pub loop-row-init : goal.loop-row-init
loop-row-init c = entered-none _ _ _ (λ d l b. no_rows b)

pub overflow_add-count : goal.overflow_add-count
overflow_add-count c =
    let p = c.requires.0 in
    let l = c.loop-row in
    let w = c.write_row-count in
    omega (arith, p.few, p.many, l.invariant.long, entered-most l.invariant, w.ensures.counted, altered-most l.times w.new.times)

pub loop-row-preserved : goal.loop-row-preserved
loop-row-preserved c = entered-then c.loop-row.invariant c.write_row-count.ensures _ (λ d l b. one-row-more b)
