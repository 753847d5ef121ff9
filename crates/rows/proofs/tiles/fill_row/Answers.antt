-- `rows::tiles::fill_row` meets its contract: the entries before `column` are final.
use Rattle.std.proofs.Common.{arith, ◌≡◌, ◌∙◌, ◌<◌, length, get_or}
use Rattle.rows.proofs.Theory.Entered.{differ, differ_is, differ-most, entered-most, entered-none, entered-next}
use Rattle.rows.proofs.tiles.fill_row.Goals as goal

pub loop-column-init : goal.loop-column-init
loop-column-init c = entered-none (λ d. d < 0) _ _ (λ d l s. omega arith)

pub overflow_add-count : goal.overflow_add-count
overflow_add-count c =
    let l = c.loop-column in
    let counted : c.from-count.result ≡ differ (get_or l.row l.column 0) c.clip-t.result = c.from-count.ensures ∙ differ_is _ _ in
    omega (arith, entered-most l.invariant, counted, differ-most (get_or l.row l.column 0) c.clip-t.result)

pub loop-column-preserved : goal.loop-column-preserved
loop-column-preserved c =
    let l = c.loop-column in
    let counted : c.from-count.result ≡ differ (get_or l.row l.column 0) c.clip-t.result = c.from-count.ensures ∙ differ_is _ _ in
    let k : l.column < length l.row = omega (arith, c.loop-column-test.true, l.invariant.long) in
    rw (← counted) at (entered-next l.column c.clip-t.result k c.clip-t.ensures l.invariant)
