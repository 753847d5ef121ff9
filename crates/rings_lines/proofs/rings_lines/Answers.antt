-- `rings_lines::rings_lines` meets its contract.
use Rattle.std.proofs.Common.{sym, ap, ◌∙◌, arith}
use Rattle.eikonal.specs.Told.{refusal_of}
use Rattle.eikonal.proofs.Causes.{number_is}
use Rattle.eikonal.proofs.Outcomes.{numbered}
use Rattle.rings_lines.specs.Rings.{refused_line}
use Rattle.rings_lines.proofs.Answers.{small-file, lines-board, lines-refused, says-lines}
use Rattle.rings_lines.proofs.rings_lines.Goals as goal

pub returns-in-Err : goal.returns-in-Err
returns-in-Err c =
    let h = c.if-out-lt11300.false in
    let r = c.in-Err.refusal in
    let line = ap refused_line c.number.ensures ∙ lines-refused _ (refusal_of r) c.in-Err.ensures.told (numbered r.cause) in
    says-lines _ h line c.put_refused.ensures.put (omega (arith, c.put_refused.ensures.most, h))

-- nothing refuses the file
pub put_board-requires : goal.put_board-requires
put_board-requires c =
    (c.if-out-lt11300.false, small-file _ (sym (number_is c.in-Ok.ensures.told)), c.in-Ok.ensures.head)

pub returns-in-Ok : goal.returns-in-Ok
returns-in-Ok c = says-lines _ c.if-out-lt11300.false (lines-board _ (sym (number_is c.in-Ok.ensures.told))) c.put_board.ensures.put c.put_board.ensures.most
