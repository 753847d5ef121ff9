use mathlib.Core.Path.{refl, ◌∙◌}
use Rattle.refusals.proofs.Judging.{onward-good}
use Rattle.refusals.proofs.board.as_handed.Goals as goal

pub returns : goal.returns
returns c =
    let off = c.onward.ensures ∙ onward-good c.args.judged.off c.args.judged.seen in
    let low = c.onward-2.ensures ∙ onward-good c.args.judged.low c.args.judged.seen in
    rw (off, low) refl
