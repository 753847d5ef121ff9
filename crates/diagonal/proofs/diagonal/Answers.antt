-- `diagonal::diagonal` meets its contract.
use mathlib.Core.Path.{◌∙◌}
use Rattle.eikonal.specs.Entry.{DiagonalSays}
use Rattle.diagonal.proofs.Replied.{replied}
use Rattle.diagonal.proofs.diagonal.Goals as goal

pub returns : goal.returns
unfolding DiagonalSays
returns c = c.into.ensures ∙ replied _ _ c.checked_step.result c.checked_step.ensures.refuses c.checked_step.ensures.gives
