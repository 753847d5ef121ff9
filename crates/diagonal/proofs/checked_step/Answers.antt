-- `diagonal::checked_step` meets its contract: behind 5 a slowness is at most 4,095.
use borrow.Author.Tests.{ltb-false}
use Rattle.eikonal.proofs.Outcomes.{unmet}
use Rattle.diagonal.proofs.checked_step.Goals as goal

pub step-requires : goal.step-requires
step-requires c = ltb-false 4095 c.args.slowness (unmet 4 _ c.in_ok-refuse_if.ensures)
