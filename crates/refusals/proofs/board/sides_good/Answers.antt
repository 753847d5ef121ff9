-- `refusals::board::sides_good` meets its contract.
use mathlib.Core.Path.{refl}
use Rattle.eikonal.specs.Refusals.{sides_good}
use Rattle.refusals.proofs.board.sides_good.Goals as goal

pub returns : goal.returns
unfolding sides_good
returns c = rw (c.within-2.ensures, c.within.ensures) refl
