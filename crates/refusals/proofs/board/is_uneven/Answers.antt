-- `refusals::board::is_uneven` meets its contract.
use mathlib.Core.Path.{refl}
use Rattle.eikonal.specs.Refusals.{uneven}
use Rattle.refusals.proofs.board.is_uneven.Goals as goal

pub returns : goal.returns
unfolding uneven
returns c = refl
