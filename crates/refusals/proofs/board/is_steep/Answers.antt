-- `refusals::board::is_steep` meets its contract.
use mathlib.Core.Path.{refl}
use Rattle.eikonal.specs.Refusals.{steep}
use Rattle.refusals.proofs.board.is_steep.Goals as goal

pub returns : goal.returns
unfolding steep
returns c = refl
