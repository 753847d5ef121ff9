-- The axes in their order, or the other way round.
use Rattle.std.proofs.Common.{arith}
use mathlib.Core.Logic.{inr}
use Rattle.eikonal.proofs.Local.{local_swap}
use Rattle.eikonal.proofs.FirstPass.{cut-same}
use Rattle.arrival.proofs.of_unequal.Goals as goal

pub returns : goal.returns
returns c = cut-same _ _ _ _ (omega arith) (local_swap _ _ _ _ _ (inr (omega arith))) c.from_first-2.ensures
