-- `diagonal::step` meets its contract.
use native.Mathlib.Omega.{arith}
use Rattle.diagonal.proofs.Rule.{root_is}
use Rattle.diagonal.proofs.step.Goals as goal

pub returns : goal.returns
returns c = let e = c.least_past.ensures in root_is _ _ _ e.0 e.1 e.2 (omega arith)
