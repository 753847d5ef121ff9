use Rattle.std.proofs.Common.{arith, sym}
use Rattle.arrival.proofs.Sides.{first-side, second-side, no_side}
use Rattle.arrival.proofs.side.Goals as goal

pub returns-then-first-second-clause-is : goal.returns-then-first-second-clause-is
returns-then-first-second-clause-is c = sym (first-side _ _ _ c.if-first-t.true (omega arith))

pub returns-else-first-second-clause-is : goal.returns-else-first-second-clause-is
returns-else-first-second-clause-is c = sym (second-side _ _ _ c.if-first-t.true (omega arith))

pub returns-else-first-t-clause-is : goal.returns-else-first-t-clause-is
returns-else-first-t-clause-is c = sym (no_side _ _ _ c.if-first-t.false)
