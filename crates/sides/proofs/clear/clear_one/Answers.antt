-- `sides::clear::clear_one` meets its contract.
use Rattle.std.proofs.Common.{arith}
use Rattle.sides.proofs.Clearing.{cleared-here, cleared-not}
use Rattle.sides.proofs.clear.clear_one.Goals as goal

pub returns-then-times-c : goal.returns-then-times-c
returns-then-times-c c = cleared-here c.args.start (omega arith) _ (omega arith) c.if-times-c.true

pub returns-else-times-c : goal.returns-else-times-c
returns-else-times-c c = cleared-not c.args.start (omega arith) c.if-times-c.false
