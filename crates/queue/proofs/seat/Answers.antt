-- `queue::seat` meets its contract.
use Rattle.std.proofs.Common.{arith}
use Rattle.queue.proofs.Seating.{seated}
use Rattle.queue.proofs.seat.Goals as goal

pub returns : goal.returns
returns c = seated _ _ _ _ _ _ _ c.requires.0 c.requires.1 c.requires.2
    (omega arith) (omega arith) (omega arith) (omega arith) (omega arith) (omega arith) (omega arith)
