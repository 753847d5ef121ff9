-- `queue::sink` meets its contract: the least key below the hole moves up.
use Rattle.std.proofs.Common.{arith}
use Rattle.queue.proofs.Mending.{sunk}
use Rattle.queue.proofs.sink.Goals as goal

pub loop-i-preserved : goal.loop-i-preserved
loop-i-preserved c =
    let b = c.least_child-below in
    sunk b.result.slot c.loop-i.invariant c.seat.ensures (omega arith) b.ensures.0 (omega arith) (omega arith)
    (omega arith) (omega arith) (λ j p l t. b.ensures.1.least j (omega arith) (omega arith))
