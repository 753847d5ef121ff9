-- `queue::sink` keeps, while it loops: the hole moved, by the cell with the least key below it each time.
use Rattle.std.proofs.Common.{◌-◌}
use Rattle.queue.specs.Mending.{Moved}
use Rattle.queue.proofs.sink.Given as goal

abbrev pub invariant-loop-i : goal.invariant-loop-i
invariant-loop-i l = Moved l.initial.work l.size l.n 0 l.c l.work l.i

abbrev pub decreases-loop-i : goal.decreases-loop-i
decreases-loop-i l = l.size - l.i
