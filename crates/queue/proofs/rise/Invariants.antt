-- `queue::rise` keeps, while it loops: the hole moved, and no key below it is less than x.
use Rattle.queue.specs.Mending.{Below, Moved}
use Rattle.queue.proofs.rise.Given as goal

abbrev pub invariant-loop-i : goal.invariant-loop-i
invariant-loop-i l = Moved l.initial.work l.size l.n l.hole l.c l.work l.i × Below l.work l.size l.i l.x

abbrev pub decreases-loop-i : goal.decreases-loop-i
decreases-loop-i l = l.i
