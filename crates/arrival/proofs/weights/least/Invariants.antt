-- The ticks at hand are enough.
use Rattle.std.proofs.Common.{◌≤◌}
use Rattle.arrival.specs.Weight.{at}
use Rattle.arrival.proofs.weights.least.Given as goal

abbrev pub invariant-loop-w : goal.invariant-loop-w
invariant-loop-w g l =
    (l.past ≤ 4095) × (g.W.Weight.due l.w ≤ at (g.W.Weight.flat l.w) (g.W.Weight.half l.w) (g.W.Weight.curve l.w) l.past)

abbrev pub decreases-loop-w : goal.decreases-loop-w
decreases-loop-w g l = l.past
