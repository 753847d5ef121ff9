-- `scenario_read::paint::read_slow` meets its contract.
use lib.ListN.{length}
use Rattle.scenario_read.proofs.Painting.{Painting}
use Rattle.scenario_read.proofs.paint.read_slow.Given as goal

abbrev pub invariant-loop-i : goal.invariant-loop-i
invariant-loop-i l = Painting l.file l.i-end l.head.ground (length l.initial.slow) l.slow l.free l.i
