-- The cells before c are gathered.
use Rattle.front.specs.Board.{at}
use Rattle.front.specs.State.{Gathered}
use Rattle.front.proofs.seed.gather.Given as goal

abbrev pub invariant-loop-c : goal.invariant-loop-c
invariant-loop-c l = Gathered l.n l.from l.c l.initial.work (at l.work l.size)
