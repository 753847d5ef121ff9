-- `rows::whole::finish` keeps, while it loops: the times of the first c cells are written, and those reached are counted.
use Rattle.rows.proofs.Theory.Lists.{Finishing}
use Rattle.rows.proofs.whole.finish.Given as goal

abbrev pub invariant-loop-c : goal.invariant-loop-c
invariant-loop-c l = Finishing l.bound l.n l.work l.times l.count l.c
