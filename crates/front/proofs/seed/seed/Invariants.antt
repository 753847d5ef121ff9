-- The starts passed are placed.
use Rattle.std.proofs.Common.{◌≡◌, length, take}
use Rattle.front.specs.State.{Seeded}
use Rattle.front.proofs.seed.seed.Given as goal

abbrev pub invariant-loop-i : goal.invariant-loop-i
invariant-loop-i g l = (l.i-end ≡ length (g.S.Starts.all l.starts)) × Seeded l.n (take l.i (g.S.Starts.all l.starts)) l.initial.work l.work
