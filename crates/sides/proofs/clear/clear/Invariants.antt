-- The sides of the starts passed are cleared.
use Rattle.std.proofs.Common.{◌≡◌, length, take}
use Rattle.sides.specs.Clear.{Cleared}
use Rattle.sides.proofs.clear.clear.Given as goal

abbrev pub invariant-loop-i : goal.invariant-loop-i
invariant-loop-i g l = (l.i-end ≡ length (g.S.Starts.all l.starts)) × Cleared (take l.i (g.S.Starts.all l.starts)) l.times l.initial.sides l.sides
