-- `sides::lay_ghosts` meets its contract: the cells before `e` are laid out.
use Prim.Native.Nat.{◌≤◌}
use Rattle.sides.specs.Pass.{Ghosts}
use Rattle.sides.proofs.lay_ghosts.Given as goal

abbrev pub invariant-loop-e : goal.invariant-loop-e
invariant-loop-e l =
    let s = l.scene in
    (l.e ≤ s.shape.cells) × Ghosts s.shape s.slow.now s.times.now l.e l.initial.work l.work
