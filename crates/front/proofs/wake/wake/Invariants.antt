-- the rows before `row` have heard
use Rattle.std.proofs.Common.{◌*◌}
use Rattle.front.specs.Board.{at}
use Rattle.front.specs.Scene.{WokenIn}
use Rattle.front.proofs.wake.wake.Given as goal

abbrev pub invariant-loop-row : goal.invariant-loop-row
invariant-loop-row l =
    let s = l.scene in
    WokenIn s (l.from * s.shape.width) (l.row * s.shape.width) (at l.initial.work l.size) (at l.work l.pending)
