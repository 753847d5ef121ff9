-- what holds after m cells is MidAmong, whichever cells are drained
use Rattle.std.proofs.Common.{ℕ}
use Rattle.front.specs.Front.{weight}
use Rattle.front.specs.Board.{tentative, at, keys}
use Rattle.front.specs.Scene.{ReadyIn}
use Rattle.front.proofs.Theory.Draining.{MidAmong}
use Rattle.front.proofs.drain.drain.Given as goal

abbrev pub invariant-loop-size : goal.invariant-loop-size
invariant-loop-size l =
    let s = l.scene in
    (lo hi : ℕ) → ReadyIn s lo hi (at l.initial.work l.size)
    → MidAmong s.shape s.slow.now s.times.now lo hi l.bound l.m (at l.initial.work l.size) (at l.work l.pending)

abbrev pub decreases-loop-size : goal.decreases-loop-size
decreases-loop-size l = weight l.scene.shape.cells (tentative l.work l.scene.shape.cells) (keys (at l.work l.pending))
