use Rattle.std.proofs.Common.{◌≡◌, ℕ, ◌+◌, ◌*◌, ◌≤◌, length}
use Rattle.front.specs.Board.{Work, at}
use Rattle.front.specs.State.{Held}
use Rattle.front.specs.Scene.{WokenIn}
use Rattle.front.proofs.wake.wake_row.Given as goal

abbrev pub invariant-loop-col : goal.invariant-loop-col
invariant-loop-col l =
    let s = l.scene in
    let w = s.shape.width in
    Held s.shape.cells (at l.work l.pending)
    × (length l.work ≡ length l.initial.work)
    × ((lo : ℕ) (v : Work) → lo ≤ l.row * w → WokenIn s lo (l.row * w) v (at l.initial.work l.size)
    → WokenIn s lo (l.row * w + l.col) v (at l.work l.pending))
