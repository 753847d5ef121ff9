-- on a flat board the rows before `row` are worked out, and no inside seam lies before it
use Rattle.std.proofs.Common.{◌-◌, ◌*◌, ◌≤◌, ◌≢◌}
use Rattle.front.specs.Seams.{seam, inside}
use Rattle.front.specs.State.{Worked}
use Rattle.front.specs.Scene.{rule_of}
use Rattle.front.proofs.strip.drain_strips.Given as goal

abbrev pub invariant-loop-row : goal.invariant-loop-row
invariant-loop-row l =
    let s = l.scene in
    (l.row ≤ l.h) × (seam s.shape.height s.shape.down l.row ≢ inside)
    × Worked s.shape.cells (rule_of s) l.bound 0 (l.row * s.shape.width) l.initial.work l.work

abbrev pub decreases-loop-row : goal.decreases-loop-row
decreases-loop-row l = l.h - l.row
