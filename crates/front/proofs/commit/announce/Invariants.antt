-- The first i noted cells are announced.
use Rattle.eikonal.specs.Board.{time}
use Rattle.front.specs.Seams.{border}
use Rattle.front.specs.Board.{noted, at}
use Rattle.front.specs.State.{Announced}
use Rattle.front.specs.Scene.{rule_of, near_of}
use Rattle.front.proofs.commit.announce.Given as goal

abbrev pub invariant-loop-i : goal.invariant-loop-i
invariant-loop-i l =
    let s = l.scene in
    Announced s.shape.cells (rule_of s) (time s.times.now) (noted l.initial.work s.shape.cells) (near_of s border) l.i (at l.initial.work l.size)
    (at l.work l.pending)
