-- The first noted times are stored.
use Rattle.eikonal.specs.Board.{time}
use Rattle.front.specs.Front.{Written}
use Rattle.front.specs.Board.{tentative, noted}
use Rattle.front.proofs.commit.store.Given as goal

abbrev pub invariant-loop-note : goal.invariant-loop-note
invariant-loop-note l = Written l.n (time l.initial.times) (tentative l.work l.n) (time l.times) l.note-index (noted l.work l.n)
