-- `front::commit::store` meets its contract: the first noted times are stored.
use Rattle.std.proofs.Common.{◌≡◌, ◌+◌, ◌-◌, ◌*◌, slice_index_or, take, drop, add-one, arith}
use Rattle.std.proofs.lemmas.Grind.{common_steps}
use Rattle.front.specs.Board.{noted}
use Rattle.front.proofs.Theory.Announcing.{one-stored}
use Rattle.front.proofs.commit.store.Goals as goal

pub loop-note-preserved : goal.loop-note-preserved
loop-note-preserved c =
    let l = c.loop-note in
    let n = c.args.n in
    let v = c.args.work.now in
    let on = c.requires.4 l.note-index (omega (arith, c.loop-note-test.true)) in
    let is : slice_index_or (take (3 * n + c.args.m - 3 * n) (drop (3 * n) v)) l.note-index 0 ≡ noted v n l.note-index = grind (arith, common_steps) in
    rw (add-one l.note-index, is) (one-stored l.times (omega arith) on l.invariant)
