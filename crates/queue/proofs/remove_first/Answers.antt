-- `queue::remove_first` meets its contract: the hole sinks from the first slot, rises to where the last key fits, and the last cell is seated there.
use Rattle.std.proofs.Common.{refl, arith, ◌-◌, ◌<◌}
use Rattle.queue.proofs.Mending.{rested_on}
use Rattle.queue.proofs.Putting.{put_remove, put_none}
use Rattle.queue.proofs.remove_first.Goals as goal

pub returns-then-last-gt0 : goal.returns-then-last-gt0
returns-then-last-gt0 c =
    let hp = c.requires.2 in
    let last : c.cell_in-c.result < c.args.n = omega (arith, c.cell_in-c.ensures, hp.cells (c.args.size - 1) (omega arith)) in
    put_remove hp (rested_on c.sink-hole.ensures.0 c.rise-to.ensures) c.seat.ensures last (hp.due (c.args.size - 1) (omega arith))
    (omega arith) (omega arith) (omega arith) refl c.cell_in-c.ensures (omega arith)

pub returns-else-last-gt0 : goal.returns-else-last-gt0
returns-else-last-gt0 c = put_none c.requires.2 (omega arith) (omega arith)
