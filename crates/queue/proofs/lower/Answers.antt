-- `queue::lower` meets its contract: the cell's slot is given up, or there is one more.
use Rattle.std.proofs.Common.{rules, refl}
use Rattle.queue.proofs.Putting.{opened, put_opened}
use Rattle.queue.proofs.lower.Goals as goal

pub rise-to-requires : goal.rise-to-requires
rise-to-requires c =
    let o = opened c.requires.2 c.requires.0 c.requires.3 c.slot_of-at.ensures c.size_with-next.ensures in
    (search rules, o.hole, o.below)

pub returns : goal.returns
returns c =
    let o = opened c.requires.2 c.requires.0 c.requires.3 c.slot_of-at.ensures c.size_with-next.ensures in
    put_opened c.requires.2 c.rise-to.ensures c.seat.ensures c.requires.0 o.low refl o
