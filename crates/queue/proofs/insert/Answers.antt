-- `queue::insert` meets its contract: there is a slot more, and it is the hole.
use Rattle.std.proofs.Common.{rules, arith, ◌+◌}
use Rattle.queue.proofs.Putting.{Opened, opened_new, put_opened}
use Rattle.queue.proofs.insert.Goals as goal

pub rise-to-requires : goal.rise-to-requires
rise-to-requires c =
    let o : Opened c.args.work.now c.args.size (c.args.size + 1) c.args.n c.args.size c.args.c c.args.x =
    opened_new c.requires.2 c.requires.0 (omega arith) c.requires.3 in
    (search rules, o.hole, o.below)

pub returns : goal.returns
returns c = put_opened c.requires.2 c.rise-to.ensures c.seat.ensures c.requires.0 c.requires.4 (omega arith)
    (opened_new c.requires.2 c.requires.0 (omega arith) c.requires.3)
