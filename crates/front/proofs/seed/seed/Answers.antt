-- `front::seed::seed` meets its contract: the starts passed are placed.
use Rattle.std.proofs.Common.{add-one, arith}
use Rattle.front.proofs.Theory.Seeding.{seeded_none, seeded_next, seeded_all}
use Rattle.front.proofs.seed.seed.Goals as goal

pub loop-i-init : goal.loop-i-init
loop-i-init g c = (c.many-i-end.ensures, seeded_none c.requires.1)

pub loop-i-preserved : goal.loop-i-preserved
loop-i-preserved g c =
    let at = c.loop-i in
    let xs = g.S.Starts.all c.args.starts in
    (at.invariant.0, rw (add-one at.i) (seeded_next xs at.i _ (omega (arith, at.invariant.0)) c.at.ensures at.invariant.1 c.place.ensures))

pub returns : goal.returns
returns g c = seeded_all (g.S.Starts.all c.args.starts) c.loop-i.i (omega (arith, c.loop-i.invariant.0)) c.loop-i.invariant.1
