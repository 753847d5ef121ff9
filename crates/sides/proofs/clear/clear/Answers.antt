-- `sides::clear::clear` meets its contract: the starts passed are cleared.
use Rattle.std.proofs.Common.{add-one, arith}
use Rattle.sides.proofs.Clearing.{cleared-none, cleared-next, cleared-all}
use Rattle.sides.proofs.clear.clear.Goals as goal

pub loop-i-init : goal.loop-i-init
loop-i-init g c = (c.many-i-end.ensures, cleared-none)

pub loop-i-preserved : goal.loop-i-preserved
loop-i-preserved g c =
    let at = c.loop-i in
    let xs = g.S.Starts.all c.args.starts in
    (at.invariant.0, rw (add-one at.i) (cleared-next xs at.i _ (omega (arith, at.invariant.0)) c.at.ensures at.invariant.1 c.clear_one.ensures))

pub returns : goal.returns
returns g c = cleared-all (g.S.Starts.all c.args.starts) c.loop-i.i (omega (arith, c.loop-i.invariant.0)) c.loop-i.invariant.1
