-- `rows::whole::finish` meets its contract: the times of the first c cells are written, and those reached are counted.
use Rattle.std.proofs.Common.{refl, arith, ◌+◌, ◌*◌, ◌∙◌, get_or}
use Rattle.rows.proofs.Theory.Lists.{finishing_none, finishing_more, finished, finishing_most, tick_is, tick-most}
use Rattle.rows.proofs.whole.finish.Goals as goal

pub loop-c-init : goal.loop-c-init
loop-c-init c = finishing_none c.args.bound c.args.work.now c.requires.0

pub overflow_add-count : goal.overflow_add-count
overflow_add-count c =
    let l = c.loop-c in
    let t = get_or c.args.work.now (2 * c.args.n + l.c) 0 in
    omega (arith, finishing_most l.invariant, c.from-count.ensures ∙ tick_is t c.args.bound, tick-most t c.args.bound)

pub loop-c-preserved : goal.loop-c-preserved
loop-c-preserved c =
    finishing_more c.loop-c.invariant (omega arith) c.requires.3 refl c.clip.ensures (c.from-count.ensures ∙ tick_is _ _)

pub returns : goal.returns
returns c = finished c.loop-c.invariant (omega arith)
