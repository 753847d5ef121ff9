-- One of Newton's steps down leaves enough, and where there is none one tick fewer is too few.
use Rattle.std.proofs.Common.{arith, sym, ◌∙◌}
use Rattle.arrival.proofs.Root.{step-nearer, no_step}
use Rattle.arrival.proofs.weights.least.Goals as goal

pub returns-then-step-eq0 : goal.returns-then-step-eq0
returns-then-step-eq0 g c =
    let w = c.args.w in
    let law = g.met.W.Weight in
    no_step _ _ _ _ (law.curved w) (law.short w) _ c.loop-w.invariant.1 (sym c.step-step.ensures ∙ c.if-step-eq0.true)

pub overflow_sub-past : goal.overflow_sub-past
overflow_sub-past g c =
    let w = c.args.w in
    let law = g.met.W.Weight in
    (step-nearer _ _ _ _ (law.curved w) (law.short w) _ c.loop-w.invariant.1 _ c.step-step.ensures c.if-step-eq0.false).within

pub loop-w-smaller : goal.loop-w-smaller
loop-w-smaller g c =
    let w = c.args.w in
    let law = g.met.W.Weight in
    let n = step-nearer _ _ _ _ (law.curved w) (law.short w) _ c.loop-w.invariant.1 _ c.step-step.ensures c.if-step-eq0.false in
    omega (arith, n.some, n.within)

pub loop-w-preserved : goal.loop-w-preserved
loop-w-preserved g c =
    let w = c.args.w in
    let law = g.met.W.Weight in
    let n = step-nearer _ _ _ _ (law.curved w) (law.short w) _ c.loop-w.invariant.1 _ c.step-step.ensures c.if-step-eq0.false in
    (omega (arith, c.loop-w.invariant.0), n.still)
