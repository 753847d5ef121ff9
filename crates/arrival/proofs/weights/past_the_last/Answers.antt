-- The limit, where too few ticks lie before it. Else one tick before it is late enough, so that the answer is no later.
use Rattle.std.proofs.Common.{arith, refl, sym, ◌+◌, ◌-◌, ◌<◌, ◌∙◌}
use mathlib.Core.Logic.{inl, inr}
use borrow.Author.Tests.{ltb-true, ltb-false}
use Rattle.arrival.proofs.Root.{no_fewer}
use Rattle.arrival.proofs.weights.past_the_last.Goals as goal

pub returns-then-limit-last : goal.returns-then-limit-last
returns-then-limit-last g c =
    inl (record { ticks = 0; known = omega arith; late = omega arith; few = omega (arith, g.met.W.Weight.short c.args.w) }, refl)

pub returns-then-too_few : goal.returns-then-too_few
returns-then-too_few g c =
    let few = ltb-true _ _ (sym c.too_few.ensures ∙ c.if-too_few.true) in
    inl (record { ticks = c.args.limit - c.args.last - 1; known = omega arith; late = omega arith; few = few }, refl)

pub overflow_add-result : goal.overflow_add-result
overflow_add-result g c =
    omega (arith, no_fewer _ _ _ _ _ _ c.least.ensures.fewer (ltb-false _ _ (sym c.too_few.ensures ∙ c.if-too_few.false)))

pub returns : goal.returns
returns g c =
    let in_time : c.args.last + c.least.result < c.args.limit =
    omega (arith, no_fewer _ _ _ _ _ _ c.least.ensures.fewer (ltb-false _ _ (sym c.too_few.ensures ∙ c.if-too_few.false)))
    in
    inr (record { ticks = c.least.result; least = c.least.ensures; before = in_time; is = refl })
