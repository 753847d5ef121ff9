-- `tile_orders::all_there` meets its contract: the numbers in the parts before this one are there.
use Rattle.std.proofs.Common.{◌≡◌, ◌+◌, ◌*◌, min, true, refl, sym, ◌∙◌, subst, arith}
use Rattle.eikonal.specs.Refusals.{all_there}
use Rattle.tile_orders.proofs.Orders.{there-on, there_fails}
use Rattle.tile_orders.proofs.all_there.Goals as goal

pub loop-part-init : goal.loop-part-init
unfolding all_there
loop-part-init c =
    let none : min 0 c.args.count ≡ 0 = omega arith in
    rw none refl

-- the part that is next decides whether all are there up to its end
pub returns-then-not-part_there : goal.returns-then-not-part_there
returns-then-not-part_there c =
    let order = c.args.order.now in
    let from = c.loop-part.part * 8192 in
    let all : min from c.args.count ≡ from = omega arith in
    let before = subst (λ k. all_there k order ≡ true) all c.loop-part.invariant in
    let on = there-on from c.min-many.result order before ∙ sym c.part_there.ensures in
    sym (there_fails (from + c.min-many.result) c.args.count order (omega arith) (on ∙ c.if-not-part_there.true))

pub loop-part-preserved : goal.loop-part-preserved
loop-part-preserved c =
    let order = c.args.order.now in
    let from = c.loop-part.part * 8192 in
    let all : min from c.args.count ≡ from = omega arith in
    let before = subst (λ k. all_there k order ≡ true) all c.loop-part.invariant in
    let on = there-on from c.min-many.result order before ∙ sym c.part_there.ensures in
    let next : from + c.min-many.result ≡ min ((c.loop-part.part + 1) * 8192) c.args.count = omega arith in
    subst (λ k. all_there k order ≡ true) next (on ∙ c.if-not-part_there.false)
