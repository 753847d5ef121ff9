-- The time, and its sides, which never has not.
use Rattle.std.proofs.Common.{arith, sym, ap, ◌∙◌}
use mathlib.Core.Path.{ap₂}
use Rattle.eikonal.specs.Board.{local}
use Rattle.eikonal.specs.Sides.{local_sides}
use Rattle.eikonal.specs.Entry.{seen, local_answer, local_refusal, LocalSays}
use Rattle.eikonal.specs.Order.{Refusal}
use Rattle.eikonal.proofs.Answers.{local-answered-zero, local-answered-refused}
use Rattle.eikonal.proofs.Causes.{number_is}
use Rattle.eikonal.proofs.Outcomes.{numbered}
use Rattle.arrival.proofs.Sides.{sides-shown}
use Rattle.arrival.proofs.local_rule.Goals as goal

pub returns-in-Err : goal.returns-in-Err
unfolding LocalSays local_answer
returns-in-Err c =
    let e = c.in-Err.ensures in
    rw c.number.ensures
    (ap (λ (k : Refusal). local_answer k.number 0 0) e
    ∙ sym (local-answered-refused _ _ _ (λ z. numbered c.in-Err.refusal.cause (number_is e ∙ z))))

pub returns : goal.returns
unfolding LocalSays local_answer local_sides
returns c =
    let a = c.args in
    let unrefused = sym (number_is c.in_default.ensures) in
    let shown = rw (
      c.shown.ensures,
      c.known-6.ensures,
      c.known-5.ensures,
      c.known-4.ensures,
      c.known-3.ensures,
      c.known-2.ensures,
      c.known.ensures,
    ) at c.sides_of-sides.ensures in
    let all = shown ∙ sides-shown _ _ _ _ _ _ c.local_time-t.result (omega (arith, c.local_time-t.type_inv)) in
    ap₂ (local_answer 0) c.local_time-t.ensures (rw c.local_time-t.ensures at all)
    ∙ sym (
    local-answered-zero
    (local_refusal a.g a.h a.over a.under)
    (local a.g a.h (seen a.left) (seen a.right) (seen a.above) (seen a.below) (seen a.over) (seen a.under))
    (local_sides a.g a.h (seen a.left) (seen a.right) (seen a.above) (seen a.below) (seen a.over) (seen a.under))
    unrefused
    )
