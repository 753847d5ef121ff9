-- `scenario::turn_of` meets its contract.
use mathlib.Core.Path.{◌≡◌, ap, ◌∙◌}
use mathlib.Core.List.{[], ◌∷◌}
use mathlib.Core.Bool.{true, not}
use native.Mathlib.Omega.{arith}
use Rattle.eikonal.specs.Order.{caused, first_of}
use Rattle.eikonal.proofs.Outcomes.{unmet}
use Rattle.scenario.specs.File.{ticks_good}
use Rattle.scenario.specs.Turns.{turn_refusal}
use Rattle.scenario.proofs.Causes.{holds, some-ticks}
use Rattle.scenario.proofs.Turns.{says_refused, says_never, ceil_closes, says_turn}
use Rattle.scenario.proofs.turn_of.Goals.{In_ok-refuse_if}
use Rattle.scenario.proofs.turn_of.Goals as goal

good : (c : In_ok-refuse_if) → ticks_good c.args.ticks ≡ true
good c = holds c.ticks_good.ensures (unmet 2 _ c.in_ok-refuse_if.ensures)

pub returns-in_err-refuse_if : goal.returns-in_err-refuse_if
unfolding turn_refusal
returns-in_err-refuse_if c =
    says_refused _ _ _ _ c.from_residual.ensures.1 (c.in_err-refuse_if.ensures ∙ ap (λ p. first_of (caused 3 (not p) ∷ [])) c.ticks_good.ensures)

pub returns-then-time-gt-LARGEST : goal.returns-then-time-gt-LARGEST
returns-then-time-gt-LARGEST c = says_never _ _ (good (goal.at.returns-then-time-gt-LARGEST c).In_ok-refuse_if) c.if-time-gt-LARGEST.true

pub div_ceil-turn-requires : goal.div_ceil-turn-requires
div_ceil-turn-requires c = omega (arith, (some-ticks _ (good (goal.at.div_ceil-turn-requires c).In_ok-refuse_if)).0)

pub overflow_sub-result : goal.overflow_sub-result
overflow_sub-result c =
    (ceil_closes _ _ (good (goal.at.overflow_sub-result c).In_ok-refuse_if) _ c.div_ceil-turn.ensures).0

pub returns : goal.returns
returns c = says_turn _ _ (good (goal.at.returns c).In_ok-refuse_if) _ c.div_ceil-turn.ensures c.if-time-gt-LARGEST.false
