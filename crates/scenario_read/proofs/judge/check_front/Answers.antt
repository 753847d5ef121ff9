use Rattle.std.proofs.Common.{◌≡◌, [], ◌∷◌, refl, sym, ◌∙◌, arith}
use borrow.Author.Tests.{ltb-false}
use Rattle.eikonal.specs.Order.{caused, none, first_of}
use Rattle.scenario.specs.File.{front_causes}
use Rattle.eikonal.proofs.Causes.{NoneMet, none-met, number_is}
use Rattle.eikonal.proofs.Outcomes.{stopped, went_on}
use Rattle.scenario.proofs.Causes.{front_split, front_fits}
use Rattle.scenario_read.proofs.judge.check_front.Goals.{In_ok-refuse_if-3}
use Rattle.scenario_read.proofs.judge.check_front.Goals as goal

pub returns-in_err-refuse_if-clause-told : goal.returns-in_err-refuse_if-clause-told
returns-in_err-refuse_if-clause-told c =
    stopped _ _ (_ ∷ []) _ c.in_err-refuse_if.ensures c.from_residual.ensures.1 ∙ front_split _ _ refl _ _ refl refl

pub head_of-head-requires : goal.head_of-head-requires
unfolding NoneMet
head_of-head-requires c = omega (arith, ltb-false _ _ (none-met (caused 1 _ ∷ []) (sym (number_is c.in_ok-refuse_if.ensures))).0)

pub returns-in_err-refuse_if-2-clause-told : goal.returns-in_err-refuse_if-2-clause-told
returns-in_err-refuse_if-2-clause-told c =
    went_on (_ ∷ []) _ c.in_ok-refuse_if.ensures
    (stopped _ _ (_ ∷ []) _ c.in_err-refuse_if-2.ensures c.from_residual-in_err-refuse_if-2.ensures.1)
    ∙ front_split _ _ c.head_of-head.ensures _ _ c.file_length.ensures refl

pub returns-in_err-refuse_if-3-clause-told : goal.returns-in_err-refuse_if-3-clause-told
returns-in_err-refuse_if-3-clause-told c =
    went_on (_ ∷ []) _ c.in_ok-refuse_if.ensures
    (went_on (_ ∷ []) _ c.in_ok-refuse_if-2.ensures
    (stopped _ _ (_ ∷ []) [] c.in_err-refuse_if-3.ensures c.from_residual-in_err-refuse_if-3.ensures.1))
    ∙ front_split _ _ c.head_of-head.ensures _ _ c.file_length.ensures c.sides_good.ensures

-- nothing is found
fine : (c : In_ok-refuse_if-3) → none ≡ first_of (front_causes c.args.file.now)
fine c = went_on (_ ∷ []) _ c.in_ok-refuse_if.ensures (went_on (_ ∷ []) (_ ∷ []) c.in_ok-refuse_if-2.ensures c.in_ok-refuse_if-3.ensures)
    ∙ front_split _ _ c.head_of-head.ensures _ _ c.file_length.ensures c.sides_good.ensures

pub returns-clause-told : goal.returns-clause-told
returns-clause-told c = fine c

pub returns-clause-head : goal.returns-clause-head
returns-clause-head c = front_fits _ _ c.head_of-head.ensures (fine c)
