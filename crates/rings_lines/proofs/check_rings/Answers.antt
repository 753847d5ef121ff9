-- `rings_lines::check_rings` meets its contract.
use Rattle.std.proofs.Common.{[], ◌∷◌}
use Rattle.eikonal.proofs.Outcomes.{stopped, went_on}
use Rattle.tablet.specs.Small.{small_causes, small_refusal}
use Rattle.rings_lines.specs.Rings.{rings_causes, rings_refusal}
use Rattle.rings_lines.proofs.check_rings.Goals as goal

pub returns-in_err-refuse_if-clause-told : goal.returns-in_err-refuse_if-clause-told
unfolding rings_refusal rings_causes
returns-in_err-refuse_if-clause-told c =
    stopped _ _ (_ ∷ []) (small_causes c.args.file.now) c.in_err-refuse_if.ensures c.from_residual.ensures.1

pub returns-clause-told : goal.returns-clause-told
unfolding rings_refusal rings_causes small_refusal
returns-clause-told c = went_on (_ ∷ []) (small_causes c.args.file.now) c.in_ok-refuse_if.ensures c.check_small.ensures.told
