use Rattle.std.proofs.Common.{◌≡◌, [], ◌∷◌, refl, ap, ◌∙◌}
use Rattle.eikonal.proofs.Outcomes.{stopped, went_on}
use Rattle.scenario.specs.Runs.{runs_good}
use Rattle.scenario.specs.Inner.Walk.{runs_by}
use Rattle.scenario_read.proofs.Rest.{by_pairs, by_records, by_walls, rules, starts_rise_by, rest_is}
use Rattle.scenario_read.proofs.judge.check_rest.Goals.{After-runs_good-rules}
use Rattle.scenario_read.proofs.judge.check_rest.Goals as goal

pub returns-in_err-refuse_if : goal.returns-in_err-refuse_if
returns-in_err-refuse_if c =
    stopped _ _ (_ ∷ []) _ c.in_err-refuse_if.ensures c.from_residual.ensures.1 ∙ rest_is _ _ c.read_again-head.ensures _ _ c.ticks_good.ensures refl

pub returns-in_err-check_pairs : goal.returns-in_err-check_pairs
returns-in_err-check_pairs c =
    went_on (_ ∷ []) _ c.in_ok-refuse_if.ensures
    (stopped _ _ (by_pairs c.read_again-head.result c.args.file.now) _ c.in_err-check_pairs.ensures c.from_residual-in_err-check_pairs.ensures.1)
    ∙ rest_is _ _ c.read_again-head.ensures _ _ c.ticks_good.ensures refl

-- the rules, as they were looked at
ruled : (c : After-runs_good-rules) → c.runs_good-rules.result ≡ rules c.read_again-head.result c.args.file.now
ruled c =
    let x = c.read_again-head.result in
    c.runs_good-rules.ensures ∙ ap (λ n. runs_good n x.ground 0 x.ground (runs_by x c.args.file.now)) c.board_size.ensures

pub returns-in_err-refuse_if-2 : goal.returns-in_err-refuse_if-2
returns-in_err-refuse_if-2 c =
    went_on (_ ∷ []) _ c.in_ok-refuse_if.ensures
    (went_on (by_pairs c.read_again-head.result c.args.file.now) _ c.in_ok-check_pairs.ensures
    (stopped _ _ (_ ∷ []) _ c.in_err-refuse_if-2.ensures c.from_residual-in_err-refuse_if-2.ensures.1))
    ∙ rest_is _ _ c.read_again-head.ensures _ _ c.ticks_good.ensures (ruled (goal.at.returns-in_err-refuse_if-2 c).After-runs_good-rules)

pub returns-in_err-check_records : goal.returns-in_err-check_records
returns-in_err-check_records c =
    let x = c.read_again-head.result in
    went_on (_ ∷ []) _ c.in_ok-refuse_if.ensures
    (went_on (by_pairs c.read_again-head.result c.args.file.now) _ c.in_ok-check_pairs.ensures
    (went_on (_ ∷ []) _ c.in_ok-refuse_if-2.ensures
    (stopped _ _ (by_records x c.args.file.now) _ c.in_err-check_records.ensures c.from_residual-in_err-check_records.ensures.1)))
    ∙ rest_is _ _ c.read_again-head.ensures _ _ c.ticks_good.ensures (ruled (goal.at.returns-in_err-check_records c).After-runs_good-rules)

pub check_walls-requires-clause-rise : goal.check_walls-requires-clause-rise
check_walls-requires-clause-rise c =
    let pairs = c.in_ok-check_pairs.ensures in
    starts_rise_by _ _ c.read_again-head.ensures _ _ c.in_ok-refuse_if.ensures pairs c.in_ok-refuse_if-2.ensures c.in_ok-check_records.ensures

pub returns : goal.returns
returns c =
    let x = c.read_again-head.result in
    went_on (_ ∷ []) _ c.in_ok-refuse_if.ensures
    (went_on (by_pairs c.read_again-head.result c.args.file.now) _ c.in_ok-check_pairs.ensures
    (went_on (_ ∷ []) _ c.in_ok-refuse_if-2.ensures
    (went_on (by_records x c.args.file.now) (by_walls x c.args.file.now) c.in_ok-check_records.ensures c.check_walls.ensures)))
    ∙ rest_is _ _ c.read_again-head.ensures _ _ c.ticks_good.ensures (ruled (goal.at.returns c).After-runs_good-rules)
