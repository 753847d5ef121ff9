use Rattle.std.proofs.Common.{sym}
use Rattle.eikonal.proofs.Causes.{number_is}
use Rattle.eikonal.proofs.Outcomes.{refuses_still}
use Rattle.scenario.proofs.Answers.{kept}
use Rattle.scenario.proofs.Reading.{room}
use Rattle.scenario_read.proofs.read_ground.Goals as goal

-- what is handed on is a refusal
pub returns-in_err-head-clause-slow : goal.returns-in_err-head-clause-slow
returns-in_err-head-clause-slow c =
    kept _ _ c.args.slow.now (refuses_still _ _ c.from_residual.ensures.1)

pub fill_slow-requires : goal.fill_slow-requires
fill_slow-requires c =
    let r = room _ _ _ (sym (number_is c.in_ok-head.ensures.told)) in
    (r.accepted, r.slows)
