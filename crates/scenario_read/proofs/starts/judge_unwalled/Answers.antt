-- `scenario_read::starts::judge_unwalled` meets its contract: what the starts passed leave, and those that are left.
use mathlib.Core.Path.{◌∙◌}
use native.Mathlib.Omega.{arith}
use Rattle.refusals.specs.Judge.{judge_start, unwalled}
use Rattle.scenario_read.proofs.StartWalk.{judged-next}
use Rattle.scenario_read.proofs.starts.judge_unwalled.Goals as goal

pub loop-i-preserved : goal.loop-i-preserved
unfolding judge_start
loop-i-preserved c =
    let l = c.loop-i in
    rw c.judge_start-judged.ensures (
      omega (arith, l.invariant.0),
      l.invariant.1 ∙ judged-next _ _ _ _ _ c.loop-i-test.true c.start_at-start.ensures _ unwalled l.judged,
    )
