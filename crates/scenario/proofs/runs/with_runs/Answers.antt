-- `scenario::runs::with_runs` meets its contract: what the runs passed leave.
use Rattle.std.proofs.Common.{sym}
use Rattle.scenario.proofs.RunWalk.{after_none, after_more}
use Rattle.scenario.proofs.runs.with_runs.Goals as goal

pub loop-i-init : goal.loop-i-init
loop-i-init c = sym (after_none c.args.file.now c.args.so_far)

pub loop-i-preserved : goal.loop-i-preserved
loop-i-preserved c = cc (after_more c.args.file.now c.loop-i.i c.run_at.result c.args.so_far c.run_at.ensures)
