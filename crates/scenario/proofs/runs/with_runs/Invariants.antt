-- `scenario::runs::with_runs` meets its contract: what the runs passed leave.
use Rattle.std.proofs.Common.{◌≡◌}
use Rattle.scenario.proofs.RunWalk.{after_runs}
use Rattle.scenario.proofs.runs.with_runs.Given as goal

abbrev pub invariant-loop-i : goal.invariant-loop-i
invariant-loop-i l = l.flaws ≡ after_runs l.file l.i l.initial.flaws
