-- `scenario_write::write::count_runs` meets its contract.
use Rattle.std.proofs.Common.{◌≡◌, ◌+◌, ◌≤◌, drop}
use Rattle.scenario_write.proofs.Stretches.{begun}
use Rattle.scenario_write.proofs.write.count_runs.Given as goal

abbrev pub invariant-loop-x : goal.invariant-loop-x
invariant-loop-x l =
    (l.count ≤ l.x-index) × (l.count + begun l.ground l.last (drop l.x-index l.slow) ≡ begun l.ground l.ground l.slow)
