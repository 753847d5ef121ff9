-- `scenario::runs::pass` meets its contract.
use Rattle.std.proofs.Common.{◌≡◌}
use Rattle.scenario.specs.Inner.Walk.{runs_onward, past}
use Rattle.scenario.proofs.runs.pass.Given as goal

abbrev pub invariant-loop-k : goal.invariant-loop-k
invariant-loop-k l = past l.cell (runs_onward l.file l.count l.i) ≡ past l.cell (runs_onward l.file l.count l.k)
