-- `scenario::runs::runs_good` meets its contract.
use Rattle.std.proofs.Common.{◌≡◌, drop}
use Rattle.scenario.specs.Bytes.{records}
use Rattle.scenario.specs.Runs.{runs_good}
use Rattle.scenario.specs.File.{head_size, run_size, run_in}
use Rattle.scenario.specs.Inner.Walk.{runs_onward}
use Rattle.scenario.proofs.runs.runs_good.Given as goal

abbrev pub invariant-loop-i : goal.invariant-loop-i
invariant-loop-i l =
    runs_good l.n l.ground 0 l.ground (records run_size run_in l.count (drop head_size l.file))
    ≡ runs_good l.n l.ground l.free l.last (runs_onward l.file l.count l.i)
