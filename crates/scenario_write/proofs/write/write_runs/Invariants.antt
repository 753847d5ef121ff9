-- `scenario_write::write::write_runs` meets its contract.
use Rattle.std.proofs.Common.{◌≡◌, ◌++◌, ◌+◌, ◌*◌, ◌≤◌, length, take, drop}
use Rattle.scenario.specs.Bytes.{bytes_of}
use Rattle.scenario.specs.Runs.{runs_on, runs_of}
use Rattle.scenario.specs.File.{head_size, run_size, runs_end, run_bytes}
use Rattle.scenario_write.proofs.write.write_runs.Given as goal

abbrev pub invariant-loop-i : goal.invariant-loop-i
invariant-loop-i l =
    let rest = runs_on l.ground l.from l.i l.last (drop l.i l.slow) in record {
      from : l.from ≤ l.i;
      same : length l.out ≡ length l.initial.out;
      room : l.at + run_size * length rest ≡ runs_end (length (runs_of l.ground l.slow));
      bytes : take l.at l.out ++ bytes_of run_bytes rest ≡ take head_size l.initial.out ++ bytes_of run_bytes (runs_of l.ground l.slow);
    }
