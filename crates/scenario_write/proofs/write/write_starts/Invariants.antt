-- `scenario_write::write::write_starts` meets its contract.
use Rattle.std.proofs.Common.{◌≡◌, ◌++◌, ◌*◌, take}
use Rattle.scenario.specs.Bytes.{bytes_of}
use Rattle.scenario.specs.File.{start_size, start_bytes}
use Rattle.scenario_write.proofs.StartBytes.{bytes_after}
use Rattle.scenario_write.proofs.write.write_starts.Given as goal

abbrev pub invariant-loop-i : goal.invariant-loop-i
invariant-loop-i g l = let xs = g.S.Starts.all l.starts in take (start_size * l.i) l.out ++ bytes_after xs l.i ≡ bytes_of start_bytes xs
