use Rattle.std.proofs.Common.{◌≡◌}
use Rattle.scenario.specs.Inner.Walk.{starts_whole}
use Rattle.scenario_read.proofs.Copied.{copied}
use Rattle.scenario_read.proofs.fill_records.Given as goal

abbrev pub invariant-loop-i : goal.invariant-loop-i
invariant-loop-i l = l.records ≡ copied (starts_whole l.starts.bytes.now) l.initial.records l.i
