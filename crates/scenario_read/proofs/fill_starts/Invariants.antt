use Rattle.std.proofs.Common.{◌≡◌}
use Rattle.eikonal.specs.Refusals.{cells_of, begins_of}
use Rattle.scenario.specs.Inner.Walk.{starts_whole}
use Rattle.scenario_read.proofs.Copied.{copied}
use Rattle.scenario_read.proofs.fill_starts.Given as goal

abbrev pub invariant-loop-i : goal.invariant-loop-i
invariant-loop-i l = (l.cells ≡ copied (cells_of (starts_whole l.starts.bytes.now)) l.initial.cells l.i)
    × (l.begins ≡ copied (begins_of (starts_whole l.starts.bytes.now)) l.initial.begins l.i)
