-- `scenario_read::starts::starts_on_wall` meets its contract.
use mathlib.Core.Path.{◌≡◌}
use mathlib.Core.Bool.{true}
use Prim.Native.Nat.{◌≤◌}
use lib.ListN.{drop}
use Rattle.eikonal.specs.Board.{size}
use Rattle.eikonal.specs.Inner.Good.{starts_rise}
use Rattle.scenario.specs.Bytes.{records}
use Rattle.scenario.specs.File.{head_size, run_size, start_size, run_in, start_in, held}
use Rattle.scenario.specs.Inner.Walk.{runs_onward, starts_onward, wall_among}
use Rattle.scenario_read.proofs.starts.starts_on_wall.Given as goal

abbrev pub invariant-loop-i : goal.invariant-loop-i
invariant-loop-i l =
    (l.run ≤ l.runs) × (starts_rise (size (held l.file)) 0 (starts_onward l.file l.base l.count l.i) ≡ true)
    × (wall_among l.ground (records run_size run_in l.runs (drop head_size l.file)) (records start_size start_in l.count (drop l.base l.file))
    ≡ wall_among l.ground (runs_onward l.file l.runs l.run) (starts_onward l.file l.base l.count l.i))
