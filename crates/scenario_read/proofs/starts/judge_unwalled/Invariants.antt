-- `scenario_read::starts::judge_unwalled` meets its contract: what the starts passed leave, and those that are left.
use mathlib.Core.Path.{◌≡◌}
use lib.ListN.{drop}
use Rattle.refusals.specs.Judge.{nothing_judged, judge_by, unwalled}
use Rattle.scenario.specs.Bytes.{records}
use Rattle.scenario.specs.File.{start_size, start_in}
use Rattle.scenario.specs.Inner.Walk.{starts_onward}
use Rattle.scenario_read.proofs.starts.judge_unwalled.Given as goal

abbrev pub invariant-loop-i : goal.invariant-loop-i
invariant-loop-i l =
    (l.judged.seen ≡ l.i) × (judge_by l.n unwalled (records start_size start_in l.count (drop l.base l.file)) nothing_judged
    ≡ judge_by l.n unwalled (starts_onward l.file l.base l.count l.i) l.judged)
