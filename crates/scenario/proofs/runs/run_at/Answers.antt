-- `scenario::runs::run_at` meets its contract.
use Rattle.std.proofs.Common.{sym, ap, ◌∙◌}
use lib.Seq.{drop-drop}
use Rattle.scenario.specs.Bytes.{four}
use Rattle.scenario.specs.Runs.{run}
use Rattle.scenario.specs.File.{run_in}
use Rattle.scenario.proofs.runs.run_at.Goals as goal

pub returns : goal.returns
unfolding run_in run
returns c =
    let a = c.args in
    λ i. record {
      offset = c.four_at.ensures i;
      long = (c.four_at-2.ensures ∙ ap four (sym (drop-drop 4 a.at a.file.now))) i;
      slow = (c.four_at-3.ensures ∙ ap four (sym (drop-drop 8 a.at a.file.now))) i;
    }
