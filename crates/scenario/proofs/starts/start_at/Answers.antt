-- `scenario::starts::start_at` meets its contract.
use Rattle.std.proofs.Common.{sym, ap, ◌∙◌}
use lib.Seq.{drop-drop}
use Rattle.scenario.specs.Bytes.{four}
use Rattle.scenario.specs.File.{start_in}
use Rattle.scenario.proofs.starts.start_at.Goals as goal

pub returns : goal.returns
unfolding start_in
returns c =
    let a = c.args in
    λ i. record { cell = c.four_at.ensures i; time = (c.four_at-2.ensures ∙ ap four (sym (drop-drop 4 a.at a.file.now))) i }
