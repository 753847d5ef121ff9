use Rattle.std.proofs.Common.{sym, ap, ◌∙◌, arith}
use Rattle.eikonal.proofs.Causes.{number_is}
use Rattle.eikonal.proofs.Outcomes.{numbered}
use Rattle.scenario.specs.Calls.{scenario_told}
use Rattle.scenario.proofs.Answers.{kept}
use Rattle.scenario.proofs.Reading.{room, reads_so}
use Rattle.scenario_read.proofs.read_scenario.Goals.{in-Ok, in_default}
use Rattle.scenario_read.proofs.read_scenario.Goals as goal

pub fill_starts-requires-clause-room : goal.fill_starts-requires-clause-room
fill_starts-requires-clause-room c =
    let r = room _ _ _ (sym (number_is c.in-Ok.ensures.told)) in
    (omega (arith, r.starts, c.min.ensures), omega (arith, r.starts, c.min.ensures))

pub answer-requires : goal.answer-requires
answer-requires c = elim c.match-outcome.branch [
  | in-Ok w ↦ rw (w.outcome-is ∙ sym w.in-Ok.is) c.read_ground-outcome.ensures.head
  | in_default w ↦ rw w.outcome-is c.read_ground-outcome.ensures.head
]

pub returns : goal.returns
returns c =
    let a = c.args in
    let g = c.read_ground-outcome in
    let so = reads_so a.file.now a.slow.now g.new.slow a.cells.now c.match-outcome.cells a.begins.now c.match-outcome.begins c.answer.result c.min.result in
    elim c.match-outcome.branch [
      | in-Ok w ↦
          so 0 g.result c.min.ensures g.ensures.told g.ensures.head (c.answer.ensures ∙ ap scenario_told (w.outcome-is ∙ sym w.in-Ok.is))
          (number_is (g.ensures.told ∙ sym w.in-Ok.ensures.told)) g.ensures.slow
          (w.cells-is ∙ w.fill_starts.ensures.cells) (w.begins-is ∙ w.fill_starts.ensures.begins)
      | in_default w ↦
          let refuses = numbered w.in_default.field-0.cause in
          so _ g.result c.min.ensures g.ensures.told g.ensures.head (c.answer.ensures ∙ ap scenario_told w.outcome-is)
          (number_is (g.ensures.told ∙ sym w.in_default.ensures.told)) g.ensures.slow
          (w.cells-is ∙ kept _ _ _ refuses) (w.begins-is ∙ kept _ _ _ refuses)
    ]
