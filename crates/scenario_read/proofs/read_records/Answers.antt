use Rattle.std.proofs.Common.{◌≡◌, min, length, sym, ap, ◌∙◌, arith}
use lib.ListN.{length-map}
use Rattle.eikonal.specs.Refusals.{cells_of, begins_of}
use Rattle.eikonal.proofs.Causes.{number_is}
use Rattle.eikonal.proofs.Outcomes.{numbered}
use Rattle.scenario.specs.Calls.{scenario_told}
use Rattle.scenario.proofs.Answers.{kept}
use Rattle.scenario.proofs.Reading.{room, reads_so}
use Rattle.scenario_read.proofs.Copied.{fields_filled}
use Rattle.scenario_read.proofs.read_records.Goals.{in-Ok, in_default}
use Rattle.scenario_read.proofs.read_records.Goals as goal

pub fill_records-requires : goal.fill_records-requires
fill_records-requires c = (c.in-Ok.ensures.head, (room _ _ _ (sym (number_is c.in-Ok.ensures.told))).starts)

pub answer-requires : goal.answer-requires
answer-requires c = elim c.match-outcome.branch [
  | in-Ok w ↦ rw (w.outcome-is ∙ sym w.in-Ok.is) c.read_ground-outcome.ensures.head
  | in_default w ↦ rw w.outcome-is c.read_ground-outcome.ensures.head
]

pub returns : goal.returns
unfolding cells_of begins_of
returns c =
    let a = c.args in
    let g = c.read_ground-outcome in
    let old = a.records.now in
    let so = reads_so a.file.now a.slow.now g.new.slow (cells_of old) (cells_of c.match-outcome.records) (begins_of old) (begins_of c.match-outcome.records)
    c.answer.result (length old) in
    let shorter : length old ≡ min (length (cells_of old)) (length (begins_of old)) =
    omega (arith, length-map old (λ s. s.cell), length-map old (λ s. s.time)) in
    elim c.match-outcome.branch [
      | in-Ok w ↦
          so 0 g.result shorter g.ensures.told g.ensures.head (c.answer.ensures ∙ ap scenario_told (w.outcome-is ∙ sym w.in-Ok.is))
          (number_is (g.ensures.told ∙ sym w.in-Ok.ensures.told)) g.ensures.slow
          (ap cells_of (w.records-is ∙ w.fill_records.ensures) ∙ fields_filled (λ s. s.cell) a.file.now old)
          (ap begins_of (w.records-is ∙ w.fill_records.ensures) ∙ fields_filled (λ s. s.time) a.file.now old)
      | in_default w ↦
          let refuses = numbered w.in_default.field-0.cause in
          so _ g.result shorter g.ensures.told g.ensures.head (c.answer.ensures ∙ ap scenario_told w.outcome-is)
          (number_is (g.ensures.told ∙ sym w.in_default.ensures.told)) g.ensures.slow
          (ap cells_of w.records-is ∙ kept _ _ _ refuses) (ap begins_of w.records-is ∙ kept _ _ _ refuses)
    ]
