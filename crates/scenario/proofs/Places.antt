-- The causes that the reader and the writer look for follow the one order, and the place that they answer is that of the first start at fault.
use mathlib.Core.Path.{refl}
use mathlib.Core.Bool.{Bool, true, false, not, cond}
use mathlib.Core.List.{List, [], ◌∷◌, ◌++◌}
use Prim.Native.Nat.{ℕ}
use native.Mathlib.Decide.{ℕ_discrete}
use lib.ListN.{length}
use lib.Dec.{ltb}
use Rattle.eikonal.specs.Board.{size}
use Rattle.eikonal.specs.Order.{Cause, caused, cause, none, first_of, rank, rank_in, follows, InOrder}
use Rattle.eikonal.specs.Refusals.{Handed, board_causes, pair_causes, record_causes, start_causes}
use Rattle.eikonal.specs.Promise.{FirstAtFault}
use Rattle.eikonal.specs.declared.Start.{Start}
use Rattle.eikonal.specs.Order.{Refusal}
use Rattle.eikonal.proofs.Places.{all_plain, in_front, in_the_rear, Tells, tells, tells_none, tells_answer}
use Rattle.scenario.specs.File.{held, ticks_good, front_causes, rest_causes, file_causes}
use Rattle.scenario.specs.Turns.{turn_refusal}
use Rattle.scenario.specs.Calls.{scenario, scenario_of, reader_causes, reader_refusal, reader_answer, written, writer_causes, writer_refusal}
use Rattle.scenario.specs.Promise.{ReaderInOrder, WriterInOrder, ReaderPlace, WriterPlace}
use Rattle.scenario.proofs.Answers.{reader-zero, reader-refused}

-- ---- the reader
pub reader_in_order : ReaderInOrder
unfolding ReaderInOrder reader_causes file_causes front_causes rest_causes pair_causes start_causes record_causes follows rank rank_in
reader_in_order f n q = refl

pub reader_place : ReaderPlace
unfolding ReaderPlace reader_refusal reader_causes file_causes front_causes rest_causes pair_causes start_causes record_causes scenario_of scenario
    all_plain in_front in_the_rear rank rank_in
reader_place f slow slow-now cells cells-now begins begins-now x r =
    rw r.answers (answers _ (tells n xs (_ ∷ _ ∷ _ ∷ _ ∷ _ ∷ _ ∷ _ ∷ []) _ refl refl))
  where
    n : ℕ
    n = size (held f)

    xs : List Start
    xs = (held f).starts

    answers : (k : Refusal) → Tells n xs k → FirstAtFault n xs (reader_answer k f).number (reader_answer k f).place
    answers k t = elim (ℕ_discrete k.number 0) [
      | yes z ↦ rw (reader-zero k f z) (tells_none n xs k z t)
      | no d ↦ rw (reader-refused k f d) t
    ]

-- ---- the writer, whether 3 is met or not
module _ (p : Handed) (g : ℕ) (short : Bool) where
  by-ticks : (bad : Bool) → List Cause
  by-ticks q = board_causes p (g ∷ p.board.slow) (cond q (cause 3) none) none ++ caused 14 short ∷ []

  in_order : (bad : Bool) → InOrder (by-ticks bad)
  unfolding by-ticks board_causes pair_causes start_causes record_causes follows rank rank_in
  in_order true = refl
  in_order false = refl

  says : (bad : Bool) → Tells (size p.board) p.board.starts (first_of (by-ticks bad))
  unfolding by-ticks board_causes pair_causes start_causes record_causes all_plain in_front in_the_rear rank rank_in
  says true = tells _ _ (_ ∷ _ ∷ _ ∷ _ ∷ _ ∷ _ ∷ _ ∷ []) _ refl refl
  says false = tells _ _ (_ ∷ _ ∷ _ ∷ _ ∷ _ ∷ _ ∷ _ ∷ []) _ refl refl

pub writer_in_order : WriterInOrder
unfolding WriterInOrder writer_causes turn_refusal first_of by-ticks
writer_in_order p t g n = in_order p g (ltb n (length (written p t g))) (not (ticks_good t))

pub writer_place : WriterPlace
unfolding WriterPlace writer_refusal writer_causes turn_refusal first_of by-ticks
writer_place p t g out out-now y w =
    rw w.answers (tells_answer _ _ _ _ (says p g (ltb (length out) (length (written p t g))) (not (ticks_good t))))
