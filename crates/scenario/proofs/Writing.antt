-- The writer's call: what a board has that is not refused; its ways out.
use mathlib.Core.Path.{◌≡◌, refl, sym, ap, ◌∙◌}
use mathlib.Core.Bool.{true}
use mathlib.Core.List.{List, [], ◌∷◌, ◌++◌}
use Prim.Native.Nat.{ℕ, ◌≤◌}
use native.Mathlib.Omega.{arith}
use lib.Dec.{ltb}
use lib.ListN.{length, drop}
use borrow.Author.Tests.{ltb-false}
use Rattle.std.specs.Prelude.{Result, Ok, Err, IsErrAnd}
use Rattle.eikonal.specs.Board.{size}
use Rattle.eikonal.specs.Order.{Cause, caused, none, or_else, first_of}
use Rattle.eikonal.specs.Refusals.{Handed, board_causes}
use Rattle.eikonal.specs.Ledger.{answer, answered}
use Rattle.eikonal.specs.Told.{number_of, refusal_of, told, reply_of}
use Rattle.eikonal.specs.declared.refused.Refusal as code
use Rattle.eikonal.proofs.Causes.{NoneMet, none-met, neither, first-append, number_is}
use Rattle.eikonal.proofs.Outcomes.{numbered}
use Rattle.eikonal.proofs.Good.{housed, sound}
use Rattle.eikonal.proofs.Answers.{answered-zero, answered-refused}
use Rattle.scenario.specs.Runs.{runs_of}
use Rattle.scenario.specs.File.{file_size, ticks_good}
use Rattle.scenario.specs.Turns.{turn_refusal}
use Rattle.scenario.specs.Calls.{written, writer_causes, writer_refusal, Writes}
use Rattle.scenario.proofs.Causes.{ticks_pass, unfound, Given, given, rise-count}
use Rattle.scenario.proofs.Answers.{part-entered, kept}
use Rattle.scenario.proofs.Written.{length_file}

-- ---- a board that is not refused
pub record Taken (p : Handed) (t g : ℕ) : Type 0 where
  pub ticks : ticks_good t ≡ true
  pub given : Given p (g ∷ p.board.slow)

module _ (p : Handed) (t g : ℕ) where
  -- all causes but for 14
  abbrev pub causes : List Cause
  causes = board_causes p (g ∷ p.board.slow) (turn_refusal t) none

  pub gave : (first_of causes).number ≡ 0 → Taken p t g
  unfolding NoneMet board_causes
  gave e =
      let n = none-met causes e in
      record { ticks = ticks_pass t (unfound (turn_refusal t) n.1.0); given = given p _ (turn_refusal t) none n }

  module _ (n : ℕ) where
    parts : writer_refusal p t g n ≡ or_else (first_of causes) (first_of (caused 14 (ltb n (length (written p t g))) ∷ []))
    unfolding writer_refusal writer_causes
    parts = first-append causes _

    pub took : (writer_refusal p t g n).number ≡ 0 → Taken p t g × (length (written p t g) ≤ n)
    unfolding NoneMet
    took e =
        let r = neither _ _ (sym (number_is parts) ∙ e) in
        (gave r.0, ltb-false n _ (none-met (caused 14 _ ∷ []) r.1).0)

-- it is small, and so is its file
module _ {p : Handed} {t g : ℕ} (k : Taken p t g) where
  size-most : size p.board ≤ 65536
  unfolding size
  size-most = (housed _ _ _ _ k.given.slows).few

  pub slow-most : length p.board.slow ≤ 65536
  slow-most = omega (arith, k.given.long, size-most)

  pub starts-most : length p.board.starts ≤ 65536
  starts-most =
      let b = p.board in
      omega (arith, size-most, rise-count (size b) 0 b.starts (sound b k.given.starts).rise (omega arith))

pub written-length : (p : Handed) (t g : ℕ) → length (written p t g) ≡ file_size (length (runs_of g p.board.slow)) (length p.board.starts)
unfolding written
written-length p t g = length_file t g p.board

-- ---- the call's ways out
module _ (p : Handed) (t g : ℕ) (out : List ℕ) where
  pub writes_none : (r : code.Refusal) (x : Result ℕ code.Refusal) → IsErrAnd x (λ y. y ≡ r) → told x ≡ writer_refusal p t g (length out)
      → Writes p t g out out (reply_of x)
  unfolding answer
  writes_none r (Ok v) h e = absurd h
  writes_none r (Err y) h e =
      let some = numbered y.cause in
      let n = length (written p t g) in
      record { answers = sym (answered-refused (refusal_of y) n some) ∙ ap (λ k. answered k n) e; leaves = kept (number_of y.cause) (written p t g) out some }

  pub writes_all : (need : ℕ) (now : List ℕ) → none ≡ writer_refusal p t g (length out) → length (written p t g) ≡ need
      → now ≡ written p t g ++ drop need out → Writes p t g out now (answer none need)
  unfolding answer
  writes_all need now e l f = record {
    answers = ap (answer none) (sym l) ∙ sym (answered-zero none _ refl) ∙ ap (λ k. answered k (length (written p t g))) e;
    leaves = f ∙ part-entered need (written p t g) (written p t g) out refl l;
  }
