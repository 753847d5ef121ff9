-- `scenario_write::write_file` meets its contract.
use mathlib.Core.Path.{◌≡◌, refl, sym, ap, ◌∙◌}
use mathlib.Core.List.{[], ◌∷◌, ◌++◌}
use Prim.Native.Nat.{◌≤◌}
use native.Mathlib.Omega.{arith}
use lib.Dec.{ltb}
use lib.ListN.{length, drop}
use lib.Seq.{length-take-le}
use borrow.Author.Tests.{ltb-false}
use Rattle.eikonal.specs.Order.{caused, none, first_of}
use Rattle.eikonal.specs.Refusals.{board_causes}
use Rattle.eikonal.specs.Handing.{handed_in}
use Rattle.eikonal.specs.Told.{told}
use Rattle.eikonal.proofs.Causes.{number_is}
use Rattle.eikonal.proofs.Outcomes.{stopped, went_on, unmet}
use Rattle.refusals.specs.Flaws.{with_pair}
use Rattle.scenario.specs.Bytes.{bytes_of}
use Rattle.scenario.specs.File.{file_size, start_bytes, head_of, front, file_of}
use Rattle.scenario.specs.Turns.{turn_refusal}
use Rattle.scenario.specs.Calls.{written, writer_causes, writer_refusal}
use Rattle.scenario.proofs.GoodRuns.{runs_of-count}
use Rattle.scenario.proofs.Slows.{ground_pair}
use Rattle.scenario.proofs.Writing.{Taken, causes, gave, written-length, slow-most, starts-most, writes_none, writes_all}
use Rattle.scenario_write.proofs.write_file.Given.{Over}
use Rattle.scenario_write.proofs.write_file.Goals.{After-check_board, In_ok-check_board, After-file_length-need, In_ok-refuse_if}
use Rattle.scenario_write.proofs.write_file.Goals as goal

module _ (g : Over) where
  -- all causes but for 14
  board : (c : After-check_board g) → let a = c.args in
      told c.check_board.result ≡ first_of (causes (handed_in g.S.Starts.all g.S.Starts.paired a.board.now) a.ticks a.ground)
  unfolding turn_refusal
  board c =
      let a = c.args in
      let p = handed_in g.S.Starts.all g.S.Starts.paired a.board.now in
      let ground = c.with_pair.ensures ∙ ap (with_pair a.ground) c.flawless.ensures ∙ ground_pair a.ground in
      let ticks : told c.refuse_if-ticks_checked.result ≡ turn_refusal a.ticks = c.refuse_if-ticks_checked.ensures ∙ rw c.ticks_good.ensures refl in
      c.check_board.ensures (a.ground ∷ []) ground ∙ ap (λ u. first_of (board_causes p (a.ground ∷ p.board.slow) u none)) ticks

  -- none of them is met
  module _ (c : In_ok-check_board g) where
    passed : let a = c.args in none ≡ first_of (causes (handed_in g.S.Starts.all g.S.Starts.paired a.board.now) a.ticks a.ground)
    passed = ap told (sym c.in_ok-check_board.was) ∙ board (goal.at.In_ok-check_board g c).After-check_board

    taken : let a = c.args in Taken (handed_in g.S.Starts.all g.S.Starts.paired a.board.now) a.ticks a.ground
    taken = gave _ _ _ (sym (number_is passed))

  -- with as many starts as there are
  head : (c : After-file_length-need g) → let b = c.args.board.now in
      c.head_for-head.result ≡ head_of b.width b.height b.storeys c.args.ticks c.args.ground b.slow.now (length (g.S.Starts.all b.starts))
  head c = rw c.many.ensures at c.head_for-head.ensures

  need : (c : After-file_length-need g) → let a = c.args in
      c.file_length-need.result ≡ length (written (handed_in g.S.Starts.all g.S.Starts.paired a.board.now) a.ticks a.ground)
  unfolding head_of
  need c = c.file_length-need.ensures ∙ ap (λ u. file_size u.runs u.starts) (head c) ∙ sym (written-length _ _ _)

  room : (c : In_ok-refuse_if g) → c.file_length-need.result ≤ length c.args.out.now
  room c = ltb-false _ _ (unmet 13 _ c.in_ok-refuse_if.ensures)

pub returns-in_err-check_board : goal.returns-in_err-check_board
unfolding writer_refusal writer_causes
returns-in_err-check_board g c =
    let met = ap told (sym c.in_err-check_board.was) ∙ board g (goal.at.returns-in_err-check_board g c).After-check_board in
    writes_none _ _ _ _ _ _ c.from_residual.ensures.1 (stopped _ _ _ _ met c.from_residual.ensures.1)

pub head_for-head-requires : goal.head_for-head-requires
head_for-head-requires g c = let k = taken g (goal.at.head_for-head-requires g c).In_ok-check_board in (slow-most k, rw c.many.ensures (starts-most k))

pub returns-in_err-refuse_if : goal.returns-in_err-refuse_if
unfolding writer_refusal writer_causes
returns-in_err-refuse_if g c =
    let at = goal.at.returns-in_err-refuse_if g c in
    let met = c.in_err-refuse_if.ensures ∙ ap (λ n. first_of (caused 14 (ltb (length c.args.out.now) n) ∷ [])) (need g at.After-file_length-need) in
    let h = c.from_residual-in_err-refuse_if.ensures.1 in
    writes_none _ _ _ _ _ _ h (went_on _ _ (passed g at.In_ok-check_board) (stopped _ _ (_ ∷ []) [] met h))

pub slice_bounds-write_all-end : goal.slice_bounds-write_all-end
slice_bounds-write_all-end g c = room g (goal.at.slice_bounds-write_all-end g c).In_ok-refuse_if

pub slice_bounds-write_all-end-2 : goal.slice_bounds-write_all-end-2
slice_bounds-write_all-end-2 g c = sym (length-take-le _ c.args.out.now (room g (goal.at.slice_bounds-write_all-end-2 g c).In_ok-refuse_if))

pub write_all-requires-clause-out : goal.write_all-requires-clause-out
unfolding head_of
write_all-requires-clause-out g c =
    let at = goal.at.write_all-requires-clause-out g c in
    length-take-le _ c.args.out.now (room g at.In_ok-refuse_if)
    ∙ c.file_length-need.ensures ∙ ap (λ q. file_size c.head_for-head.result.runs q) (ap (λ x. x.starts) (head g at.After-file_length-need))

pub write_all-requires-clause-slow : goal.write_all-requires-clause-slow
unfolding head_of
write_all-requires-clause-slow g c =
    (rw c.head_for-head.ensures refl, slow-most (taken g (goal.at.write_all-requires-clause-slow g c).In_ok-check_board))

pub overflow_cast-result : goal.overflow_cast-result
overflow_cast-result g c =
    let at = goal.at.overflow_cast-result g c in
    let k = taken g at.In_ok-check_board in
    let a = c.args in
    omega (
      arith,
      need g at.After-file_length-need,
      written-length (handed_in g.S.Starts.all g.S.Starts.paired a.board.now) a.ticks a.ground,
      runs_of-count a.ground a.board.now.slow.now,
      slow-most k,
      starts-most k,
    )

pub returns : goal.returns
unfolding writer_refusal writer_causes written file_of
returns g c =
    let at = goal.at.returns g c in
    let b = c.args.board.now in
    let whole = c.write_all.ensures
    ∙ ap (λ x. front x b.slow.now ++ bytes_of start_bytes (g.S.Starts.all b.starts)) (head g at.After-file_length-need) in
    let met = c.in_ok-refuse_if.ensures ∙ ap (λ n. first_of (caused 14 (ltb (length c.args.out.now) n) ∷ [])) (need g at.After-file_length-need) in
    writes_all _ _ _ _ c.file_length-need.result _ (went_on _ _ (passed g at.In_ok-check_board) met) (sym (need g at.After-file_length-need))
    (ap (λ u. u ++ drop c.file_length-need.result c.args.out.now) whole)
