-- `call_refusals::check_call` meets its contract: the board, what the call found by its cell, the job, then the lists.
use mathlib.Core.Path.{◌≡◌, refl, sym, ◌∙◌}
use mathlib.Core.List.{List, [], ◌∷◌}
use Prim.Native.Nat.{ℕ}
use Rattle.eikonal.specs.Board.{board_of, size}
use Rattle.eikonal.specs.Tiles.{tile_count}
use Rattle.eikonal.specs.Refusals.{order_good, tile_causes, job_causes}
use Rattle.eikonal.specs.Ledger.{call_causes, own_refusal}
use Rattle.eikonal.proofs.Causes.{none-met, number_is}
use Rattle.eikonal.proofs.Good.{passes}
use Rattle.refusals.specs.Flaws.{flawless}
use Rattle.refusals.proofs.Pairs.{with_no_pairs}
use Rattle.eikonal.proofs.Outcomes.{stopped, went_on, nothing_found, was_found}
use Rattle.eikonal.specs.declared.Start.{Start}
use Rattle.eikonal.specs.declared.Job.{Job}
use Rattle.eikonal.specs.declared.Job.TheVariants.{March, Round, Run}
use Rattle.call_refusals.proofs.check_call.Goals as goal

-- of a board the causes 10, 11 and 12 see the sides alone
same_sides : (w h s : ℕ) (slow : List ℕ) (ys : List Start) (j : Job) (xs : List ℕ) → job_causes (board_of w h 1 [] []) j xs
    ≡ job_causes (board_of w h s slow ys) j xs
unfolding job_causes tile_causes order_good tile_count
same_sides w h s slow ys (March z) xs = refl
same_sides w h s slow ys (Round tw th m) xs = refl
same_sides w h s slow ys (Run tw th k z) xs = refl

pub returns-in_err-check_board : goal.returns-in_err-check_board
unfolding own_refusal call_causes
returns-in_err-check_board g c =
    let plain = c.flawless.ensures ∙ sym (with_no_pairs flawless) in
    stopped _ _ _ _ (c.in_err-check_board.ensures [] plain) c.from_residual.ensures.1

pub returns-in_err-own : goal.returns-in_err-own
unfolding own_refusal call_causes
returns-in_err-own g c =
    let board = c.in_ok-check_board.ensures [] (c.flawless.ensures ∙ sym (with_no_pairs flawless)) in
    let cell = was_found _ c.args.own.cell c.in_err-own.was in
    went_on _ _ board (stopped _ _ (_ ∷ []) _ cell c.from_residual-in_err-own.ensures.1)

pub check_job-requires : goal.check_job-requires
check_job-requires g c =
    let board = c.in_ok-check_board.ensures [] (c.flawless.ensures ∙ sym (with_no_pairs flawless)) in
    let a = passes _ _ _ (none-met _ (sym (number_is board))) in
    (a.good.wide_high, a.good.high_high)

pub returns-in_err-check_job : goal.returns-in_err-check_job
unfolding own_refusal call_causes
returns-in_err-check_job g c =
    let b = c.args.board.now in
    let board = c.in_ok-check_board.ensures [] (c.flawless.ensures ∙ sym (with_no_pairs flawless)) in
    let cell = nothing_found _ c.args.own.cell c.in_ok-own.was in
    let same = same_sides b.width b.height b.storeys b.slow.now (g.S.Starts.all b.starts) c.args.job c.args.order.now in
    let jobs = rw same at c.in_err-check_job.ensures in
    went_on _ _ board (went_on (_ ∷ []) _ cell (stopped _ _ _ _ jobs c.from_residual-in_err-check_job.ensures.1))

pub house_size-n-requires : goal.house_size-n-requires
house_size-n-requires g c =
    let board = c.in_ok-check_board.ensures [] (c.flawless.ensures ∙ sym (with_no_pairs flawless)) in
    let a = passes _ _ _ (none-met _ (sym (number_is board))) in
    (a.good.wide_high, a.good.high_high)

pub check_lists-requires : goal.check_lists-requires
unfolding size
check_lists-requires g c =
    let board = c.in_ok-check_board.ensures [] (c.flawless.ensures ∙ sym (with_no_pairs flawless)) in
    let a = passes _ _ _ (none-met _ (sym (number_is board))) in
    rw c.house_size-n.ensures a.good.few

pub returns : goal.returns
unfolding own_refusal call_causes size
returns g c =
    let b = c.args.board.now in
    let board = c.in_ok-check_board.ensures [] (c.flawless.ensures ∙ sym (with_no_pairs flawless)) in
    let cell = nothing_found _ c.args.own.cell c.in_ok-own.was in
    let same = same_sides b.width b.height b.storeys b.slow.now (g.S.Starts.all b.starts) c.args.job c.args.order.now in
    let jobs = rw same at c.in_ok-check_job.ensures in
    let lists = rw c.house_size-n.ensures at c.check_lists.ensures in
    went_on _ _ board (went_on (_ ∷ []) _ cell (went_on _ _ jobs lists))
