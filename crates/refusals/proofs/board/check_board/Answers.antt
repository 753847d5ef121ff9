-- `refusals::board::check_board` meets its contract: the parts stand in the order of the causes.
use mathlib.Core.Path.{sym, ◌∙◌}
use mathlib.Core.Bool.{◌&&◌}
use mathlib.Core.List.{[], ◌∷◌}
use lib.Dec.{eqb}
use lib.ListN.{length}
use borrow.Author.Tests.{eqb-true, not-false}
use Rattle.eikonal.specs.Board.{board_of, size}
use Rattle.eikonal.specs.Refusals.{board_causes}
use Rattle.eikonal.proofs.Causes.{number_is}
use Rattle.eikonal.proofs.Good.{sides-most, and-true}
use Rattle.eikonal.proofs.Outcomes.{stopped, went_on, unmet, nothing_found, was_found}
use Rattle.refusals.proofs.Judging.{judge_finds}
use Rattle.refusals.proofs.Pairs.{flaws_find}
use Rattle.refusals.proofs.board.check_board.Goals as goal

pub house_size-requires : goal.house_size-requires
house_size-requires g c =
    let e = rw c.sides_good.ensures at c.in_ok-refuse_if.ensures in sides-most _ _ [] (sym (number_is e))

pub returns-in_err-refuse_if-2 : goal.returns-in_err-refuse_if-2
unfolding board_causes size
returns-in_err-refuse_if-2 g c gs f =
    let two = rw c.sides_good.ensures at c.in_ok-refuse_if.ensures in
    let three = nothing_found _ c.args.ticks c.in_ok-ticks.was in
    let four = rw (c.are_paired.ensures, c.house_size.ensures) at c.in_err-refuse_if-2.ensures in
    went_on (_ ∷ []) _ two (went_on (_ ∷ []) _ three (stopped _ _ (_ ∷ []) _ four c.from_residual-in_err-refuse_if-2.ensures.1))

pub check_flaws-requires : goal.check_flaws-requires
check_flaws-requires g c =
    let e = rw c.sides_good.ensures at c.in_ok-refuse_if.ensures in sides-most _ _ [] (sym (number_is e))

pub returns-in_err-check_flaws : goal.returns-in_err-check_flaws
unfolding board_causes size
returns-in_err-check_flaws g c gs f =
    let b = c.args.board.now in
    let two = rw c.sides_good.ensures at c.in_ok-refuse_if.ensures in
    let three = nothing_found _ c.args.ticks c.in_ok-ticks.was in
    let four = rw (c.are_paired.ensures, c.house_size.ensures) at c.in_ok-refuse_if-2.ensures in
    let pairs = rw (c.with_pairs.ensures, flaws_find b.width b.height b.storeys gs b.slow.now _ f) at c.in_err-check_flaws.ensures in
    went_on (_ ∷ []) _ two (went_on (_ ∷ []) _ three (went_on (_ ∷ []) _ four (stopped _ _ _ _ pairs c.from_residual-in_err-check_flaws.ensures.1)))

pub returns-in_err-kinds : goal.returns-in_err-kinds
unfolding board_causes size
returns-in_err-kinds g c gs f =
    let b = c.args.board.now in
    let two = rw c.sides_good.ensures at c.in_ok-refuse_if.ensures in
    let three = nothing_found _ c.args.ticks c.in_ok-ticks.was in
    let four = rw (c.are_paired.ensures, c.house_size.ensures) at c.in_ok-refuse_if-2.ensures in
    let pairs = rw (c.with_pairs.ensures, flaws_find b.width b.height b.storeys gs b.slow.now _ f) at c.in_ok-check_flaws.ensures in
    let kinds = was_found _ c.args.kinds c.in_err-kinds.was in
    went_on (_ ∷ []) _ two (went_on (_ ∷ []) _ three (went_on (_ ∷ []) _ four
    (went_on _ _ pairs (stopped _ _ (_ ∷ []) _ kinds c.from_residual-in_err-kinds.ensures.1))))

pub returns : goal.returns
unfolding board_causes size
returns g c gs f =
    let b = c.args.board.now in
    let two = rw c.sides_good.ensures at c.in_ok-refuse_if.ensures in
    let three = nothing_found _ c.args.ticks c.in_ok-ticks.was in
    let four = rw (c.are_paired.ensures, c.house_size.ensures) at c.in_ok-refuse_if-2.ensures in
    let pairs = rw (c.with_pairs.ensures, flaws_find b.width b.height b.storeys gs b.slow.now _ f) at c.in_ok-check_flaws.ensures in
    let kinds = nothing_found _ c.args.kinds c.in_ok-kinds.was in
    let house = board_of b.width b.height b.storeys b.slow.now (g.S.Starts.all b.starts) in
    let whole = not-false (g.S.Starts.paired b.starts && eqb (length b.slow.now) (size house)) (unmet 3 _ four) in
    let long = eqb-true (length b.slow.now) (size house) (and-true (g.S.Starts.paired b.starts) (eqb (length b.slow.now) (size house)) whole).1 in
    let starts = rw (c.judge_starts.ensures, c.nothing_judged.ensures) at c.check_judged.ensures ∙ judge_finds house long in
    went_on (_ ∷ []) _ two (went_on (_ ∷ []) _ three (went_on (_ ∷ []) _ four (went_on _ _ pairs (went_on (_ ∷ []) _ kinds starts))))
