-- THE PROMISES where one tile covers the board: each statement of specs/Promise.antt with its proof.
use mathlib.Core.Path.{◌≡◌, sym, ap, ◌∙◌}
use Prim.Native.Nat.{◌+◌, ◌*◌}
use native.Mathlib.Omega.{arith}
use Rattle.eikonal.specs.Board.{size, solved, marched}
use Rattle.eikonal.specs.Refusals.{nothing_own}
use Rattle.eikonal.specs.Ledger.{Sheet, call, answer, entered, counted, own_answer}
use Rattle.eikonal.specs.declared.Reply.{Reply}
use Rattle.eikonal.specs.declared.Job.TheVariants.{Run}
use Rattle.eikonal.proofs.Good.{good}
use Rattle.eikonal.proofs.Solution.{solved_known}
use Rattle.eikonal.proofs.Accepted.{not-refused, fits, run-can}
use Rattle.eikonal.proofs.Answers.{answered-zero}
use Rattle.eikonal.proofs.Ledger.{accepted-after}
use Rattle.one_tile.specs.Rounds.{exact_rounds}
use Rattle.one_tile.specs.Promise.{OneTileRoundIsMarch, OneTileHolds, OneTileRounds, OneTileBeforehand, OneTileRunCounts}
use Rattle.one_tile.proofs.March.{round_is_march, round_sides_is_march, after_is, after-sides-is}
use Rattle.one_tile.proofs.LastSpan.{exact_cut, exact_early}
use Rattle.one_tile.proofs.Counting.{exact}

pub one_tile_round_is_march : OneTileRoundIsMarch
unfolding OneTileRoundIsMarch
one_tile_round_is_march b tw th m ts e wide high l =
    let g = good b e in
    (round_is_march b g tw th wide high m l ts, round_sides_is_march b g tw th wide high m l ts)

pub one-tile-holds : OneTileHolds
unfolding OneTileHolds
one-tile-holds b tw th s h j e wide high far =
    let g = good b e in
    (after_is b g tw th wide high s h far j, after-sides-is b g tw th wide high s h far j)

pub one-tile-rounds : OneTileRounds
unfolding OneTileRounds
one-tile-rounds b tw th s h e wide high low far = exact b (good b e) tw th wide high s h low far

pub one_tile_beforehand : OneTileBeforehand
unfolding OneTileBeforehand OneTileRounds
one_tile_beforehand b tw th s h e wide high low far early =
    one-tile-rounds b tw th s h e wide high low far
    ∙ exact_early s h (995905 + size b * 4095) (omega arith) (solved b) (solved_known (good b e)) (omega arith) (omega arith)

pub one-tile-run-counts : OneTileRunCounts
unfolding OneTileRunCounts own_answer entered counted answer marched
one-tile-run-counts p tw th s z n w os x l m says zero wide high =
    let c = call p (Run tw th s z) os n w in
    let taken = not-refused c nothing_own x l m says zero in
    let f = fits c nothing_own _ taken in
    let r = run-can p.board os tw th s z f.can in
    let counts : x.count ≡ exact_rounds s z (solved p.board) =
    ap (λ (y : Reply). y.count) (says.answers ∙ answered-zero _ _ taken)
    ∙ exact p.board f.given.good tw th wide high s z r.1 r.0 in
    let left : m.sheet.times ≡ marched p.board z =
    ap (λ (q : Sheet). q.times) (says.leaves ∙ accepted-after c nothing_own l.sheet.times l.sheet.sides taken) in
    (counts, counts ∙ sym (exact_cut s z (omega (arith, r.0)) (solved p.board)) ∙ ap (exact_rounds s z) (sym left))
