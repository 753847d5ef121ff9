-- THE PROMISES of the tablet's call: each statement of specs/Promise.antt with its proof.
use mathlib.Core.Path.{◌≡◌, refl, sym, ap, ◌∙◌}
use mathlib.Core.Bool.{true}
use mathlib.Core.List.{List}
use Prim.Native.Nat.{ℕ, ◌+◌, ◌*◌, ◌-◌, ◌≤◌}
use native.Mathlib.Omega.{arith}
use lib.ListN.{length}
use borrow.Author.Tests.{eq-eqb}
use Rattle.eikonal.specs.Board.{size, solved, marched}
use Rattle.eikonal.specs.Tiles.{rounds}
use Rattle.eikonal.specs.Order.{rank, rank_in, follows}
use Rattle.eikonal.specs.Refusals.{pair_causes, record_causes, start_causes, board_refusal}
use Rattle.eikonal.specs.Promise.{board_good}
use Rattle.one_tile.specs.Rounds.{strides, exact_rounds}
use Rattle.one_tile.specs.Promise.{OneTileRounds, OneTileBeforehand}
use Rattle.one_tile.proofs.LastSpan.{strides-some, comes, exact_cut}
use Rattle.one_tile.proofs.Promises.{one-tile-rounds, one_tile_beforehand}
use Rattle.scenario.specs.File.{held, front_causes, rest_causes}
use Rattle.scenario.proofs.Causes.{board-taken}
use Rattle.scenario.proofs.Composed.{held-given}
use Rattle.tablet.specs.Small.{horizon, small_causes}
use Rattle.tablet.specs.Tablet.{tablet_causes, tablet_refusal, tablet_answer, TabletSays}
use Rattle.tablet.specs.Promise.{SmallInOrder, TabletInOrder, OneTileTabletCounts, OneTileTabletBeforehand}
use Rattle.tablet.proofs.SmallFiles.{small, cells-few}
use Rattle.tablet.proofs.Answers.{taken}

-- ---- the one order: computed
pub small_in_order : SmallInOrder
unfolding SmallInOrder small_causes front_causes rest_causes pair_causes start_causes record_causes follows rank rank_in
small_in_order f = refl

pub tablet_in_order : TabletInOrder
unfolding TabletInOrder tablet_causes small_causes front_causes rest_causes pair_causes start_causes record_causes follows rank rank_in
tablet_in_order f s tw th n = refl

-- ---- a call that is accepted: its board, its stride, its answer
module _ (f : List ℕ) (s tw th n : ℕ) (e : (tablet_refusal f s tw th n).number ≡ 0) where
  legal : board_good (held f) ≡ true
  unfolding board_good
  legal = eq-eqb (board_refusal (held f)).number 0 (board-taken (held-given f (small f (taken f s tw th n e).accepted).taken))

  few : size (held f) ≤ 1024
  few = cells-few f (small f (taken f s tw th n e).accepted)

  low : 1 ≤ s
  low = (taken f s tw th n e).tiles.least

answers : (f : List ℕ) (s tw th : ℕ) (out out-now : List ℕ) (x : ℕ) → TabletSays f s tw th out out-now x → (tablet_refusal f s tw th (length out)).number ≡ 0
    → x ≡ rounds (held f) tw th s horizon * 256
unfolding tablet_answer
answers f s tw th out out-now x says e = says.answers ∙ rw e

pub one_tile_tablet_counts : OneTileTabletCounts
unfolding OneTileTabletCounts OneTileRounds marched
one_tile_tablet_counts f s tw th out out-now x says e wide high =
    let n = length out in
    let exact = one-tile-rounds (held f) tw th s horizon (legal f s tw th n e) wide high (low f s tw th n e) (omega arith) in
    let counts : x ≡ exact_rounds s horizon (solved (held f)) * 256 = answers f s tw th out out-now x says e ∙ ap (λ (r : ℕ). r * 256) exact in
    (counts, counts ∙ ap (λ (r : ℕ). r * 256) (sym (exact_cut s horizon (omega arith) (solved (held f)))))

-- no time of 1,024 cells is past 5,189,185, and the last span is no longer than what lies between that and the horizon
late-start : (s n : ℕ) → 1 ≤ s → s ≤ 810815 → n ≤ 1024 → 995905 + 4095 * n ≤ (strides s horizon - 1) * s
late-start s n low most few =
    omega (arith, strides-some s horizon, comes s horizon (strides s horizon - 1) low (strides-some s horizon))

pub one_tile_tablet_beforehand : OneTileTabletBeforehand
unfolding OneTileTabletBeforehand OneTileBeforehand
one_tile_tablet_beforehand f s tw th out out-now x says e wide high most =
    let n = length out in
    let early = late-start s (size (held f)) (low f s tw th n e) most (few f s tw th n e) in
    let exact = one_tile_beforehand (held f) tw th s horizon (legal f s tw th n e) wide high (low f s tw th n e) (omega arith) early in
    answers f s tw th out out-now x says e ∙ ap (λ (r : ℕ). r * 256) exact
