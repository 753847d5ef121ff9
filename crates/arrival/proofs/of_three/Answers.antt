-- By whether the last axis counts.
use Rattle.std.proofs.Common.{arith, ◌≤◌, sym, ◌∙◌}
use native.Mathlib.Nat.{mul-le-mul}
use borrow.Author.Tests.{ltb-true, ltb-false}
use Rattle.eikonal.specs.Board.{never}
use Rattle.eikonal.proofs.FirstPass.{last-late, last_in_order}
use Rattle.arrival.proofs.Root.{sides-short, by_ticks, three_past}
use Rattle.arrival.proofs.of_three.Goals as goal

pub returns-then-not-last_counts : goal.returns-then-not-last_counts
returns-then-not-last_counts c =
    let b : c.args.limit ≤ never = omega arith in
    last_in_order _ _ _ _ _ _ _ _ _ _ b c.min-low.ensures c.max-high.ensures c.min-middle.ensures c.max-last.ensures
    (last-late _ _ _ _ _ _ b (ltb-false _ _ (sym c.last_counts.ensures ∙ c.if-not-last_counts.true)) c.of_equal.ensures)

pub returns : goal.returns
returns c =
    let b : c.args.limit ≤ never = omega arith in
    let o : 1 ≤ c.args.slowness = omega (arith, (sides-short _ _ _ (ltb-true _ _ (sym c.last_counts.ensures ∙ c.if-not-last_counts.false))).0) in
    last_in_order _ _ _ _ _ _ _ _ _ _ b c.min-low.ensures c.max-high.ensures c.min-middle.ensures c.max-last.ensures
    (by_ticks _ _ _ _ _ _ _ _ (three_past _ _ _ _ o (omega arith) (omega arith)) (mul-le-mul o o) _ _ b c.past_the_last.ensures)
