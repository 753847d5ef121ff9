-- Walls, then as `from_first`.
use Rattle.std.proofs.Common.{arith, ◌≡◌, ℕ, ◌*◌, ◌≤◌, ap, ◌∙◌}
use native.Mathlib.Nat.{mul-le-mul}
use Rattle.eikonal.specs.Board.{never}
use Rattle.eikonal.proofs.FirstPass.{cut_twice, limit-stays, straight, in_order}
use Rattle.arrival.proofs.Root.{by_ticks, two_past}
use Rattle.arrival.proofs.of_equal.Goals as goal

pub returns-then-slowness-eq0 : goal.returns-then-slowness-eq0
returns-then-slowness-eq0 c =
    let s = c.args.slowness in
    let none : s * s ≡ 0 = ap (λ (x : ℕ). x * s) c.if-slowness-eq0.true ∙ omega arith in
    limit-stays _ _ _ _ _ _ (omega arith) c.args.limit (omega arith) (λ o. absurd (omega arith))

pub returns-then-apart-slowness : goal.returns-then-apart-slowness
returns-then-apart-slowness c =
    let b : c.args.limit ≤ never = omega arith in
    let o : 1 ≤ c.args.slowness = omega arith in
    in_order _ _ _ _ _ _ _ _ b c.min-first.ensures c.max-second.ensures
    (cut_twice _ _ _ _ b c.after.ensures c.min.ensures ∙ straight _ _ _ _ o o (omega arith) _ b c.if-apart-slowness.true)

pub returns : goal.returns
returns c =
    let b : c.args.limit ≤ never = omega arith in
    let o : 1 ≤ c.args.slowness = omega arith in
    in_order _ _ _ _ _ _ _ _ b c.min-first.ensures c.max-second.ensures
    (by_ticks _ _ _ _ _ _ _ _ (two_past _ _ _ o (omega arith)) (mul-le-mul o o) _ _ b c.past_the_last.ensures)
