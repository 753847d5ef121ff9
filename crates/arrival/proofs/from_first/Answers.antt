-- By where the second axis lies.
use Rattle.std.proofs.Common.{arith, ◌≤◌, ◌∙◌}
use native.Mathlib.Nat.{mul-le-mul}
use Rattle.eikonal.specs.Board.{never}
use Rattle.eikonal.proofs.FirstPass.{cut_twice, straight}
use Rattle.arrival.proofs.Root.{by_ticks, unequal_past}
use Rattle.arrival.proofs.from_first.Goals as goal

pub returns-then-apart-x : goal.returns-then-apart-x
returns-then-apart-x c =
    let b : c.args.limit ≤ never = omega arith in
    let p = c.requires in
    cut_twice _ _ _ _ b c.after.ensures c.min.ensures ∙ straight _ _ _ _ p.0 p.2 p.4 _ b c.if-apart-x.true

pub returns : goal.returns
returns c =
    let p = c.requires in
    by_ticks _ _ _ _ _ _ _ _ (unequal_past _ _ _ _ p.0 p.2 p.4) (mul-le-mul p.0 p.2) _ _ (omega arith) c.past_the_last.ensures
