-- `refusals::board::judge_start` meets its contract.
use mathlib.Core.Path.{◌≡◌}
use mathlib.Core.Bool.{Bool}
use Prim.Native.Nat.{ℕ}
use native.Mathlib.Omega.{arith}
use Rattle.std.specs.Prelude.{Option}
use Rattle.refusals.specs.declared.board.Judged.{Judged}
use Rattle.refusals.specs.Judge.{judge_start}
use Rattle.refusals.proofs.board.judge_start.Goals as goal

abbrev judged : (seen least : ℕ) → (off low : Option ℕ) → (late walled : Bool) → Judged
judged k l i j t w = record { seen = k; least = l; off = i; low = j; late = t; walled = w }

-- records that differ in what was counted on
counted-on : {k k' l l' : ℕ} (i j : Option ℕ) (t w : Bool) → k ≡ k' → l ≡ l' → judged k l i j t w ≡ judged k' l' i j t w
counted-on i j t w p q = rw (p, q)

pub returns : goal.returns
unfolding judge_start
returns c = rw (c.onward.ensures, c.onward-2.ensures) (counted-on _ _ _ _ (omega arith) (omega arith))
