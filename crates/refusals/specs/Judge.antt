-- Starts judged one after the other, with what the ones before left, so that a list can be judged in parts.
-- No public promise rests on these.
use Rattle.std.specs.Prelude.{Bool, true, false, ◌||◌, cond, List, [], ◌∷◌, ℕ, suc, ◌+◌, ◌<◌, ltb, leb, eqb, length, get_or, Option, Some, None}
use Rattle.eikonal.specs.declared.Start.{Start}
use Rattle.eikonal.specs.Order.{Cause, caused}
use Rattle.eikonal.specs.Refusals.{on_board}
use Rattle.refusals.specs.declared.board.Judged.{Judged}

-- before any start: any cell may come, and no cause was met
abbrev pub nothing_judged : Judged
nothing_judged = record { seen = 0; least = 0; off = None; low = None; late = false; walled = false }

-- the place of the first at fault, where there is one, after one start more
unfoldable pub onward : (first : Option ℕ) → (seen : ℕ) → (good : Bool) → Option ℕ
onward (Some i) k p = Some i
onward None k p = cond p None (Some k)

-- one start more, on a board of n cells, with the slowness of its cell
unfoldable pub judge_start : (n slow cell time : ℕ) → Judged → Judged
judge_start n s c t j = record {
  seen = suc j.seen;
  least = suc c;
  off = onward j.off j.seen (on_board n j.least c);
  low = onward j.low j.seen (leb j.least c);
  late = j.late || ltb 1000000 t;
  walled = j.walled || eqb s 0;
}

-- all of a list, on a board of n cells, whose slownesses the function gives
unfoldable pub judge_by : (n : ℕ) → (slow : ℕ → ℕ) → List Start → Judged → Judged
judge_by n f [] j = j
judge_by n f (x ∷ xs) j = judge_by n f xs (judge_start n (f x.cell) x.cell x.time j)

-- on the slownesses of a board; and as if it had no walls
abbrev pub judge : (slow : List ℕ) → List Start → Judged → Judged
judge ss xs j = judge_by (length ss) (λ c. get_or ss c 0) xs j

abbrev pub unwalled : (cell : ℕ) → ℕ
unwalled c = 1

-- a count of so many starts more fits 64 bits
abbrev pub Countable : (more : ℕ) → Judged → Type 0
Countable k j = j.seen + k < 18446744073709551616

-- a cause by the first start at fault, where there is one
abbrev pub fault : (number : ℕ) → (first : Option ℕ) → Cause
fault k (Some i) = record { number = k; met = true; place = i }
fault k None = record { number = k; met = false; place = 0 }

-- 7, 18, 8, 9 by what was met
unfoldable pub judged_causes : Judged → List Cause
judged_causes j = fault 7 j.off ∷ fault 18 j.low ∷ caused 8 j.late ∷ caused 9 j.walled ∷ []
