-- What the contracts of the calls say. Each is an equation with a definition.
use Rattle.std.specs.Prelude.{◌≡◌, ◌&&◌, not, cond, List, [], ◌∷◌, ℕ, ltb, eqb}
use Rattle.eikonal.specs.Board.{earlier, local, diagonal, never, largest}
use Rattle.eikonal.specs.Order.{Cause, caused, first_of}
use Rattle.eikonal.specs.Refusals.{steep, half_wall, nothing_own}
use Rattle.eikonal.specs.Sides.{local_sides}
use Rattle.eikonal.specs.Ledger.{Sheet, sheet, Call, answered, own_answer, own_times, own_sides, own_work}
use Rattle.eikonal.specs.Order.{Refusal}
use Rattle.eikonal.specs.Order.{Own}
use Rattle.eikonal.specs.declared.Reply.{Reply}
use Rattle.eikonal.specs.declared.LocalReply.{LocalReply}

-- what a call on the front is lent for writing
pub record Lent : Type 0 where
  pub sheet : Sheet
  pub work : List ℕ

abbrev pub lent : (times sides work : List ℕ) → Lent
lent ts ss ws = record { sheet = sheet ts ss; work = ws }

-- A CALL WITH CAUSES OF ITS OWN that counts what the ledger does: its answer, the times and sides that it leaves, and the work list
pub record Counts (c : Call) (o : Own) (x : Reply) (before after : Lent) : Type 0 where
  pub answers : x ≡ own_answer c o before.sheet.times
  pub leaves : after.sheet ≡ sheet (own_times c o before.sheet.times) (own_sides c o before.sheet.times before.sheet.sides)
  pub works : after.work ≡ own_work c o before.sheet.times before.work

-- MARCH, ROUND AND RUN look for nothing more: a call keeps the ledger
abbrev pub Says : Call → Reply → (before after : Lent) → Type 0
Says c x l m = Counts c nothing_own x l m

-- a time handed in counts as never above 300,000,000
unfoldable pub seen : ℕ → ℕ
seen t = cond (ltb largest t) never t

-- the local rule: 5, 21, 23 where the numbers differ and a time over or under is not never; or the time and its sides
unfoldable pub local_causes : (g h o n : ℕ) → List Cause
local_causes g h o n =
    caused 5 (steep g h) ∷ caused 21 (half_wall g h) ∷ caused 23 (not (eqb g h) && not (eqb (earlier (seen o) (seen n)) never)) ∷ []

unfoldable pub local_refusal : (g h o n : ℕ) → Refusal
local_refusal g h o n = first_of (local_causes g h o n)

unfoldable pub local_answer : (number time sides : ℕ) → LocalReply
local_answer k t s = record { number = k; time = t; sides = s }

unfoldable pub local_answered : Refusal → (time sides : ℕ) → LocalReply
local_answered k t s = cond (eqb k.number 0) (local_answer 0 t s) (local_answer k.number 0 0)

unfoldable pub LocalSays : (g h l r u d o n : ℕ) → LocalReply → Type 0
LocalSays g h l r u d o n x =
    x ≡ local_answered (local_refusal g h o n) (local g h (seen l) (seen r) (seen u) (seen d) (seen o) (seen n))
    (local_sides g h (seen l) (seen r) (seen u) (seen d) (seen o) (seen n))

-- D, for both numbers of a pair alike: 5, or the step
unfoldable pub step_refusal : ℕ → Refusal
step_refusal s = first_of (caused 5 (ltb 4095 s) ∷ [])

unfoldable pub DiagonalSays : (s : ℕ) → Reply → Type 0
DiagonalSays s x = x ≡ answered (step_refusal s) (diagonal s)
