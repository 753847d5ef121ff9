-- The ledger of document 01: what every call answers and leaves behind, from the calls alone.
use Rattle.std.specs.Prelude.{cond, List, [], ◌∷◌, ◌++◌, ℕ, ◌*◌, eqb, length, drop, replicate}
use Rattle.eikonal.specs.Board.{Board, size, solved, marched, reached}
use Rattle.eikonal.specs.Tiles.{round, altered, rounds}
use Rattle.eikonal.specs.Sides.{march_sides, round_sides}
use Rattle.eikonal.specs.Order.{Cause, found, none, first_of}
use Rattle.eikonal.specs.Refusals.{Handed, board_causes, job_causes, list_causes, nothing_own}
use Rattle.eikonal.specs.Order.{Refusal}
use Rattle.eikonal.specs.Order.{Own}
use Rattle.eikonal.specs.declared.Reply.{Reply}
use Rattle.eikonal.specs.declared.Job.{Job}
use Rattle.eikonal.specs.declared.Job.TheVariants.{March, Round, Run}

-- A SHEET: the times and the sides of cells, as calls are lent them and leave them
pub record Sheet : Type 0 where
  pub times : List ℕ
  pub sides : List ℕ

abbrev pub sheet : (times sides : List ℕ) → Sheet
sheet ts ss = record { times = ts; sides = ss }

-- A CALL: a board of its own, what is to be done (a march, a round, a tile run: the code's own enum), the order of tiles, which a march has not, and
-- the lengths of the sides and of the work list that it is lent
pub record Call : Type 0 where
  pub handed : Handed
  pub job : Job
  pub order : List ℕ
  pub sides : ℕ
  pub work : ℕ

abbrev pub call : Handed → Job → (order : List ℕ) → (sides work : ℕ) → Call
call p j xs s w = record { handed = p; job = j; order = xs; sides = s; work = w }

-- the board that was handed in
abbrev pub call_board : Call → Board
call_board c = c.handed.board

-- ALL CAUSES OF A CALL that is lent so many times, in the one order, with those of its own: values that were found, by the slots where they are due
unfoldable pub call_causes : Call → Own → (times : ℕ) → List Cause
call_causes c o t =
    let b = call_board c in
    board_causes c.handed b.slow o.ticks o.kinds
    ++ found o.cell ∷ (job_causes b c.job c.order ++ list_causes (size b) t c.sides c.work o)

unfoldable pub own_refusal : Call → Own → (times : ℕ) → Refusal
own_refusal c o t = first_of (call_causes c o t)

-- what an accepted call enters: no side of before counts
unfoldable pub entered : Board → Job → (times : List ℕ) → Sheet
entered b (March z) ts = sheet (marched b z) (march_sides b z)
entered b (Round tw th m) ts = sheet (round b tw th m ts) (round_sides b tw th m ts)
entered b (Run tw th s z) ts = sheet (marched b z) (march_sides b z)

-- and what it counts, of the times alone: cells reached, entries altered, rounds
unfoldable pub counted : Board → Job → (times : List ℕ) → ℕ
counted b (March z) ts = reached z (solved b)
counted b (Round tw th m) ts = altered ts (round b tw th m ts)
counted b (Run tw th s z) ts = rounds b tw th s z

-- a refusal's number and place with the count 0, or zeros with the count
unfoldable pub answer : Refusal → (count : ℕ) → Reply
answer k c = record { number = k.number; count = c; place = k.place }

unfoldable pub answered : Refusal → (count : ℕ) → Reply
answered k c = cond (eqb k.number 0) (answer none c) (answer k 0)

-- what is there after a call by its refusal: one thing where it is accepted, another where not
abbrev pub if_taken : {A : Type 0} → Refusal → (taken kept : A) → A
if_taken k x y = cond (eqb k.number 0) x y

-- WHAT A CALL WITH CAUSES OF ITS OWN answers and leaves in the times, in the sides and in the work list, whose first 4 N entries are 0 after an
-- accepted one. A refused call leaves all as they were
module _ (c : Call) (o : Own) (ts : List ℕ) where
  abbrev pub refused_by : Refusal
  refused_by = own_refusal c o (length ts)

  unfoldable pub own_answer : Reply
  own_answer = answered refused_by (counted (call_board c) c.job ts)

  unfoldable pub own_times : List ℕ
  own_times = if_taken refused_by (entered (call_board c) c.job ts).times ts

  unfoldable pub own_sides : (sides : List ℕ) → List ℕ
  own_sides ss = if_taken refused_by (entered (call_board c) c.job ts).sides ss

  unfoldable pub own_work : (work : List ℕ) → List ℕ
  own_work ws = if_taken refused_by (replicate (4 * size (call_board c)) 0 ++ drop (4 * size (call_board c)) ws) ws

-- OF THE LEDGER'S CALLS: they have none
abbrev pub refusal : Call → (times : ℕ) → Refusal
refusal c t = own_refusal c nothing_own t

abbrev pub ledger_answer : Call → (times : List ℕ) → Reply
ledger_answer c ts = own_answer c nothing_own ts

abbrev pub times_after : Call → (times : List ℕ) → List ℕ
times_after c ts = own_times c nothing_own ts

-- whatever sides were lent: of them it is fed the length alone
abbrev pub sides_left : Call → (times sides : List ℕ) → List ℕ
sides_left c ts ss = own_sides c nothing_own ts ss

-- THE LEDGER holds one list of times, and the answers so far
pub record Book : Type 0 where
  pub answers : List Reply
  pub times : List ℕ

unfoldable pub book : List Reply → (times : List ℕ) → Book
book xs ts = record { answers = xs; times = ts }

unfoldable pub ledger : List Call → (so_far : List Reply) → (times : List ℕ) → Book
ledger [] xs ts = book xs ts
ledger (c ∷ cs) xs ts = ledger cs (xs ++ (ledger_answer c ts ∷ [])) (times_after c ts)

-- and what each call leaves in the sides that it is lent
unfoldable pub ledger_sides : List Call → (lent : List (List ℕ)) → (times : List ℕ) → List (List ℕ)
ledger_sides [] us ts = []
ledger_sides (c ∷ cs) [] ts = []
ledger_sides (c ∷ cs) (u ∷ us) ts = sides_left c ts u ∷ ledger_sides cs us (times_after c ts)

-- where each is lent those that the one before left: what the last of them leaves
unfoldable pub sides_along : List Call → (times sides : List ℕ) → List ℕ
sides_along [] ts ss = ss
sides_along (c ∷ cs) ts ss = sides_along cs (times_after c ts) (sides_left c ts ss)
