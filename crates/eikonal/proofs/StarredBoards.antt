-- The starred boards of document 01 and boards worked by hand, one table and one proof over it: a test that is computed over the table, and what it
-- shows of each row.
use mathlib.Core.Path.{◌≡◌, refl, ap₂}
use mathlib.Core.Bool.{Bool, true, false, ◌&&◌, false≢true}
use mathlib.Core.List.{List, [], ◌∷◌}
use Prim.Native.Nat.{ℕ, ◌+◌, ◌*◌, ◌-◌}
use lib.Dec.{eqb}
use lib.ListN.{replicate}
use borrow.Author.Tests.{eqb-true}
use Rattle.eikonal.specs.Axes.{place, sight}
use Rattle.eikonal.specs.Board.{Board, board_of, never, largest, size, slowness, along_row, down_column, earlier, least_from, square, passes}
use Rattle.eikonal.specs.Board.{local_of, local, diagonal, start_time, arrival, met, time, one_pass, passes_of, all_never, solved, cut, marched}
use Rattle.eikonal.specs.Tiles.{up, tile_of, counts_as, round, solved_in_tiles, after_rounds}
use Rattle.eikonal.specs.Sides.{side, sides_of, local_sides, sides_seen, cell_sides, sides_from, march_sides, round_sides, sides_after}
use Rattle.eikonal.specs.Order.{cause, cause_at, first_of}
use Rattle.eikonal.specs.Refusals.{steep, half_wall}
use Rattle.eikonal.specs.Ledger.{answer, answered}
use Rattle.eikonal.specs.Entry.{seen, local_causes, local_refusal, local_answer, local_answered, step_refusal}
use Rattle.eikonal.specs.declared.Reply.{Reply}
use Rattle.eikonal.specs.declared.LocalReply.{LocalReply}
use Rattle.eikonal.proofs.Good.{and-true}

pub data Row : Type 0 where
  rule_gives : (g h a b z number time sides : ℕ) → Row
  step_gives : (s number count : ℕ) → Row
  march_gives : Board → (horizon : ℕ) → (times sides : List ℕ) → Row
  rounds_give : Board → (tw th stride horizon rounds : ℕ) → (times sides : List ℕ) → Row

-- times (a, b, z) are the time to the left, the time above and the time over
abbrev pub rule_answer : (g h a b z : ℕ) → LocalReply
rule_answer g h a b z =
    local_answered (local_refusal g h z never) (local g h a never b never z never) (local_sides g h a never b never z never)

unfoldable pub Holds : Row → Type 0
Holds (rule_gives g h a b z n t s) = rule_answer g h a b z ≡ local_answer n t s
Holds (step_gives s n c) = answered (step_refusal s) (diagonal s) ≡ answer (cause n) c
Holds (march_gives b h ts ss) = (marched b h ≡ ts) × (march_sides b h ≡ ss)
Holds (rounds_give b tw th s h k ts ss) = (after_rounds k b tw th s h ≡ ts) × (sides_after k b tw th s h ≡ ss)

unfoldable pub AllHold : List Row → Type 0
AllHold [] = Unit {0}
AllHold (r ∷ rs) = Holds r × AllHold rs

-- g ticks along a row, h down a column, in every cell; a front begins at the first
abbrev pub even : (wide high g h : ℕ) → Board
even w k g h = board_of w k 1 (replicate (w * k) (g + 65536 * h)) (record { cell = 0; time = 0 } ∷ [])

abbrev pub three : Board
three = even 3 3 10 10

-- a row with a front from each end. In tiles of one cell, round 3 on the first below and round 7 on the second alter no time and turn the side of a cell
-- that both fronts come to at once
abbrev pub meeting : (wide begins : ℕ) → Board
meeting w t = board_of w 1 1 (replicate w 65537) (record { cell = 0; time = 0 } ∷ record { cell = w - 1; time = t } ∷ [])

unfoldable pub table : List Row
table =
    rule_gives 10 10 0 never never 0 10 1
    ∷ rule_gives 10 10 0 0 never 0 8 5
    ∷ rule_gives 10 10 0 4 never 0 9 5
    ∷ rule_gives 10 10 0 5 never 0 10 5
    ∷ rule_gives 10 10 0 10 never 0 10 1
    ∷ rule_gives 5 5 0 1 never 0 4 5
    ∷ rule_gives 1 1 0 0 never 0 1 5
    ∷ rule_gives 0 0 0 0 never 0 never 0
    ∷ rule_gives 10 20 0 never never 0 10 1
    ∷ rule_gives 10 20 never 0 never 0 20 4
    ∷ rule_gives 10 20 0 0 never 0 9 5
    ∷ rule_gives 10 10 0 0 0 0 6 21
    ∷ rule_gives 10 10 0 0 7 0 8 21
    ∷ rule_gives 10 10 0 0 8 0 8 5
    ∷ rule_gives 10 10 never never 0 0 10 16
    ∷ rule_gives 10 0 0 0 never 21 0 0
    ∷ rule_gives 0 10 0 0 never 21 0 0
    ∷ rule_gives 4096 0 0 0 never 5 0 0
    ∷ rule_gives 10 20 0 0 0 23 0 0
    ∷ rule_gives 10 0 0 0 0 21 0 0
    ∷ rule_gives 4096 0 0 0 0 5 0 0
    ∷ step_gives 0 0 0
    ∷ step_gives 7 0 5
    ∷ step_gives 4095 0 2896
    ∷ step_gives 4096 5 0
    ∷ march_gives three largest (0 ∷ 10 ∷ 20 ∷ 10 ∷ 18 ∷ 26 ∷ 20 ∷ 26 ∷ 34 ∷ []) (0 ∷ 1 ∷ 1 ∷ 4 ∷ 5 ∷ 5 ∷ 4 ∷ 5 ∷ 5 ∷ [])
    ∷ march_gives three 33 (0 ∷ 10 ∷ 20 ∷ 10 ∷ 18 ∷ 26 ∷ 20 ∷ 26 ∷ never ∷ []) (0 ∷ 1 ∷ 1 ∷ 4 ∷ 5 ∷ 5 ∷ 4 ∷ 5 ∷ 0 ∷ [])
    ∷ march_gives (even 2 2 10 20) largest (0 ∷ 10 ∷ 20 ∷ 26 ∷ []) (0 ∷ 1 ∷ 4 ∷ 5 ∷ [])
    ∷ rounds_give (meeting 4 1) 1 1 10 10 2 (0 ∷ 1 ∷ 2 ∷ 1 ∷ []) (0 ∷ 1 ∷ 2 ∷ 0 ∷ [])
    ∷ rounds_give (meeting 4 1) 1 1 10 10 3 (0 ∷ 1 ∷ 2 ∷ 1 ∷ []) (0 ∷ 1 ∷ 1 ∷ 0 ∷ [])
    ∷ rounds_give (meeting 8 5) 1 1 10 10 6 (0 ∷ 1 ∷ 2 ∷ 3 ∷ 4 ∷ 5 ∷ 6 ∷ 5 ∷ []) (0 ∷ 1 ∷ 1 ∷ 1 ∷ 1 ∷ 1 ∷ 2 ∷ 0 ∷ [])
    ∷ rounds_give (meeting 8 5) 1 1 10 10 7 (0 ∷ 1 ∷ 2 ∷ 3 ∷ 4 ∷ 5 ∷ 6 ∷ 5 ∷ []) (0 ∷ 1 ∷ 1 ∷ 1 ∷ 1 ∷ 1 ∷ 1 ∷ 0 ∷ [])
    ∷ []

-- ---- the test
same-list : List ℕ → List ℕ → Bool
same-list [] [] = true
same-list [] (y ∷ ys) = false
same-list (x ∷ xs) [] = false
same-list (x ∷ xs) (y ∷ ys) = eqb x y && same-list xs ys

same_reply : Reply → (number count : ℕ) → Bool
same_reply r n c = eqb r.number n && (eqb r.count c && eqb r.place 0)

same-local : LocalReply → (number time sides : ℕ) → Bool
same-local r n t s = eqb r.number n && (eqb r.time t && eqb r.sides s)

right : Row → Bool
right (rule_gives g h a b z n t s) = same-local (rule_answer g h a b z) n t s
right (step_gives s n c) = same_reply (answered (step_refusal s) (diagonal s)) n c
right (march_gives b h ts ss) = same-list (marched b h) ts && same-list (march_sides b h) ss
right (rounds_give b tw th s h k ts ss) = same-list (after_rounds k b tw th s h) ts && same-list (sides_after k b tw th s h) ss

all_right : List Row → Bool
all_right [] = true
all_right (r ∷ rs) = right r && all_right rs

-- ---- what it shows
list_same : (xs ys : List ℕ) → same-list xs ys ≡ true → xs ≡ ys
unfolding same-list
list_same [] [] e = refl
list_same [] (y ∷ ys) e = absurd (false≢true e)
list_same (x ∷ xs) [] e = absurd (false≢true e)
list_same (x ∷ xs) (y ∷ ys) e =
    let both = and-true (eqb x y) (same-list xs ys) e in
    ap₂ (λ (a : ℕ) (l : List ℕ). a ∷ l) (eqb-true x y both.0) (list_same xs ys both.1)

lists_same : (xs ys us vs : List ℕ) → same-list xs ys && same-list us vs ≡ true → (xs ≡ ys) × (us ≡ vs)
lists_same xs ys us vs e = let both = and-true (same-list xs ys) (same-list us vs) e in (list_same xs ys both.0, list_same us vs both.1)

reply_same : (r : Reply) (n c : ℕ) → same_reply r n c ≡ true → r ≡ answer (cause n) c
unfolding same_reply answer
reply_same r n c e =
    let both = and-true (eqb r.number n) _ e in
    let rest = and-true (eqb r.count c) (eqb r.place 0) both.1 in
    λ i. answer (cause_at (eqb-true r.number n both.0 i) (eqb-true r.place 0 rest.1 i)) (eqb-true r.count c rest.0 i)

local_same : (r : LocalReply) (n t s : ℕ) → same-local r n t s ≡ true → r ≡ local_answer n t s
unfolding same-local local_answer
local_same r n t s e =
    let both = and-true (eqb r.number n) _ e in
    let rest = and-true (eqb r.time t) (eqb r.sides s) both.1 in
    λ i. local_answer (eqb-true r.number n both.0 i) (eqb-true r.time t rest.0 i) (eqb-true r.sides s rest.1 i)

holds : (r : Row) → right r ≡ true → Holds r
unfolding right Holds
holds (rule_gives g h a b z n t s) e = local_same (rule_answer g h a b z) n t s e
holds (step_gives s n c) e = reply_same (answered (step_refusal s) (diagonal s)) n c e
holds (march_gives b h ts ss) e = lists_same (marched b h) ts (march_sides b h) ss e
holds (rounds_give b tw th s h k ts ss) e = lists_same (after_rounds k b tw th s h) ts (sides_after k b tw th s h) ss e

all_hold : (rs : List Row) → all_right rs ≡ true → AllHold rs
unfolding all_right AllHold
all_hold [] e = tt
all_hold (r ∷ rs) e = let both = and-true (right r) (all_right rs) e in (holds r both.0, all_hold rs both.1)

computed : all_right table ≡ true
unfolding all_right right table same-list same_reply same-local answered answer local_answered local_answer local_refusal local_causes first_of
    steep half_wall seen step_refusal local local_of local_sides side sides_of diagonal earlier
    least_from passes square marched cut solved passes_of one_pass all_never met arrival start_time size slowness along_row down_column time sight place
    up tile_of counts_as round solved_in_tiles after_rounds sides_seen cell_sides sides_from march_sides round_sides sides_after
computed = refl

pub starred_boards : AllHold table
starred_boards = all_hold table computed
