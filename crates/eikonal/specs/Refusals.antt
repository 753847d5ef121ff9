-- Why boards, marches, rounds and tile runs are refused ("Turned down" of document 01, Cards 2, 6, 10 and 12): their causes, as lists in the one order.
use Rattle.std.specs.Prelude.{Bool, true, false, ◌&&◌, ◌||◌, not, cond, List, [], ◌∷◌, ◌++◌, map, ℕ, zero, suc, ◌*◌, ltb, leb, eqb, length}
use Rattle.std.specs.Bool.{beq}
use Rattle.eikonal.specs.Board.{Board, board_of, size, slowness, along_row, down_column, largest}
use Rattle.eikonal.specs.declared.Start.{Start}
use Rattle.eikonal.specs.Tiles.{tile_count}
use Rattle.eikonal.specs.Order.{Cause, caused, at_fault, found, none, first_of}
use Rattle.eikonal.specs.Order.{Refusal}
use Rattle.eikonal.specs.Order.{Own}
use Rattle.eikonal.specs.declared.Job.{Job}
use Rattle.eikonal.specs.declared.Job.TheVariants.{March, Round, Run}

-- numbers from the least to the most
abbrev pub within : (least most n : ℕ) → Bool
within l m n = leb l n && leb n m

-- the sides of a board or of a tile
unfoldable pub sides_good : (wide high : ℕ) → Bool
sides_good w h = within 1 256 w && within 1 256 h

-- A PAIR that is no slowness: a number is above 4,095; one is 0 and the other not
unfoldable pub steep : (g h : ℕ) → Bool
steep g h = ltb 4095 g || ltb 4095 h

unfoldable pub half_wall : (g h : ℕ) → Bool
half_wall g h = not (beq (eqb g 0) (eqb h 0))

-- one that is a slowness on a single storey alone: its numbers differ
unfoldable pub uneven : (g h : ℕ) → Bool
uneven g h = not (eqb g h)

unfoldable pub any_pair : (test : (g h : ℕ) → Bool) → (slow : List ℕ) → Bool
any_pair p [] = false
any_pair p (s ∷ ss) = p (along_row s) (down_column s) || any_pair p ss

-- STOREYS that make no house: they are not 1 to 8, the cells are too many, or they are 2 or more and an uneven pair was met
unfoldable pub ill_stacked : (wide high storeys : ℕ) → (uneven : Bool) → Bool
ill_stacked w h s p = not (within 1 8 s) || (ltb 65536 (w * h * s) || (ltb 1 s && p))

-- 5, 21, 23 of pairs on a board with these sides and storeys: each looks at the whole list
unfoldable pub pair_causes : (wide high storeys : ℕ) → (slow : List ℕ) → List Cause
pair_causes w h s ss =
    caused 5 (any_pair steep ss) ∷ caused 21 (any_pair half_wall ss) ∷ caused 23 (ill_stacked w h s (any_pair uneven ss)) ∷ []

unfoldable pub house_refusal : (wide high storeys : ℕ) → (slow : List ℕ) → Refusal
house_refusal w h s ss = first_of (pair_causes w h s ss)

-- THE FIRST START AT FAULT by a test of its cell and of the least that it may be, which is one more than the cell before it:
-- its place, or the list's length where none is at fault
unfoldable pub first_fault : (good : (least cell : ℕ) → Bool) → (least : ℕ) → List Start → ℕ
first_fault p l [] = 0
first_fault p l (x ∷ xs) = cond (p l x.cell) (suc (first_fault p (suc x.cell) xs)) 0

-- a cell on a board of n cells
abbrev pub on_board : (n least cell : ℕ) → Bool
on_board n l c = ltb c n

-- the first off the board, and the first not above the one before: the first of all may be any cell
abbrev pub first_off : (n : ℕ) → List Start → ℕ
first_off n xs = first_fault (on_board n) 0 xs

abbrev pub first_low : List Start → ℕ
first_low xs = first_fault leb 0 xs

unfoldable pub late : List Start → Bool
late [] = false
late (x ∷ xs) = ltb 1000000 x.time || late xs

unfoldable pub on_wall : Board → List Start → Bool
on_wall b [] = false
on_wall b (x ∷ xs) = eqb (slowness b x.cell) 0 || on_wall b xs

-- 7, 18, 8 of the records alone, on a board of n cells; then 9, which needs the ground: each looks at the whole list
unfoldable pub record_causes : (n : ℕ) → List Start → List Cause
record_causes n xs = at_fault 7 (first_off n xs) (length xs) ∷ at_fault 18 (first_low xs) (length xs) ∷ caused 8 (late xs) ∷ []

unfoldable pub start_causes : Board → List Cause
start_causes b = record_causes (size b) b.starts ++ caused 9 (on_wall b b.starts) ∷ []

-- A BOARD AS IT IS HANDED IN: its starts are records, or plain lists of cells and of times; whether those were of one length
pub record Handed : Type 0 where
  pub board : Board
  pub paired : Bool

abbrev pub handed : Board → (paired : Bool) → Handed
handed b p = record { board = b; paired = p }

unfoldable pub by_records : (w h storeys : ℕ) → (slow : List ℕ) → List Start → Handed
by_records w h s ss xs = handed (board_of w h s ss xs) true

-- of lists of unequal length the shorter counts
unfoldable pub starts_of : (cells begins : List ℕ) → List Start
starts_of [] ts = []
starts_of (c ∷ cs) [] = []
starts_of (c ∷ cs) (t ∷ ts) = record { cell = c; time = t } ∷ starts_of cs ts

unfoldable pub by_lists : (w h storeys : ℕ) → (slow cells begins : List ℕ) → Handed
by_lists w h s ss cs ts = handed (board_of w h s ss (starts_of cs ts)) (eqb (length cs) (length ts))

-- the plain lists of records
unfoldable pub cells_of : List Start → List ℕ
cells_of xs = map (λ s. s.cell) xs

unfoldable pub begins_of : List Start → List ℕ
begins_of xs = map (λ s. s.time) xs

-- THE CAUSES OF A BOARD: 2, 4, 5, 21, 23, 7, 18, 8, 9. Plain lists of unequal length are 4 too. All pairs are looked at, the ground's in front of
-- them where there is one; what a call looks for behind 2 and behind 23, as 3 and 24, was found already
unfoldable pub board_causes : Handed → (pairs : List ℕ) → (behind-2 behind-23 : Refusal) → List Cause
board_causes p ss u v =
    let b = p.board in
    caused 2 (not (sides_good b.wide b.high)) ∷ found u ∷ caused 4 (not (p.paired && eqb (length b.slow) (size b)))
    ∷ (pair_causes b.wide b.high b.storeys ss ++ found v ∷ start_causes b)

unfoldable pub handed_refusal : Handed → Refusal
handed_refusal p = first_of (board_causes p p.board.slow none none)

abbrev pub board_refusal : Board → Refusal
board_refusal b = handed_refusal (handed b true)

-- an order is a list of every tile number once
unfoldable pub member : ℕ → List ℕ → Bool
member v [] = false
member v (x ∷ xs) = eqb x v || member v xs

unfoldable pub all_there : (left : ℕ) → List ℕ → Bool
all_there zero xs = true
all_there (suc n) xs = member n xs && all_there n xs

unfoldable pub order_good : Board → (tw th : ℕ) → List ℕ → Bool
order_good b tw th xs = eqb (length xs) (tile_count b tw th) && all_there (tile_count b tw th) xs

-- 11, 12: the tiles' sides, then their order
unfoldable pub tile_causes : Board → (tw th : ℕ) → (order : List ℕ) → List Cause
tile_causes b tw th xs = caused 11 (not (sides_good tw th)) ∷ caused 12 (not (order_good b tw th xs)) ∷ []

-- 10, 11, 12 of what is to be done; a march has no tiles
unfoldable pub job_causes : Board → Job → (order : List ℕ) → List Cause
job_causes b (March z) xs = caused 10 (ltb largest z) ∷ []
job_causes b (Round tw th m) xs = caused 10 (ltb largest m) ∷ tile_causes b tw th xs
job_causes b (Run tw th s z) xs = caused 10 (ltb largest z || not (within 1 largest s)) ∷ tile_causes b tw th xs

-- 13, 14: for N cells the list of times is N long; the list of sides is too, and the work list 4 N at least; with what a call looks for of its own
unfoldable pub list_causes : (n times sides work : ℕ) → Own → List Cause
list_causes n t s w o =
    caused 13 (not (eqb t n)) ∷ found o.times ∷ caused 14 (not (eqb s n) || ltb w (4 * n)) ∷ found o.lists ∷ found o.last ∷ []

-- NOTHING OF ITS OWN: marches, rounds and tile runs look for no more than this page has
abbrev pub nothing_own : Own
nothing_own = record { ticks = none; kinds = none; cell = none; times = none; lists = none; last = none }
