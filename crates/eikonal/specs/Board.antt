-- Boards, the local rule, the solution and the march ("The board and its numbers", "The local rule" of document 01).
use Rattle.std.specs.Prelude.{◌≡◌, Bool, ◌||◌, cond, List, [], ◌∷◌, ℕ, zero, suc, ◌+◌, ◌*◌, ◌-◌, ◌/◌, ◌%◌, ◌<◌, max, leb, eqb, length, get_or, replicate}
use Rattle.eikonal.specs.Axes.{Axis, axis, sight}
unfoldable pub use Rattle.eikonal.specs.Axes.{never, earlier, square, least_from}
-- a Start, the code's own record: a front begins at a cell at a time
use Rattle.eikonal.specs.declared.Start.{Start}

-- the largest horizon and bound; a stored time above it counts as never
abbrev pub largest : ℕ
largest = 300000000

-- slownesses by cell, storey by storey and row by row
pub record Board : Type 0 where
  pub wide : ℕ
  pub high : ℕ
  pub storeys : ℕ
  pub slow : List ℕ
  pub starts : List Start

abbrev pub board_of : (wide high storeys : ℕ) → (slow : List ℕ) → List Start → Board
board_of w h s ss xs = record { wide = w; high = h; storeys = s; slow = ss; starts = xs }

-- N, the number of cells
unfoldable pub size : Board → ℕ
size b = b.wide * b.high * b.storeys

-- A SLOWNESS is a pair in one number, g + 65,536 h: g ticks to cross the cell along its row, h down its column. 0, both zero, is a wall
unfoldable pub slowness : Board → (c : ℕ) → ℕ
slowness b c = get_or b.slow c 0

unfoldable pub along_row : (slow : ℕ) → ℕ
along_row s = s % 65536

unfoldable pub down_column : (slow : ℕ) → ℕ
down_column s = s / 65536

-- ITS AXES: the columns of a row, the rows of a storey, and the storeys
abbrev pub column_axis : Board → Axis
column_axis b = axis 1 b.wide

abbrev pub row_axis : Board → Axis
row_axis b = axis b.wide b.high

abbrev pub storey_axis : Board → Axis
storey_axis b = axis (b.wide * b.high) b.storeys

abbrev pub axes : Board → List Axis
axes b = column_axis b ∷ row_axis b ∷ storey_axis b ∷ []

-- THE LOCAL RULE: the least t, not below the earliest of a, b and z, with p² h² + q² g² + r² g² at least g² h².
-- z is the time between storeys: where the third square counts, the numbers are equal
unfoldable pub passes : (g h a b z t : ℕ) → Bool
passes g h a b z t = leb (square g * square h) (square (t - a) * square h + square (t - b) * square g + square (t - z) * square g)

unfoldable pub local_of : (g h a b z : ℕ) → ℕ
local_of g h a b z =
    let m = earlier a (earlier b z) in
    cond (eqb (g * h) 0 || eqb m never) never (least_from (max g h) m (λ t. passes g h a b z t))

unfoldable pub local : (g h left right above below over under : ℕ) → ℕ
local g h l r u d o n = local_of g h (earlier l r) (earlier u d) (earlier o n)

-- D(s): the least d with 2 d² at least s²
unfoldable pub diagonal : ℕ → ℕ
diagonal s = least_from s 0 (λ d. leb (square s) (2 * square d))

-- the time of a cell's own start, never where it has none
unfoldable pub start_time : (c : ℕ) → List Start → ℕ
start_time c [] = never
start_time c (x ∷ xs) = cond (eqb x.cell c) x.time (start_time c xs)

-- what the local rule gives a cell from the times that it sees; off the board is never
unfoldable pub arrival : Board → (c : ℕ) → (seen : ℕ → ℕ) → ℕ
arrival b c f =
    local_of (along_row (slowness b c)) (down_column (slowness b c)) (sight (column_axis b) c f) (sight (row_axis b) c f) (sight (storey_axis b) c f)

-- a cell's time: the earlier of its start's and what the local rule gives
unfoldable pub met : Board → (c : ℕ) → (seen : ℕ → ℕ) → ℕ
met b c f = earlier (start_time c b.starts) (arrival b c f)

-- times by cell
unfoldable pub time : List ℕ → (c : ℕ) → ℕ
time ts c = get_or ts c never

-- EVERY CELL MEETS THE RULE
unfoldable pub Meets : Board → (times : List ℕ) → Type 0
Meets b ts =
    (length ts ≡ size b) × ((c : ℕ) → c < size b → time ts c ≡ met b c (λ e. time ts e))

-- THE SOLUTION, worked out by passes over the board: from all never, as many passes as there are cells
unfoldable pub one_pass : (left c : ℕ) → Board → (seen : ℕ → ℕ → ℕ) → List ℕ
one_pass zero c b f = []
one_pass (suc n) c b f = met b c (λ e. f c e) ∷ one_pass n (suc c) b f

unfoldable pub passes_of : (left : ℕ) → Board → (seen : List ℕ → ℕ → ℕ → ℕ) → (times : List ℕ) → List ℕ
passes_of zero b f ts = ts
passes_of (suc n) b f ts = passes_of n b f (one_pass (size b) 0 b (f ts))

unfoldable pub all_never : Board → List ℕ
all_never b = replicate (size b) never

unfoldable pub solved : Board → List ℕ
solved b = passes_of (size b) b (λ ts. λ c. λ e. time ts e) (all_never b)

unfoldable pub cut : (horizon : ℕ) → List ℕ → List ℕ
cut h [] = []
cut h (t ∷ ts) = cond (leb t h) t never ∷ cut h ts

-- THE MARCH: each time up to the horizon, never elsewhere
unfoldable pub marched : Board → (horizon : ℕ) → List ℕ
marched b h = cut h (solved b)

-- how many cells are reached
unfoldable pub reached : (horizon : ℕ) → List ℕ → ℕ
reached h [] = 0
reached h (t ∷ ts) = cond (leb t h) 1 0 + reached h ts
