-- A board as internal functions are lent it, and what its cells see. Only internal contracts cite these: they are definitions.
use Rattle.std.specs.Prelude.{◌≡◌, ℕ, ◌+◌, ◌-◌, ◌*◌, ◌<◌, ◌≤◌, min, Bool, true, ◌≢◌, List, [], length, slice_index, slice_index_or}
use Rattle.eikonal.specs.Board.{Board, board_of}
use Rattle.eikonal.specs.Tiles.{counts_as}
use Rattle.eikonal.specs.Inner.Good.{Good}
use Rattle.queue.specs.Heap as queue
use Rattle.front.specs.Front.{gives}
use Rattle.front.specs.Seams.{seam, edge, across}
use Rattle.front.specs.declared.Shape.{Shape}

-- the board without its starts
abbrev pub land : Shape → (slow : List ℕ) → Board
land s ss = board_of s.width s.height s.storeys ss []

-- what the local rule gives a cell of a board that sees stored times as ghosts
abbrev pub rule_by : Board → (tw th : ℕ) → (stored : List ℕ) → ℕ → (ℕ → ℕ) → ℕ
rule_by b tw th ts = gives b tw th (λ c e. counts_as b ts e)

abbrev pub rule_at : Shape → (slow stored : List ℕ) → (c : ℕ) → (f : ℕ → ℕ) → ℕ
rule_at s ss ts = rule_by (land s ss) s.across s.down ts

-- where the work list keeps the tentative times, and the cells taken in the round
abbrev pub tentative : (work : List ℕ) → (n c : ℕ) → ℕ
tentative v n c = slice_index v (2 * n + c)

abbrev pub noted : (work : List ℕ) → (n i : ℕ) → ℕ
noted v n i = slice_index v (3 * n + i)

-- the earlier of what a cell sees a step back and a step on, across two seams, with tentative times f and stored ones as ghosts
abbrev pub both_seen : Board → (stored : List ℕ) → (f : ℕ → ℕ) → (c step before behind : ℕ) → ℕ
both_seen b ts f c k m o =
    min (across m (f (c + 0 - k)) (counts_as b ts (c + 0 - k))) (across o (f (c + k - 0)) (counts_as b ts (c + k - 0)))

-- seams between so many columns or rows, as laid so many times over
pub record Marked (count side many : ℕ) (marks : List ℕ) : Type 0 where
  pub at : (i : ℕ) → i ≤ count * many → slice_index marks i ≡ seam count side i
  pub last : slice_index_or marks 2049 0 + 1 ≡ count
  pub over : slice_index_or marks 2050 0 ≡ many

-- THE WORK LIST, with how many cells are pending
pub record Work : Type 0 where
  pub list : List ℕ
  pub size : ℕ

abbrev pub at : (list : List ℕ) → (size : ℕ) → Work
at v m = record { list = v; size = m }

-- a pending cell's time, never of a cell that is not pending
abbrev pub keys : Work → (c : ℕ) → ℕ
keys v c = queue.keys v.list v.size c

-- a legal board, lent with its stored times and its seams
pub record Ground (s : Shape) (slow stored cols rows : List ℕ) : Type 0 where
  pub good : Good (land s slow)
  pub cells : s.cells ≡ s.width * s.height * s.storeys
  pub across : 1 ≤ s.across
  pub down : 1 ≤ s.down
  pub many : length stored ≡ s.cells
  pub columns : Marked s.width s.across 1 cols
  pub lines : Marked s.height s.down s.storeys rows

-- of n cells in rows of w, numbered through all storeys, the one at a row and a column
pub record Site (n w c row col : ℕ) : Type 0 where
  pub on : c < n
  pub cell : c ≡ row * w + col
  pub column : col < w

-- from there a step along an axis, which is so many cells, so many rows and columns; a cell is before it, or behind it, only where it stays on the board
pub record Step (n w c row col step down right : ℕ) (before behind : Bool) : Type 0 where
  pub site : Site n w c row col
  pub span : step ≡ down * w + right
  pub short : step ≤ 65536
  pub back : before ≡ true → (down ≤ row) × (right ≤ col)
  pub on : behind ≡ true → (c + step < n) × (col + right < w)

-- a neighbour across a seam that is not the edge is on the board
pub record Sees (n : ℕ) (slow stored work : List ℕ) (c less more seam : ℕ) : Type 0 where
  pub slows : n ≤ length slow
  pub times : n ≤ length stored
  pub room : 4 * n ≤ length work
  pub cell : c < n
  pub far : seam ≢ edge → more ≤ n
  pub low : seam ≢ edge → less ≤ c + more
  pub high : seam ≢ edge → c + more - less < n
