-- Boards that are retouched late (Card 14 of document 02).
use Rattle.std.specs.Prelude.{◌≡◌, List, ◌⊎◌, ◌≢◌, ℕ, ◌≤◌, ◌<◌, get_or}
use Rattle.eikonal.specs.Board.{Board, board_of, never, size, slowness, along_row, down_column, time}
use Rattle.eikonal.specs.Ledger.{Sheet}

-- a time of T or later, or never; and one that is earlier than T
abbrev pub Late : (T t : ℕ) → Type 0
Late T t = (T ≤ t) ⊎ (t ≡ never)

abbrev pub Early : (T t : ℕ) → Type 0
Early T t = (t < T) × (t ≢ never)

-- a slowness r no lower than s, part by part, a wall being highest of all
abbrev pub NoLower : (s r : ℕ) → Type 0
NoLower s r = (r ≡ 0) ⊎ ((s ≢ 0) × (along_row s ≤ along_row r) × (down_column s ≤ down_column r))

-- THE SECOND BOARD has other slownesses; size and starts are the first's
abbrev pub retouched : Board → (slow : List ℕ) → Board
retouched b ss = board_of b.wide b.high b.storeys ss b.starts

-- none of them is lower
abbrev pub Raised : Board → (slow : List ℕ) → Type 0
Raised b ss = (c : ℕ) → c < size b → NoLower (slowness b c) (slowness (retouched b ss) c)

-- every cell that differs is late, by these times
abbrev pub DifferLate : Board → (slow : List ℕ) → (T : ℕ) → (times : ℕ → ℕ) → Type 0
DifferLate b ss T f = (c : ℕ) → c < size b → slowness b c ≢ slowness (retouched b ss) c → Late T (f c)

-- THE SAME EARLY: each cell earlier than T has the same time and sides on both sheets, and no other cell of the second comes before T
pub record SameEarly (cells T : ℕ) (p q : Sheet) : Type 0 where
  pub same_times : (c : ℕ) → c < cells → Early T (time p.times c) → time q.times c ≡ time p.times c
  pub same_sides : (c : ℕ) → c < cells → Early T (time p.times c) → get_or q.sides c 0 ≡ get_or p.sides c 0
  pub others_late : (c : ℕ) → c < cells → Late T (time p.times c) → Late T (time q.times c)
