-- The writing of a round: entry by entry, row by row and tile by tile the times become final. Only internal contracts
-- cite these: they are definitions.
use Rattle.std.specs.Prelude.{◌≡◌, ◌⊎◌, List, [], ℕ, ◌*◌, ◌/◌, ◌%◌, ◌≤◌, ◌<◌, length, get_or}
use Rattle.eikonal.specs.Board.{time}
use Rattle.eikonal.specs.Tiles.{tile_of, altered}
use Rattle.front.specs.Board.{land}
use Rattle.rows.specs.Lists.{due}
use Rattle.front.specs.declared.Shape.{Shape}

-- THE INVARIANT of all of it: an entry is as it was, or final; those in question are final; and so many differ from before, as bare numbers
pub record Entered (Asked : ℕ → Type 0) (final : ℕ → ℕ) (old new : List ℕ) (count : ℕ) : Type 0 where
  pub long : length new ≡ length old
  pub each : (c : ℕ) → c < length old → (get_or new c 0 ≡ get_or old c 0) ⊎ (get_or new c 0 ≡ final c)
  pub done : (c : ℕ) → c < length old → Asked c → get_or new c 0 ≡ final c
  pub counted : count ≡ altered old new

-- every entry
abbrev pub Everywhere : ℕ → Type 0
Everywhere c = Unit {0}

-- the cells of a board so wide that lie in some rows and columns
pub record Block (wide top bottom left right c : ℕ) : Type 0 where
  pub top_most : top ≤ c / wide
  pub bottom_most : c / wide < bottom
  pub left_most : left ≤ c % wide
  pub right_most : c % wide < right

-- the cells that lie in some rows and columns of their storey, whichever it is: rows are numbered through all storeys
pub record Pillar (wide high top bottom left right c : ℕ) : Type 0 where
  pub top_most : top ≤ c / wide % high
  pub bottom_most : c / wide % high < bottom
  pub left_most : left ≤ c % wide
  pub right_most : c % wide < right

-- those of them in the rows before one
pub record PillarBefore (wide high top bottom left right row c : ℕ) : Type 0 where
  pub is : Pillar wide high top bottom left right c
  pub before : c / wide < row

-- the number of a cell's tile
abbrev pub tile_in : Shape → (c : ℕ) → ℕ
tile_in s c = tile_of (land s []) s.across s.down c

-- sides and storeys of a board, sides of its tiles, and lists with room for its cells
pub record Fitting (s : Shape) (times work : List ℕ) : Type 0 where
  pub cells : s.cells ≡ s.height * s.storeys * s.width
  pub few : s.cells ≤ 65536
  pub wide_low : 1 ≤ s.width
  pub wide_high : s.width ≤ 256
  pub high_low : 1 ≤ s.height
  pub high_high : s.height ≤ 256
  pub storeys_high : s.storeys ≤ 8
  pub across_low : 1 ≤ s.across
  pub across_high : s.across ≤ 256
  pub down_low : 1 ≤ s.down
  pub down_high : s.down ≤ 256
  pub many : length times ≡ s.cells
  pub space : 4 * s.cells ≤ length work

-- WHAT A ROUND LEAVES: each cell's tentative time up to the bound, else never, and how many entries differ
pub record Wrote (s : Shape) (bound : ℕ) (work old new : List ℕ) (count : ℕ) : Type 0 where
  pub long : length new ≡ length old
  pub each : (c : ℕ) → c < s.cells → time new c ≡ due bound work s.cells c
  pub counted : count ≡ altered old new
