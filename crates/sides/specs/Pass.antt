-- The pass over a board that finds its cells' sides. Only internal contracts cite these: they are definitions.
use Rattle.std.specs.Prelude.{◌≡◌, List, [], ◌≢◌, ℕ, ◌+◌, ◌*◌, ◌-◌, ◌≤◌, ◌<◌, length, get_or, take, drop}
use Rattle.eikonal.specs.Axes.{before, behind}
use Rattle.eikonal.specs.Board.{never, column_axis, row_axis, storey_axis}
use Rattle.eikonal.specs.Tiles.{counts_as}
use Rattle.eikonal.specs.Inner.Good.{Good}
use Rattle.eikonal.specs.Inner.Sides.{sides_by}
use Rattle.eikonal.specs.Sides.{side}
use Rattle.front.specs.Front.{ghosted, Among, NotAmong}
use Rattle.front.specs.Seams.{edge, across}
use Rattle.front.specs.Board.{land, tentative, Ground}
use Rattle.front.specs.declared.Shape.{Shape}
use Rattle.sides.specs.Row.{shown, flat}

-- never, as often as a row has cells
pub record Off (w : ℕ) (off : List ℕ) : Type 0 where
  pub long : w ≤ length off
  pub never : (i : ℕ) → i < w → get_or off i 0 ≡ never

-- a row that is seen across a seam that is not the edge is on the board
pub record Lines (seam : ℕ) (own far : List ℕ) (c less more w : ℕ) : Type 0 where
  pub small : (c ≤ 65536) × (more ≤ 65536) × (w ≤ 256)
  pub low : seam ≢ edge → less ≤ c + more
  pub own_fits : seam ≢ edge → c + more + w ≤ length own + less
  pub far_fits : seam ≢ edge → c + more + w ≤ length far + less

-- what is seen there, cell by cell
pub record SeenRow (seam : ℕ) (own far : List ℕ) (e w : ℕ) (row : List ℕ) : Type 0 where
  pub long : length row ≡ w
  pub each : (i : ℕ) → i < w → get_or row i 0 ≡ across seam (get_or own (e + i) 0) (get_or far (e + i) 0)

-- some legal board, its times in its tiles and beyond borders, and its seams
pub record Legal (s : Shape) (own far off cols rows sides : List ℕ) : Type 0 where
  pub slow : List ℕ
  pub ground : Ground s slow own cols rows
  pub narrow : s.across ≤ 256
  pub beyond : length far ≡ s.cells
  pub nothing : Off s.width off
  pub long : length sides ≡ s.cells

-- what a cell sees
abbrev pub seen_at : Shape → (own far : List ℕ) → (c e : ℕ) → ℕ
seen_at s os fs c e = ghosted (land s []) s.across s.down (λ d a. get_or fs a 0) (λ a. get_or os a 0) c e

-- its sides on its storey, and its side between storeys
abbrev pub flat_at : Shape → (own far : List ℕ) → (bound c : ℕ) → ℕ
flat_at s os fs m c =
    let x = column_axis (land s []) in
    let y = row_axis (land s []) in
    let f = seen_at s os fs c in
    flat (before x c f) (behind x c f) (before y c f) (behind y c f) (shown m (get_or os c 0))

abbrev pub stack_at : Shape → (own far : List ℕ) → (bound c : ℕ) → ℕ
stack_at s os fs m c =
    let z = storey_axis (land s []) in
    let f = seen_at s os fs c in
    side (behind z c f) (before z c f) (shown m (get_or os c 0))

-- A CELL'S SIDES by its own time, whatever its start
abbrev pub found_at : Shape → (own far : List ℕ) → (bound c : ℕ) → ℕ
found_at s os fs m c =
    sides_by (land s []) m c (seen_at s os fs c) (get_or os c 0)

-- the entries from lo on and below hi are done, all others are as they were
pub record Done (f : ℕ → ℕ) (lo hi : ℕ) (old new : List ℕ) : Type 0 where
  pub long : length new ≡ length old
  pub each : (c : ℕ) → Among lo hi c → get_or new c 0 ≡ f c
  pub others : (c : ℕ) → NotAmong lo hi c → get_or new c 0 ≡ get_or old c 0

-- ---- A WHOLE BOARD, as if one tile covered it
pub record SomeLand (s : Shape) (times work sides : List ℕ) : Type 0 where
  pub slow : List ℕ
  pub good : Good (land s slow)
  pub cells : s.cells ≡ s.width * s.height * s.storeys
  pub many : length times ≡ s.cells
  pub room : 4 * s.cells ≤ length work
  pub long : length sides ≡ s.cells

pub record FoundWhole (s : Shape) (bound : ℕ) (times work work' sides sides' : List ℕ) : Type 0 where
  pub kept : length work' ≡ length work
  pub rest : (j : ℕ) → s.width ≤ j → get_or work' j 0 ≡ get_or work j 0
  pub long : length sides' ≡ length sides
  pub each : (c : ℕ) → c < s.cells → get_or sides' c 0 ≡ sides_by (land s []) bound c (λ e. get_or times e 0) (get_or times c 0)

-- ---- A ROUND: what so many stored times count as stands behind the first N entries of the work list
pub record Ghosts (s : Shape) (slow stored : List ℕ) (many : ℕ) (work work' : List ℕ) : Type 0 where
  pub long : length work' ≡ length work
  pub each : (e : ℕ) → e < many → get_or work' (s.cells + e) 0 ≡ counts_as (land s slow) stored e
  pub front : (j : ℕ) → j < s.cells → get_or work' j 0 ≡ get_or work j 0
  pub rest : (j : ℕ) → 2 * s.cells ≤ j → get_or work' j 0 ≡ get_or work j 0

-- where the work list has the times of a cell's own tile, and those beyond borders
abbrev pub own_part : Shape → (work : List ℕ) → List ℕ
own_part s v = take (3 * s.cells - 2 * s.cells) (drop (2 * s.cells) v)

abbrev pub far_part : Shape → (work : List ℕ) → List ℕ
far_part s v = take (2 * s.cells - s.cells) (drop s.cells v)

-- and never in front
pub record Laid (s : Shape) (work sides : List ℕ) : Type 0 where
  pub narrow : s.across ≤ 256
  pub room : 4 * s.cells ≤ length work
  pub off : (i : ℕ) → i < s.width → get_or work i 0 ≡ never
  pub long : length sides ≡ s.cells

pub record FoundRound (s : Shape) (slow stored : List ℕ) (bound : ℕ) (work work' sides sides' : List ℕ) : Type 0 where
  pub kept : length work' ≡ length work
  pub rest : (j : ℕ) → 2 * s.cells ≤ j → get_or work' j 0 ≡ get_or work j 0
  pub long : length sides' ≡ length sides
  pub each : (c : ℕ) → c < s.cells
      → get_or sides' c 0
      ≡ sides_by (land s []) bound c (ghosted (land s []) s.across s.down (λ d e. counts_as (land s slow) stored e) (tentative work s.cells) c)
      (tentative work s.cells c)
