-- The sides of cells side by side in a row. Only internal contracts cite these: they are definitions.
use Rattle.std.specs.Prelude.{◌≡◌, cond, ◌≢◌, List, ℕ, suc, ◌+◌, ◌*◌, ◌-◌, ◌≤◌, ◌<◌, leb, length, get_or}
use Rattle.eikonal.specs.Sides.{side}
use Rattle.front.specs.Seams.{seam, inside, across}

-- a time up to the bound, else 0, which has no sides
abbrev pub shown : (bound t : ℕ) → ℕ
shown m t = cond (leb t m) t 0

-- the row part and the column part
abbrev pub flat : (left right above below t : ℕ) → ℕ
flat l r u d t = side l r t + 4 * side u d t

-- a row's lists are so long, and short enough
pub record Even (w : ℕ) (os us ds : List ℕ) : Type 0 where
  pub own : length os ≡ w
  pub above : length us ≡ w
  pub below : length ds ≡ w
  pub short : w ≤ 256

-- THE LEAF: each cell's sides, from lists in step
pub record Set (bound : ℕ) (own left right above below sides sides' : List ℕ) : Type 0 where
  pub long : length sides' ≡ length sides
  pub each : (i : ℕ) → i < length sides
      → get_or sides' i 0 ≡ flat (get_or left i 0) (get_or right i 0) (get_or above i 0) (get_or below i 0) (shown bound (get_or own i 0))

-- all but the first and the last of a row see their own tile's times
pub record SetInner (bound : ℕ) (own above below sides sides' : List ℕ) : Type 0 where
  pub long : length sides' ≡ length sides
  pub each : (i : ℕ) → suc (suc i) < length sides
      → get_or sides' (suc i) 0 ≡ flat (get_or own i 0) (get_or own (suc (suc i)) 0) (get_or above (suc i) 0) (get_or below (suc i) 0)
      (shown bound (get_or own (suc i) 0))

-- with tiles `side` wide, what the cell at a column sees before it and behind it
abbrev pub left_of : (side : ℕ) → (own far : List ℕ) → (i : ℕ) → ℕ
left_of s os fs i = across (seam (length os) s i) (get_or os (i - 1) 0) (get_or fs (i - 1) 0)

abbrev pub right_of : (side : ℕ) → (own far : List ℕ) → (i : ℕ) → ℕ
right_of s os fs i = across (seam (length os) s (suc i)) (get_or os (suc i) 0) (get_or fs (suc i) 0)

-- ITS SIDES ON ITS STOREY
abbrev pub on_storey : (side bound : ℕ) → (own far above below : List ℕ) → (i : ℕ) → ℕ
on_storey s m os fs us ds i = flat (left_of s os fs i) (right_of s os fs i) (get_or us i 0) (get_or ds i 0) (shown m (get_or os i 0))

-- the columns from `from` to `last` are a tile's part of the row: the seams around it are not inside ones, those in it are
pub record Part (side w from last : ℕ) : Type 0 where
  pub up : from ≤ last
  pub fits : last < w
  pub before : seam w side from ≢ inside
  pub behind : seam w side (suc last) ≢ inside
  pub within : (i : ℕ) → from < i → i ≤ last → seam w side i ≡ inside

-- the cells at both its ends have their sides, all others are as they were
pub record SetEnds (side bound : ℕ) (own far above below : List ℕ) (from last : ℕ) (sides sides' : List ℕ) : Type 0 where
  pub long : length sides' ≡ length sides
  pub first : get_or sides' from 0 ≡ on_storey side bound own far above below from
  pub end : get_or sides' last 0 ≡ on_storey side bound own far above below last
  pub kept : (i : ℕ) → i ≢ from → i ≢ last → get_or sides' i 0 ≡ get_or sides i 0

pub record FoundFlat (side bound : ℕ) (own far above below sides sides' : List ℕ) : Type 0 where
  pub long : length sides' ≡ length sides
  pub each : (i : ℕ) → i < length sides → get_or sides' i 0 ≡ on_storey side bound own far above below i

-- and with the storeys over and under
pub record Added (bound : ℕ) (own over under sides sides' : List ℕ) : Type 0 where
  pub long : length sides' ≡ length sides
  pub each : (i : ℕ) → i < length sides → get_or sides' i 0 ≡ get_or sides i 0 + 16 * side (get_or over i 0) (get_or under i 0) (shown bound (get_or own i 0))
