-- Sides: from which neighbours the front came to a cell (Cards 6 and 12 of document 02).
use Rattle.std.specs.Prelude.{◌&&◌, cond, List, [], ◌∷◌, ℕ, zero, suc, ◌+◌, ◌*◌, min, ltb, leb, eqb, replicate}
use Rattle.eikonal.specs.Axes.{before, behind}
use Rattle.eikonal.specs.Board.{Board, never, size, column_axis, row_axis, storey_axis, local, start_time, arrival, time, marched}
use Rattle.eikonal.specs.Tiles.{tiled, round, after_rounds}

-- ON ONE AXIS, by the answer t: 1 for the first of two, if it is below t and not above the second; else 2 for the second, if it is below t; else 0
unfoldable pub side : (first second t : ℕ) → ℕ
side x y t = cond (ltb x t && leb x y) 1 (cond (ltb y t) 2 0)

-- THE BYTE: the row part, 4 times the column part, 16 times the storey part
unfoldable pub sides_of : (left right above below over under t : ℕ) → ℕ
sides_of l r u d o n t = side l r t + 4 * side u d t + 16 * side o n t

-- of the local rule's answer: none of never
unfoldable pub local_sides : (g h left right above below over under : ℕ) → ℕ
local_sides g h l r u d o n =
    let t = local g h l r u d o n in
    cond (eqb t never) 0 (sides_of l r u d o n t)

-- of a cell, by the times that it sees and an answer t: over it is the cell behind it on the axis of storeys
unfoldable pub sides_seen : Board → (c : ℕ) → (seen : ℕ → ℕ) → (t : ℕ) → ℕ
sides_seen b c f t =
    let x = column_axis b in
    let y = row_axis b in
    let z = storey_axis b in
    sides_of (before x c f) (behind x c f) (before y c f) (behind y c f) (behind z c f) (before z c f) t

-- A CELL'S SIDES: none where its start is no later than the rule's time, or where that is past the bound
unfoldable pub cell_sides : Board → (bound c : ℕ) → (seen : ℕ → ℕ) → ℕ
cell_sides b m c f =
    let t = arrival b c f in
    cond (ltb t (start_time c b.starts) && leb t m) (sides_seen b c f t) 0

-- of so many cells from c on
unfoldable pub sides_from : (left c : ℕ) → Board → (bound : ℕ) → (seen : ℕ → ℕ → ℕ) → List ℕ
sides_from zero c b m f = []
sides_from (suc n) c b m f = cell_sides b m c (λ e. f c e) ∷ sides_from n (suc c) b m f

-- OF A MARCH: from its times
unfoldable pub march_sides : Board → (horizon : ℕ) → List ℕ
march_sides b h = sides_from (size b) 0 b h (λ c. λ e. time (marched b h) e)

-- OF A ROUND: from the times that the cell's tile saw
unfoldable pub round_sides : Board → (tw th bound : ℕ) → (stored : List ℕ) → List ℕ
round_sides b tw th m ts = sides_from (size b) 0 b m (tiled b tw th ts (λ e. time (round b tw th m ts) e))

-- of a tile run after its round k; before the first there are none
unfoldable pub sides_after : (k : ℕ) → Board → (tw th stride horizon : ℕ) → List ℕ
sides_after zero b tw th s h = replicate (size b) 0
sides_after (suc k) b tw th s h = round_sides b tw th (min (suc k * s) h) (after_rounds k b tw th s h)
