-- Seams: what lies between two neighbouring places on an axis. Only internal contracts cite these: they are definitions.
use Rattle.std.specs.Prelude.{ℕ, suc, ◌+◌, ◌-◌, ◌%◌, min, Bool, cond, List, [], ◌∷◌, ◌==◌, nat_lt, slice_index}
use Rattle.eikonal.specs.Axes.{Axis, place}
use Rattle.eikonal.specs.Board.{Board, never, size, column_axis, row_axis, storey_axis}

abbrev pub edge : ℕ
edge = 0

abbrev pub border : ℕ
border = 1

abbrev pub inside : ℕ
inside = 2

-- before place i of so many, which come round: the board's edge, a border between tiles, or the inside of a tile
unfoldable pub seam : (count side i : ℕ) → ℕ
seam n s i = cond (i % n == 0) edge (cond (i % n % s == 0) border inside)

-- of seams as laid the least around the place at a row and a column of a storey: an inside seam is the greatest, so it is inside if all four are
abbrev pub least_seam : (cols rows : List ℕ) → (row col : ℕ) → ℕ
least_seam cs rs r c = min (min (slice_index cs c) (slice_index cs (c + 1))) (min (slice_index rs r) (slice_index rs (r + 1)))

-- of n cells, so many on a storey, the seams between the cell c and those under and over it
abbrev pub mark_under : (area c : ℕ) → ℕ
mark_under a c = cond (nat_lt c a) edge inside

abbrev pub mark_over : (n area c : ℕ) → ℕ
mark_over n a c = cond (nat_lt (c + a) n) inside edge

-- what is seen across a seam: the tentative time within the tile, the ghost beyond a border, never off the board
unfoldable pub across : (seam own ghost : ℕ) → ℕ
across s f g = cond (s == edge) never (cond (s == inside) f g)

-- who hears of a cell: e if it is there, else N, which is no cell
unfoldable pub hearer : (n : ℕ) → (there : Bool) → (e : ℕ) → ℕ
hearer n b e = cond b e n

-- AN AXIS CUT INTO TILES: a tile takes `side` of its places
pub record Cut : Type 0 where
  pub axis : Axis
  pub side : ℕ

abbrev pub cut : Axis → (side : ℕ) → Cut
cut a s = record { axis = a; side = s }

-- a tile takes all storeys
abbrev pub stack_cut : Board → Cut
stack_cut b = cut (storey_axis b) b.storeys

abbrev pub cuts : Board → (tw th : ℕ) → List Cut
cuts b tw th = cut (column_axis b) tw ∷ cut (row_axis b) th ∷ stack_cut b ∷ []

-- the seams before and behind a cell
abbrev pub seam_back : Cut → (c : ℕ) → ℕ
seam_back x c = seam x.axis.count x.side (place x.axis c)

abbrev pub seam_on : Cut → (c : ℕ) → ℕ
seam_on x c = seam x.axis.count x.side (suc (place x.axis c))

-- a cell's neighbours across seams of the given kind, axis by axis
abbrev pub near_on : List Cut → (n kind c : ℕ) → List ℕ
near_on [] n k c = []
near_on (x ∷ xs) n k c = hearer n (seam_back x c == k) (c - x.axis.unit) ∷ hearer n (seam_on x c == k) (c + x.axis.unit) ∷ near_on xs n k c

unfoldable pub near : Board → (tw th kind c : ℕ) → List ℕ
near b tw th k c = near_on (cuts b tw th) (size b) k c
