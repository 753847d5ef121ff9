-- Tiles, a round over stored times, and tile runs ("Rounds over tiles" of document 01).
use Rattle.std.specs.Prelude.{◌≡◌, Bool, ◌&&◌, ◌||◌, cond, List, [], ◌∷◌, ℕ, zero, suc, ◌+◌, ◌*◌, ◌-◌, ◌/◌, ◌<◌, min, ltb, leb, eqb, length}
use Rattle.eikonal.specs.Axes.{place}
use Rattle.eikonal.specs.Board.{Board, size, column_axis, row_axis, slowness, never, largest, met, time, passes_of, all_never, cut}

-- a divided by b, rounded up
unfoldable pub up : (a b : ℕ) → ℕ
up a b = (a + b - 1) / b

-- tiles are laid from the top left, cut at the board's edge, and numbered row by row
unfoldable pub tile_of : Board → (tw th c : ℕ) → ℕ
tile_of b tw th c = place (row_axis b) c / th * up b.wide tw + place (column_axis b) c / tw

unfoldable pub tile_count : Board → (tw th : ℕ) → ℕ
tile_count b tw th = up b.wide tw * up b.high th

-- a stored time counts as never above 300,000,000, and at a wall
unfoldable pub counts_as : Board → (stored : List ℕ) → (c : ℕ) → ℕ
counts_as b ts c = cond (eqb (slowness b c) 0 || ltb largest (time ts c)) never (time ts c)

-- what a cell c sees of e: a cell of its own tile as it is met, one of another tile (a ghost) as stored before the round
abbrev pub tiled : Board → (tw th : ℕ) → (stored : List ℕ) → (times : ℕ → ℕ) → (c e : ℕ) → ℕ
tiled b tw th ts f c e = cond (eqb (tile_of b tw th c) (tile_of b tw th e)) (f e) (counts_as b ts e)

-- EVERY CELL MEETS THE RULE in its tile
unfoldable pub MeetsInTiles : Board → (tw th : ℕ) → (stored times : List ℕ) → Type 0
MeetsInTiles b tw th ts ns =
    (length ns ≡ size b) × ((c : ℕ) → c < size b → time ns c ≡ met b c (tiled b tw th ts (λ e. time ns e) c))

-- the solution in tiles, worked out by passes as that of the board is
unfoldable pub solved_in_tiles : Board → (tw th : ℕ) → (stored : List ℕ) → List ℕ
solved_in_tiles b tw th ts = passes_of (size b) b (λ ns. tiled b tw th ts (λ e. time ns e)) (all_never b)

-- ONE ROUND: each time up to the bound, never elsewhere
unfoldable pub round : Board → (tw th bound : ℕ) → (stored : List ℕ) → List ℕ
round b tw th m ts = cut m (solved_in_tiles b tw th ts)

-- entries that differ, as bare numbers
unfoldable pub altered : (before after : List ℕ) → ℕ
altered [] ys = 0
altered (x ∷ xs) [] = 0
altered (x ∷ xs) (y ∷ ys) = cond (eqb x y) 0 1 + altered xs ys

-- THE TILE RUN: round k has the bound min(k stride, horizon); the first round at the horizon that alters nothing is the last
unfoldable pub after_rounds : (k : ℕ) → Board → (tw th stride horizon : ℕ) → List ℕ
after_rounds zero b tw th s h = all_never b
after_rounds (suc k) b tw th s h = round b tw th (min (suc k * s) h) (after_rounds k b tw th s h)

unfoldable pub last_round : Board → (tw th stride horizon k : ℕ) → Bool
last_round b tw th s h k =
    leb h (k * s) && eqb (altered (after_rounds (k - 1) b tw th s h) (after_rounds k b tw th s h)) 0

unfoldable pub rounds_from : (fuel k : ℕ) → Board → (tw th stride horizon : ℕ) → ℕ
rounds_from zero k b tw th s h = k
rounds_from (suc f) k b tw th s h = cond (last_round b tw th s h k) k (rounds_from f (suc k) b tw th s h)

-- the least k, 1 or more, that is a last round; there is one among those tried (FewRounds)
unfoldable pub rounds : Board → (tw th stride horizon : ℕ) → ℕ
rounds b tw th s h = rounds_from (up h s + size b + 2) 1 b tw th s h
