-- How many rounds a tile run makes whose one tile covers the board (Card 8 of document 02).
use Rattle.std.specs.Prelude.{Bool, false, ◌&&◌, ◌||◌, cond, List, [], ◌∷◌, ℕ, suc, ◌*◌, ◌-◌, max, leb, eqb}
use Rattle.eikonal.specs.Tiles.{up}

-- K: the horizon divided by the stride, rounded up, at least 1
unfoldable pub strides : (stride horizon : ℕ) → ℕ
strides s h = max 1 (up h s)

-- where the last span starts, of K strides: at the first time above (K - 1) × stride, for K = 1 at 0
unfoldable pub span_start : (stride k : ℕ) → ℕ
span_start s k = cond (eqb k 1) 0 (suc ((k - 1) * s))

-- some time is in a span, both ends included
unfoldable pub some_within : (from to : ℕ) → (times : List ℕ) → Bool
some_within l h [] = false
some_within l h (t ∷ ts) = (leb l t && leb t h) || some_within l h ts

-- K + 1 if some time is in the last span, which ends at the horizon, else K
unfoldable pub exact_rounds : (stride horizon : ℕ) → (times : List ℕ) → ℕ
exact_rounds s h ts = let k = strides s h in cond (some_within (span_start s k) h ts) (suc k) k
