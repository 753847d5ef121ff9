-- Starts that are their cells' times have no sides. Only internal contracts cite these: they are definitions.
use Rattle.std.specs.Prelude.{◌≡◌, Bool, false, ◌&&◌, ◌||◌, cond, List, [], ◌∷◌, ℕ, ◌<◌, eqb, length, get_or}
use Rattle.eikonal.specs.declared.Start.{Start}

-- one of the starts is at the cell c, at the time t
unfoldable pub begins_at : (c t : ℕ) → List Start → Bool
begins_at c t [] = false
begins_at c t (x ∷ xs) = (eqb x.cell c && eqb x.time t) || begins_at c t xs

-- the sides of such cells are none now, all others are as they were
pub record Cleared (xs : List Start) (times sides sides' : List ℕ) : Type 0 where
  pub long : length sides' ≡ length sides
  pub each : (c : ℕ) → c < length sides → get_or sides' c 0 ≡ cond (begins_at c (get_or times c 0) xs) 0 (get_or sides c 0)
