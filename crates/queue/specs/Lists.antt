-- What the functions over lists leave. Only internal contracts cite these: they are definitions.
use Rattle.std.specs.Prelude.{◌≡◌, ◌⊎◌, List, ℕ, ◌≤◌, ◌<◌, length, get_or}

-- entries from `from` up to `end` are x, the others are kept
pub record Filled (from end x : ℕ) (old new : List ℕ) : Type 0 where
  pub long : length new ≡ length old
  pub inside : (i : ℕ) → from ≤ i → i < end → get_or new i 0 ≡ x
  pub outside : (i : ℕ) → (i < from) ⊎ (end ≤ i) → get_or new i 0 ≡ get_or old i 0
