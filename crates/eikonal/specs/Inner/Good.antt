-- What a board that is not refused has. No public promise rests on these.
use Rattle.std.specs.Prelude.{◌≡◌, Bool, true, ◌&&◌, List, [], ◌∷◌, ◌⊎◌, ℕ, suc, ◌≤◌, ltb, leb, length}
use Rattle.eikonal.specs.Board.{Board, size, slowness, along_row, down_column, never, start_time}
use Rattle.eikonal.specs.declared.Start.{Start}

-- cells on the board, each above the one before
unfoldable pub starts_rise : (n least : ℕ) → List Start → Bool
starts_rise n l [] = true
starts_rise n l (x ∷ xs) = (leb l x.cell && ltb x.cell n) && starts_rise n (suc x.cell) xs

-- a time up to the most, or never
abbrev pub Known : (most t : ℕ) → Type 0
Known m t = (t ≡ never) ⊎ (t ≤ m)

-- a pair that is neither 5 nor 21: both numbers are 0, or neither is
pub record Pair (g h : ℕ) : Type 0 where
  pub along_most : g ≤ 4095
  pub down_most : h ≤ 4095
  pub whole : ((g ≡ 0) × (h ≡ 0)) ⊎ ((1 ≤ g) × (1 ≤ h))

pub record Good (b : Board) : Type 0 where
  pub wide_low : 1 ≤ b.wide
  pub wide_high : b.wide ≤ 256
  pub high_low : 1 ≤ b.high
  pub high_high : b.high ≤ 256
  pub storeys_low : 1 ≤ b.storeys
  pub storeys_high : b.storeys ≤ 8
  pub few : size b ≤ 65536
  pub slow_length : length b.slow ≡ size b
  pub pairs : (c : ℕ) → Pair (along_row (slowness b c)) (down_column (slowness b c))
  pub level : 2 ≤ b.storeys → (c : ℕ) → along_row (slowness b c) ≡ down_column (slowness b c)
  pub starts_known : (c : ℕ) → Known 1000000 (start_time c b.starts)
  pub walls_free : (c : ℕ) → slowness b c ≡ 0 → start_time c b.starts ≡ never
