-- The times that a call writes. Only internal contracts cite these: they are definitions.
use Rattle.std.specs.Prelude.{◌≡◌, List, ℕ, ◌<◌, length}
use Rattle.eikonal.specs.Board.{time, reached}
use Rattle.eikonal.specs.Inner.Clip.{clip}
use Rattle.front.specs.Board.{tentative}

-- a cell's tentative time up to the bound, else never
abbrev pub due : (bound : ℕ) → (work : List ℕ) → (n c : ℕ) → ℕ
due m v n c = clip m (tentative v n c)

-- the times of so many cells, and how many are reached
pub record Finished (bound n : ℕ) (work times : List ℕ) (count : ℕ) : Type 0 where
  pub long : length times ≡ n
  pub each : (c : ℕ) → c < n → time times c ≡ due bound work n c
  pub counted : count ≡ reached bound times
