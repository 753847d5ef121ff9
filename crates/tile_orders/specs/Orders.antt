-- The order of tiles as it is judged, a part of the tile numbers at a time. Only internal contracts cite these.
use Rattle.std.specs.Prelude.{◌≡◌, Bool, true, ◌&&◌, ◌||◌, List, ℕ, zero, suc, ◌+◌, ◌<◌, eqb, length, get_or}
use Rattle.eikonal.specs.Refusals.{member}

-- each number below n passes
unfoldable pub all_below : (n : ℕ) → (ℕ → Bool) → Bool
all_below zero f = true
all_below (suc n) f = f n && all_below n f

-- so many numbers, from the given one on, are all in the list
abbrev pub part_there : (from many : ℕ) → List ℕ → Bool
part_there a m xs = all_below m (λ j. member (a + j) xs)

-- marks: 1 at j where the number j has been seen
abbrev pub marked : List ℕ → (j : ℕ) → Bool
marked ms j = eqb (get_or ms j 0) 1

-- the number x is marked in the part that begins at the given number, if it lies there
pub record Noted (from x : ℕ) (before after : List ℕ) : Type 0 where
  pub many : length after ≡ length before
  pub marks : (j : ℕ) → j < 8192 → marked after j ≡ marked before j || eqb x (from + j)
