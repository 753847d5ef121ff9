-- Division rounded up: `up a b * b` is the first multiple of b that is not below a.
use mathlib.Core.Path.{◌≡◌}
use mathlib.Core.Logic.{◌⊎◌, inl, inr}
use Prim.Native.Nat.{ℕ, suc, ◌+◌, ◌*◌, ◌/◌, ◌-◌, ◌≤◌, ◌<◌}
use native.Mathlib.Omega.{arith}
use native.Mathlib.Nat.{mul-le-mul_left, mul-le-mul_right, mod-lt, div-add-mod'}
use Rattle.eikonal.specs.Tiles.{up}
use Rattle.eikonal.proofs.Levels.{order}

-- ---- the last multiple of b up to x
pub multiple_covers : (a b x : ℕ) → 1 ≤ b → a + b ≤ x + 1 → a ≤ x / b * b
multiple_covers a b x l h = omega (arith, div-add-mod' x b, mod-lt x l)

pub multiple_below : (m b x : ℕ) → x < m → x / b * b < m
multiple_below m b x h = omega (arith, div-add-mod' x b)

-- n steps of b that end less than a step past m of them are no more than m
no_greater : (b m n : ℕ) → n * b < m * b + b → n ≤ m
no_greater b m n h = go (order m n)
  where
    go : (m < n) ⊎ (n ≤ m) → n ≤ m
    go (inl l) = let more : suc m * b ≤ n * b = mul-le-mul_right b l in absurd (omega (arith, more))
    go (inr l) = l

module _ (a b : ℕ) (l : 1 ≤ b) where
  -- ---- not short, and less than b too far
  pub up_covers : a ≤ up a b * b
  unfolding up
  up_covers = multiple_covers a b (a + b - 1) l (omega arith)

  pub up_close : up a b * b < a + b
  unfolding up
  up_close = multiple_below (a + b) b (a + b - 1) (omega arith)

  -- ---- so what is less is short, and what is not short is no less
  pub up-short : (n : ℕ) → n < up a b → n * b < a
  up-short n h = let more : suc n * b ≤ up a b * b = mul-le-mul_right b h in omega (arith, more, up_close)

  pub up-enough : (n : ℕ) → up a b ≤ n → a ≤ n * b
  up-enough n h = omega (arith, up_covers, mul-le-mul_right b h)

  pub up-past : (x : ℕ) → x < a → x / b < up a b
  up-past x h = no_greater b (up a b) (suc (x / b)) (omega (arith, multiple_below a b x h, up_covers))

  pub up-some : 1 ≤ a → 1 ≤ up a b
  up-some h = omega (arith, up-past 0 h)

  pub up-most : up a b ≤ a
  up-most = no_greater b a (up a b) (omega (arith, up_close, mul-le-mul_left a l))

-- ---- no other number is not short and less than b too far
pub up_is : (a b n : ℕ) → a ≤ n * b → n * b < a + b → n ≡ up a b
up_is a b n h k =
    let l : 1 ≤ b = omega arith in
    omega (
      arith,
      no_greater b n (up a b) (omega (arith, up_close a b l)),
      no_greater b (up a b) n (omega (arith, up_covers a b l)),
    )
