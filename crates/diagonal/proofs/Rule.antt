-- D two ways: one test over a list, which antt computes, shows that the list holds D at each place; and the root of the
-- local rule is D where both sides come at once.
use mathlib.Core.Path.{◌≡◌}
use mathlib.Core.Bool.{Bool, true, ◌&&◌}
use mathlib.Core.List.{List, [], ◌∷◌}
use mathlib.Core.Logic.{◌⊎◌, inl, inr}
use Prim.Native.Nat.{ℕ, zero, suc, ◌+◌, ◌*◌, ◌-◌, ◌<◌, ◌≤◌}
use native.Mathlib.Omega.{arith}
use native.Mathlib.Nat.{mul-le-mul, add-zero, zero-add, add-suc, suc-add, le_of_suc-le-suc}
use lib.Dec.{leb, ltb}
use lib.ListN.{length, get_or}
use borrow.Author.Tests.{le-leb, leb-true, ltb-true}
use Rattle.eikonal.specs.Board.{square, diagonal}
use Rattle.eikonal.specs.Inner.Weighed.{weighed}
use Rattle.eikonal.proofs.Good.{and-true}
use Rattle.eikonal.proofs.Levels.{order}
use Rattle.eikonal.proofs.Least.{least, least_bound}

-- x is the least with 2 x² at least s²: it passes, and x - 1, if there is one, does not
unfoldable pub right : (s x : ℕ) → Bool
right s zero = leb (s * s) 0
right s (suc x) = leb (s * s) (2 * (suc x * suc x)) && ltb (2 * (x * x)) (s * s)

-- THE TEST: every entry is right at its place, counted from s
unfoldable pub all_right : (s : ℕ) → List ℕ → Bool
all_right s [] = true
all_right s (x ∷ xs) = right s x && all_right (suc s) xs

-- a number that passes is D if what passes is no less
is-least : (s x : ℕ) → s * s ≤ 2 * (x * x) → ((d : ℕ) → s * s ≤ 2 * (d * d) → x ≤ d) → x ≡ diagonal s
unfolding diagonal square
is-least s x p no_less =
    let l = least s 0 (λ d. leb (square s) (2 * square d)) in
    let whole = le-leb (s * s) (2 * ((0 + s) * (0 + s))) (omega arith) in
    omega (
      arith,
      no_less (diagonal s) (leb-true _ _ (l.found whole)),
      least_bound l x (omega arith) (le-leb (s * s) (2 * (x * x)) p),
    )

-- a number that passes, and of which one less does not, is D
first-is : (s x : ℕ) → s * s ≤ 2 * (suc x * suc x) → 2 * (x * x) < s * s → suc x ≡ diagonal s
first-is s x p fails = is-least s (suc x) p (λ d h. go d h (order d (suc x)))
  where
    go : (d : ℕ) → s * s ≤ 2 * (d * d) → (d < suc x) ⊎ (suc x ≤ d) → suc x ≤ d
    go d h (inl l) = let low : d ≤ x = omega arith in absurd (omega (arith, mul-le-mul low low))
    go d h (inr l) = l

right_is : (s x : ℕ) → right s x ≡ true → x ≡ diagonal s
unfolding right
right_is s zero t = is-least s 0 (leb-true (s * s) 0 t) (λ d h. omega arith)
right_is s (suc x) t =
    let both = and-true (leb (s * s) (2 * (suc x * suc x))) (ltb (2 * (x * x)) (s * s)) t in
    first-is s x (leb-true _ _ both.0) (ltb-true _ _ both.1)

from : (s : ℕ) (xs : List ℕ) → all_right s xs ≡ true → (k : ℕ) → k < length xs → get_or xs k 0 ≡ diagonal (s + k)
unfolding all_right
from s [] t k h = absurd (omega arith)
from s (x ∷ xs) t zero h = rw add-zero (right_is s x (and-true (right s x) (all_right (suc s) xs) t).0)
from s (x ∷ xs) t (suc k) h =
    rw (add-suc s k, ← suc-add s k) (from (suc s) xs (and-true (right s x) (all_right (suc s) xs) t).1 k (le_of_suc-le-suc h))

pub table_is : (xs : List ℕ) → all_right 0 xs ≡ true → (s : ℕ) → s < length xs → get_or xs s 0 ≡ diagonal s
table_is xs t s h = rw zero-add at (from 0 xs t s h)

-- what meets the contract of the root is D where the sides are 0 apart
pub root_is :
    (s apart x : ℕ) → 1 ≤ x → s * s ≤ weighed 1 1 apart x → weighed 1 1 apart (x - 1) < s * s → apart ≡ 0 → x ≡ diagonal s
root_is s apart zero h p q e = absurd (omega arith)
root_is s apart (suc x) h p q e =
    let one : suc x - 1 ≡ x = omega arith in
    first-is s x (omega (arith, rw (e, zero-add) at p)) (omega (arith, rw (e, zero-add, one) at q))
