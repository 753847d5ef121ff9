-- A side by its tests, and the byte of a time that is none past a bound.
use mathlib.Core.Path.{◌≡◌, refl, sym}
use mathlib.Core.Bool.{Bool, true, false, ◌&&◌, ◌||◌, cond, false≢true}
use mathlib.Core.Logic.{◌⊎◌, inl, inr}
use Prim.Native.Nat.{ℕ, ◌≤◌, ◌<◌}
use native.Mathlib.Omega.{arith}
use native.Mathlib.Decide.{ℕ_discrete}
use lib.Dec.{ltb, leb, eqb}
use borrow.Author.Tests.{lt-ltb, le-ltb, le-leb, lt-leb, eq-eqb, ne_eqb}
use Rattle.eikonal.specs.Board.{never}
use Rattle.eikonal.specs.Sides.{side, sides_of}
use Rattle.eikonal.proofs.Levels.{order}
use Rattle.eikonal.proofs.Sides.{sides-none}

-- one of two times is below t
below : (x y t : ℕ) → ltb x t || ltb y t ≡ true → (x < t) ⊎ (y < t)
below x y t e = go (order x t) (order y t)
  where
    go : (x < t) ⊎ (t ≤ x) → (y < t) ⊎ (t ≤ y) → (x < t) ⊎ (y < t)
    go (inl i) j = inl i
    go (inr i) (inl j) = inr j
    go (inr i) (inr j) = absurd (false≢true (rw (le-ltb x t i, le-ltb y t j) at e))

pub first-side : (x y t : ℕ) → ltb x t || ltb y t ≡ true → x ≤ y → side x y t ≡ 1
unfolding side
first-side x y t e l = go (below x y t e)
  where
    go : (x < t) ⊎ (y < t) → cond {A = ℕ} (ltb x t && leb x y) 1 (cond (ltb y t) 2 0) ≡ 1
    go (inl i) = rw (lt-ltb x t i, le-leb x y l)
    go (inr i) = rw (lt-ltb x t (omega arith), le-leb x y l)

pub second-side : (x y t : ℕ) → ltb x t || ltb y t ≡ true → y < x → side x y t ≡ 2
unfolding side
second-side x y t e l = go (below x y t e)
  where
    go : (x < t) ⊎ (y < t) → cond {A = ℕ} (ltb x t && leb x y) 1 (cond (ltb y t) 2 0) ≡ 2
    go (inl i) = rw (lt-ltb x t i, lt-leb x y l, lt-ltb y t (omega arith))
    go (inr i) = rw (lt-leb x y l, lt-ltb y t i) (go_on (ltb x t))
      where
        go_on : (p : Bool) → cond {A = ℕ} (p && false) 1 2 ≡ 2
        go_on true = refl
        go_on false = refl

pub no_side : (x y t : ℕ) → ltb x t || ltb y t ≡ false → side x y t ≡ 0
unfolding side
no_side x y t e = go (order x t) (order y t)
  where
    go : (x < t) ⊎ (t ≤ x) → (y < t) ⊎ (t ≤ y) → cond {A = ℕ} (ltb x t && leb x y) 1 (cond (ltb y t) 2 0) ≡ 0
    go (inl i) j = absurd (false≢true (sym (rw (lt-ltb x t i) at e)))
    go (inr i) (inl j) = absurd (false≢true (sym (rw (le-ltb x t i, lt-ltb y t j) at e)))
    go (inr i) (inr j) = rw (le-ltb x t i, le-ltb y t j)

-- below never, all of a time counts; never has no sides
pub sides-shown : (l r u d o n t : ℕ) → t ≤ never
    → sides_of l r u d o n (cond (leb t 4294967294) t 0) ≡ cond (eqb t never) 0 (sides_of l r u d o n t)
sides-shown l r u d o n t i = elim (ℕ_discrete t never) [
  | yes q ↦ rw (eq-eqb t never q, lt-leb t 4294967294 (omega arith)) (sides-none l r u d o n)
  | no q ↦ rw (ne_eqb t never q, le-leb t 4294967294 (omega arith))
]
