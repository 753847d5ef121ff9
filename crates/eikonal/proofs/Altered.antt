-- Entries that differ between two lists.
use mathlib.Core.Path.{◌≡◌, refl, ap₂}
use mathlib.Core.Bool.{Bool, true, false, cond}
use mathlib.Core.List.{List, [], ◌∷◌}
use Prim.Native.Nat.{ℕ, ◌+◌}
use native.Mathlib.Omega.{arith}
use lib.Dec.{eqb}
use lib.ListN.{length}
use borrow.Author.Tests.{eqb-true, eq-eqb}
use Rattle.eikonal.specs.Tiles.{altered}

pub altered-none : (xs : List ℕ) → altered xs xs ≡ 0
unfolding altered
altered-none [] = refl
altered-none (x ∷ xs) = rw (eq-eqb x x refl) (omega (arith, altered-none xs))

pub altered-same : (xs ys : List ℕ) → length xs ≡ length ys → altered xs ys ≡ 0 → xs ≡ ys
unfolding altered
altered-same [] [] l e = refl
altered-same [] (y ∷ ys) l e = absurd (omega arith)
altered-same (x ∷ xs) [] l e = absurd (omega arith)
altered-same (x ∷ xs) (y ∷ ys) l e = go (eqb x y) refl e (altered-same xs ys (omega arith))
  where
    go : (p : Bool) → eqb x y ≡ p → cond {A = ℕ} p 0 1 + altered xs ys ≡ 0 → (altered xs ys ≡ 0 → xs ≡ ys) → x ∷ xs ≡ y ∷ ys
    go true q e r = ap₂ (λ (a : ℕ) (l : List ℕ). a ∷ l) (eqb-true x y q) (r (omega arith))
    go false q e r = absurd (omega arith)
