-- Digits: how many, and what the next one is.
use mathlib.Core.Path.{◌≡◌, refl}
use mathlib.Core.Bool.{Bool, true, false, cond}
use mathlib.Core.List.{List, [], ◌∷◌, ◌++◌}
use Prim.Native.Nat.{ℕ, zero, suc, ◌+◌, ◌-◌, ◌/◌, ◌%◌, ◌≤◌, ◌<◌}
use native.Mathlib.Omega.{arith}
use lib.Dec.{ltb}
use lib.ListN.{length, length-append}
use borrow.Author.Tests.{lt-ltb, le-ltb}
use Rattle.rings_lines.specs.Text.{digits}

few : (p : Bool) (k x : ℕ) (ds : List ℕ) (d : ℕ) → length ds ≤ k → length (cond p (x ∷ []) (ds ++ (d ∷ []))) ≤ suc k
few true k x ds d h = omega arith
few false k x ds d h = omega (arith, length-append ds (d ∷ []))

pub digits-few : (k x : ℕ) → length (digits k x) ≤ k
unfolding digits
digits-few zero x = omega arith
digits-few (suc k) x = few (ltb x 10) k (48 + x) (digits k (x / 10)) (48 + x % 10) (digits-few k (x / 10))

pub digits-none : (k x : ℕ) → k ≡ 0 → digits k x ≡ []
unfolding digits
digits-none k x e = rw e

pub digits-one : (k x : ℕ) → (k ≡ 0 → ⊥) → x < 10 → digits k x ≡ (48 + x) ∷ []
unfolding digits
digits-one zero x n h = absurd (n refl)
digits-one (suc k) x n h = rw (lt-ltb x 10 h)

pub digits_more : (k x : ℕ) → (k ≡ 0 → ⊥) → 10 ≤ x → digits k x ≡ digits (k - 1) (x / 10) ++ ((48 + x % 10) ∷ [])
unfolding digits
digits_more zero x n h = absurd (n refl)
digits_more (suc k) x n h = let one : suc k - 1 ≡ k = omega arith in rw (le-ltb x 10 h, one)
