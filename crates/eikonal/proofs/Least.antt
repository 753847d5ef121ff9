-- The least number that passes a test.
use mathlib.Core.Path.{◌≡◌, refl, sym, ◌∙◌, subst}
use mathlib.Core.Bool.{Bool, true, false, cond, true≢false}
use mathlib.Core.Logic.{◌⊎◌, inl, inr}
use Prim.Native.Nat.{ℕ, zero, suc, ◌+◌, ◌≤◌, ◌<◌}
use native.Mathlib.Omega.{arith}
use Rattle.eikonal.specs.Board.{least_from}
use Rattle.eikonal.proofs.Levels.{order}

-- v is the first that passes between two ends, or the upper end
pub record Least (f : ℕ → Bool) (from to v : ℕ) : Type 0 where
  pub low : from ≤ v
  pub high : v ≤ to
  pub first : (u : ℕ) → from ≤ u → u < v → f u ≡ false
  pub found : f to ≡ true → f v ≡ true
  pub hit : v < to → f v ≡ true

pub least : (n t : ℕ) (f : ℕ → Bool) → Least f t (t + n) (least_from n t f)
unfolding least_from
least zero t f = record {
  low = omega arith;
  high = omega arith;
  first = λ u p q. absurd (omega arith);
  found = λ e. subst (λ (v : ℕ). f v ≡ true) (omega arith) e;
  hit = λ h. absurd (omega arith);
}
least (suc n) t f = go (f t) refl (least n (suc t) f)
  where
    here : (u : ℕ) → f t ≡ false → t ≡ u → f u ≡ false
    here u e p = subst (λ (v : ℕ). f v ≡ false) p e

    later : (u v : ℕ) → f t ≡ false → ((u : ℕ) → suc t ≤ u → u < v → f u ≡ false) → u < v → (t < u) ⊎ (u ≤ t) → t ≤ u → f u ≡ false
    later u v e r q (inl l) p = r u l q
    later u v e r q (inr l) p = here u e (omega arith)

    go : (b : Bool) → f t ≡ b → Least f (suc t) (suc t + n) (least_from n (suc t) f) → Least f t (t + suc n) (cond b t (least_from n (suc t) f))
    go true e r = record { low = omega arith; high = omega arith; first = λ u p q. absurd (omega arith); found = λ _. e; hit = λ _. e }
    go false e r = record {
      low = omega (arith, r.low);
      high = omega (arith, r.high);
      first = λ u p q. later u (least_from n (suc t) f) e r.first q (order t u) p;
      found = λ k. r.found (subst (λ (v : ℕ). f v ≡ true) (omega arith) k);
      hit = λ h. r.hit (omega arith);
    }

pub least_bound : {f : ℕ → Bool} {from to v : ℕ} → Least f from to v → (u : ℕ) → from ≤ u → f u ≡ true → v ≤ u
least_bound {f} {from} {to} {v} l u h e = go (order u v)
  where
    go : (u < v) ⊎ (v ≤ u) → v ≤ u
    go (inl k) = absurd (true≢false (sym e ∙ l.first u h k))
    go (inr k) = k
