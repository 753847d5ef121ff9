-- Fewer than n numbers below n differ from each other and from one more.
use mathlib.Core.Path.{◌≡◌, sym, ◌∙◌}
use mathlib.Core.Bool.{cond}
use mathlib.Core.Logic.{◌⊎◌, inl, inr, ⊎_elim, ◌≢◌}
use Prim.Native.Nat.{ℕ, zero, suc, ◌≤◌, ◌<◌}
use native.Mathlib.Omega.{arith}
use native.Mathlib.Decide.{ℕ_discrete}
use lib.Dec.{eqb}
use borrow.Author.Tests.{eq-eqb, ne_eqb}

abbrev Distinct : (s : ℕ → ℕ) → (m : ℕ) → Type 0
Distinct s m = (i j : ℕ) → i < m → j < m → s i ≡ s j → i ≡ j

abbrev Under : (s : ℕ → ℕ) → (m n : ℕ) → Type 0
Under s m n = (i : ℕ) → i < m → s i < n

-- the number c in the place of n
abbrev instead : (s : ℕ → ℕ) → (n c : ℕ) → ℕ → ℕ
instead s n c i = cond (eqb (s i) n) c (s i)

module _ (s : ℕ → ℕ) (m n c : ℕ) (b : c < suc n) (u : Under s m (suc n)) (apart : (i : ℕ) → i < m → s i ≢ c) (dist : Distinct s m) where
  is : (i : ℕ) → ((s i ≡ n) × (instead s n c i ≡ c)) ⊎ ((s i ≢ n) × (instead s n c i ≡ s i))
  is i = elim (ℕ_discrete (s i) n) [
    | yes q ↦ inl (q, rw (eq-eqb (s i) n q))
    | no q ↦ inr (q, rw (ne_eqb (s i) n q))
  ]

  squeezed_under : Under (instead s n c) m n
  squeezed_under i l = ⊎_elim (λ e. (let z : c ≢ n = λ t. apart i l (e.0 ∙ sym t) in omega arith)) (λ e. omega (arith, u i l)) (is i)

  squeezed_distinct : Distinct (instead s n c) m
  squeezed_distinct i j l k e = ⊎_elim
      (λ a. ⊎_elim (λ d. dist i j l k (a.0 ∙ sym d.0)) (λ d. absurd (apart j k (sym d.1 ∙ sym e ∙ a.1))) (is j))
      (λ a. ⊎_elim (λ d. absurd (apart i l (sym a.1 ∙ e ∙ d.1))) (λ d. dist i j l k (sym a.1 ∙ e ∙ d.1)) (is j))
      (is i)

pigeons : (n m : ℕ) (s : ℕ → ℕ) → Under s m n → Distinct s m → m ≤ n
pigeons zero zero s u d = omega arith
pigeons zero (suc m) s u d = absurd (omega (arith, u 0 (omega arith)))
pigeons (suc n) zero s u d = omega arith
pigeons (suc n) (suc m) s u d =
    let a : (i : ℕ) → i < m → s i ≢ s m = λ i l e. (let z = d i m (omega arith) (omega arith) e in omega arith) in
    let b : Under s m (suc n) = λ i l. u i (omega arith) in
    let e : Distinct s m = λ i j l k. d i j (omega arith) (omega arith) in
    let r = pigeons n m (instead s n (s m)) (squeezed_under s m n (s m) (u m (omega arith)) b a e) (squeezed_distinct s m n (s m) (u m (omega arith)) b a e) in
    omega arith

pub pigeonhole : (n m c : ℕ) (s : ℕ → ℕ) → c < n → Under s m n → ((i : ℕ) → i < m → s i ≢ c) → Distinct s m → m < n
pigeonhole zero m c s b u a d = absurd (omega arith)
pigeonhole (suc n) m c s b u a d =
    let r = pigeons n m (instead s n c) (squeezed_under s m n c b u a d) (squeezed_distinct s m n c b u a d) in
    omega arith
