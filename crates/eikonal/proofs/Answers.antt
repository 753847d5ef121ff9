-- What is answered beside a refusal: the count, or the local rule's time and sides, where it is none; zeros where it is one.
use mathlib.Core.Path.{◌≡◌, refl, sym}
use Prim.Native.Nat.{ℕ}
use native.Mathlib.Decide.{ℕ_discrete}
use borrow.Author.Tests.{eq-eqb, ne_eqb}
use Rattle.eikonal.specs.Order.{none}
use Rattle.eikonal.specs.Ledger.{answer, answered}
use Rattle.eikonal.specs.Entry.{local_answer, local_answered}
use Rattle.eikonal.specs.Order.{Refusal}

pub answered-number : (k : Refusal) (c : ℕ) → (answered k c).number ≡ k.number
unfolding answered answer
answered-number k c = elim (ℕ_discrete k.number 0) [
  | yes q ↦ rw (eq-eqb k.number 0 q) (sym q)
  | no q ↦ rw (ne_eqb k.number 0 q) refl
]

pub answered-zero : (k : Refusal) (c : ℕ) → k.number ≡ 0 → answered k c ≡ answer none c
unfolding answered
answered-zero k c e = rw (eq-eqb k.number 0 e)

pub answered-refused : (k : Refusal) (c : ℕ) → (k.number ≡ 0 → ⊥) → answered k c ≡ answer k 0
unfolding answered
answered-refused k c h = rw (ne_eqb k.number 0 h)

pub local-answered-zero : (k : Refusal) (t s : ℕ) → k.number ≡ 0 → local_answered k t s ≡ local_answer 0 t s
unfolding local_answered
local-answered-zero k t s e = rw (eq-eqb k.number 0 e)

pub local-answered-refused : (k : Refusal) (t s : ℕ) → (k.number ≡ 0 → ⊥) → local_answered k t s ≡ local_answer k.number 0 0
unfolding local_answered
local-answered-refused k t s h = rw (ne_eqb k.number 0 h)
