-- What the reader answers beside a refusal: the rest where it is none, zeros where it is one; and what lent lists hold then.
use mathlib.Core.Path.{◌≡◌, refl, sym}
use mathlib.Core.List.{List, ◌++◌}
use mathlib.Core.Logic.{◌≢◌}
use Prim.Native.Nat.{ℕ}
use native.Mathlib.Decide.{ℕ_discrete}
use lib.ListN.{length, drop}
use borrow.Author.Tests.{eq-eqb, ne_eqb}
use Rattle.eikonal.specs.Order.{Refusal}
use Rattle.scenario.specs.File.{head_in}
use Rattle.scenario.specs.Calls.{filled, scenario, scenario_of, reader_answer}

pub reader-number : (k : Refusal) (f : List ℕ) → (reader_answer k f).number ≡ k.number
unfolding reader_answer scenario_of scenario
reader-number k f = elim (ℕ_discrete k.number 0) [
  | yes q ↦ rw (eq-eqb k.number 0 q) (sym q)
  | no q ↦ rw (ne_eqb k.number 0 q) refl
]

pub reader-zero : (k : Refusal) (f : List ℕ) → k.number ≡ 0 → reader_answer k f ≡ scenario_of (head_in f)
unfolding reader_answer
reader-zero k f e = rw (eq-eqb k.number 0 e)

pub reader-refused : (k : Refusal) (f : List ℕ) → k.number ≢ 0 → reader_answer k f ≡ scenario k 0 0 0 0 0 0
unfolding reader_answer
reader-refused k f h = rw (ne_eqb k.number 0 h)

-- a list that was lent: entered, or as it was
pub filled_in : (k : ℕ) (xs old : List ℕ) → k ≡ 0 → filled k xs old ≡ xs ++ drop (length xs) old
unfolding filled
filled_in k xs old e = rw (eq-eqb k 0 e)

pub kept : (k : ℕ) (xs old : List ℕ) → (k ≡ 0 → ⊥) → old ≡ filled k xs old
unfolding filled
kept k xs old h = rw (ne_eqb k 0 h)

-- a part of n entries that was lent on, and came back with the entries
pub part-entered : (n : ℕ) (part xs old : List ℕ) → part ≡ xs → length xs ≡ n → part ++ drop n old ≡ filled 0 xs old
part-entered n part xs old e l = rw (e, ← l) (sym (filled_in 0 xs old refl))
