-- An entry of a list after a store.
use mathlib.Core.Path.{◌≡◌, ap, ◌∙◌}
use mathlib.Core.Logic.{◌≢◌}
use mathlib.Core.List.{List}
use Prim.Native.Nat.{ℕ, ◌<◌}
use native.Mathlib.Decide.{ℕ_discrete}
use lib.ListN.{length, get_or, set}
use lib.Seq.{get_or-set_same, get_or-set_other}

-- at its place, or elsewhere
pub data Stored (xs : List ℕ) (i x j : ℕ) : Type 0 where
  here : j ≡ i → get_or (set xs i x) j 0 ≡ x → Stored xs i x j
  elsewhere : j ≢ i → get_or (set xs i x) j 0 ≡ get_or xs j 0 → Stored xs i x j

pub after_store : (xs : List ℕ) (i x j : ℕ) → i < length xs → Stored xs i x j
after_store xs i x j l = elim (ℕ_discrete j i) [
  | yes e ↦ here e (ap (λ (u : ℕ). get_or (set xs i x) u 0) e ∙ get_or-set_same xs i x 0 l)
  | no e ↦ elsewhere e (get_or-set_other xs i j x 0 e)
]
