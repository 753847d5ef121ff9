-- `refusals::board::is_half_wall` meets its contract: by which of the two numbers are 0.
use mathlib.Core.Path.{refl}
use native.Mathlib.Decide.{ℕ_discrete}
use borrow.Author.Tests.{eq-eqb, ne_eqb}
use Rattle.eikonal.specs.Refusals.{half_wall}
use Rattle.refusals.proofs.board.is_half_wall.Goals as goal

pub returns : goal.returns
unfolding half_wall
returns c = elim (ℕ_discrete c.args.g 0) [
  | yes p ↦ elim (ℕ_discrete c.args.h 0) [
    | yes q ↦ rw (eq-eqb c.args.g 0 p, eq-eqb c.args.h 0 q) refl
    | no q ↦ rw (eq-eqb c.args.g 0 p, ne_eqb c.args.h 0 q) refl
  ]
  | no p ↦ elim (ℕ_discrete c.args.h 0) [
    | yes q ↦ rw (ne_eqb c.args.g 0 p, eq-eqb c.args.h 0 q) refl
    | no q ↦ rw (ne_eqb c.args.g 0 p, ne_eqb c.args.h 0 q) refl
  ]
]
