-- Rings up to r are the times earlier than r × ticks + 1.
use mathlib.Core.Path.{◌≡◌, refl}
use mathlib.Core.Logic.{inl, inr}
use Prim.Native.Nat.{ℕ, ◌≤◌}
use native.Mathlib.Omega.{arith}
use borrow.Author.Tests.{le-ltb}
use Rattle.eikonal.specs.Board.{never, largest}
use Rattle.eikonal.specs.Tiles.{up}
use Rattle.eikonal.proofs.Levels.{order}
use Rattle.eikonal.proofs.Up.{up-enough, up-short}
use Rattle.scenario.specs.Turns.{turn_of}
use Rattle.late_ground.specs.Promise.{RingsAreEarly}

in_time : (t k : ℕ) → t ≤ largest → turn_of t k ≡ up t k
unfolding turn_of
in_time t k l = rw (le-ltb largest t l)

past : (k : ℕ) → turn_of never k ≡ never
unfolding turn_of
past k = refl

pub rings_are_early : RingsAreEarly
unfolding RingsAreEarly
rings_are_early k r t some top (inr e) =
    rw (e, past k) (λ l. absurd (omega arith), λ l. absurd (l.1 refl), λ l. inr refl, λ l. top)
rings_are_early k r t some top (inl low) = rw (in_time t k low) elim (order r (up t k)) [
  | inl i ↦
      let j = up-short t k some r i in
      (λ l. absurd (omega arith), λ l. absurd (omega (arith, l.0)), λ l. inl (omega arith), λ l. i)
  | inr i ↦
      let j = up-enough t k some r i in
      (λ l. (omega arith, λ e. omega arith), λ l. i, λ l. absurd (omega arith), λ l. elim l [ inl x ↦ omega arith | inr x ↦ omega arith ])
]
