-- A slowness that is not refused is 0 just if a number of its pair is; there no front comes.
use mathlib.Core.Path.{◌≡◌, ap}
use mathlib.Core.Logic.{◌⊎◌, inl, inr, ◌≢◌}
use Prim.Native.Nat.{ℕ, ◌*◌, ◌≤◌}
use native.Mathlib.Omega.{arith}
use native.Mathlib.Nat.{mul-le-mul}
use Rattle.eikonal.specs.Axes.{given_on}
use Rattle.eikonal.specs.Board.{Board, never, slowness, along_row, down_column, arrival}
use Rattle.eikonal.specs.Inner.Good.{Good, Pair}
use Rattle.eikonal.proofs.Lattices.{Given, stays, comes, is-given}
use Rattle.eikonal.proofs.Rule.{lattice, arrival-is}

pub wall : (s : ℕ) → s ≡ 0 → along_row s * down_column s ≡ 0
unfolding along_row
wall s e =
    let z : along_row s ≡ 0 = ap along_row e in
    rw z (omega arith)

pub passable : (s : ℕ) → Pair (along_row s) (down_column s) → s ≢ 0 → 1 ≤ along_row s * down_column s
unfolding along_row down_column
passable s p n = go p.whole
  where
    go : ((along_row s ≡ 0) × (down_column s ≡ 0)) ⊎ ((1 ≤ along_row s) × (1 ≤ down_column s)) → 1 ≤ along_row s * down_column s
    go (inl z) = absurd (n (omega (arith, z.0, z.1)))
    go (inr z) = mul-le-mul z.0 z.1

-- the numbers of a pair that are not equal are above 0
pub unequal : {g h : ℕ} → Pair g h → (g ≡ h → ⊥) → (1 ≤ g) × (g ≤ 4095) × (1 ≤ h) × (h ≤ 4095)
unequal {g} {h} p n = go p.whole
  where
    go : ((g ≡ 0) × (h ≡ 0)) ⊎ ((1 ≤ g) × (1 ≤ h)) → (1 ≤ g) × (g ≤ 4095) × (1 ≤ h) × (h ≤ 4095)
    go (inl z) = absurd (n (omega (arith, z.0, z.1)))
    go (inr z) = (z.0, p.along_most, z.1, p.down_most)

module _ {b : Board} (good : Good b) (c : ℕ) (f : ℕ → ℕ) where
  pub arrival_wall : slowness b c ≡ 0 → arrival b c f ≡ never
  arrival_wall w = rw (arrival-is good c f) (go (is-given (lattice good) c f))
    where
      go : Given (lattice good) c f → given_on (lattice good) c f ≡ never
      go (stays z e) = e
      go (comes p n l m) = absurd (omega (arith, wall (slowness b c) w))

  -- no arrival is at 0
  pub arrival-late : 1 ≤ arrival b c f
  arrival-late = rw (arrival-is good c f) (go (is-given (lattice good) c f))
    where
      go : Given (lattice good) c f → 1 ≤ given_on (lattice good) c f
      go (stays z e) = omega arith
      go (comes p n l m) = omega arith
