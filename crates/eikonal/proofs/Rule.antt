-- A board that is not refused is a lattice: its axes are the columns, the rows and the storeys, and its rule is the local rule.
use mathlib.Core.Path.{◌≡◌, sym, ap, ◌∙◌}
use Prim.Native.Nat.{ℕ, suc, ◌*◌, ◌≤◌, ◌<◌, min, max}
use native.Mathlib.Omega.{arith}
use native.Mathlib.Nat.{mul-le-mul}
use Rattle.eikonal.specs.Axes.{Spans, none, also, Weights, Lattice, given_on, met_on, sights}
use Rattle.eikonal.specs.Board.{Board, never, size, axes, column_axis, row_axis, storey_axis}
use Rattle.eikonal.specs.Board.{slowness, along_row, down_column, earlier, start_time, arrival, met}
use Rattle.eikonal.specs.Promise.{Neighbour}
use Rattle.eikonal.specs.Inner.Good.{Good}
use Rattle.eikonal.proofs.Good.{start-most}
use Rattle.eikonal.proofs.Local.{earlier-min, others, enough, local_by}
use Rattle.eikonal.proofs.Lattices.{given-agree, given-under, given-same}

-- the numbers of a cell's pair
abbrev pub row_of : Board → (c : ℕ) → ℕ
row_of b c = along_row (slowness b c)

abbrev pub column_of : Board → (c : ℕ) → ℕ
column_of b c = down_column (slowness b c)

abbrev pub weights : Board → (c : ℕ) → Weights
weights b c = record {
  far = max (row_of b c) (column_of b c);
  due = row_of b c * column_of b c;
  first = column_of b c;
  others = others (row_of b c);
  enough = enough (row_of b c) (column_of b c);
}

module _ {b : Board} (good : Good b) where
  pub columns-span : Spans (size b) (column_axis b)
  unfolding size
  columns-span = record { unit_low = omega arith; count_low = good.wide_low; many = b.high * b.storeys; whole = turned }
    where
      turned : b.wide * b.high * b.storeys ≡ b.high * b.storeys * b.wide * 1
      turned = omega arith

  pub rows-span : Spans (size b) (row_axis b)
  unfolding size
  rows-span = record { unit_low = good.wide_low; count_low = good.high_low; many = b.storeys; whole = omega arith }

  pub storeys-span : Spans (size b) (storey_axis b)
  unfolding size
  storeys-span = record { unit_low = omega (arith, mul-le-mul good.wide_low good.high_low); count_low = good.storeys_low; many = 1; whole = omega arith }

  abbrev pub lattice : Lattice
  lattice = record {
    cells = size b;
    axes = axes b;
    weights = weights b;
    begins = λ c. start_time c b.starts;
    spans = also columns-span (also rows-span (also storeys-span none));
    begins_most = start-most good;
  }

  pub arrival-is : (c : ℕ) (f : ℕ → ℕ) → arrival b c f ≡ given_on lattice c f
  unfolding arrival given_on
  arrival-is c f = local_by (row_of b c) (column_of b c) (sights (axes b) c f)

  pub met-is : (c : ℕ) (f : ℕ → ℕ) → met b c f ≡ met_on lattice c f
  unfolding met met_on
  met-is c f = ap (earlier (start_time c b.starts)) (arrival-is c f)

  -- what neighbours give a cell rests on them alone, level by level, and follows them
  module _ (c : ℕ) (on : c < size b) (f g : ℕ → ℕ) where
    pub arrival-agree : (t : ℕ) → t < never → ((e : ℕ) → e < size b → Neighbour b c e → min t (f e) ≡ min t (g e))
        → min (suc t) (arrival b c f) ≡ min (suc t) (arrival b c g)
    arrival-agree t l h = rw (arrival-is c f, arrival-is c g) (given-agree lattice c on f g t l h)

    pub arrival-under : ((e : ℕ) → e < size b → Neighbour b c e → min never (f e) ≤ g e) → min never (arrival b c f) ≤ arrival b c g
    arrival-under h = rw (arrival-is c f, arrival-is c g) (given-under lattice c on f g h)

    pub arrival-same : ((e : ℕ) → e < size b → Neighbour b c e → f e ≡ g e) → arrival b c f ≡ arrival b c g
    arrival-same h = arrival-is c f ∙ given-same lattice c on f g h ∙ sym (arrival-is c g)

  -- a cell's time, with the cap that code has
  pub met_capped : (c : ℕ) (f : ℕ → ℕ) → met b c f ≡ min (start_time c b.starts) (min never (arrival b c f))
  unfolding met
  met_capped c f = rw (earlier-min (start_time c b.starts) (arrival b c f)) (omega (arith, start-most good c))
