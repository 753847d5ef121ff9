-- What code reads of a cell's neighbours is what the rule sees of them.
use Rattle.std.proofs.Common.{◌≡◌, ℕ, zero, suc, ◌+◌, ◌-◌, ◌*◌, ◌/◌, ◌%◌, ◌<◌, ◌≤◌, min, Bool, true, eqb, ◌≢◌, ◌⊎◌, List, [], ◌∷◌, length}
use Rattle.std.proofs.Common.{get_or, sym, refl, ap, ◌∙◌, inl, inr, mul-le-mul_right, mod-lt, mod-eq_of_lt, mul_comm, mul-le-mul}
use Rattle.std.proofs.Common.{mul-le-mul_left, div-add-mod', div-one, add-one, arith, le-ltb, lt-ltb, eq-eqb, ne_eqb, eqb-true}
use native.Mathlib.Decide.{ℕ_discrete}
use native.Mathlib.Nat.{mul-mod_right, mod-mod, div-eq_of_lt-le, mod_self, mod-one, zero-mod}
use Rattle.eikonal.specs.Axes.{place, sight}
use Rattle.eikonal.specs.Board.{Board, never, size, column_axis, row_axis, storey_axis, slowness, along_row, down_column, time, local_of, arrival}
use Rattle.eikonal.specs.Tiles.{counts_as}
use Rattle.eikonal.proofs.Levels.{order}
use Rattle.eikonal.proofs.Local.{earlier-min}
use Rattle.eikonal.proofs.Grid.{quotient_low, place-low, unit-most, on-cell}
use Rattle.eikonal.proofs.Rule.{storeys-span}
use Rattle.front.specs.Front.{ghosted}
use Rattle.front.specs.Seams.{Cut, cut, seam, seam_back, seam_on, edge, across, mark_under, mark_over}
use Rattle.front.specs.Board.{land, rule_at, both_seen, Marked, Ground, Site, Step, Sees}
use Rattle.front.specs.declared.Shape.{Shape}
use Rattle.front.proofs.Theory.Seams.{seam-edge, seam-inside, seam-round, seam-next, Straight, columns_straight, rows_straight, storeys_straight, sees}

-- an entry of a list is the same by any default
get_d_any : (l : List ℕ) (i d e : ℕ) → i < length l → get_or l i d ≡ get_or l i e
get_d_any [] i d e h = absurd (omega arith)
get_d_any (x ∷ xs) zero d e h = refl
get_d_any (x ∷ xs) (suc i) d e h = get_d_any xs i d e (omega arith)

pub time-at : (ts : List ℕ) (e : ℕ) → e < length ts → time ts e ≡ get_or ts e 0
unfolding time
time-at ts e h = get_d_any ts e never 0 h

-- ---- what is seen across a seam
module _ (s f g : ℕ) where
  pub across-edge : s ≡ edge → across s f g ≡ never
  unfolding across
  across-edge e = rw e

  pub across-inside : s ≡ 2 → across s f g ≡ f
  unfolding across
  across-inside e = rw e

  pub across-border : s ≢ edge → s ≢ 2 → across s f g ≡ g
  unfolding across
  across-border a b = rw (ne_eqb s 0 a, ne_eqb s 2 b)

-- ---- where a seam is not the edge there is a place behind it, or ahead
module _ {n s many i : ℕ} {js : List ℕ} (la : Marked n s many js) (l : i < n * many) where
  pub place-behind : get_or js i 0 ≢ edge → 1 ≤ i
  place-behind q = elim (ℕ_discrete i 0) [
    | yes z ↦ absurd (q (la.at i (omega arith) ∙ seam-edge n s i (ap (λ (u : ℕ). u % n) z ∙ zero-mod n)))
    | no z ↦ omega arith
  ]

  pub place_ahead : get_or js (i + 1) 0 ≢ edge → i + 1 < n * many
  place_ahead q = elim (ℕ_discrete (i + 1) (n * many)) [
    | yes z ↦ absurd (q (la.at (i + 1) (omega arith) ∙ seam-edge n s (i + 1) (ap (λ (u : ℕ). u % n) z ∙ mul-mod_right n many)))
    | no z ↦ omega arith
  ]

-- the seams laid around a cell that is at the i-th place
module _ (x : Cut) (c : ℕ) {many i : ℕ} {js : List ℕ} (la : Marked x.axis.count x.side many js) (at : place x.axis c ≡ i % x.axis.count)
    (l : i < x.axis.count * many) where
  pub marked-back : get_or js i 0 ≡ seam_back x c
  marked-back = la.at i (omega arith) ∙ seam-round x.axis.count x.side i ∙ ap (seam x.axis.count x.side) (sym at)

  pub marked-on : get_or js (i + 1) 0 ≡ seam_on x c
  marked-on =
      la.at (i + 1) (omega arith) ∙ ap (seam x.axis.count x.side) (add-one i) ∙ seam-next x.axis.count x.side i
      ∙ ap (λ (u : ℕ). seam x.axis.count x.side (suc u)) (sym at)

-- ---- a cell's site, and those of its neighbours
module _ {n w c row col : ℕ} (si : Site n w c row col) where
  pub row_is : c / w ≡ row
  row_is = div-eq_of_lt-le w (omega (arith, si.cell)) (omega (arith, si.cell, si.column))

  pub col_is : c % w ≡ col
  col_is = omega (arith, si.cell, div-add-mod' c w, ap (λ (u : ℕ). u * w) row_is)

  -- where a storey has h rows, one that has a storey under it is past them
  pub past_storey : (h : ℕ) → h * w ≤ c → h ≤ row
  past_storey h l = go (order row h)
    where
      go : (row < h) ⊎ (h ≤ row) → h ≤ row
      go (inl i) = absurd (omega (arith, si.cell, si.column, mul-le-mul_right w i))
      go (inr i) = i

-- a step before and a step behind
module _ {n w c row col step down right : ℕ} {before behind : Bool} (st : Step n w c row col step down right before behind) where
  pub step-low : before ≡ true → step ≤ c
  step-low b = omega (arith, st.site.cell, st.span, st.back b, mul-le-mul_right w (st.back b).0)

  pub before-site : {e r k : ℕ} → c ≡ e + step → row ≡ r + down → col ≡ k + right → Site n w e r k
  before-site {e} {r} {k} p q z =
      let si = st.site in
      record { on = omega (arith, si.on); cell = omega (arith, si.cell, st.span, ap (λ (u : ℕ). u * w) q); column = omega (arith, si.column) }

  pub behind-site : behind ≡ true → Site n w (c + step) (row + down) (col + right)
  behind-site b = record { on = (st.on b).0; cell = omega (arith, st.site.cell, st.span); column = (st.on b).1 }

  pub step_small : n ≤ 65536 → (c + step ≤ 131072) × (row + down ≤ 131072) × (col + right ≤ 131072)
  step_small l =
      let si = st.site in
      let wide : 1 ≤ w = omega (arith, si.column) in
      let rows : row ≤ row * w = omega (arith, mul-le-mul_left row wide) in
      let less : down ≤ down * w = omega (arith, mul-le-mul_left down wide) in
      (omega (arith, si.on, st.short), omega (arith, si.on, si.cell, st.span, st.short), omega (arith, si.on, si.cell, st.span, st.short))

module _ {s : Shape} {slow ts cols rows : List ℕ} (gr : Ground s slow ts cols rows) where
  pub cells-size : s.cells ≡ size (land s slow)
  unfolding size
  cells-size = gr.cells

  pub cells-most : s.cells ≤ 65536
  cells-most = omega (arith, cells-size, gr.good.few)

  pub slow-long : length slow ≡ s.cells
  slow-long = gr.good.slow_length ∙ sym cells-size

  -- rows are numbered through all storeys
  pub lines-most : s.height * s.storeys ≤ 2048
  lines-most = mul-le-mul gr.good.high_high gr.good.storeys_high

  pub rows_whole : s.height * s.storeys * s.width ≡ s.cells
  rows_whole = turned ∙ sym gr.cells
    where
      turned : s.height * s.storeys * s.width ≡ s.width * s.height * s.storeys
      turned = omega arith

  whole : s.cells ≡ s.height * s.storeys * s.width
  whole = sym rows_whole

  pub storey_most : s.width * s.height ≤ s.cells
  storey_most = omega (arith, gr.cells, mul-le-mul_left (s.width * s.height) gr.good.storeys_low)

  module _ {c row col : ℕ} (si : Site s.cells s.width c row col) where
    on : c < size (land s slow)
    on = omega (arith, cells-size, si.on)

    pub line : row < s.height * s.storeys
    line = omega (arith, row_is si, quotient_low c s.width (s.height * s.storeys) (omega (arith, si.on, whole)))

    pub column : col < s.width * 1
    column = omega (arith, si.column)

    -- ---- the neighbours are on the board where the seams are not the edge
    pub left-some : get_or cols col 0 ≢ edge → 1 ≤ c
    left-some q = omega (arith, si.cell, place-behind gr.columns column q)

    pub right-some : get_or cols (col + 1) 0 ≢ edge → c + 1 < s.cells
    right-some q = omega (arith, si.cell, place_ahead gr.columns column q, whole, mul-le-mul_right s.width line)

    pub above-some : get_or rows row 0 ≢ edge → s.width ≤ c
    above-some q = omega (arith, si.cell, mul-le-mul_right s.width (place-behind gr.lines line q))

    pub below-some : get_or rows (row + 1) 0 ≢ edge → c + s.width < s.cells
    below-some q = omega (arith, si.cell, si.column, whole, mul-le-mul_right s.width (place_ahead gr.lines line q))

    module _ {work : List ℕ} (room : 4 * s.cells ≤ length work) (u : ℕ) {mark : ℕ} where
      fits : (less more : ℕ) → (mark ≢ edge → (more ≤ s.cells) × (less ≤ c + more) × (c + more - less < s.cells)) → Sees s.cells slow ts work c less more mark
      fits less more h = record {
        slows = omega (arith, slow-long);
        times = omega (arith, gr.many);
        room = room;
        cell = si.on;
        far = λ q. (h q).0;
        low = λ q. (h q).1;
        high = λ q. (h q).2;
      }

      pub fits-back : (mark ≢ edge → u ≤ c) → Sees s.cells slow ts work c u 0 mark
      fits-back h = fits u 0 (λ q. (omega arith, omega (arith, h q), omega (arith, si.on)))

      pub fits_on : (mark ≢ edge → c + u < s.cells) → Sees s.cells slow ts work c 0 u mark
      fits_on h = fits 0 u (λ q. (omega (arith, h q), omega arith, omega (arith, h q)))

    -- it lies within the seams as laid
    pub within : (col < 256) × (row < 2048)
    within = (omega (arith, column, gr.good.wide_high), omega (arith, line, lines-most))

    -- so its neighbours on its storey can be seen
    module _ {work : List ℕ} (room : 4 * s.cells ≤ length work) where
      pub sees-columns : Sees s.cells slow ts work c 1 0 (get_or cols col 0) × Sees s.cells slow ts work c 0 1 (get_or cols (col + 1) 0)
      sees-columns = (fits-back room 1 left-some, fits_on room 1 right-some)

      pub sees-rows : Sees s.cells slow ts work c s.width 0 (get_or rows row 0) × Sees s.cells slow ts work c 0 s.width (get_or rows (row + 1) 0)
      sees-rows = (fits-back room s.width above-some, fits_on room s.width below-some)

    -- ---- the places of the cell: its column, its row in the storey, its storey
    abbrev board : Board
    board = land s slow

    pub column-at : place (column_axis board) c ≡ col % s.width
    unfolding place
    column-at = ap (λ (u : ℕ). u % s.width) (div-one c) ∙ col_is si
        ∙ sym (mod-eq_of_lt (omega (arith, column)))

    pub line_at : place (row_axis board) c ≡ row % s.height
    unfolding place
    line_at = ap (λ (u : ℕ). u % s.height) (row_is si)

    abbrev stack : Cut
    stack = cut (storey_axis board) s.storeys

    stack-whole : s.cells ≡ s.storeys * (s.width * s.height)
    stack-whole = gr.cells ∙ mul_comm (s.width * s.height) s.storeys

    module _ {area : ℕ} (storey : area ≡ s.width * s.height) where
      -- a cell has one under it just if it is past the first storey, and one over it just if it is before the last
      lowest : c < area → place (storey_axis board) c ≡ 0
      lowest l = elim (ℕ_discrete (place (storey_axis board) c) 0) [
        | yes q ↦ q
        | no q ↦ absurd (omega (arith, storey, unit-most (storeys-span gr.good) c q))
      ]

      not_lowest : area ≤ c → place (storey_axis board) c ≢ 0
      unfolding place
      not_lowest l z =
          let k = s.width * s.height in
          let low : c / k < s.storeys = quotient_low c k s.storeys (omega (arith, si.on, stack-whole)) in
          let none : c / k ≡ 0 = sym (mod-eq_of_lt low) ∙ z in
          omega (arith, storey, div-add-mod' c k, mod-lt c (mul-le-mul gr.good.wide_low gr.good.high_low), ap (λ (u : ℕ). u * k) none)

      highest : s.cells ≤ c + area → suc (place (storey_axis board) c) ≡ s.storeys
      highest l = elim (ℕ_discrete (suc (place (storey_axis board) c)) s.storeys) [
        | yes q ↦ q
        | no q ↦ absurd (omega (arith, storey, cells-size, on-cell (storeys-span gr.good) c on q))
      ]

      not_highest : c + area < s.cells → suc (place (storey_axis board) c) ≢ s.storeys
      unfolding place
      not_highest l z =
          let k = s.width * s.height in
          let low : c / k < s.storeys = quotient_low c k s.storeys (omega (arith, si.on, stack-whole)) in
          let last : suc (c / k) ≡ s.storeys = ap suc (sym (mod-eq_of_lt low)) ∙ z in
          omega (arith, storey, stack-whole, div-add-mod' c k, ap (λ (u : ℕ). u * k) last)

      pub under_mark : mark_under area c ≡ seam_back stack c
      under_mark = go (order c area)
        where
          go : (c < area) ⊎ (area ≤ c) → mark_under area c ≡ seam_back stack c
          go (inl l) = rw (lt-ltb c area l) (sym (seam-edge s.storeys s.storeys _ (ap (λ (u : ℕ). u % s.storeys) (lowest l) ∙ zero-mod s.storeys)))
          go (inr l) =
              let p = mod-eq_of_lt (place-low (storeys-span gr.good) c) in
              rw (le-ltb c area l)
              (sym (seam-inside s.storeys s.storeys _ (λ z. not_lowest l (sym p ∙ z))
              (λ z. not_lowest l (sym p ∙ sym (mod-mod (place (storey_axis board) c) s.storeys) ∙ z))))

      pub over_mark : mark_over s.cells area c ≡ seam_on stack c
      over_mark = go (order (c + area) s.cells)
        where
          go : (c + area < s.cells) ⊎ (s.cells ≤ c + area) → mark_over s.cells area c ≡ seam_on stack c
          go (inl l) =
              let i = suc (place (storey_axis board) c) in
              let p : i % s.storeys ≡ i = mod-eq_of_lt (omega (arith, place-low (storeys-span gr.good) c, not_highest l)) in
              rw (lt-ltb (c + area) s.cells l)
              (sym (seam-inside s.storeys s.storeys i (λ z. omega (arith, p)) (λ z. omega (arith, p, mod-mod i s.storeys))))
          go (inr l) =
              rw (le-ltb (c + area) s.cells l)
              (sym (seam-edge s.storeys s.storeys _ (ap (λ (u : ℕ). u % s.storeys) (highest l) ∙ mod_self s.storeys)))

      pub under_some : mark_under area c ≢ edge → area ≤ c
      under_some q = go (order c area)
        where
          go : (c < area) ⊎ (area ≤ c) → area ≤ c
          go (inl l) = absurd (q (rw (lt-ltb c area l)))
          go (inr l) = l

      pub over-some : mark_over s.cells area c ≢ edge → c + area < s.cells
      over-some q = go (order (c + area) s.cells)
        where
          go : (c + area < s.cells) ⊎ (s.cells ≤ c + area) → c + area < s.cells
          go (inl l) = l
          go (inr l) = absurd (q (rw (le-ltb (c + area) s.cells l)))

    -- ---- a step along each axis, where it leads across seams of a kind that is not the edge
    module _ (k : ℕ) (ne : k ≢ edge) where
      not-edge : (m : ℕ) → eqb m k ≡ true → m ≢ edge
      not-edge m b z = ne (sym (eqb-true m k b) ∙ z)

      pub columns-step : Step s.cells s.width c row col 1 0 1 (eqb (get_or cols col 0) k) (eqb (get_or cols (col + 1) 0) k)
      columns-step = record {
        site = si;
        span = omega arith;
        short = omega arith;
        back = λ b. (omega arith, place-behind gr.columns column (not-edge _ b));
        on = λ b. (right-some (not-edge _ b), omega (arith, place_ahead gr.columns column (not-edge _ b)));
      }

      pub rows_step : Step s.cells s.width c row col s.width 1 0 (eqb (get_or rows row 0) k) (eqb (get_or rows (row + 1) 0) k)
      rows_step = record {
        site = si;
        span = omega arith;
        short = omega (arith, gr.good.wide_high);
        back = λ b. (place-behind gr.lines line (not-edge _ b), omega arith);
        on = λ b. (below-some (not-edge _ b), omega (arith, si.column));
      }

    -- ---- what code reads across the seams of an axis is what the rule sees there
    abbrev ghost : (d e : ℕ) → ℕ
    ghost d e = counts_as board ts e

    abbrev seen : (f : ℕ → ℕ) → (e : ℕ) → ℕ
    seen f e = ghosted board s.across s.down ghost f c e

    read : {x : Cut} → Straight board s.across s.down x → {m k z : ℕ} → m ≡ seam_back x c → k ≡ seam_on x c → (f : ℕ → ℕ)
        → z ≡ both_seen board ts f c x.axis.unit m k → z ≡ sight x.axis c (seen f)
    read {x} st mb mo f e =
        let here : c + 0 ≡ c = omega arith in
        let there : c + x.axis.unit - 0 ≡ c + x.axis.unit = omega arith in
        e ∙ sees st c ghost f (rw (here, mb)) (rw (there, mo))

    pub columns_read : (f : ℕ → ℕ) {z : ℕ} → z ≡ both_seen board ts f c 1 (get_or cols col 0) (get_or cols (col + 1) 0)
        → z ≡ sight (column_axis board) c (seen f)
    columns_read f =
        read (columns_straight gr.good s.across s.down gr.across gr.down)
        (marked-back (cut (column_axis board) s.across) c gr.columns column-at column)
        (marked-on (cut (column_axis board) s.across) c gr.columns column-at column) f

    pub rows_read : (f : ℕ → ℕ) {z : ℕ} → z ≡ both_seen board ts f c s.width (get_or rows row 0) (get_or rows (row + 1) 0)
        → z ≡ sight (row_axis board) c (seen f)
    rows_read f e =
        read (rows_straight gr.good s.across s.down gr.across gr.down)
        (marked-back (cut (row_axis board) s.down) c gr.lines line_at line) (marked-on (cut (row_axis board) s.down) c gr.lines line_at line) f e

    pub stack_read : (f : ℕ → ℕ) {area z : ℕ} → area ≡ s.width * s.height → z ≡ both_seen board ts f c area (mark_under area c) (mark_over s.cells area c)
        → z ≡ sight (storey_axis board) c (seen f)
    stack_read f {area} q e =
        read (storeys_straight gr.good s.across s.down gr.across gr.down) (under_mark q) (over_mark q) f
        (e ∙ ap (λ (k : ℕ). both_seen board ts f c k (mark_under area c) (mark_over s.cells area c)) q)

    -- on a flat board nothing
    pub flat_read : (f : ℕ → ℕ) → s.storeys ≡ 1 → never ≡ sight (storey_axis board) c (seen f)
    unfolding sight place
    flat_read f e =
        let first : c / (s.width * s.height) % s.storeys ≡ 0 = ap (λ (u : ℕ). c / (s.width * s.height) % u) e ∙ mod-one (c / (s.width * s.height)) in
        sym (rw (eq-eqb _ 0 first, eq-eqb _ _ (ap suc first ∙ sym e)) (earlier-min never never))

    -- THE RULE from what code reads along the axes
    pub rule_read : (f : ℕ → ℕ) {x y z : ℕ} → x ≡ sight (column_axis board) c (seen f) → y ≡ sight (row_axis board) c (seen f)
        → z ≡ sight (storey_axis board) c (seen f)
        → min never (local_of (along_row (get_or slow c 0)) (down_column (get_or slow c 0)) x y z) ≡ rule_at s slow ts c f
    unfolding arrival slowness
    rule_read f ex ey ez = rw (ex, ey, ez) refl

-- ---- what the rule's code reads of a cell and of the seams around it is within the lists
pub ruleset on_ground = (within, slow-long)
