-- What the cells of a row see, and their sides by it.
use mathlib.Core.Path.{◌≡◌, refl, sym, ap, ◌∙◌}
use mathlib.Core.Bool.{Bool, true, false, cond}
use mathlib.Core.List.{List}
use mathlib.Core.Logic.{◌⊎◌, inl, inr, ◌≢◌}
use Prim.Native.Nat.{ℕ, suc, ◌+◌, ◌*◌, ◌-◌, ◌/◌, ◌%◌, ◌≤◌, ◌<◌}
use native.Mathlib.Omega.{arith}
use native.Mathlib.Decide.{ℕ_discrete}
use native.Mathlib.Nat.{mul_comm, mul-le-mul_right, mod-eq_of_lt, mod_self, mod-one, zero-mod}
use lib.Dec.{leb}
use lib.ListN.{length, get_or, take, drop}
use lib.Seq.{length-take-le, get_or-take}
use borrow.Author.Tests.{leb-true, lt-ltb, le-ltb, eq-eqb}
use Rattle.eikonal.specs.Axes.{place, before, behind}
use Rattle.eikonal.specs.Board.{Board, never, column_axis, row_axis, storey_axis}
use Rattle.eikonal.specs.Tiles.{tile_of}
use Rattle.eikonal.specs.Sides.{side, sides_of, sides_seen}
use Rattle.eikonal.specs.Inner.Sides.{sides_by}
use Rattle.eikonal.proofs.Levels.{order}
use Rattle.eikonal.proofs.Sides.{sides-none}
use Rattle.queue.proofs.Parts.{part-long, part_at}
use Rattle.front.specs.Front.{ghosted}
use Rattle.front.specs.Seams.{cut, stack_cut, seam, seam_back, seam_on, edge, across, mark_under, mark_over}
use Rattle.front.specs.Board.{land, Ground, Site}
use Rattle.front.specs.declared.Shape.{Shape}
use Rattle.front.proofs.Theory.Seams.{seam-edge, columns_straight, rows_straight, storeys_straight, sees_back, sees-on}
use Rattle.front.proofs.Theory.Reading.{across-edge, across-inside, across-border, place-behind, marked-back, marked-on}
use Rattle.front.proofs.Theory.Reading.{rows_whole, column-at, line_at, under_mark, over_mark}
use Rattle.sides.specs.Row.{shown, left_of, right_of, on_storey}
use Rattle.sides.specs.Pass.{Off, SeenRow, flat_at, stack_at, found_at}

-- ---- WHAT A ROW SEES across a seam: never, a part of its own tile's times, or a part of those beyond borders
module _ {own far : List ℕ} {m e w : ℕ} where
  pub row-off : {off : List ℕ} → m ≡ edge → Off w off → SeenRow m own far e w (take w off)
  row-off {off} q o = record {
    long = length-take-le w off o.long;
    each = λ i l. get_or-take w off i 0 l ∙ o.never i l ∙ sym (across-edge m _ _ q);
  }

  pub row-own : m ≡ 2 → e + w ≤ length own → SeenRow m own far e w (take (e + w - e) (drop e own))
  row-own q l = record { long = part-long own e w l; each = λ i h. part_at own e w i h ∙ sym (across-inside m _ _ q) }

  pub row-far : m ≢ edge → m ≢ 2 → e + w ≤ length far → SeenRow m own far e w (take (e + w - e) (drop e far))
  row-far p q l = record { long = part-long far e w l; each = λ i h. part_at far e w i h ∙ sym (across-border m _ _ p q) }

-- what is seen across a seam, from entries that matter only where it is not the edge
across-same : (m f g x y : ℕ) → (m ≢ edge → (f ≡ x) × (g ≡ y)) → across m f g ≡ across m x y
across-same m f g x y h = elim (ℕ_discrete m edge) [
  | yes q ↦ across-edge m f g q ∙ sym (across-edge m x y q)
  | no q ↦ let e = h q in rw (e.0, e.1)
]

-- none of a time past the bound
shown-sides : (m l r u d o n t : ℕ) → sides_of l r u d o n (shown m t) ≡ cond (leb t m) (sides_of l r u d o n t) 0
shown-sides m l r u d o n t = go (leb t m)
  where
    go : (p : Bool) → sides_of l r u d o n (cond p t 0) ≡ cond p (sides_of l r u d o n t) 0
    go true = refl
    go false = sides-none l r u d o n

shown-most : (m t : ℕ) → shown m t ≤ m
shown-most m t = go (leb t m) refl
  where
    go : (p : Bool) → leb t m ≡ p → cond p t 0 ≤ m
    go true e = leb-true t m e
    go false e = omega arith

-- never is no side
no_side : (t : ℕ) → t ≤ never → side never never t ≡ 0
unfolding side
no_side t l = rw (le-ltb never t l)

-- ---- A CELL of a row, of some legal board
module _ {s : Shape} {slow own cols rows : List ℕ} (gr : Ground s slow own cols rows) (far : List ℕ) (same : length far ≡ s.cells) (m : ℕ) {row : ℕ}
    (line : row < s.height * s.storeys) where
  abbrev w : ℕ
  w = s.width

  abbrev from : ℕ
  from = row * s.width

  abbrev board : Board
  board = land s slow

  abbrev part : (v : List ℕ) → List ℕ
  part v = take (from + w - from) (drop from v)

  abbrev ghost : (d e : ℕ) → ℕ
  ghost d e = get_or far e 0

  abbrev time_of : (e : ℕ) → ℕ
  time_of e = get_or own e 0

  -- its row ends on the board
  pub row_ends : from + w ≤ s.cells
  row_ends = omega (arith, rows_whole gr, mul-le-mul_right w line)

  module _ {i : ℕ} (l : i < w) where
    abbrev c : ℕ
    c = from + i

    abbrev seen : (e : ℕ) → ℕ
    seen e = ghosted board s.across s.down ghost time_of c e

    site : Site s.cells w c row i
    site = record { on = omega (arith, row_ends); cell = refl; column = l }

    own-long : length (part own) ≡ w
    own-long = part-long own from w (omega (arith, row_ends, gr.many))

    own_at : get_or (part own) i 0 ≡ time_of c
    own_at = part_at own from w i l

    -- before and behind it in the row
    column-is : place (column_axis board) c ≡ i
    column-is = column-at gr site ∙ mod-eq_of_lt l

    left-seen : left_of s.across (part own) (part far) i ≡ before (column_axis board) c seen
    left-seen =
        ap (λ (k : ℕ). across (seam k s.across i) (get_or (part own) (i - 1) 0) (get_or (part far) (i - 1) 0)) own-long
        ∙ across-same (seam w s.across i) _ _ (time_of (c - 1)) (ghost c (c - 1)) (λ q. (back own q, back far q))
        ∙ ap (λ (k : ℕ). across (seam w s.across k) (time_of (c - 1)) (ghost c (c - 1))) (sym column-is)
        ∙ sees_back (columns_straight gr.good s.across s.down gr.across gr.down) c ghost time_of
      where
        back : (v : List ℕ) → seam w s.across i ≢ edge → get_or (part v) (i - 1) 0 ≡ get_or v (c - 1) 0
        back v q =
            let some : i ≢ 0 = λ z. q (seam-edge w s.across i (ap (λ (u : ℕ). u % w) z ∙ zero-mod w)) in
            let at : from + (i - 1) ≡ c - 1 = omega (arith, some) in
            part_at v from w (i - 1) (omega (arith, l)) ∙ ap (λ (u : ℕ). get_or v u 0) at

    right-seen : right_of s.across (part own) (part far) i ≡ behind (column_axis board) c seen
    right-seen =
        ap (λ (k : ℕ). across (seam k s.across (suc i)) (get_or (part own) (suc i) 0) (get_or (part far) (suc i) 0)) own-long
        ∙ across-same (seam w s.across (suc i)) _ _ (time_of (c + 1)) (ghost c (c + 1)) (λ q. (on own q, on far q))
        ∙ ap (λ (k : ℕ). across (seam w s.across (suc k)) (time_of (c + 1)) (ghost c (c + 1))) (sym column-is)
        ∙ sees-on (columns_straight gr.good s.across s.down gr.across gr.down) c ghost time_of
      where
        on : (v : List ℕ) → seam w s.across (suc i) ≢ edge → get_or (part v) (suc i) 0 ≡ get_or v (c + 1) 0
        on v q =
            let some : suc i ≢ w = λ z. q (seam-edge w s.across (suc i) (ap (λ (u : ℕ). u % w) z ∙ mod_self w)) in
            let at : from + suc i ≡ c + 1 = omega arith in
            part_at v from w (suc i) (omega (arith, l, some)) ∙ ap (λ (u : ℕ). get_or v u 0) at

    -- in a row that is seen across a seam, from e on
    row_seen : {k e d : ℕ} {r : List ℕ} → SeenRow k own far e w r → (k ≢ edge → e + i ≡ d) → get_or r i 0 ≡ across k (time_of d) (ghost c d)
    row_seen {k} sr h =
        sr.each i l ∙ across-same k _ _ _ _ (λ q. (ap (λ (u : ℕ). get_or own u 0) (h q), ap (λ (u : ℕ). get_or far u 0) (h q)))

    above-seen : {r : List ℕ} → SeenRow (get_or rows row 0) own far (from + 0 - w) w r → get_or r i 0 ≡ before (row_axis board) c seen
    above-seen sr =
        row_seen sr (λ q. omega (arith, mul-le-mul_right w (place-behind gr.lines line q)))
        ∙ ap (λ (k : ℕ). across k (time_of (c - w)) (ghost c (c - w)))
        (marked-back (cut (row_axis board) s.down) c gr.lines (line_at gr site) line)
        ∙ sees_back (rows_straight gr.good s.across s.down gr.across gr.down) c ghost time_of

    below-seen : {r : List ℕ} → SeenRow (get_or rows (row + 1) 0) own far (from + w - 0) w r → get_or r i 0 ≡ behind (row_axis board) c seen
    below-seen sr =
        row_seen sr (λ q. omega arith)
        ∙ ap (λ (k : ℕ). across k (time_of (c + w)) (ghost c (c + w)))
        (marked-on (cut (row_axis board) s.down) c gr.lines (line_at gr site) line)
        ∙ sees-on (rows_straight gr.good s.across s.down gr.across gr.down) c ghost time_of

    -- over and under it: its whole row has the same
    module _ {area : ℕ} (storey : area ≡ s.width * s.height) where
      turned : s.height * w ≡ area
      turned = mul_comm s.height w ∙ sym storey

      under-row : mark_under area from ≡ mark_under area c
      under-row = go (order row s.height)
        where
          go : (row < s.height) ⊎ (s.height ≤ row) → mark_under area from ≡ mark_under area c
          go (inl k) =
              let fits : from + w ≤ area = omega (arith, mul-le-mul_right w k, turned) in
              rw (lt-ltb from area (omega (arith, fits, l)), lt-ltb c area (omega (arith, fits, l)))
          go (inr k) =
              let past : area ≤ from = omega (arith, mul-le-mul_right w k, turned) in
              rw (le-ltb from area past, le-ltb c area (omega (arith, past)))

      over-row : mark_over s.cells area from ≡ mark_over s.cells area c
      over-row = go (order (row + s.height) (s.height * s.storeys))
        where
          go : (row + s.height < s.height * s.storeys) ⊎ (s.height * s.storeys ≤ row + s.height)
              → mark_over s.cells area from ≡ mark_over s.cells area c
          go (inl k) =
              let fits : from + area + w ≤ s.cells = omega (arith, mul-le-mul_right w k, turned, rows_whole gr) in
              rw (lt-ltb (from + area) s.cells (omega (arith, fits, l)), lt-ltb (c + area) s.cells (omega (arith, fits, l)))
          go (inr k) =
              let past : s.cells ≤ from + area = omega (arith, mul-le-mul_right w k, turned, rows_whole gr) in
              rw (le-ltb (from + area) s.cells past, le-ltb (c + area) s.cells (omega (arith, past)))

      under-seen : {r : List ℕ} → SeenRow (mark_under area from) own far (from + 0 - area) w r → get_or r i 0 ≡ before (storey_axis board) c seen
      under-seen sr =
          row_seen sr (λ q. omega (arith, past q))
          ∙ ap (λ (k : ℕ). across k (time_of (c - area)) (ghost c (c - area))) (under-row ∙ under_mark gr site storey)
          ∙ ap (λ (u : ℕ). across (seam_back (stack_cut board) c) (time_of (c - u)) (ghost c (c - u))) storey
          ∙ sees_back (storeys_straight gr.good s.across s.down gr.across gr.down) c ghost time_of
        where
          past : mark_under area from ≢ edge → area ≤ from
          past q = go (order from area)
            where
              go : (from < area) ⊎ (area ≤ from) → area ≤ from
              go (inl k) = absurd (q (rw (lt-ltb from area k)))
              go (inr k) = k

      over-seen : {r : List ℕ} → SeenRow (mark_over s.cells area from) own far (from + area - 0) w r → get_or r i 0 ≡ behind (storey_axis board) c seen
      over-seen sr =
          row_seen sr (λ q. omega arith)
          ∙ ap (λ (k : ℕ). across k (time_of (c + area)) (ghost c (c + area))) (over-row ∙ over_mark gr site storey)
          ∙ ap (λ (u : ℕ). across (seam_on (stack_cut board) c) (time_of (c + u)) (ghost c (c + u))) storey
          ∙ sees-on (storeys_straight gr.good s.across s.down gr.across gr.down) c ghost time_of

    -- ---- so its sides on its storey
    pub flat-is : {up dn : List ℕ} → SeenRow (get_or rows row 0) own far (from + 0 - w) w up → SeenRow (get_or rows (row + 1) 0) own far (from + w - 0) w dn
        → on_storey s.across m (part own) (part far) up dn i ≡ flat_at s own far m c
    unfolding tile_of
    flat-is above below = rw (left-seen, right-seen, above-seen above, below-seen below, own_at)

    -- its side between storeys
    pub stack_is : {area : ℕ} {ov un : List ℕ} → area ≡ s.width * s.height → SeenRow (mark_over s.cells area from) own far (from + area - 0) w ov
        → SeenRow (mark_under area from) own far (from + 0 - area) w un
        → side (get_or ov i 0) (get_or un i 0) (shown m (get_or (part own) i 0)) ≡ stack_at s own far m c
    unfolding tile_of
    stack_is storey over under = rw (over-seen storey over, under-seen storey under, own_at)

    -- and both
    pub house_is : flat_at s own far m c + 16 * stack_at s own far m c ≡ found_at s own far m c
    unfolding sides_by sides_seen sides_of
    house_is = shown-sides m _ _ _ _ _ _ (time_of c)

    -- on a flat board nothing is over or under
    pub flat-all : s.storeys ≡ 1 → m ≤ never → flat_at s own far m c ≡ found_at s own far m c
    unfolding place
    flat-all flat low =
        let t = shown m (time_of c) in
        omega (arith, house_is, none ∙ no_side t (omega (arith, low, shown-most m (time_of c))))
      where
        first : place (storey_axis board) c ≡ 0
        first = ap (λ (u : ℕ). c / (s.width * s.height) % u) flat ∙ mod-one (c / (s.width * s.height))

        none : stack_at s own far m c ≡ side never never (shown m (time_of c))
        none = rw (eq-eqb (place (storey_axis board) c) 0 first, eq-eqb (suc (place (storey_axis board) c)) s.storeys (ap suc first ∙ sym flat))
