-- Tiles row by row: the rows and columns of a tile, and that an order leaves no cell out.
use mathlib.Core.Path.{◌≡◌, refl, sym, ap, ◌∙◌}
use mathlib.Core.Bool.{Bool, true, false, ◌||◌, false≢true}
use mathlib.Core.Logic.{◌⊎◌, inl, inr}
use mathlib.Core.List.{List, [], ◌∷◌}
use Prim.Native.Nat.{ℕ, zero, suc, ◌+◌, ◌*◌, ◌-◌, ◌/◌, ◌%◌, ◌≤◌, ◌<◌, min}
use native.Mathlib.Omega.{arith}
use native.Mathlib.Decide.{ℕ_discrete}
use native.Mathlib.Nat.{mod-lt, div-add-mod', div-one, div-le_self, mul-le-mul, mul-le-mul_right}
use native.Mathlib.Nat.{div-eq_of_lt-le, mul-add-mod_self_right, mod-eq_of_lt}
use native.Mathlib.Numerals.{add-one}
use lib.Dec.{eqb}
use lib.ListN.{length, get_or, take, drop}
use lib.Seq.{take-length, get_or-take, get_or-drop}
use borrow.Author.Tests.{eqb-true}
use borrow.Rule.Slice.PartMut.{mid_of, mid_len}
use Rattle.eikonal.specs.Axes.{place}
use Rattle.eikonal.specs.Board.{Board, column_axis, row_axis}
use Rattle.eikonal.specs.Tiles.{up, tile_of, tile_count}
use Rattle.eikonal.specs.Refusals.{member, all_there, order_good}
use Rattle.eikonal.specs.Inner.Clip.{clip}
use Rattle.eikonal.proofs.Levels.{order}
use Rattle.eikonal.proofs.Up.{up-short, up-past, up-some}
use Rattle.eikonal.proofs.Good.{and-true}
use Rattle.front.specs.Board.{land}
use Rattle.rows.specs.Lists.{due}
use Rattle.rows.specs.Rows.{Entered, Block, Pillar, PillarBefore, tile_in, Fitting, Wrote}
use Rattle.front.specs.declared.Shape.{Shape}
use Rattle.front.proofs.Theory.Reading.{time-at}

-- ---- room for the cells
module _ {s : Shape} {times work : List ℕ} (r : Fitting s times work) where
  pub lines-most : s.height * s.storeys ≤ 2048
  lines-most = mul-le-mul r.high_high r.storeys_high

  pub room-kept : {now : List ℕ} → length now ≡ length times → Fitting s now work
  room-kept e = record {
    cells = r.cells;
    few = r.few;
    wide_low = r.wide_low;
    wide_high = r.wide_high;
    high_low = r.high_low;
    high_high = r.high_high;
    storeys_high = r.storeys_high;
    across_low = r.across_low;
    across_high = r.across_high;
    down_low = r.down_low;
    down_high = r.down_high;
    many = e ∙ r.many;
    space = r.space;
  }

  pub row-end : {row right : ℕ} → row < s.height * s.storeys → right ≤ s.width → row * s.width + right ≤ s.cells
  row-end {row} l h =
      let i : suc row ≤ s.height * s.storeys = l in
      omega (arith, r.cells, mul-le-mul_right s.width i)

-- ---- blocks of rows and columns
pub row-cells : {w row left right c : ℕ} → Block w row (row + 1) left right c → (row * w + left ≤ c) × (c < row * w + right)
row-cells {w} {row} {left} {right} {c} b =
    let r : c / w ≡ row = omega (arith, b.top_most, b.bottom_most) in
    let p = ap (λ (u : ℕ). u * w) r in
    (omega (arith, div-add-mod' c w, b.left_most), omega (arith, div-add-mod' c w, b.right_most))

pub no_rows : {w top left right c : ℕ} → Block w top top left right c → ⊥
no_rows b = omega (arith, b.top_most, b.bottom_most)

pub one-row-more : {w top row left right c : ℕ} → Block w top (row + 1) left right c → Block w top row left right c ⊎ Block w row (row + 1) left right c
one-row-more {w} {top} {row} {left} {right} {c} b = go (order (c / w) row)
  where
    go : (c / w < row) ⊎ (row ≤ c / w) → Block w top row left right c ⊎ Block w row (row + 1) left right c
    go (inl l) = inl record { top_most = b.top_most; bottom_most = l; left_most = b.left_most; right_most = b.right_most }
    go (inr l) = inr record { top_most = l; bottom_most = b.bottom_most; left_most = b.left_most; right_most = b.right_most }

pub fewer_rows : {w top bottom row left right c : ℕ} → bottom ≤ row → Block w top bottom left right c → Block w top row left right c
fewer_rows l b = record { top_most = b.top_most; bottom_most = omega (arith, b.bottom_most); left_most = b.left_most; right_most = b.right_most }

-- ---- the same rows of each storey
module _ {w h top bottom left right : ℕ} where
  pub no_storeys : {c : ℕ} → PillarBefore w h top bottom left right 0 c → ⊥
  no_storeys p = omega (arith, p.before)

  -- a storey more
  pub one_storey_more : (h1 : 1 ≤ h) (k : ℕ) {c : ℕ} → PillarBefore w h top bottom left right (k * h + h) c
      → PillarBefore w h top bottom left right (k * h) c ⊎ Block w (k * h + top) (k * h + bottom) left right c
  one_storey_more h1 k {c} p = go (order (c / w) (k * h))
    where
      go : (c / w < k * h) ⊎ (k * h ≤ c / w) → PillarBefore w h top bottom left right (k * h) c ⊎ Block w (k * h + top) (k * h + bottom) left right c
      go (inl l) = inl record { is = p.is; before = l }
      go (inr l) = inr record {
        top_most = omega (arith, row, p.is.top_most);
        bottom_most = omega (arith, row, p.is.bottom_most);
        left_most = p.is.left_most;
        right_most = p.is.right_most;
      }
        where
          row : k * h + c / w % h ≡ c / w
          row =
              let r = c / w - k * h in
              let whole : c / w ≡ k * h + r = omega arith in
              let rest : c / w % h ≡ r =
              ap (λ (u : ℕ). u % h) whole ∙ mul-add-mod_self_right k h r ∙ mod-eq_of_lt (omega (arith, p.before)) in
              omega (arith, rest)

-- ---- a part of the times and the same part of the tentative times: as long, and what the latter holds
abbrev tentatives : (n a e : ℕ) → (work : List ℕ) → List ℕ
tentatives n a e work = mid_of (2 * n + a) (2 * n + e - (2 * n + a)) work

pub parts_long : (times work : List ℕ) (n a e : ℕ) → e ≤ length times → 2 * n + e ≤ length work → e ≤ 65536
    → (length (mid_of a (e - a) times) ≡ length (tentatives n a e work)) × (length (tentatives n a e work) ≤ 65536)
parts_long times work n a e h k m =
    let p = mid_len a e times h in
    let q = mid_len (2 * n + a) (2 * n + e) work k in
    (omega arith, omega arith)

pub part_read : (bound n a e : ℕ) (work : List ℕ) (j : ℕ) → j < e - a
    → clip bound (get_or (tentatives n a e work) j 0) ≡ due bound work n (a + j)
part_read bound n a e work j l =
    let s : 2 * n + a + j ≡ 2 * n + (a + j) = omega arith in
    ap (clip bound)
    (get_or-take (2 * n + e - (2 * n + a)) (drop (2 * n + a) work) j 0 (omega arith)
    ∙ get_or-drop (2 * n + a) work j 0
    ∙ ap (λ (u : ℕ). get_or work u 0) s)

-- ---- quotients
-- a quotient says between which multiples a number lies
quotient_from : (x s : ℕ) → x / s * s ≤ x
quotient_from x s = omega (arith, div-add-mod' x s)

quotient_to : (x s : ℕ) → 1 ≤ s → x < x / s * s + s
quotient_to x s l = omega (arith, div-add-mod' x s, mod-lt x l)

-- where a tile begins: its column is on the board, and its row is no larger than a number of 40 bits
pub record Corner (s : Shape) (tile : ℕ) : Type 0 where
  pub some : 1 ≤ up s.width s.across
  pub top : tile / up s.width s.across * s.down ≤ tile * 256
  pub left : tile % up s.width s.across * s.across < s.width

pub corner : {s : Shape} {times work : List ℕ} → Fitting s times work → (tile : ℕ) → Corner s tile
corner {s} r tile =
    let some = up-some s.width s.across r.across_low r.wide_low in
    record {
      some = some;
      top = mul-le-mul (div-le_self tile (up s.width s.across)) r.down_high;
      left = up-short s.width s.across r.across_low (tile % up s.width s.across) (mod-lt tile some);
    }

-- ---- tiles of a board
module _ (b : Board) (tw th : ℕ) (wide : 1 ≤ b.wide) (high : 1 ≤ b.high) (tw1 : 1 ≤ tw) (th1 : 1 ≤ th) (c : ℕ) where
  abbrev row : ℕ
  row = place (row_axis b) c

  abbrev column : ℕ
  column = place (column_axis b) c

  column-low : column / tw < up b.wide tw
  unfolding place
  column-low = up-past b.wide tw tw1 column (mod-lt (c / 1) wide)

  row_low : row < b.high
  unfolding place
  row_low = mod-lt (c / b.wide) high

  tile-across : tile_of b tw th c % up b.wide tw ≡ column / tw
  unfolding tile_of
  tile-across = mul-add-mod_self_right (row / th) (up b.wide tw) (column / tw) ∙ mod-eq_of_lt column-low

  tile-down : tile_of b tw th c / up b.wide tw ≡ row / th
  unfolding tile_of
  tile-down = div-eq_of_lt-le (up b.wide tw) (omega arith) (omega (arith, column-low))

  -- a cell lies in the rows and columns of its tile, up to the board's edge
  pub in_tile : {tile bottom right : ℕ} → bottom ≡ min (tile / up b.wide tw * th + th) b.high
      → right ≡ min (tile % up b.wide tw * tw + tw) b.wide
      → tile_of b tw th c ≡ tile → Pillar b.wide b.high (tile / up b.wide tw * th) bottom (tile % up b.wide tw * tw) right c
  unfolding place
  in_tile {tile} {bottom} {right} eb er e = record {
    top_most = omega (arith, top, quotient_from row th);
    bottom_most = omega (arith, top, quotient_to row th th1, row_low);
    left_most = omega (arith, column-is, left, quotient_from column tw);
    right_most = omega (arith, column-is, left, quotient_to column tw tw1, mod-lt c wide);
  }
    where
      column-is : column ≡ c % b.wide
      column-is = ap (λ (u : ℕ). u % b.wide) (div-one c)

      top : tile / up b.wide tw * th ≡ row / th * th
      top = ap (λ (u : ℕ). u * th) (ap (λ (u : ℕ). u / up b.wide tw) (sym e) ∙ tile-down)

      left : tile % up b.wide tw * tw ≡ column / tw * tw
      left = ap (λ (u : ℕ). u * tw) (ap (λ (u : ℕ). u % up b.wide tw) (sym e) ∙ tile-across)

  tile_low : tile_of b tw th c < tile_count b tw th
  unfolding tile_of tile_count
  tile_low =
      let last : suc (row / th) ≤ up b.high th = up-past b.high th th1 row row_low in
      omega (arith, column-low, mul-le-mul_right (up b.wide tw) last)

-- ---- orders
or-true : (p q : Bool) → p || q ≡ true → (p ≡ true) ⊎ (q ≡ true)
or-true true q e = inl refl
or-true false q e = inr e

-- one entry more
member-more : (v : ℕ) (xs : List ℕ) (i : ℕ) → i < length xs → member v (take (suc i) xs) ≡ true → (member v (take i xs) ≡ true) ⊎ (v ≡ get_or xs i 0)
unfolding member
member-more v [] i l e = absurd (omega arith)
member-more v (x ∷ xs) zero l e = go (or-true (eqb x v) false e)
  where
    go : (eqb x v ≡ true) ⊎ (false ≡ true) → (false ≡ true) ⊎ (v ≡ x)
    go (inl p) = inr (sym (eqb-true x v p))
    go (inr p) = inl p
member-more v (x ∷ xs) (suc i) l e = go (eqb x v) e (member-more v xs i (omega arith))
  where
    go : (p : Bool) → p || member v (take (suc i) xs) ≡ true → (member v (take (suc i) xs) ≡ true → (member v (take i xs) ≡ true) ⊎ (v ≡ get_or xs i 0))
        → (p || member v (take i xs) ≡ true) ⊎ (v ≡ get_or xs i 0)
    go true e r = inl refl
    go false e r = r e

pub no_tile : (v : ℕ) → member v [] ≡ true → ⊥
unfolding member
no_tile v e = false≢true e

pub one-tile-more : (v : ℕ) (xs : List ℕ) (i : ℕ) → i < length xs → member v (take (i + 1) xs) ≡ true → (member v (take i xs) ≡ true) ⊎ (v ≡ get_or xs i 0)
one-tile-more v xs i l e = member-more v xs i l (ap (λ (u : ℕ). member v (take u xs)) (sym (add-one i)) ∙ e)

all_members : (n : ℕ) (xs : List ℕ) (v : ℕ) → all_there n xs ≡ true → v < n → member v xs ≡ true
unfolding all_there
all_members zero xs v e l = absurd (omega arith)
all_members (suc n) xs v e l = elim (ℕ_discrete v n) [
  | yes q ↦ ap (λ (u : ℕ). member u xs) q ∙ (and-true (member n xs) (all_there n xs) e).0
  | no q ↦ all_members n xs v (and-true (member n xs) (all_there n xs) e).1 (omega (arith, q))
]

-- THE ROUND: a good order has every cell's tile, so when all are written all is final
module _ {s : Shape} {old work : List ℕ} (r : Fitting s old work) (xs : List ℕ) (good : order_good (land s []) s.across s.down xs ≡ true) where
  every_tile : (c : ℕ) → member (tile_in s c) xs ≡ true
  unfolding order_good
  every_tile c =
      all_members (tile_count (land s []) s.across s.down) xs (tile_in s c)
      (and-true (eqb (length xs) (tile_count (land s []) s.across s.down)) (all_there (tile_count (land s []) s.across s.down) xs) good).1
      (tile_low (land s []) s.across s.down r.wide_low r.high_low r.across_low r.down_low c)

  pub wrote : {bound : ℕ} {new : List ℕ} {count i : ℕ} → i ≡ length xs
      → Entered (λ c. member (tile_in s c) (take i xs) ≡ true) (due bound work s.cells) old new count → Wrote s bound work old new count
  wrote {bound} {new} e a = record {
    long = a.long;
    each = λ c l.
        let all = ap (λ (u : ℕ). member (tile_in s c) (take u xs)) e ∙ ap (member (tile_in s c)) (take-length xs) ∙ every_tile c in
        time-at new c (omega (arith, a.long, r.many)) ∙ a.done c (omega (arith, r.many)) all;
    counted = a.counted;
  }
