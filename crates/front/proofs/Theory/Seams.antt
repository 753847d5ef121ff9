-- Seams and tiles, the same for every axis: neighbours across an inside seam share a tile, across a border they do not.
use Rattle.std.proofs.Common.{◌≡◌, ℕ, suc, ◌+◌, ◌-◌, ◌*◌, ◌/◌, ◌%◌, ◌<◌, ◌≤◌, min, cond, eqb, ◌≢◌, ◌⊎◌, List, [], ◌∷◌, map, sym, refl, ap, ◌∙◌, subst}
use Rattle.std.proofs.Common.{ap₂, inl, inr, mod-lt, mod-eq_of_lt, div-add-mod', div-one, arith, eq-eqb, ne_eqb}
use native.Mathlib.Decide.{ℕ_discrete}
use native.Mathlib.Nat.{suc-mod, mod-mod, mod_self, zero-mod, add-mod_right, add-mul-div_left, add-mul-mod_self_left, div-eq_of_lt-le}
use Rattle.eikonal.specs.Axes.{place, sight, Spans, Next, Near}
use Rattle.eikonal.specs.Board.{Board, never, size, column_axis, row_axis, storey_axis, earlier}
use Rattle.eikonal.specs.Tiles.{tile_of, up}
use Rattle.eikonal.specs.Promise.{Neighbour}
use Rattle.eikonal.specs.Inner.Good.{Good}
use Rattle.eikonal.proofs.Up.{up-some}
use Rattle.eikonal.proofs.Local.{earlier-min}
use Rattle.eikonal.proofs.Grid.{place-low, place-on, place-back, back_on, not_last, next-first, next-back, near_which, none-near}
use Rattle.eikonal.proofs.Rule.{columns-span, rows-span, storeys-span}
use Rattle.front.specs.Front.{Out, ghosted}
use Rattle.front.specs.Seams.{Cut, cut, cuts, seam_back, seam_on, edge, border, inside, seam, across, hearer, near_on, near}

-- ---- quotients one step on
next-same : (s x : ℕ) → 1 ≤ s → suc x % s ≢ 0 → suc x / s ≡ x / s
next-same s x l e = div-eq_of_lt-le s (omega (arith, div-add-mod' x s)) (omega (arith, div-add-mod' x s, mod-lt x l, short))
  where
    short : suc (x % s) ≢ s
    short q = e (suc-mod x s ∙ ap (λ (u : ℕ). u % s) q ∙ mod_self s)

next-other : (s x : ℕ) → 1 ≤ s → suc x % s ≡ 0 → suc x / s ≡ suc (x / s)
next-other s x l e = div-eq_of_lt-le s (omega (arith, div-add-mod' x s, full)) (omega (arith, div-add-mod' x s, mod-lt x l))
  where
    full : suc (x % s) ≡ s
    full = elim (ℕ_discrete (suc (x % s)) s) [
      | yes q ↦ q
      | no q ↦ absurd (omega (arith, sym (suc-mod x s) ∙ e, mod-eq_of_lt {n = suc (x % s)} {m = s} (omega (arith, mod-lt x l))))
    ]

-- ---- seams
module _ (n s i : ℕ) where
  pub seam-edge : i % n ≡ 0 → seam n s i ≡ edge
  unfolding seam
  seam-edge e = rw (eq-eqb (i % n) 0 e)

  pub seam-border : i % n ≢ 0 → i % n % s ≡ 0 → seam n s i ≡ border
  unfolding seam
  seam-border a e = rw (ne_eqb (i % n) 0 a, eq-eqb (i % n % s) 0 e)

  pub seam-inside : i % n ≢ 0 → i % n % s ≢ 0 → seam n s i ≡ inside
  unfolding seam
  seam-inside a e = rw (ne_eqb (i % n) 0 a, ne_eqb (i % n % s) 0 e)

  -- they come round
  pub seam-round : seam n s i ≡ seam n s (i % n)
  unfolding seam
  seam-round = rw mod-mod

  pub seam-next : seam n s (suc i) ≡ seam n s (suc (i % n))
  unfolding seam
  seam-next = rw (suc-mod i n)

-- ---- WHAT MAKES A CUT: one on is in the same tile unless a tile begins there
pub record Straight (b : Board) (tw th : ℕ) (x : Cut) : Type 0 where
  pub spans : Spans (size b) x.axis
  pub own : (c : ℕ) → suc (place x.axis c) ≢ x.axis.count → suc (place x.axis c) % x.side ≢ 0
      → tile_of b tw th (c + x.axis.unit) ≡ tile_of b tw th c
  pub apart : (c : ℕ) → suc (place x.axis c) ≢ x.axis.count → suc (place x.axis c) % x.side ≡ 0
      → tile_of b tw th (c + x.axis.unit) ≢ tile_of b tw th c

pub data AllStraight (b : Board) (tw th : ℕ) : List Cut → Type 0 where
  none : AllStraight b tw th []
  also : {x : Cut} {xs : List Cut} → Straight b tw th x → AllStraight b tw th xs → AllStraight b tw th (x ∷ xs)

module _ {b : Board} (good : Good b) (tw th : ℕ) (tw1 : 1 ≤ tw) (th1 : 1 ≤ th) where
  -- a step along a row keeps the row, a step down the column keeps the column
  row_kept : (c : ℕ) → suc (place (column_axis b) c) ≢ b.wide → place (row_axis b) (c + 1) ≡ place (row_axis b) c
  unfolding place
  row_kept c q = ap (λ (u : ℕ). u % b.high) same
    where
      same : (c + 1) / b.wide ≡ c / b.wide
      same =
          let short : suc (c % b.wide) ≢ b.wide = λ z. q (ap (λ (u : ℕ). suc (u % b.wide)) (div-one c) ∙ z) in
          div-eq_of_lt-le b.wide (omega (arith, div-add-mod' c b.wide)) (omega (arith, div-add-mod' c b.wide, mod-lt c good.wide_low, short))

  column-kept : (c : ℕ) → place (column_axis b) (c + b.wide) ≡ place (column_axis b) c
  unfolding place
  column-kept c = ap (λ (u : ℕ). u % b.wide) (div-one (c + b.wide)) ∙ add-mod_right c b.wide ∙ ap (λ (u : ℕ). u % b.wide) (sym (div-one c))

  pub columns_straight : Straight b tw th (cut (column_axis b) tw)
  unfolding tile_of
  columns_straight = record {
    spans = columns-span good;
    own = λ c q e. tile c q ∙ ap (λ (u : ℕ). place (row_axis b) c / th * up b.wide tw + u) (next-same tw (place (column_axis b) c) tw1 e);
    apart = λ c q e z. omega (arith, sym (tile c q) ∙ z, next-other tw (place (column_axis b) c) tw1 e);
  }
    where
      tile : (c : ℕ) → suc (place (column_axis b) c) ≢ b.wide
          → tile_of b tw th (c + 1) ≡ place (row_axis b) c / th * up b.wide tw + suc (place (column_axis b) c) / tw
      tile c q = rw (row_kept c q, place-on (columns-span good) c q)

  pub rows_straight : Straight b tw th (cut (row_axis b) th)
  unfolding tile_of
  rows_straight = record {
    spans = rows-span good;
    own = λ c q e. tile c q ∙ ap (λ (u : ℕ). u * up b.wide tw + place (column_axis b) c / tw) (next-same th (place (row_axis b) c) th1 e);
    apart = λ c q e z.
        omega (
          arith,
          up-some b.wide tw tw1 good.wide_low,
          sym (tile c q) ∙ z,
          ap (λ (u : ℕ). u * up b.wide tw) (next-other th (place (row_axis b) c) th1 e),
        );
  }
    where
      tile : (c : ℕ) → suc (place (row_axis b) c) ≢ b.high
          → tile_of b tw th (c + b.wide) ≡ suc (place (row_axis b) c) / th * up b.wide tw + place (column_axis b) c / tw
      tile c q = rw (place-on (rows-span good) c q, column-kept c)

  -- a step over to the next storey keeps both
  storey_kept : (c : ℕ) → tile_of b tw th (c + b.wide * b.high) ≡ tile_of b tw th c
  unfolding tile_of place
  storey_kept c = ap₂ (λ (x y : ℕ). x / th * up b.wide tw + y / tw) row column
    where
      rows : (k : ℕ) → (c + b.wide * k) / b.wide ≡ c / b.wide + k
      rows k = add-mul-div_left c k good.wide_low

      row : (c + b.wide * b.high) / b.wide % b.high ≡ c / b.wide % b.high
      row = ap (λ (u : ℕ). u % b.high) (rows b.high) ∙ add-mod_right (c / b.wide) b.high

      column : (c + b.wide * b.high) / 1 % b.wide ≡ c / 1 % b.wide
      column =
          ap (λ (u : ℕ). u % b.wide) (div-one (c + b.wide * b.high)) ∙ add-mul-mod_self_left c b.wide b.high
          ∙ ap (λ (u : ℕ). u % b.wide) (sym (div-one c))

  pub storeys_straight : Straight b tw th (cut (storey_axis b) b.storeys)
  storeys_straight = record {
    spans = storeys-span good;
    own = λ c q e. storey_kept c;
    apart = λ c q e z. q (whole c q e);
  }
    where
      -- a tile begins at the first storey alone
      whole : (c : ℕ) → suc (place (storey_axis b) c) ≢ b.storeys → suc (place (storey_axis b) c) % b.storeys ≡ 0
          → suc (place (storey_axis b) c) ≡ b.storeys
      whole c q e =
          let low : suc (place (storey_axis b) c) < b.storeys = omega (arith, place-low (storeys-span good) c, q) in
          absurd (omega (arith, e, mod-eq_of_lt {n = suc (place (storey_axis b) c)} {m = b.storeys} low))

  pub all_straight : AllStraight b tw th (cuts b tw th)
  all_straight = also columns_straight (also rows_straight (also storeys_straight none))

-- ---- what lies between a cell and a neighbour
data Kind (b : Board) (tw th : ℕ) (s c e : ℕ) : Type 0 where
  own : s ≡ inside → tile_of b tw th c ≡ tile_of b tw th e → Kind b tw th s c e
  apart : s ≡ border → tile_of b tw th c ≢ tile_of b tw th e → Kind b tw th s c e

module _ {b : Board} {tw th : ℕ} {x : Cut} (st : Straight b tw th x) (c : ℕ) where
  on_kind : suc (place x.axis c) ≢ x.axis.count → Kind b tw th (seam_on x c) c (c + x.axis.unit)
  on_kind q =
      let i = suc (place x.axis c) in
      let low : i % x.axis.count ≡ i = mod-eq_of_lt (omega (arith, place-low st.spans c, q)) in
      elim (ℕ_discrete (i % x.side) 0) [
        | yes z ↦ apart
            (seam-border x.axis.count x.side i (λ r. omega (arith, low)) (ap (λ (u : ℕ). u % x.side) low ∙ z))
            (λ r. st.apart c q z (sym r))
        | no z ↦ own
            (seam-inside x.axis.count x.side i (λ r. omega (arith, low)) (λ r. z (ap (λ (u : ℕ). u % x.side) (sym low) ∙ r)))
            (sym (st.own c q z))
      ]

module _ {b : Board} {tw th : ℕ} {x : Cut} (st : Straight b tw th x) (c : ℕ) where
  turned : {s d e : ℕ} → Kind b tw th s e d → Kind b tw th s d e
  turned (own p q) = own p (sym q)
  turned (apart p q) = apart p (λ r. q (sym r))

  -- the cell is its neighbour's next one
  back_kind : place x.axis c ≢ 0 → Kind b tw th (seam_back x c) c (c - x.axis.unit)
  back_kind q =
      let d = c - x.axis.unit in
      turned
      (subst (λ u. Kind b tw th (seam_back x c) d u) (back_on st.spans c q)
      (subst (λ u. Kind b tw th (seam x.axis.count x.side u) d (d + x.axis.unit)) (place-back st.spans c q)
      (on_kind st d (not_last st.spans c q))))

  -- ---- WHAT IS SEEN across a cell's seams is what the rule sees there
  module _ (g : ℕ → ℕ → ℕ) (f : ℕ → ℕ) where
    across_kind : (s e : ℕ) → Kind b tw th s c e → across s (f e) (g c e) ≡ ghosted b tw th g f c e
    unfolding across
    across_kind s e (own p q) = rw (p, eq-eqb (tile_of b tw th c) (tile_of b tw th e) q)
    across_kind s e (apart p q) = rw (p, ne_eqb (tile_of b tw th c) (tile_of b tw th e) q)

    across-edge : (s e : ℕ) → s ≡ edge → across s (f e) (g c e) ≡ never
    unfolding across
    across-edge s e p = rw p

    pub sees_back : across (seam_back x c) (f (c - x.axis.unit)) (g c (c - x.axis.unit))
        ≡ cond (eqb (place x.axis c) 0) never (ghosted b tw th g f c (c - x.axis.unit))
    sees_back = elim (ℕ_discrete (place x.axis c) 0) [
      | yes q ↦ rw (eq-eqb (place x.axis c) 0 q)
          (across-edge _ (c - x.axis.unit)
          (seam-edge x.axis.count x.side (place x.axis c) (ap (λ (u : ℕ). u % x.axis.count) q ∙ zero-mod x.axis.count)))
      | no q ↦ rw (ne_eqb (place x.axis c) 0 q) (across_kind _ (c - x.axis.unit) (back_kind q))
    ]

    pub sees-on : across (seam_on x c) (f (c + x.axis.unit)) (g c (c + x.axis.unit))
        ≡ cond (eqb (suc (place x.axis c)) x.axis.count) never (ghosted b tw th g f c (c + x.axis.unit))
    sees-on = elim (ℕ_discrete (suc (place x.axis c)) x.axis.count) [
      | yes q ↦ rw (eq-eqb (suc (place x.axis c)) x.axis.count q)
          (across-edge _ (c + x.axis.unit)
          (seam-edge x.axis.count x.side (suc (place x.axis c)) (ap (λ (u : ℕ). u % x.axis.count) q ∙ mod_self x.axis.count)))
      | no q ↦ rw (ne_eqb (suc (place x.axis c)) x.axis.count q) (across_kind _ (c + x.axis.unit) (on_kind st c q))
    ]

    pub sees : {l r : ℕ} → l ≡ across (seam_back x c) (f (c - x.axis.unit)) (g c (c - x.axis.unit))
        → r ≡ across (seam_on x c) (f (c + x.axis.unit)) (g c (c + x.axis.unit)) → min l r ≡ sight x.axis c (ghosted b tw th g f c)
    unfolding sight
    sees p q = sym (earlier-min _ _) ∙ ap₂ earlier (p ∙ sees_back) (q ∙ sees-on)

-- ---- WHO HEARS: a seam to d that is not of the given kind
data Unlike (b : Board) (tw th k c d : ℕ) : Type 0 where
  by : {s : ℕ} → Kind b tw th s c d → s ≢ k → Unlike b tw th k c d

hit : (n k s d e : ℕ) → d ≢ hearer n (eqb s k) e → e ≡ d → s ≢ k
unfolding hearer
hit n k s d e o q z = o (sym q ∙ sym (rw (eq-eqb s k z)))

module _ {b : Board} {tw th : ℕ} (k c d : ℕ) where
  unlike : {x : Cut} → Straight b tw th x → Next x.axis d c ⊎ Next x.axis c d → d ≢ hearer (size b) (eqb (seam_back x c) k) (c - x.axis.unit)
      → d ≢ hearer (size b) (eqb (seam_on x c) k) (c + x.axis.unit) → Unlike b tw th k c d
  unlike {x} st (inl n) o p =
      let e = next-back st.spans n in
      by (subst (λ u. Kind b tw th (seam_back x c) c u) e (back_kind st c (next-first st.spans n))) (hit (size b) k _ d _ o e)
  unlike {x} st (inr n) o p = by (subst (λ u. Kind b tw th (seam_on x c) c u) n.step (on_kind st c n.inner)) (hit (size b) k _ d _ p n.step)

  untold : (xs : List Cut) → AllStraight b tw th xs → Near (map (λ x. x.axis) xs) d c → Out d (near_on xs (size b) k c) → Unlike b tw th k c d
  untold [] none n o = absurd (none-near [] refl n)
  untold (x ∷ xs) (also st ss) n o = go (near_which n) (untold xs ss)
    where
      go : (Next x.axis d c ⊎ Next x.axis c d) ⊎ Near (map (λ x. x.axis) xs) d c
          → (Near (map (λ x. x.axis) xs) d c → Out d (near_on xs (size b) k c) → Unlike b tw th k c d) → Unlike b tw th k c d
      go (inl m) next = unlike st m o.0 o.1.0
      go (inr m) next = next m o.1.1

module _ {b : Board} (good : Good b) (tw th : ℕ) (tw1 : 1 ≤ tw) (th1 : 1 ≤ th) (c d : ℕ) where
  -- a neighbour that is not told within the tile is of another tile
  pub untold_inside : Neighbour b d c → Out d (near b tw th inside c) → tile_of b tw th d ≢ tile_of b tw th c
  unfolding near
  untold_inside n o = go (untold inside c d _ (all_straight good tw th tw1 th1) n o)
    where
      go : Unlike b tw th inside c d → tile_of b tw th d ≢ tile_of b tw th c
      go (by (own p q) z) = absurd (z p)
      go (by (apart p q) z) = λ r. q (sym r)

  -- and one that is not told across a border is of the same tile
  pub untold_border : Neighbour b d c → Out d (near b tw th border c) → tile_of b tw th d ≡ tile_of b tw th c
  unfolding near
  untold_border n o = go (untold border c d _ (all_straight good tw th tw1 th1) n o)
    where
      go : Unlike b tw th border c d → tile_of b tw th d ≡ tile_of b tw th c
      go (by (own p q) z) = sym q
      go (by (apart p q) z) = absurd (z p)
