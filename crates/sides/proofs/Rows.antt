-- A row of cells: entries worked out one after another, lists lent in parts, and what a cell sees across its seams.
use mathlib.Core.Path.{◌≡◌, refl, sym, ap, ◌∙◌}
use mathlib.Core.Bool.{cond}
use mathlib.Core.Logic.{◌⊎◌, inl, inr, ◌≢◌}
use mathlib.Core.List.{List}
use Prim.Native.Nat.{ℕ, zero, suc, ◌+◌, ◌*◌, ◌-◌, ◌/◌, ◌%◌, ◌≤◌, ◌<◌, min}
use native.Mathlib.Omega.{arith}
use native.Mathlib.Decide.{ℕ_discrete}
use native.Mathlib.Nat.{mod-eq_of_lt, mod_self, zero-mod, add-mod_right, mul-add-mod_self_right, div-add-mod'}
use native.Mathlib.Numerals.{add-one}
use lib.Dec.{eqb}
use lib.ListN.{length, get_or, set, take, length-set}
use lib.Seq.{get_or-take, get_or-set_same, get_or-set_other, length-take-le}
use borrow.Author.Tests.{ne_eqb}
use borrow.Rule.Slice.PartMut.{mid_of, put_mid, mid_len, same_len_mid}
use Rattle.eikonal.specs.Board.{never}
use Rattle.eikonal.proofs.Levels.{order}
use Rattle.queue.proofs.Filling.{Stored, here, elsewhere, after_store}
use Rattle.queue.proofs.Parts.{entry_at, put_within}
use Rattle.front.specs.Seams.{seam, edge, inside, across}
use Rattle.front.specs.Board.{Marked}
use Rattle.front.proofs.Theory.Seams.{seam-edge, seam-border, seam-inside}
use Rattle.front.proofs.Theory.Reading.{across-inside}
use Rattle.sides.specs.Row.{flat, Even, Set, SetInner, left_of, right_of, on_storey, Part, SetEnds, FoundFlat}

-- ---- entries worked out from the front: those before i are, those from i on are as they were
pub record Worked (f : ℕ → ℕ) (i : ℕ) (old new : List ℕ) : Type 0 where
  pub upto : i ≤ length old
  pub long : length new ≡ length old
  pub done : (j : ℕ) → j < i → get_or new j 0 ≡ f j
  pub rest : (j : ℕ) → i ≤ j → get_or new j 0 ≡ get_or old j 0

pub worked-none : (f : ℕ → ℕ) (xs : List ℕ) → Worked f 0 xs xs
worked-none f xs = record { upto = omega arith; long = refl; done = λ j l. absurd (omega arith); rest = λ j l. refl }

pub worked-more : {f : ℕ → ℕ} {i x : ℕ} {old new : List ℕ} → Worked f i old new → i < length old → x ≡ f i → Worked f (i + 1) old (set new i x)
worked-more {f} {i} {x} {old} {new} w l e = record {
  upto = omega arith;
  long = length-set new i x ∙ w.long;
  done = λ j h. within j h (stored j);
  rest = λ j h. without j h (stored j);
}
  where
    stored : (j : ℕ) → Stored new i x j
    stored j = after_store new i x j (omega (arith, w.long))

    within : (j : ℕ) → j < i + 1 → Stored new i x j → get_or (set new i x) j 0 ≡ f j
    within j h (here p q) = q ∙ e ∙ ap f (sym p)
    within j h (elsewhere p q) = q ∙ w.done j (omega (arith, p))

    without : (j : ℕ) → i + 1 ≤ j → Stored new i x j → get_or (set new i x) j 0 ≡ get_or old j 0
    without j h (here p q) = absurd (omega arith)
    without j h (elsewhere p q) = q ∙ w.rest j (omega arith)

-- ---- of n entries all but the first and the last: lent with the entries before and behind them, and back
abbrev inner : (n : ℕ) → List ℕ → List ℕ
inner n xs = mid_of 1 (n - 1 - 1) xs

module _ {own above below : List ℕ} (sides : List ℕ) (e : Even (length sides) own above below) (l : 3 ≤ length own) where
  pub inner-even : Even (length (inner (length own) sides)) (inner (length own) own) (inner (length own) above) (inner (length own) below)
      × (length (take (length own - 2) own) ≡ length (inner (length own) sides))
      × (length (mid_of 2 (length own - 2) own) ≡ length (inner (length own) sides))
  inner-even =
      let n = length own in
      let here = mid_len 1 (n - 1) sides (omega (arith, e.own)) in (
        record {
          own = mid_len 1 (n - 1) own (omega arith) ∙ sym here;
          above = mid_len 1 (n - 1) above (omega (arith, e.above, e.own)) ∙ sym here;
          below = mid_len 1 (n - 1) below (omega (arith, e.below, e.own)) ∙ sym here;
          short = omega (arith, here, e.own, e.short);
        },
        omega (arith, here, length-take-le (n - 2) own (omega arith)),
        omega (arith, here, mid_len 2 n own (omega arith)),
      )

  pub inner-set : {bound : ℕ} {part : List ℕ}
      → Set bound (inner (length own) own) (take (length own - 2) own) (mid_of 2 (length own - 2) own) (inner (length own) above) (inner (length own) below)
      (inner (length own) sides) part
      → SetInner bound own above below sides (put_mid 1 (length own - 1 - 1) sides part)
  inner-set {bound} {part} r =
      let n = length own in
      let here = mid_len 1 (n - 1) sides (omega (arith, e.own)) in
      record {
        long = same_len_mid 1 (n - 1 - 1) sides part r.long;
        each = λ i h.
            let k : i < n - 1 - 1 = omega (arith, e.own) in
            let left = get_or-take (n - 2) own i 0 (omega (arith, e.own)) in
            let second : 1 + i ≡ suc i = omega arith in
            let third : 2 + i ≡ suc (suc i) = omega arith in
            let right = entry_at own 2 (n - 2) i third (omega (arith, e.own)) in
            let self = entry_at own 1 (n - 1 - 1) i second k in
            let up = entry_at above 1 (n - 1 - 1) i second k in
            let down = entry_at below 1 (n - 1 - 1) i second k in
            ap (λ (u : ℕ). get_or (put_mid 1 (n - 1 - 1) sides part) u 0) (sym second)
            ∙ put_within sides part 1 (n - 1) (omega arith) (omega (arith, e.own)) r.long i k ∙ r.each i (omega (arith, here)) ∙ cc;
      }

-- ---- seams: across one that is not inside a tile, the tile's own times are not seen
beyond_of : (m f g : ℕ) → m ≢ inside → across m f g ≡ cond (eqb m edge) never g
unfolding across
beyond_of m f g q = rw (ne_eqb m inside q)

-- at the edge, or where a tile begins
no_inside : (w s i : ℕ) → i % w % s ≡ 0 → seam w s i ≢ inside
no_inside w s i e q = elim (ℕ_discrete (i % w) 0) [
  | yes z ↦ omega (arith, seam-edge w s i z, q)
  | no z ↦ omega (arith, seam-border w s i z e, q)
]

no_inside_at : (w s i : ℕ) → i < w → i % s ≡ 0 → seam w s i ≢ inside
no_inside_at w s i l e = no_inside w s i (ap (λ (u : ℕ). u % s) (mod-eq_of_lt l) ∙ e)

-- where the row ends
no_inside_end : (w s : ℕ) → seam w s w ≢ inside
no_inside_end w s = no_inside w s w (ap (λ (u : ℕ). u % s) (mod_self w) ∙ zero-mod s)

-- ---- A TILE'S PART OF THE ROW begins where the one before it ended
module _ {s w col end : ℕ} (some : 1 ≤ s) (l : col < w) (b : col % s ≡ 0) (e : end ≡ min (col + s) w) where
  next-begins : end < w → end % s ≡ 0
  next-begins h =
      let same : end ≡ col + s = omega arith in
      ap (λ (u : ℕ). u % s) same ∙ add-mod_right col s ∙ b

  pub part_of : Part s w col (end - 1)
  part_of = record {
    up = omega arith;
    fits = omega arith;
    before = no_inside_at w s col l b;
    behind = go (order end w);
    within = λ i m h. seam-inside w s i (λ z. omega (arith, at i h)) (λ z. omega (arith, at i h, beyond i m h, ap (λ (u : ℕ). u % s) (at i h)));
  }
    where
      last : suc (end - 1) ≡ end
      last = omega arith

      go : (end < w) ⊎ (w ≤ end) → seam w s (suc (end - 1)) ≢ inside
      go (inl h) = rw last (no_inside_at w s end h (next-begins h))
      go (inr h) =
          let same : suc (end - 1) ≡ w = omega arith in
          rw same (no_inside_end w s)

      at : (i : ℕ) → i ≤ end - 1 → i % w ≡ i
      at i h = mod-eq_of_lt (omega arith)

      beyond : (i : ℕ) → col < i → i ≤ end - 1 → i % s ≡ i - col
      beyond i m h =
          let whole : i ≡ col / s * s + (i - col) = omega (arith, div-add-mod' col s, b) in
          ap (λ (u : ℕ). u % s) whole ∙ mul-add-mod_self_right (col / s) s (i - col) ∙ mod-eq_of_lt (omega arith)

-- ---- what the cells at its ends see
module _ {s w from last : ℕ} {cols : List ℕ} (own far : List ℕ) (la : Marked w s 1 cols) (p : Part s w from last) (e : length own ≡ w) where
  pub left-beyond : cond (eqb (get_or cols from 0) edge) never (get_or far (from - 1) 0) ≡ left_of s own far from
  left-beyond = rw (la.at from (omega (arith, p.up, p.fits)), e) (sym (beyond_of _ _ _ p.before))

  pub right-beyond : cond (eqb (get_or cols (last + 1) 0) edge) never (get_or far (last + 1) 0) ≡ right_of s own far last
  right-beyond = rw (add-one last, la.at (suc last) (omega (arith, p.fits)), e) (sym (beyond_of _ _ _ p.behind))

  pub left-own : from ≢ last → get_or own (last - 1) 0 ≡ left_of s own far last
  left-own q = rw e (sym (across-inside _ _ _ (p.within last (omega (arith, p.up, q)) (omega arith))))

  pub right-own : from ≢ last → get_or own (from + 1) 0 ≡ right_of s own far from
  right-own q = rw (add-one from, e) (sym (across-inside _ _ _ (p.within (suc from) (omega arith) (omega (arith, p.up, q)))))

-- ---- their sides, worked out and stored
pub flat_of : (u d : ℕ) {x l r t l' r' t' : ℕ} → x ≡ flat l r u d t → l ≡ l' → r ≡ r' → t ≡ t' → x ≡ flat l' r' u d t'
flat_of u d e p q o = cc

module _ {s m : ℕ} {own far above below sides : List ℕ} {from last : ℕ} where
  pub ends_one : {x : ℕ} → from ≡ last → from < length sides → x ≡ on_storey s m own far above below from
      → SetEnds s m own far above below from last sides (set sides from x)
  ends_one {x} q l e = record {
    long = length-set sides from x;
    first = there;
    end = ap (λ (u : ℕ). get_or (set sides from x) u 0) (sym q) ∙ there ∙ ap (on_storey s m own far above below) q;
    kept = λ i a b. get_or-set_other sides from i x 0 a;
  }
    where
      there : get_or (set sides from x) from 0 ≡ on_storey s m own far above below from
      there = get_or-set_same sides from x 0 l ∙ e

  pub ends_two : {x y : ℕ} → from ≢ last → from < length sides → last < length sides → x ≡ on_storey s m own far above below from
      → y ≡ on_storey s m own far above below last → SetEnds s m own far above below from last sides (set (set sides from x) last y)
  ends_two {x} {y} q l h e f =
      let once = set sides from x in
      record {
        long = length-set once last y ∙ length-set sides from x;
        first = get_or-set_other once last from y 0 q ∙ get_or-set_same sides from x 0 l ∙ e;
        end = get_or-set_same once last y 0 (omega (arith, length-set sides from x)) ∙ f;
        kept = λ i a b. get_or-set_other once last i y 0 b ∙ get_or-set_other sides from i x 0 a;
      }

-- ---- PART AFTER PART: the cells before `col` have their sides, and so have those that see their own tile alone
pub record FoundBefore (s m : ℕ) (own far above below : List ℕ) (col : ℕ) (sides : List ℕ) : Type 0 where
  pub upto : col ≤ length own
  pub begins : col < length own → col % s ≡ 0
  pub long : length sides ≡ length own
  pub before : (i : ℕ) → i < col → get_or sides i 0 ≡ on_storey s m own far above below i
  pub within : (i : ℕ) → i < length own → seam (length own) s i ≡ inside → seam (length own) s (suc i) ≡ inside
      → get_or sides i 0 ≡ on_storey s m own far above below i

module _ {s m : ℕ} {own far above below : List ℕ} where
  pub found_none : {old sides : List ℕ} → length old ≡ length own → SetInner m own above below old sides → FoundBefore s m own far above below 0 sides
  found_none {old} {sides} e r = record {
    upto = omega arith;
    begins = λ l. zero-mod s;
    long = r.long ∙ e;
    before = λ i l. absurd (omega arith);
    within = at;
  }
    where
      at : (i : ℕ) → i < length own → seam (length own) s i ≡ inside → seam (length own) s (suc i) ≡ inside
          → get_or sides i 0 ≡ on_storey s m own far above below i
      at zero l a b = absurd (no_inside_at (length own) s 0 l (zero-mod s) a)
      at (suc i) l a b =
          let more : suc (suc i) ≢ length own = λ z. no_inside_end (length own) s (rw z at b) in
          let back : suc i - 1 ≡ i = omega arith in
          rw (across-inside _ (get_or own (suc i - 1) 0) _ a, across-inside _ (get_or own (suc (suc i)) 0) _ b, back) (r.each i (omega (arith, e, more)))

  module _ {col end : ℕ} {old sides : List ℕ} (f : FoundBefore s m own far above below col old) (some : 1 ≤ s) (l : col < length own)
      (e : end ≡ min (col + s) (length own)) (r : SetEnds s m own far above below col (end - 1) old sides) where
    -- a cell at neither end is as it was
    at : (i : ℕ) → (i ≢ col → i ≢ end - 1 → get_or old i 0 ≡ on_storey s m own far above below i) → get_or sides i 0 ≡ on_storey s m own far above below i
    at i h = elim (ℕ_discrete i col) [
      | yes p ↦ rw p r.first
      | no p ↦ elim (ℕ_discrete i (end - 1)) [
        | yes q ↦ rw q r.end
        | no q ↦ r.kept i p q ∙ h p q
      ]
    ]

    pub found-more : FoundBefore s m own far above below end sides
    found-more = record {
      upto = omega arith;
      begins = next-begins some l (f.begins l) e;
      long = r.long ∙ f.long;
      before = λ i h. at i (λ p q. go i h p q (order i col));
      within = λ i h a b. at i (λ p q. f.within i h a b);
    }
      where
        part : Part s (length own) col (end - 1)
        part = part_of some l (f.begins l) e

        go : (i : ℕ) → i < end → i ≢ col → i ≢ end - 1 → (i < col) ⊎ (col ≤ i) → get_or old i 0 ≡ on_storey s m own far above below i
        go i h p q (inl k) = f.before i k
        go i h p q (inr k) =
            f.within i (omega arith) (part.within i (omega (arith, p)) (omega arith)) (part.within (suc i) (omega arith) (omega (arith, q)))

  pub found : {col : ℕ} {old sides : List ℕ} → length old ≡ length own → length own ≤ col → FoundBefore s m own far above below col sides
      → FoundFlat s m own far above below old sides
  found e l f = record { long = f.long ∙ sym e; each = λ i h. f.before i (omega (arith, e)) }
