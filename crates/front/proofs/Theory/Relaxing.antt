-- From a store and the queue's call to what a touch leaves of the work list; and a cell's neighbours, who hear in turn.
use Rattle.std.proofs.Common.{◌≡◌, ℕ, ◌+◌, ◌-◌, ◌*◌, ◌%◌, ◌<◌, ◌≤◌, Bool, true, false, eqb, ◌≢◌, ◌⊎◌, List, [], ◌∷◌, ◌++◌, length, get_or, set, sym}
use Rattle.std.proofs.Common.{refl, ap, ◌∙◌, subst, inr, ⊎_elim, arith, length-set, get_or-set_other, get_or-set_same, eq-eqb, ne_eqb}
use native.Mathlib.Decide.{ℕ_discrete}
use native.Mathlib.Nat.{mod-mod, mod-one}
use Rattle.eikonal.specs.Board.{Board, never, size, column_axis, row_axis, slowness}
use Rattle.eikonal.specs.Tiles.{counts_as}
use Rattle.queue.specs.Heap as queue
use Rattle.queue.specs.Heap.{Heap, Put}
use Rattle.queue.proofs.Heap.{heap-past, keys_past}
use Rattle.front.specs.Front.{Drop, Out}
use Rattle.front.specs.Seams.{
  least_seam,
  Cut,
  cut,
  stack_cut,
  cuts,
  seam,
  seam_back,
  seam_on,
  near_on,
  edge,
  border,
  inside,
  mark_under,
  mark_over,
  hearer,
  near,
}
use Rattle.front.specs.Board.{land, rule_at, tentative, Work, at, keys, Ground, Site}
use Rattle.front.specs.State.{Held, Touched, stays, drops, Told, all, next}
use Rattle.front.specs.declared.Shape.{Shape}
use Rattle.front.proofs.Theory.Sight.{gives_wall}
use Rattle.front.proofs.Theory.Seams.{seam-edge, seam-inside}
use Rattle.front.proofs.Theory.Reading.{cells-size, marked-back, marked-on, column, line, column-at, line_at, under_mark, over_mark}

-- a time is stored for the cell e, and the queue takes it up
module _ {n : ℕ} {v : Work} (he : Held n v) {e : ℕ} (x : ℕ) (l : e < n) where
  abbrev stored : List ℕ
  stored = set v.list (2 * n + e) x

  -- the queue stands meanwhile
  pub stored-heap : Heap stored v.size n
  stored-heap = heap-past v.list v.size n (2 * n + e) x (omega arith) he.heap

  stored-keys : (d : ℕ) → queue.keys stored v.size d ≡ keys v d
  stored-keys = keys_past v.list v.size n (2 * n + e) x (omega arith) he.heap

  pub stored-room : 2 * n ≤ length stored
  stored-room = rw length-set (omega (arith, he.room))

  -- it may lower the cell's key
  pub stored-key : x < tentative v.list n e → x < queue.keys stored v.size e
  stored-key h = rw (stored-keys e) (⊎_elim (λ q. omega (arith, he.tied.small e l)) (λ q. omega arith) (he.tied.tied e l))

  -- and where the cell had no time, it is new to the queue
  pub stored-new : tentative v.list n e ≡ never → queue.keys stored v.size e ≡ never
  stored-new h = stored-keys e ∙ ⊎_elim (λ q. q) (λ q. q ∙ h) (he.tied.tied e l)

  module _ {u : List ℕ} {r : ℕ} (put : Put stored v.size n e x u r) where
    other : (j : ℕ) → 2 * n ≤ j → j ≢ 2 * n + e → get_or u j 0 ≡ get_or v.list j 0
    other j i q = put.past j i ∙ get_or-set_other v.list (2 * n + e) j x 0 q

    pub lowers : {L : ℕ → (ℕ → ℕ) → ℕ} → x ≡ L e (tentative v.list n) → x < tentative v.list n e
        → (t : ℕ) → (t ≡ 0) ⊎ (t < tentative v.list n e) → Touched n L t e v (at u r)
    lowers is low t h = drops (record {
      late = ⊎_elim (λ z. omega arith) (λ m. m) h;
      drop = subst (λ z. Drop n e z (tentative v.list n) (keys v) (tentative u n) (keys (at u r))) is (record {
        cell = l;
        low = low;
        time = put.past (2 * n + e) (omega arith) ∙ get_or-set_same v.list (2 * n + e) x 0 (omega (arith, he.room));
        key = put.new;
        times = λ d m q. other (2 * n + d) (omega arith) (omega arith);
        keys = λ d m q. put.others d q ∙ stored-keys d;
      });
      long = put.long ∙ length-set v.list (2 * n + e) x;
      heap = put.heap;
      rest = λ j m. other j (omega arith) (omega arith);
    })

-- a wall stays
pub stays_wall : {s : Shape} {slow ts cols rows : List ℕ} → Ground s slow ts cols rows → {n t e : ℕ} {v : Work} → Held n v → get_or slow e 0 ≡ 0
    → Touched n (rule_at s slow ts) t e v v
unfolding slowness
stays_wall {s} {slow} {ts} gr {n} {e = e} {v} he w =
    let wall = gives_wall gr.good s.across s.down (λ d e. counts_as (land s slow) ts e) e (tentative v.list n) w in
    stays refl (λ l. inr (omega (arith, wall, he.tied.small e l)))

-- ---- who hears, if there is one
pub hearer-same : (n : ℕ) (there : Bool) {e d : ℕ} → (there ≡ true → e ≡ d) → hearer n there e ≡ hearer n there d
unfolding hearer
hearer-same n true h = h refl
hearer-same n false h = refl

module _ {n : ℕ} {L : ℕ → (ℕ → ℕ) → ℕ} {t : ℕ} (e : ℕ) {v : Work} {there : Bool} where
  pub touched_nobody : there ≡ false → Touched n L t (hearer n there e) v v
  unfolding hearer
  touched_nobody b = stays refl (rw b (λ l. absurd (omega arith)))

  pub touched_there : {u : Work} → there ≡ true → Touched n L t e v u → Touched n L t (hearer n there e) v u
  unfolding hearer
  touched_there b h = rw b h

-- ---- neighbours across a seam of a kind
pub hearer-some : (n k s e : ℕ) → s ≡ k → hearer n (eqb s k) e ≡ e
unfolding hearer
hearer-some n k s e q = rw (eq-eqb s k q)

pub hearer-none : (n k s e : ℕ) → s ≢ k → hearer n (eqb s k) e ≡ n
unfolding hearer
hearer-none n k s e q = rw (ne_eqb s k q)

-- those along an axis hear of a cell, by the seams as laid
pub along_told : (x : Cut) (k c : ℕ) {n t m o step : ℕ} {L : ℕ → (ℕ → ℕ) → ℕ} {v u : Work} → m ≡ seam_back x c → o ≡ seam_on x c → step ≡ x.axis.unit
    → Told n L t (hearer n (eqb m k) (c - step) ∷ hearer n (eqb o k) (c + step) ∷ []) v u → Told n L t (near_on (x ∷ []) n k c) v u
along_told x k c mb mo q ts = rw (mb, mo, q) at ts

-- and where no seam there is of the kind, nobody
pub quiet : (x : Cut) (k c : ℕ) {n t : ℕ} {L : ℕ → (ℕ → ℕ) → ℕ} (v : Work) → seam_back x c ≢ k → seam_on x c ≢ k → Told n L t (near_on (x ∷ []) n k c) v v
quiet x k c v p q = next _ _ v v v (touched_nobody _ (ne_eqb _ k p)) (next _ _ v v v (touched_nobody _ (ne_eqb _ k q)) (all v))

-- several, and then others
pub told_both : {n t : ℕ} {L : ℕ → (ℕ → ℕ) → ℕ} {es fs : List ℕ} {v u w : Work} → Told n L t es v u → Told n L t fs u w → Told n L t (es ++ fs) v w
told_both (all v) ts = ts
told_both {w = w} (next e es v u v' k ks) ts = next e _ v u w k (told_both ks ts)

module _ {s : Shape} {slow ts cols rows : List ℕ} (gr : Ground s slow ts cols rows) {c row col : ℕ} (si : Site s.cells s.width c row col) where
  abbrev n : ℕ
  n = s.cells

  abbrev board : Board
  board = land s slow

  abbrev columns : Cut
  columns = cut (column_axis board) s.across

  abbrev lines : Cut
  lines = cut (row_axis board) s.down

  -- the seams around the cell, as laid
  left_mark : get_or cols col 0 ≡ seam_back columns c
  left_mark = marked-back columns c gr.columns (column-at gr si) (column gr si)

  right_mark : get_or cols (col + 1) 0 ≡ seam_on columns c
  right_mark = marked-on columns c gr.columns (column-at gr si) (column gr si)

  above_mark : get_or rows row 0 ≡ seam_back lines c
  above_mark = marked-back lines c gr.lines (line_at gr si) (line gr si)

  below_mark : get_or rows (row + 1) 0 ≡ seam_on lines c
  below_mark = marked-on lines c gr.lines (line_at gr si) (line gr si)

  -- along each axis
  module _ {L : ℕ → (ℕ → ℕ) → ℕ} {t : ℕ} (k : ℕ) {v u : Work} where
    pub columns-told : Told n L t (hearer n (eqb (get_or cols col 0) k) (c - 1) ∷ hearer n (eqb (get_or cols (col + 1) 0) k) (c + 1) ∷ []) v u
        → Told n L t (near_on (columns ∷ []) n k c) v u
    columns-told = along_told columns k c left_mark right_mark refl

    pub rows_told : Told n L t (hearer n (eqb (get_or rows row 0) k) (c - s.width) ∷ hearer n (eqb (get_or rows (row + 1) 0) k) (c + s.width) ∷ []) v u
        → Told n L t (near_on (lines ∷ []) n k c) v u
    rows_told = along_told lines k c above_mark below_mark refl

    pub stack-told : {area : ℕ} → area ≡ s.width * s.height
        → Told n L t (hearer n (eqb (mark_under area c) k) (c - area) ∷ hearer n (eqb (mark_over n area c) k) (c + area) ∷ []) v u
        → Told n L t (near_on (stack_cut board ∷ []) n k c) v u
    stack-told q = along_told (stack_cut board) k c (under_mark gr si q) (over_mark gr si q) q

  -- all of them
  pub near-told : {L : ℕ → (ℕ → ℕ) → ℕ} {t : ℕ} (k : ℕ) {v u w z : Work} → Told n L t (near_on (columns ∷ []) n k c) v u
      → Told n L t (near_on (lines ∷ []) n k c) u w → Told n L t (near_on (stack_cut board ∷ []) n k c) w z
      → Told n L t (near board s.across s.down k c) v z
  unfolding near
  near-told {L} {t} k {v} {z = z} p q r =
      subst (λ m. Told n L t (near_on (cuts board s.across s.down) m k c) v z) (cells-size gr) (told_both p (told_both q r))

  -- on a flat board nobody is under or over it: both seams are the edge
  pub flat-told : {L : ℕ → (ℕ → ℕ) → ℕ} {t : ℕ} (v : Work) → s.storeys ≡ 1 → Told n L t (near_on (stack_cut board ∷ []) n inside c) v v
  flat-told v e = quiet (stack_cut board) inside c v (λ z. omega (arith, sym z ∙ edges _)) (λ z. omega (arith, sym z ∙ edges _))
    where
      edges : (i : ℕ) → seam s.storeys s.storeys i ≡ edge
      edges i = seam-edge s.storeys s.storeys i (ap (λ (u : ℕ). i % u) e ∙ mod-one i)

  -- neither is ever a border
  no_border : (i : ℕ) → seam s.storeys s.storeys i ≢ border
  no_border i z = elim (ℕ_discrete (i % s.storeys) 0) [
    | yes q ↦ omega (arith, sym (seam-edge s.storeys s.storeys i q) ∙ z)
    | no q ↦ omega (arith, sym (seam-inside s.storeys s.storeys i q (λ r. q (sym (mod-mod i s.storeys) ∙ r))) ∙ z)
  ]

  pub border-told : {L : ℕ → (ℕ → ℕ) → ℕ} {t : ℕ} (v : Work) → Told n L t (near_on (stack_cut board ∷ []) n border c) v v
  border-told v = quiet (stack_cut board) border c v (no_border _) (no_border _)

  -- where all seams of the storey are inside, nobody in another tile is to be told
  module _ (q : least_seam cols rows row col ≡ inside) where
    pub near_none : {L : ℕ → (ℕ → ℕ) → ℕ} {t : ℕ} (v : Work) → Told n L t (near board s.across s.down border c) v v
    near_none v =
        near-told border
        (quiet columns border c v (λ z. omega (arith, left_mark)) (λ z. omega (arith, right_mark)))
        (quiet lines border c v (λ z. omega (arith, above_mark)) (λ z. omega (arith, below_mark)))
        (border-told v)

    -- none of them is a cell
    pub near-out : (e : ℕ) → e < size board → Out e (near board s.across s.down border c)
    unfolding near
    near-out e l = (
      none (seam_back columns c) _ (λ z. omega (arith, left_mark)),
      (
        none (seam_on columns c) _ (λ z. omega (arith, right_mark)),
        (
          none (seam_back lines c) _ (λ z. omega (arith, above_mark)),
          (
            none (seam_on lines c) _ (λ z. omega (arith, below_mark)),
            (
              none (seam_back (stack_cut board) c) _ (no_border _),
              (none (seam_on (stack_cut board) c) _ (no_border _), tt),
            ),
          ),
        ),
      ),
    )
      where
        none : (mark d : ℕ) → mark ≢ border → e ≢ hearer (size board) (eqb mark border) d
        none mark d h z = omega (arith, l, z, hearer-none (size board) border mark d h)
