-- The round so far: what taking a cell and lowering another leave of it.
use Rattle.std.proofs.Common.{◌≡◌, ℕ, zero, suc, ◌-◌, ◌<◌, ◌≤◌, min, cond, eqb, ◌≢◌, sym, refl, ap, ◌∙◌, subst, ⊎_elim, arith, eq-eqb, ne_eqb}
use native.Mathlib.Decide.{ℕ_discrete}
use Rattle.eikonal.specs.Board.{never}
use Rattle.front.specs.Front.{heard, Tied, Drop, total, Taken, Drift, Written}
use Rattle.front.proofs.Theory.Front.{times_fall}

-- ---- sums that differ at one cell, or nowhere
pub total-same : (n : ℕ) (f g : ℕ → ℕ) → ((c : ℕ) → c < n → f c ≡ g c) → total n f ≡ total n g
unfolding total
total-same zero f g h = refl
total-same (suc n) f g h = omega (arith, h n (omega arith), total-same n f g (λ c l. h c (omega arith)))

total-one : (n c : ℕ) (f g : ℕ → ℕ) → c < n → suc (f c) ≡ g c → ((d : ℕ) → d < n → d ≢ c → f d ≡ g d) → suc (total n f) ≡ total n g
unfolding total
total-one zero c f g l s h = absurd (omega arith)
total-one (suc n) c f g l s h = elim (ℕ_discrete c n) [
  | yes q ↦ (let r : suc (f n) ≡ g n = subst (λ u. suc (f u) ≡ g u) q s in
      omega (arith, total-same n f g (λ d m. h d (omega arith) (λ z. omega arith))))
  | no q ↦ omega (arith, h n (omega arith) (λ z. q (sym z)), total-one n c f g (omega arith) s (λ d m. h d (omega arith)))
]

total-few : (n : ℕ) (g : ℕ → ℕ) → ((c : ℕ) → c < n → g c ≤ 1) → total n g ≤ n
unfolding total
total-few zero g h = omega arith
total-few (suc n) g h = omega (arith, h n (omega arith), total-few n g (λ c l. h c (omega arith)))

one_more : (s y k k' : ℕ) → y < s → k < never → k' ≡ never → suc (min 1 (s - y) - min 1 (never - k)) ≡ min 1 (s - y) - min 1 (never - k')
one_more s y k k' a b e =
    let p : min 1 (s - y) ≡ 1 = omega arith in
    let q : min 1 (never - k) ≡ 1 = omega arith in
    let r : min 1 (never - k') ≡ 0 = omega arith in
    rw (p, q, r)

pub total-none : (n : ℕ) (g : ℕ → ℕ) → ((c : ℕ) → c < n → g c ≡ 0) → total n g ≡ 0
unfolding total
total-none zero g h = refl
total-none (suc n) g h = omega (arith, h n (omega arith), total-none n g (λ c l. h c (omega arith)))

-- NOTHING IS TAKEN YET, by stored times that are what is heard
pub fresh : {n : ℕ} (y k note : ℕ → ℕ) → Drift n (heard y k) y k 0 0 note
fresh {n} y k note = record {
  low = λ c l. omega arith;
  waits = λ c l h. omega arith;
  floor = λ c l. omega arith;
  noted = λ i l. absurd (omega arith);
  others = λ c l o e. omega arith;
  count = sym (total-none n _ (λ c l. omega arith));
}

-- THE NOTES FIT: no more cells are noted than there are
pub notes-fit : {n : ℕ} {stored y k : ℕ → ℕ} {t m : ℕ} {note : ℕ → ℕ} → Drift n stored y k t m note → m ≤ n
notes-fit {n} {stored} {y} {k} dr = omega (arith, dr.count, total-few n (λ c. min 1 (stored c - y c) - min 1 (never - k c)) (λ c l. omega arith))

module _ {n : ℕ} {stored y k : ℕ → ℕ} {t m : ℕ} {note : ℕ → ℕ} (ti : Tied n y k) (dr : Drift n stored y k t m note) where
  -- a cell later than the last one taken is not noted
  not_noted : (e : ℕ) → t < y e → (i : ℕ) → i < m → note i ≢ e
  not_noted e h i l q = omega (arith, (dr.noted i l).past, ap y q)

  -- a pending cell with the least key is taken and noted
  module _ (c : ℕ) (k' note' : ℕ → ℕ) (l : c < n) (pending : k c < never) (least : (d : ℕ) → d < n → k c ≤ k d)
      (gone : k' c ≡ never) (rest : (d : ℕ) → d < n → d ≢ c → k' d ≡ k d) (new : note' m ≡ c) (old : (i : ℕ) → i < m → note' i ≡ note i) where
    key-is : k c ≡ y c
    key-is = ⊎_elim (λ q. absurd (omega arith)) (λ q. q) (ti.tied c l)

    apart : (i : ℕ) → i < m → note i ≢ c
    apart i j q = omega (arith, (dr.noted i j).key, ap k q)

    still : (i : ℕ) → i < m → Taken n stored y k' (y c) (note i)
    still i j =
        let s = dr.noted i j in
        record { on = s.on; key = rest (note i) s.on (apart i j) ∙ s.key; fell = s.fell; past = omega (arith, s.past, dr.floor c l, key-is) }

    newest : Taken n stored y k' (y c) c
    newest = record { on = l; key = gone; fell = dr.waits c l pending; past = omega arith }

    pub drift-taken : Drift n stored y k' (y c) (suc m) note'
    drift-taken = record {
      low = dr.low;
      waits = λ d j h. elim (ℕ_discrete d c) [
        | yes q ↦ absurd (omega (arith, ap k' q))
        | no q ↦ dr.waits d j (omega (arith, rest d j q))
      ];
      floor = λ d j. elim (ℕ_discrete d c) [
        | yes q ↦ omega (arith, ap k' q, ti.small c l)
        | no q ↦ omega (arith, rest d j q, least d j, key-is)
      ];
      noted = λ i j. elim (ℕ_discrete i m) [
        | yes q ↦ subst (λ u. Taken n stored y k' (y c) u) (sym (ap note' q ∙ new)) newest
        | no q ↦ (let i-old : i < m = omega arith in subst (λ u. Taken n stored y k' (y c) u) (sym (old i i-old)) (still i i-old))
      ];
      others = λ d j out e. elim (ℕ_discrete d c) [
        | yes q ↦ absurd (out m (omega arith) (new ∙ sym q))
        | no q ↦ dr.others d j (λ i h z. out i (omega arith) (old i h ∙ z)) (sym (rest d j q) ∙ e)
      ];
      count =
          ap suc dr.count
          ∙ total-one n c _ _ l (one_more (stored c) (y c) (k c) (k' c) (dr.waits c l pending) pending gone)
          (λ d j q. ap (λ u. min 1 (stored d - y d) - min 1 (never - u)) (sym (rest d j q)));
    }

  -- so while a cell is pending there is room for one note more
  pub room-left : (c : ℕ) → c < n → k c < never → ((d : ℕ) → d < n → k c ≤ k d) → m < n
  room-left c l pending least =
      notes-fit
      (drift-taken c (λ d. cond (eqb d c) never (k d)) (λ i. cond (eqb i m) c (note i)) l pending least
      (rw (eq-eqb c c refl)) (λ d j q. rw (ne_eqb d c q)) (rw (eq-eqb m m refl)) (λ i j. rw (ne_eqb i m (λ z. omega arith))))

  -- a cell later than the last one taken is lowered
  module _ (e x : ℕ) (y' k' : ℕ → ℕ) (dp : Drop n e x y k y' k') (late : t < y e) (high : t ≤ x) where
    was : min 1 (stored e - y e) - min 1 (never - k e) ≡ 0
    was = elim (ℕ_discrete (k e) never) [
      | yes q ↦ omega (arith, dr.others e dp.cell (not_noted e late) q)
      | no q ↦ ⊎_elim (λ z. absurd (q z)) (λ z. omega (arith, ti.small e dp.cell)) (ti.tied e dp.cell)
    ]

    pub drift_dropped : Drift n stored y' k' t m note
    drift_dropped = record {
      low = λ d j. omega (arith, dr.low d j, times_fall dp d j);
      waits = λ d j h. elim (ℕ_discrete d e) [
        | yes q ↦ subst (λ u. y' u < stored u) (sym q) (omega (arith, dp.time, dp.low, dr.low e dp.cell))
        | no q ↦ omega (arith, dp.times d j q, dr.waits d j (omega (arith, dp.keys d j q)))
      ];
      floor = λ d j. elim (ℕ_discrete d e) [
        | yes q ↦ omega (arith, ap k' q, dp.key)
        | no q ↦ omega (arith, dp.keys d j q, dr.floor d j)
      ];
      noted = λ i j.
          let s = dr.noted i j in
          let q = not_noted e late i j in
          record {
            on = s.on;
            key = dp.keys (note i) s.on q ∙ s.key;
            fell = omega (arith, dp.times (note i) s.on q, s.fell);
            past = omega (arith, dp.times (note i) s.on q, s.past);
          };
      others = λ d j out z. elim (ℕ_discrete d e) [
        | yes q ↦ absurd (omega (arith, ap k' q, dp.key, dp.low, ti.small e dp.cell))
        | no q ↦ omega (arith, dp.times d j q, dr.others d j out (sym (dp.keys d j q) ∙ z))
      ];
      count = dr.count ∙ total-same n _ _ (λ d j. elim (ℕ_discrete d e) [
        | yes q ↦ subst (λ u. min 1 (stored u - y u) - min 1 (never - k u) ≡ min 1 (stored u - y' u) - min 1 (never - k' u)) (sym q)
            (was ∙ (let z : 0 ≡ min 1 (stored e - y' e) - min 1 (never - k' e) = omega (arith, dp.key, dp.low, ti.small e dp.cell) in z))
        | no q ↦ rw (dp.times d j q, dp.keys d j q)
      ]);
    }

-- nothing noted, nothing written
pub unwritten : (n : ℕ) (stored y : ℕ → ℕ) (note : ℕ → ℕ) → Written n stored y stored 0 note
unwritten n stored y note = record { new = λ i l. absurd (omega arith); old = λ c l o. refl }
