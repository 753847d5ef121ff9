-- The front's invariant over functions: kept when a cell is taken and by each cell that hears of it; at the end the rule holds up to the bound.
use Rattle.std.proofs.Common.{◌≡◌, ℕ, zero, suc, ◌+◌, ◌-◌, ◌*◌, ◌<◌, ◌≤◌, min, ◌≢◌, ◌⊎◌, sym, ap, ◌∙◌, subst, inr, ⊎_elim, le_trans, arith}
use native.Mathlib.Decide.{ℕ_discrete}
use Rattle.eikonal.specs.Board.{never}
use Rattle.eikonal.specs.Inner.Clip.{clip}
use Rattle.eikonal.proofs.Clip.{clip-same, clip-low}
use Rattle.front.specs.Front.{heard, Tied, Settled, Midway, Upheld, Drop, total, weight}

-- what the engine needs of a rule
pub record Lawful (n : ℕ) (L : ℕ → (ℕ → ℕ) → ℕ) : Type 0 where
  pub mono : (c : ℕ) → c < n → (f g : ℕ → ℕ) → ((e : ℕ) → e < n → f e ≤ g e) → L c f ≤ L c g
  pub causal : (t c : ℕ) → t < never → c < n → (f g : ℕ → ℕ) → ((e : ℕ) → e < n → min t (f e) ≡ min t (g e)) → min (suc t) (L c f) ≡ min (suc t) (L c g)

-- ---- sums
total_le : (n : ℕ) (f g : ℕ → ℕ) → ((c : ℕ) → c < n → f c ≤ g c) → total n f ≤ total n g
unfolding total
total_le zero f g h = omega arith
total_le (suc n) f g h = omega (arith, h n (omega arith), total_le n f g (λ c l. h c (omega arith)))

pub total_lt : (n c : ℕ) (f g : ℕ → ℕ) → c < n → f c < g c → ((d : ℕ) → d < n → f d ≤ g d) → total n f < total n g
unfolding total
total_lt zero c f g l s h = absurd (omega arith)
total_lt (suc n) c f g l s h = elim (ℕ_discrete c n) [
  | yes q ↦ (let r : f n < g n = subst (λ u. f u < g u) q s in omega (arith, total_le n f g (λ d m. h d (omega arith))))
  | no q ↦ omega (arith, h n (omega arith), total_lt n c f g (omega arith) s (λ d m. h d (omega arith)))
]

-- a pending cell is not heard, and what is heard is no earlier than the time
heard-most : {n : ℕ} {y k : ℕ → ℕ} → Tied n y k → (e : ℕ) → e < n → heard y k e ≤ never
heard-most ti e l = ⊎_elim (λ p. omega (arith, ti.small e l)) (λ p. omega (arith, ti.small e l)) (ti.tied e l)

module _ {n e x : ℕ} {y k y' k' : ℕ → ℕ} where
  pub times_fall : Drop n e x y k y' k' → (d : ℕ) → d < n → y' d ≤ y d
  times_fall dr d m = elim (ℕ_discrete d e) [
    | yes q ↦ subst (λ u. y' u ≤ y u) (sym q) (omega arith)
    | no q ↦ omega (arith, dr.times d m q)
  ]

  hears : Tied n y k → Drop n e x y k y' k' → (d : ℕ) → d < n → heard y k d ≤ heard y' k' d
  hears ti dr d m = elim (ℕ_discrete d e) [
    | yes q ↦ subst (λ u. heard y k u ≤ heard y' k' u) (sym q) (omega (arith, ti.small e dr.cell, heard-most ti e dr.cell))
    | no q ↦ omega (arith, dr.times d m q, dr.keys d m q)
  ]

  pub drop-tied : Tied n y k → Drop n e x y k y' k' → Tied n y' k'
  drop-tied ti dr = record {
    small = λ d m. omega (arith, times_fall dr d m, ti.small d m);
    tied = λ d m. elim (ℕ_discrete d e) [
      | yes q ↦ subst (λ u. (k' u ≡ never) ⊎ (k' u ≡ y' u)) (sym q) (inr (dr.key ∙ sym dr.time))
      | no q ↦ rw (dr.times d m q, dr.keys d m q) (ti.tied d m)
    ];
  }

  pub drop-weight : Drop n e x y k y' k' → weight n y' k' < weight n y k
  drop-weight dr = total_lt n e _ _ dr.cell (omega arith) (λ d m. elim (ℕ_discrete d e) [
    | yes q ↦ subst (λ u. 2 * y' u + min 1 (never - k' u) ≤ 2 * y u + min 1 (never - k u)) (sym q) (omega arith)
    | no q ↦ omega (arith, dr.times d m q, dr.keys d m q)
  ])

-- a time between two that agree up to b, in two steps: omega splits six minima at most
between : (m s x u y : ℕ) → y ≤ s → min s x ≤ y → y ≤ u → min m x ≡ min m u → min m y ≡ min m (min s x)
between m s x u y a b c e = omega arith

beside : (m s x z : ℕ) → min m x ≡ min m z → min m (min s x) ≡ min m (min s z)
beside m s x z e = omega arith

module _ {n : ℕ} {L : ℕ → (ℕ → ℕ) → ℕ} (law : Lawful n L) where
  -- the cell c, which is pending, is taken: it is heard from now on, and cells that are clear of it do not hear it
  pub popped : {c : ℕ} {Clear : ℕ → Type 0} {y k k' : ℕ → ℕ} → Tied n y k → Settled n L y k
      → c < n → k c < never
      → k' c ≡ never → ((d : ℕ) → d < n → d ≢ c → k' d ≡ k d)
      → ((d : ℕ) → d < n → Clear d → (f g : ℕ → ℕ) → ((e : ℕ) → e < n → e ≢ c → f e ≡ g e) → L d f ≡ L d g)
      → Midway n L (y c) Clear y k'
  popped {c} {y = y} {k} {k'} ti se l p e o far = record {
    weak = λ d m. omega (arith, se d m, law.causal (y c) d yc m (heard y k) (heard y k') below_t);
    settled = λ d m out. subst (λ u. y d ≤ u) (far d m out (heard y k) (heard y k') apart) (se d m);
  }
    where
      kc : k c ≡ y c
      kc = ⊎_elim (λ q. absurd (omega arith)) (λ q. q) (ti.tied c l)

      yc : y c < never
      yc = omega (arith, kc)

      apart : (d : ℕ) → d < n → d ≢ c → heard y k d ≡ heard y k' d
      apart d m q = ap (λ u. y d + (never - u)) (sym (o d m q))

      below_t : (d : ℕ) → d < n → min (y c) (heard y k d) ≡ min (y c) (heard y k' d)
      below_t d m = elim (ℕ_discrete d c) [
        | yes q ↦ subst (λ u. min (y c) (heard y k u) ≡ min (y c) (heard y k' u)) (sym q) (omega (arith, kc, e))
        | no q ↦ ap (λ u. min (y c) u) (apart d m q)
      ]

  -- a cell e hears. Cells that were clear but for e are clear afterwards
  module _ {t e : ℕ} {Clear Clear' : ℕ → Type 0} (clears : (d : ℕ) → Clear' d → d ≢ e → Clear d) where
    -- it need not be lowered
    passed : {y k : ℕ → ℕ} → Midway n L t Clear y k → (e < n → y e ≤ L e (heard y k)) → Midway n L t Clear' y k
    passed {y} {k} mid h = record {
      weak = mid.weak;
      settled = λ d m out. elim (ℕ_discrete d e) [
        | yes q ↦ subst (λ u. y u ≤ L u (heard y k)) (sym q) (h (subst (λ u. u < n) q m))
        | no q ↦ mid.settled d m (clears d out q)
      ];
    }

    -- since it is no later than the cell taken
    pub skipped : {y k : ℕ → ℕ} → Midway n L t Clear y k → (e < n → y e ≤ t) → Midway n L t Clear' y k
    skipped mid h = passed mid (λ l. omega (arith, h l, mid.weak e l))

    -- since the rule gives no earlier time
    pub stayed : {y k : ℕ → ℕ} → Midway n L t Clear y k → (e < n → y e ≤ L e y) → Midway n L t Clear' y k
    stayed {y} {k} mid h = passed mid (λ l. le_trans (h l) (law.mono e l y (heard y k) (λ d m. omega arith)))

    -- it is lowered to a time that the rule does not lower
    pub lowered : {x : ℕ} {y k y' k' : ℕ → ℕ} → Tied n y k → Drop n e x y k y' k' → x ≤ L e y → Midway n L t Clear y k → Midway n L t Clear' y' k'
    lowered {x} {y} {k} {y'} {k'} ti dr low mid = record {
      weak = λ d m. omega (arith, times_fall dr d m, mid.weak d m, law.mono d m (heard y k) (heard y' k') (hears ti dr));
      settled = λ d m out. elim (ℕ_discrete d e) [
        | yes q ↦ subst (λ u. y' u ≤ L u (heard y' k')) (sym q) (omega (arith, dr.time, law.mono e dr.cell y (heard y' k') above_y))
        | no q ↦ omega (arith, dr.times d m q, mid.settled d m (clears d out q), law.mono d m (heard y k) (heard y' k') (hears ti dr))
      ];
    }
      where
        above_y : (d : ℕ) → d < n → y d ≤ heard y' k' d
        above_y d m = omega (arith, hears ti dr d m)

  -- what the rule gives a cell later than the one taken is later too, where no key is below that
  pub rises : {t e : ℕ} {Clear : ℕ → Type 0} {y k : ℕ → ℕ} → Tied n y k → Midway n L t Clear y k → t < never → ((d : ℕ) → d < n → t ≤ k d)
      → e < n → t < y e → t < L e y
  rises {t} {e} {y = y} {k} ti mid i floor l h = omega (arith, mid.weak e l, law.causal t e i l y (heard y k) same)
    where
      same : (d : ℕ) → d < n → min t (y d) ≡ min t (heard y k d)
      same d m = ⊎_elim (λ q. omega arith) (λ q. omega (arith, floor d m)) (ti.tied d m)

  -- start and rule uphold a time that is lowered to what the rule gives
  pub upheld : {start : ℕ → ℕ} {e : ℕ} {y k y' k' : ℕ → ℕ} → Drop n e (L e y) y k y' k' → Upheld n L start y → Upheld n L start y'
  upheld {start} {e} {y} {y' = y'} dr up = record {
    started = λ d m. le_trans (times_fall dr d m) (up.started d m);
    upper = λ d m. elim (ℕ_discrete d e) [
      | yes q ↦ subst (λ u. min (start u) (L u y') ≤ y' u) (sym q) (omega (arith, dr.time, law.mono e dr.cell y' y (times_fall dr)))
      | no q ↦ omega (arith, up.upper d m, law.mono d m y' y (times_fall dr), dr.times d m q)
    ];
  }

  -- at the end every pending cell is past the bound: up to the bound every cell meets the rule
  pub ended : {start : ℕ → ℕ} {b : ℕ} {y k : ℕ → ℕ} → Tied n y k → Settled n L y k → Upheld n L start y → b < never → ((c : ℕ) → c < n → b < k c)
      → (c : ℕ) → c < n → clip b (y c) ≡ clip b (min (start c) (L c (λ e. clip b (y e))))
  ended {start} {b} {y} {k} ti se up low past c l =
      clip-same b (y c) _
      (between (suc b) (start c) (L c y) _ (y c) (up.started c l) (up.upper c l) (se c l) (law.causal b c low l y (heard y k) to-heard)
      ∙ beside (suc b) (start c) (L c y) _ (law.causal b c low l y (λ e. clip b (y e)) to-cut))
    where
      to-heard : (e : ℕ) → e < n → min b (y e) ≡ min b (heard y k e)
      to-heard e m = ⊎_elim (λ p. omega arith) (λ p. omega (arith, past e m)) (ti.tied e m)

      to-cut : (e : ℕ) → e < n → min b (y e) ≡ min b (clip b (y e))
      to-cut e m = sym (clip-low b b (y e) (omega arith) (omega arith))
