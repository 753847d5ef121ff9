-- Places on an axis, and a cell's neighbours: columns and rows are instances.
use mathlib.Core.Path.{◌≡◌, refl, sym, ap, ◌∙◌}
use mathlib.Core.Bool.{Bool, true, false, cond}
use mathlib.Core.List.{List, [], ◌∷◌}
use mathlib.Core.Logic.{◌⊎◌, inl, inr, ◌≢◌}
use Prim.Native.Nat.{ℕ, suc, ◌+◌, ◌*◌, ◌-◌, ◌/◌, ◌%◌, ◌≤◌, ◌<◌, min}
use native.Mathlib.Omega.{arith}
use native.Mathlib.Nat.{suc-mod, mod-lt, mod-eq_of_lt, mod_self, zero-mod, div-add-mod', add-div_right, mul-le-mul_right}
use lib.Dec.{eqb}
use lib.ListN.{length}
use borrow.Author.Tests.{eqb-false, ne_eqb}
use Rattle.eikonal.specs.Axes.{Axis, place, before, behind, sight, sights, Next, NextOn, here, there, Near, Spans, AllSpan, also}
use Rattle.eikonal.specs.Axes.{never, earlier, earliest}
use Rattle.eikonal.proofs.Levels.{order}
use Rattle.eikonal.proofs.Local.{earlier-min}

-- counting round: one on, or back to 0
wraps : (n x : ℕ) → suc (x % n) ≡ n → suc x % n ≡ 0
wraps n x e = suc-mod x n ∙ ap (λ (y : ℕ). y % n) e ∙ mod_self n

goes_on : (n x : ℕ) → 1 ≤ n → suc (x % n) ≢ n → suc x % n ≡ suc (x % n)
goes_on n x h e = suc-mod x n ∙ mod-eq_of_lt (omega (arith, mod-lt x h, e))

-- a quotient is below what the whole is below so many times
pub quotient_low : (x n k : ℕ) → x < k * n → x / n < k
quotient_low x n k l = go (order (x / n) k)
  where
    go : (x / n < k) ⊎ (k ≤ x / n) → x / n < k
    go (inl i) = i
    go (inr i) = absurd (omega (arith, mul-le-mul_right n i, div-add-mod' x n))

-- ---- AN AXIS
module _ {n : ℕ} {a : Axis} (sp : Spans n a) where
  steps : (c : ℕ) → (c + a.unit) / a.unit ≡ suc (c / a.unit)
  steps c = omega (arith, add-div_right c sp.unit_low)

  pub place-low : (c : ℕ) → place a c < a.count
  unfolding place
  place-low c = mod-lt (c / a.unit) sp.count_low

  -- one on
  pub place-on : (c : ℕ) → suc (place a c) ≢ a.count → place a (c + a.unit) ≡ suc (place a c)
  unfolding place
  place-on c q = rw (steps c) (goes_on a.count (c / a.unit) sp.count_low q)

  pub place_wraps : (c : ℕ) → suc (place a c) ≡ a.count → place a (c + a.unit) ≡ 0
  unfolding place
  place_wraps c q = rw (steps c) (wraps a.count (c / a.unit) q)

  -- one back
  pub unit-most : (c : ℕ) → place a c ≢ 0 → a.unit ≤ c
  unfolding place
  unit-most c q = go (order (c / a.unit) 1)
    where
      go : (c / a.unit < 1) ⊎ (1 ≤ c / a.unit) → a.unit ≤ c
      go (inl l) =
          let z : c / a.unit ≡ 0 = omega arith in
          absurd (q (ap (λ (x : ℕ). x % a.count) z ∙ zero-mod a.count))
      go (inr l) = omega (arith, mul-le-mul_right a.unit l, div-add-mod' c a.unit)

  pub back_on : (c : ℕ) → place a c ≢ 0 → c - a.unit + a.unit ≡ c
  back_on c q = omega (arith, unit-most c q)

  pub not_last : (c : ℕ) → place a c ≢ 0 → suc (place a (c - a.unit)) ≢ a.count
  not_last c q e = q (ap (place a) (sym (back_on c q)) ∙ place_wraps (c - a.unit) e)

  pub place-back : (c : ℕ) → place a c ≢ 0 → suc (place a (c - a.unit)) ≡ place a c
  place-back c q = sym (place-on (c - a.unit) (not_last c q)) ∙ ap (place a) (back_on c q)

  -- one on is a cell
  pub on-cell : (c : ℕ) → c < n → suc (place a c) ≢ a.count → c + a.unit < n
  unfolding place
  on-cell c l q =
      let u = a.unit in
      let x = c / u in
      let rounds : x / a.count < sp.many = quotient_low x a.count sp.many (quotient_low c u (sp.many * a.count) (omega (arith, sp.whole))) in
      let full = mul-le-mul_right a.count rounds in
      let next : suc (suc x) ≤ sp.many * a.count = omega (arith, div-add-mod' x a.count, mod-lt x sp.count_low, q) in
      omega (arith, mul-le-mul_right u next, div-add-mod' c u, mod-lt c sp.unit_low, sp.whole)

  -- ---- the two neighbours on it
  cell-before : (c : ℕ) → c < n → place a c ≢ 0 → (c - a.unit < n) × Next a (c - a.unit) c
  cell-before c l q = (omega arith, record { step = back_on c q; inner = not_last c q })

  cell-behind : (c : ℕ) → c < n → suc (place a c) ≢ a.count → (c + a.unit < n) × Next a c (c + a.unit)
  cell-behind c l q = (on-cell c l q, record { step = refl; inner = q })

  -- what holds of their times, and of never, holds of what is seen before and behind
  module _ (P : ℕ → ℕ → Type 0) (off : P never never) (c : ℕ) (on : c < n) (f g : ℕ → ℕ)
      (beside : (e : ℕ) → e < n → Next a c e ⊎ Next a e c → P (f e) (g e)) where
    side-by : (p : Bool) (x y : ℕ) → (p ≡ false → P x y) → P (cond p never x) (cond p never y)
    side-by true x y h = off
    side-by false x y h = h refl

    pub before-by : P (before a c f) (before a c g)
    before-by = side-by _ _ _ (λ z. let b = cell-before c on (eqb-false (place a c) 0 z) in beside _ b.0 (inr b.1))

    pub behind-by : P (behind a c f) (behind a c g)
    behind-by = side-by _ _ _ (λ z. let b = cell-behind c on (eqb-false (suc (place a c)) a.count z) in beside _ b.0 (inl b.1))

  pub next-first : {c e : ℕ} → Next a c e → place a e ≢ 0
  next-first {c} {e} k z = omega (arith, sym (place-on c k.inner) ∙ ap (place a) k.step ∙ z)

  pub next-back : {c e : ℕ} → Next a c e → e - a.unit ≡ c
  next-back k = omega (arith, k.step)

  -- ---- WHAT IS SEEN along it is no later than either neighbour,
  module _ (f : ℕ → ℕ) where
    pub sees : {c e : ℕ} → Next a c e ⊎ Next a e c → sight a c f ≤ f e
    unfolding sight
    sees {c} {e} (inl k) = rw (ne_eqb (suc (place a c)) a.count k.inner, earlier-min) (omega (arith, ap f k.step))
    sees {c} {e} (inr k) = rw (ne_eqb (place a c) 0 (next-first k), earlier-min) (omega (arith, ap f (next-back k)))

    -- and is one of their times
    pub data Seen (c : ℕ) : Type 0 where
      one : (e : ℕ) → e < n → Next a c e ⊎ Next a e c → f e ≤ sight a c f → Seen c

    pub which : (c : ℕ) → c < n → sight a c f < never → Seen c
    unfolding sight
    which c l h = go (eqb (place a c) 0) refl (eqb (suc (place a c)) a.count) refl h refl
      where
        -- the earlier of what is seen on both sides
        go : (p : Bool) → eqb (place a c) 0 ≡ p → (q : Bool) → eqb (suc (place a c)) a.count ≡ q
            → earlier (cond p never (f (c - a.unit))) (cond q never (f (c + a.unit))) < never
            → sight a c f ≡ earlier (cond p never (f (c - a.unit))) (cond q never (f (c + a.unit))) → Seen c
        go true e true d k s = absurd (omega (arith, earlier-min never never))
        go true e false d k s =
            let b = cell-behind c l (eqb-false (suc (place a c)) a.count d) in
            one (c + a.unit) b.0 (inl b.1) (omega (arith, earlier-min never (f (c + a.unit))))
        go false e true d k s =
            let b = cell-before c l (eqb-false (place a c) 0 e) in
            one (c - a.unit) b.0 (inr b.1) (omega (arith, earlier-min (f (c - a.unit)) never))
        go false e false d k s = by (order (f (c - a.unit)) (f (c + a.unit)))
          where
            by : (f (c - a.unit) < f (c + a.unit)) ⊎ (f (c + a.unit) ≤ f (c - a.unit)) → Seen c
            by (inl i) =
                let b = cell-before c l (eqb-false (place a c) 0 e) in
                one (c - a.unit) b.0 (inr b.1) (omega (arith, earlier-min (f (c - a.unit)) (f (c + a.unit))))
            by (inr i) =
                let b = cell-behind c l (eqb-false (suc (place a c)) a.count d) in
                one (c + a.unit) b.0 (inl b.1) (omega (arith, earlier-min (f (c - a.unit)) (f (c + a.unit))))

-- ---- SEVERAL AXES: a neighbour on one of them is one on the first, or on a later one
pub near-here : {a : Axis} {xs : List Axis} {c e : ℕ} → Next a c e ⊎ Next a e c → Near (a ∷ xs) c e
near-here (inl k) = inl (here k)
near-here (inr k) = inr (here k)

pub near-there : {a : Axis} {xs : List Axis} {c e : ℕ} → Near xs c e → Near (a ∷ xs) c e
near-there (inl k) = inl (there k)
near-there (inr k) = inr (there k)

pub near_which : {a : Axis} {xs : List Axis} {c e : ℕ} → Near (a ∷ xs) c e → (Next a c e ⊎ Next a e c) ⊎ Near xs c e
near_which (inl (here k)) = inl (inl k)
near_which (inl (there k)) = inr (inl k)
near_which (inr (here k)) = inl (inr k)
near_which (inr (there k)) = inr (inr k)

next-some : {c e : ℕ} {xs : List Axis} → NextOn xs c e → 1 ≤ length xs
next-some (here k) = omega arith
next-some (there k) = omega arith

pub none-near : {c e : ℕ} (xs : List Axis) → 0 ≡ length xs → Near xs c e → ⊥
none-near xs q (inl k) = omega (arith, next-some k)
none-near xs q (inr k) = omega (arith, next-some k)

-- the earliest of what a cell sees is no later than any neighbour's time,
module _ (n : ℕ) (f : ℕ → ℕ) where
  pub seen-earliest : (a : Axis) (xs : List Axis) (ws : List ℕ) → length ws ≡ length xs → AllSpan n (a ∷ xs) → (c e : ℕ) → Near (a ∷ xs) c e
      → earliest ws (sights (a ∷ xs) c f) ≤ f e
  unfolding earliest
  seen-earliest a xs [] q (also s sp) c e k = go (near_which k)
    where
      go : (Next a c e ⊎ Next a e c) ⊎ Near xs c e → sight a c f ≤ f e
      go (inl h) = sees s f h
      go (inr h) = absurd (none-near xs q h)
  seen-earliest a [] (w ∷ ws) q sp c e k = absurd (omega arith)
  seen-earliest a (b ∷ xs) (w ∷ ws) q (also s sp) c e k = go (near_which k) (seen-earliest b xs ws (omega arith) sp c e)
    where
      go : (Next a c e ⊎ Next a e c) ⊎ Near (b ∷ xs) c e → (Near (b ∷ xs) c e → earliest ws (sights (b ∷ xs) c f) ≤ f e)
          → min (sight a c f) (earliest ws (sights (b ∷ xs) c f)) ≤ f e
      go (inl h) next = omega (arith, sees s f h)
      go (inr h) next = omega (arith, next h)

  -- and is the time of one
  pub data Nearest (xs : List Axis) (c t : ℕ) : Type 0 where
    near : (e : ℕ) → e < n → Near xs c e → f e ≤ t → Nearest xs c t

  pub nearest : (a : Axis) (xs : List Axis) (ws : List ℕ) → length ws ≡ length xs → AllSpan n (a ∷ xs) → (c : ℕ) → c < n
      → earliest ws (sights (a ∷ xs) c f) < never → Nearest (a ∷ xs) c (earliest ws (sights (a ∷ xs) c f))
  unfolding earliest
  nearest a xs [] q (also s sp) c on h = go (which s f c on h)
    where
      go : Seen s f c → Nearest (a ∷ xs) c (sight a c f)
      go (one e l k i) = near e l (near-here k) i
  nearest a [] (w ∷ ws) q sp c on h = absurd (omega arith)
  nearest a (b ∷ xs) (w ∷ ws) q (also s sp) c on h =
      go (order (sight a c f) (earliest ws (sights (b ∷ xs) c f))) (nearest b xs ws (omega arith) sp c on)
    where
      first : Seen s f c → Nearest (a ∷ b ∷ xs) c (sight a c f)
      first (one e l k i) = near e l (near-here k) i

      later : Nearest (b ∷ xs) c (earliest ws (sights (b ∷ xs) c f)) → Nearest (a ∷ b ∷ xs) c (earliest ws (sights (b ∷ xs) c f))
      later (near e l k i) = near e l (near-there k) i

      go : (sight a c f < earliest ws (sights (b ∷ xs) c f)) ⊎ (earliest ws (sights (b ∷ xs) c f) ≤ sight a c f)
          → (earliest ws (sights (b ∷ xs) c f) < never → Nearest (b ∷ xs) c (earliest ws (sights (b ∷ xs) c f)))
          → Nearest (a ∷ b ∷ xs) c (min (sight a c f) (earliest ws (sights (b ∷ xs) c f)))
      go (inl l) next = let m : min (sight a c f) (earliest ws (sights (b ∷ xs) c f)) ≡ sight a c f = omega arith in rw m (first (which s f c on (omega arith)))
      go (inr l) next =
          let m : min (sight a c f) (earliest ws (sights (b ∷ xs) c f)) ≡ earliest ws (sights (b ∷ xs) c f) = omega arith in
          rw m (later (next (omega arith)))
