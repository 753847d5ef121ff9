-- The laws of the local rule over weighted axes, once for any number of them: the board's rule has three, of the weights h, g and g (Local.antt).
use mathlib.Core.Path.{◌≡◌, refl}
use mathlib.Core.Bool.{Bool, true, false}
use mathlib.Core.List.{List, [], ◌∷◌}
use mathlib.Core.Logic.{◌⊎◌, inl, inr, ◌≢◌}
use Prim.Native.Nat.{ℕ, suc, ◌+◌, ◌*◌, ◌-◌, ◌≤◌, ◌<◌, min}
use native.Mathlib.Omega.{arith}
use native.Mathlib.Nat.{mul-le-mul, mul-le-mul_left}
use lib.Dec.{eqb}
use borrow.Author.Tests.{leb-true, le-leb, eqb-true, eqb-false, ne_eqb}
use Rattle.eikonal.specs.Axes.{never, least_from, square, earliest, pull, passes_axes, local_axes, Enough}
use Rattle.eikonal.proofs.Levels.{order, Agree, Under}
use Rattle.eikonal.proofs.Least.{Least, least, least_bound}

pub square-mono : {a b : ℕ} → a ≤ b → square a ≤ square b
unfolding square
square-mono h = mul-le-mul h h

-- ---- the times that pass
pull-mono : (w : ℕ) (ws : List ℕ) (f g : ℕ → ℕ) (v u : ℕ) → ((i : ℕ) → v - f i ≤ u - g i) → pull w ws f v ≤ pull w ws g u
unfolding pull
pull-mono w [] f g v u h = square-mono (mul-le-mul_left w (h 0))
pull-mono w (x ∷ ws) f g v u h =
    omega (arith, square-mono (mul-le-mul_left w (h 0)), pull-mono x ws (λ i. f (suc i)) (λ i. g (suc i)) v u (λ i. h (suc i)))

-- what passes still passes with no shorter sides
pub axes-on : (m w : ℕ) (ws : List ℕ) (f g : ℕ → ℕ) (v u : ℕ) → ((i : ℕ) → v - f i ≤ u - g i) → passes_axes m w ws f v ≡ true → passes_axes m w ws g u ≡ true
unfolding passes_axes
axes-on m w ws f g v u h e =
    le-leb (square m) (pull w ws g u) (omega (arith, leb-true (square m) (pull w ws f v) e, pull-mono w ws f g v u h))

no_pull : (w t x : ℕ) → t ≤ x → square (w * (t - x)) ≡ 0
unfolding square
no_pull w t x h =
    let none : t - x ≡ 0 = omega arith in
    rw none (omega arith)

pull-none : (w : ℕ) (ws : List ℕ) (f : ℕ → ℕ) (t : ℕ) → t ≤ earliest ws f → pull w ws f t ≡ 0
unfolding pull earliest
pull-none w [] f t h = no_pull w t (f 0) h
pull-none w (v ∷ ws) f t h = omega (arith, no_pull w t (f 0) (omega arith), pull-none v ws (λ i. f (suc i)) t (omega arith))

-- what passes is later than the earliest axis
pub axes-late : (m w : ℕ) (ws : List ℕ) (f : ℕ → ℕ) (v : ℕ) → 1 ≤ m → passes_axes m w ws f v ≡ true → earliest ws f < v
unfolding passes_axes square
axes-late m w ws f v h e = go (order (earliest ws f) v)
  where
    go : (earliest ws f < v) ⊎ (v ≤ earliest ws f) → earliest ws f < v
    go (inl l) = l
    go (inr l) = absurd (omega (arith, leb-true (square m) (pull w ws f v) e, pull-none w ws f v l, square-mono h))

pull-enough : (far m w : ℕ) (ws : List ℕ) (f : ℕ → ℕ) (t : ℕ) → Enough far m w ws → earliest ws f + far ≤ t → square m ≤ pull w ws f t
unfolding Enough pull earliest
pull-enough far m w [] f t k h =
    let side : far ≤ t - f 0 = omega arith in
    square-mono (omega (arith, mul-le-mul_left w side))
pull-enough far m w (v ∷ ws) f t k h =
    go (order (f 0) (earliest ws (λ i. f (suc i)))) (pull-enough far m v ws (λ i. f (suc i)) t k.1)
  where
    go : (f 0 < earliest ws (λ i. f (suc i))) ⊎ (earliest ws (λ i. f (suc i)) ≤ f 0)
        → (earliest ws (λ i. f (suc i)) + far ≤ t → square m ≤ pull v ws (λ i. f (suc i)) t)
        → square m ≤ square (w * (t - f 0)) + pull v ws (λ i. f (suc i)) t
    go (inl l) next =
        let side : far ≤ t - f 0 = omega arith in
        let all : m ≤ w * (t - f 0) = omega (arith, mul-le-mul_left w side, k.0) in
        omega (arith, square-mono all)
    go (inr l) next = omega (arith, next (omega arith))

-- an order below t, from the numbers below t that bound each
pub bounded : (t x y : ℕ) → ((v : ℕ) → v < t → y ≤ v → x ≤ v) → min t x ≤ y
bounded t x y h = go (order y t)
  where
    go : (y < t) ⊎ (t ≤ y) → min t x ≤ y
    go (inl l) = omega (arith, h y l (omega arith))
    go (inr l) = omega arith

module _ (far m w : ℕ) (ws : List ℕ) (enough : Enough far m w ws) where
  -- a straight step passes
  pub axes-step : (f : ℕ → ℕ) → passes_axes m w ws f (earliest ws f + far) ≡ true
  unfolding passes_axes
  axes-step f =
      le-leb (square m) (pull w ws f (earliest ws f + far)) (pull-enough far m w ws f (earliest ws f + far) enough (omega arith))

  -- it stays never for a wall or where no axis is reached; else it is the least that passes from the earliest on
  pub data AnswersAxes (f : ℕ → ℕ) : Type 0 where
    stays : (m ≡ 0) ⊎ (earliest ws f ≡ never) → local_axes far m w ws f ≡ never → AnswersAxes f
    comes : 1 ≤ m → earliest ws f ≢ never
        → Least (λ t. passes_axes m w ws f t) (earliest ws f) (earliest ws f + far) (local_axes far m w ws f) → AnswersAxes f

  pub axes-comes : (f : ℕ → ℕ) → 1 ≤ m → earliest ws f ≢ never → local_axes far m w ws f ≡ least_from far (earliest ws f) (λ t. passes_axes m w ws f t)
  unfolding local_axes
  axes-comes f h k = rw (ne_eqb m 0 (omega arith), ne_eqb (earliest ws f) never k)

  pub axes-answers : (f : ℕ → ℕ) → AnswersAxes f
  unfolding local_axes
  axes-answers f = go (eqb m 0) refl (eqb (earliest ws f) never) refl
    where
      go : (p : Bool) → eqb m 0 ≡ p → (q : Bool) → eqb (earliest ws f) never ≡ q → AnswersAxes f
      go true e q d = stays (inl (eqb-true m 0 e)) (rw e)
      go false e true d = stays (inr (eqb-true (earliest ws f) never d)) (rw (e, d))
      go false e false d =
          let h : 1 ≤ m = omega (arith, eqb-false m 0 e) in
          let k : earliest ws f ≢ never = eqb-false (earliest ws f) never d in
          comes h k (rw (axes-comes f h k) (least far (earliest ws f) (λ t. passes_axes m w ws f t)))

  -- THE LAW: the answer is at most v, before never, just if v passes
  pub axes-passes : (f : ℕ → ℕ) (v : ℕ) → v < never → local_axes far m w ws f ≤ v → (1 ≤ m) × (passes_axes m w ws f v ≡ true)
  axes-passes f v h k = go (axes-answers f)
    where
      go : AnswersAxes f → (1 ≤ m) × (passes_axes m w ws f v ≡ true)
      go (stays z e) = absurd (omega arith)
      go (comes p n l) = (p, axes-on m w ws f f (local_axes far m w ws f) v (λ i. omega arith) (l.found (axes-step f)))

  pub passes-local_axes : (f : ℕ → ℕ) (v : ℕ) → v < never → 1 ≤ m → passes_axes m w ws f v ≡ true → local_axes far m w ws f ≤ v
  passes-local_axes f v h p k = go (axes-answers f) (axes-late m w ws f v p k)
    where
      go : AnswersAxes f → earliest ws f < v → local_axes far m w ws f ≤ v
      go (stays (inl z) e) i = absurd (omega arith)
      go (stays (inr z) e) i = absurd (omega arith)
      go (comes q n l) i = least_bound l v (omega arith) k

  -- so it follows the axes, as far as they go before v
  axes_follow : (f g : ℕ → ℕ) (v : ℕ) → v < never → ((i : ℕ) → v - g i ≤ v - f i) → local_axes far m w ws g ≤ v → local_axes far m w ws f ≤ v
  axes_follow f g v h p k =
      let r = axes-passes g v h k in
      passes-local_axes f v h r.0 (axes-on m w ws g f v v p r.1)

  -- MONOTONE and CAUSAL
  pub axes-under : (f g : ℕ → ℕ) → Under never f g → min never (local_axes far m w ws f) ≤ local_axes far m w ws g
  axes-under f g a =
      bounded never (local_axes far m w ws f) (local_axes far m w ws g) (λ v h. axes_follow f g v h (λ i. omega (arith, a i)))

  pub axes-agree : (f g : ℕ → ℕ) (t : ℕ) → t < never → Agree t f g → min (suc t) (local_axes far m w ws f) ≡ min (suc t) (local_axes far m w ws g)
  axes-agree f g t h a =
      omega (
        arith,
        bounded (suc t) (local_axes far m w ws f) (local_axes far m w ws g) (λ v k. axes_follow f g v (omega arith) (λ i. omega (arith, a i))),
        bounded (suc t) (local_axes far m w ws g) (local_axes far m w ws f) (λ v k. axes_follow g f v (omega arith) (λ i. omega (arith, a i))),
      )
