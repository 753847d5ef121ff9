-- A cell that is no slower gives no later answer: over weighted axes, so for pairs and storeys too.
use mathlib.Core.Path.{◌≡◌}
use mathlib.Core.Bool.{true}
use mathlib.Core.List.{List, [], ◌∷◌}
use mathlib.Core.Logic.{◌⊎◌, inl, inr}
use Prim.Native.Nat.{ℕ, suc, ◌*◌, ◌-◌, ◌≤◌, ◌<◌, min}
use native.Mathlib.Omega.{arith}
use native.Mathlib.Nat.{mul-le-mul, mul-le-mul_left, mul-le-mul_right}
use borrow.Author.Tests.{leb-true, le-leb}
use Rattle.eikonal.specs.Axes.{never, square, pull, passes_axes, Weights, Quicker, NoSlower, local_axes, sights, given_on}
use Rattle.eikonal.specs.Promise.{QuickerNoLater}
use Rattle.eikonal.proofs.Levels.{order}
use Rattle.eikonal.proofs.Axes.{square-mono, axes-passes, passes-local_axes, bounded}

-- the same step on an axis, by both weights
one-pull : (m w n v d : ℕ) → v * m ≤ w * n → square m * square (v * d) ≤ square n * square (w * d)
unfolding square
one-pull m w n v d h =
    let k : v * m * d ≤ w * n * d = mul-le-mul_right d h in
    let p : m * m * (v * d * (v * d)) ≡ v * m * d * (v * m * d) = omega arith in
    let q : n * n * (w * d * (w * d)) ≡ w * n * d * (w * n * d) = omega arith in
    rw (p, q) (mul-le-mul k k)

pull_quicker : (m w : ℕ) (ws : List ℕ) (n v : ℕ) (vs : List ℕ) (f : ℕ → ℕ) (t : ℕ) → Quicker m w ws n v vs
    → square m * pull v vs f t ≤ square n * pull w ws f t
unfolding Quicker pull
pull_quicker m w [] n v [] f t h = one-pull m w n v (t - f 0) h
pull_quicker m w [] n v (y ∷ vs) f t h = absurd h
pull_quicker m w (x ∷ ws) n v [] f t h = absurd h
pull_quicker m w (x ∷ ws) n v (y ∷ vs) f t h =
    omega (arith, one-pull m w n v (t - f 0) h.0, pull_quicker m x ws n y vs (λ i. f (suc i)) t h.1)

-- a number above 0 on both sides is left out
cancel : (z a b : ℕ) → 1 ≤ z → z * a ≤ z * b → a ≤ b
cancel z a b h k = go (order b a)
  where
    go : (b < a) ⊎ (a ≤ b) → a ≤ b
    go (inr l) = l
    go (inl l) = let n : suc b ≤ a = l in absurd (omega (arith, mul-le-mul_left z n))

square-low : {n : ℕ} → 1 ≤ n → 1 ≤ square n
unfolding square
square-low h = square-mono h

-- what passes still passes
passes_quicker : (m w : ℕ) (ws : List ℕ) (n v : ℕ) (vs : List ℕ) (f : ℕ → ℕ) (t : ℕ) → 1 ≤ n → Quicker m w ws n v vs
    → passes_axes n v vs f t ≡ true → passes_axes m w ws f t ≡ true
unfolding passes_axes
passes_quicker m w ws n v vs f t h q e =
    let due = mul-le-mul_left (square m) (leb-true (square n) (pull v vs f t) e) in
    le-leb (square m) (pull w ws f t) (cancel (square n) (square m) (pull w ws f t) (square-low h) (omega (arith, due, pull_quicker m w ws n v vs f t q)))

-- NO LATER
abbrev answer : Weights → (ℕ → ℕ) → ℕ
answer k f = local_axes k.far k.due k.first k.others f

axes_quicker : (j k : Weights) (f : ℕ → ℕ) → NoSlower j k → min never (answer j f) ≤ answer k f
axes_quicker j k f h = bounded never (answer j f) (answer k f) (λ v l i. go v l h (axes-passes _ _ _ _ k.enough f v l i))
  where
    go : (v : ℕ) → v < never → NoSlower j k → (1 ≤ k.due) × (passes_axes k.due k.first k.others f v ≡ true) → answer j f ≤ v
    go v l (inl z) r = absurd (omega (arith, r.0))
    go v l (inr q) r = passes-local_axes _ _ _ _ j.enough f v l q.0 (passes_quicker _ _ _ _ _ _ f v r.0 q.1 r.1)

pub quicker_no_later : QuickerNoLater
unfolding QuickerNoLater given_on
quicker_no_later l m c f same h = rw same (axes_quicker (l.weights c) (m.weights c) (sights m.axes c f) h)
