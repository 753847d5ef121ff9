-- LocalLeast, OldRule and DiagonalStep, and document 03's of one slowness: what Promise.antt says of the local rule.
use mathlib.Core.Path.{◌≡◌, sym, ap, ◌∙◌, fun_ext}
use mathlib.Core.Bool.{Bool, true, false}
use mathlib.Core.List.{[], ◌∷◌}
use mathlib.Core.Logic.{◌⊎◌, inl, inr}
use Prim.Native.Nat.{ℕ, zero, suc, ◌+◌, ◌*◌, ◌-◌, ◌≤◌, ◌<◌, min, max}
use native.Mathlib.Omega.{arith}
use native.Mathlib.Nat.{mul-le-mul}
use lib.Dec.{leb}
use borrow.Author.Tests.{leb-true, le-leb, ne_eqb}
use Rattle.eikonal.specs.Board.{never, earlier, square, passes, diagonal, local_of, local}
use Rattle.eikonal.specs.Promise.{LocalLeast, OldRule, DiagonalStep, OneLocalLeast, OneDiagonalStep, one_passes, one_local}
use Rattle.eikonal.proofs.Levels.{order}
use Rattle.eikonal.proofs.Least.{Least, least, least_bound}
use Rattle.eikonal.specs.Axes.{earliest, pull, passes_axes, local_axes, Enough}
use Rattle.eikonal.proofs.Axes.{axes-step, axes-passes, passes-local_axes, bounded}
use Rattle.eikonal.proofs.FirstPass.{equal_passes}
use Rattle.eikonal.proofs.Local.{Answers, stays, comes, earlier-min, earlier-three, local-is, local-answers, local-passes, passes-local, far-passes}
use Rattle.eikonal.proofs.Local.{along_passes, down-passes, storey_passes}

local_least_of : (g h a b z t : ℕ) → 1 ≤ g * h → min a (min b z) < never → Answers g h a b z
    → (passes g h a b z (local_of g h a b z) ≡ true)
    × (local_of g h a b z ≤ a + g) × (local_of g h a b z ≤ b + h) × (local_of g h a b z ≤ z + h)
    × (min a (min b z) ≤ t → t < local_of g h a b z → passes g h a b z t ≡ false)
local_least_of g h a b z t o k (stays (inl e) f) = absurd (omega arith)
local_least_of g h a b z t o k (stays (inr e) f) = absurd (omega arith)
local_least_of g h a b z t o k (comes p n l) = (
  l.found (far-passes g h a b z),
  least_bound l (a + g) (omega arith) (along_passes g h a b z),
  least_bound l (b + h) (omega arith) (down-passes g h a b z),
  least_bound l (z + h) (omega arith) (storey_passes g h a b z),
  l.first t,
)

pub local-least : LocalLeast
unfolding LocalLeast local
local-least g h l r u d o n t p q m =
    let first = earlier-three (earlier l r) (earlier u d) (earlier o n) in
    rw first
    (local_least_of g h (earlier l r) (earlier u d) (earlier o n) t (mul-le-mul p q) (rw first at m)
    (local-answers g h (earlier l r) (earlier u d) (earlier o n)))

-- ---- equal numbers: the rule of one slowness has two axes of the weight 1
unfoldable two : (a b : ℕ) → ℕ → ℕ
two a b zero = a
two a b (suc i) = b

abbrev one_axes : (s a b : ℕ) → ℕ
one_axes s a b = local_axes s s 1 (1 ∷ []) (two a b)

one-enough : (s : ℕ) → Enough s s 1 (1 ∷ [])
unfolding Enough
one-enough s = (omega arith, omega arith)

one_passes-is : (s a b t : ℕ) → one_passes s a b t ≡ passes_axes s 1 (1 ∷ []) (two a b) t
unfolding one_passes passes_axes pull two square
one_passes-is s a b t = ap (leb (s * s)) (sum (t - a) (t - b))
  where
    sum : (p q : ℕ) → p * p + q * q ≡ 1 * p * (1 * p) + 1 * q * (1 * q)
    sum p q = omega arith

one-is : (s l r u d : ℕ) → one_local s l r u d ≡ one_axes s (earlier l r) (earlier u d)
unfolding one_local local_axes earliest two
one-is s l r u d = rw (fun_ext (one_passes-is s (earlier l r) (earlier u d)), earlier-min (earlier l r) (earlier u d))

-- before never they pass the same times
same-passes : (s a b v : ℕ) → 1 ≤ s → v < never → passes s s a b never v ≡ passes_axes s 1 (1 ∷ []) (two a b) v
unfolding one_passes square
same-passes s a b v i l =
    let none : v - never ≡ 0 = omega arith in
    equal_passes s a b never v i ∙ rw none (ap (leb (s * s)) (sum (v - a) (v - b))) ∙ one_passes-is s a b v
  where
    sum : (p q : ℕ) → p * p + q * q + 0 * 0 ≡ p * p + q * q
    sum p q = omega arith

some : (s : ℕ) → 1 ≤ s * s → 1 ≤ s
some zero h = absurd (omega arith)
some (suc s) h = omega arith

old_rule_of : (s a b : ℕ) → min never (local_of s s a b never) ≡ min never (one_axes s a b)
old_rule_of s a b =
    omega (arith, bounded never (local_of s s a b never) (one_axes s a b) up, bounded never (one_axes s a b) (local_of s s a b never) down)
  where
    up : (v : ℕ) → v < never → one_axes s a b ≤ v → local_of s s a b never ≤ v
    up v h k =
        let q = axes-passes s s 1 (1 ∷ []) (one-enough s) (two a b) v h k in
        passes-local s s a b never v h (mul-le-mul q.0 q.0) (same-passes s a b v q.0 h ∙ q.1)

    down : (v : ℕ) → v < never → local_of s s a b never ≤ v → one_axes s a b ≤ v
    down v h k =
        let q = local-passes s s a b never v h k in
        let i = some s q.0 in
        passes-local_axes s s 1 (1 ∷ []) (one-enough s) (two a b) v h i (sym (same-passes s a b v i h) ∙ q.1)

pub old-rule : OldRule
unfolding OldRule local earlier
old-rule s l r u d = rw (one-is s l r u d) (old_rule_of s (earlier l r) (earlier u d))

-- where a side is reached its answer is the least time that passes, and a straight step is enough
one_found : (s l r u d : ℕ) →
    let a = earlier l r in
    let b = earlier u d in
    let m = earlier a b in
    1 ≤ s → m < never → Least (λ t. one_passes s a b t) m (m + s) (one_local s l r u d) × (one_passes s a b (m + s) ≡ true)
unfolding one_local earliest two
one_found s l r u d h k =
    let a = earlier l r in
    let b = earlier u d in
    let m = earlier a b in
    let far : earliest (1 ∷ []) (two a b) ≡ m = sym (earlier-min a b) in (
      rw (ne_eqb s 0 (omega arith), ne_eqb m never (omega arith)) (least s m (λ t. one_passes s a b t)),
      one_passes-is s a b (m + s) ∙ (rw far at (axes-step s s 1 (1 ∷ []) (one-enough s) (two a b))),
    )

pub one_local-least : OneLocalLeast
unfolding OneLocalLeast
one_local-least s l r u d t h k m =
    let q = one_found s l r u d h m in
    (q.0.found q.1, q.0.high, q.0.first t)

-- ---- equal sides, and no third square: from the sides, a, on the search is D's, as far as D
diagonal-least : (s : ℕ) → Least (λ d. leb (square s) (2 * square d)) 0 (0 + s) (diagonal s)
unfolding diagonal
diagonal-least s = least s 0 (λ d. leb (square s) (2 * square d))

diagonal-from : (s a to v : ℕ) (f : ℕ → Bool) → ((e : ℕ) → e ≤ diagonal s → f (a + e) ≡ leb (s * s) (2 * (e * e)))
    → Least f a to v → f to ≡ true → v ≡ a + diagonal s
unfolding square
diagonal-from s a to v f twice l enough =
    let d = diagonal-least s in
    let found = d.found (le-leb (s * s) (2 * ((0 + s) * (0 + s))) (omega arith)) in
    let high = least_bound l (a + diagonal s) (omega arith) (twice (diagonal s) (omega arith) ∙ found) in
    let k : v ≡ a + (v - a) = omega (arith, l.low) in
    let passed = rw k at (l.found enough) in
    omega (arith, high, l.low, least_bound d (v - a) (omega arith) (sym (twice (v - a) (omega arith)) ∙ passed))

module _ (s a z : ℕ) (i : 1 ≤ s) (m : a < never) where
  equal_sides : a + diagonal s ≤ z → local_of s s a a z ≡ a + diagonal s
  equal_sides far = go (local-answers s s a a z)
    where
      -- e ticks past the sides
      twice : (e : ℕ) → e ≤ diagonal s → passes s s a a z (a + e) ≡ leb (s * s) (2 * (e * e))
      twice e l =
          let side : a + e - a ≡ e = omega arith in
          let none : a + e - z ≡ 0 = omega arith in
          equal_passes s a a z (a + e) i ∙ rw (side, none) (ap (leb (s * s)) (omega arith))

      go : Answers s s a a z → local_of s s a a z ≡ a + diagonal s
      go (stays (inl e) f) = absurd (omega (arith, mul-le-mul i i))
      go (stays (inr e) f) = absurd (omega arith)
      go (comes p n l) =
          let first : min a (min a z) ≡ a = omega arith in
          diagonal-from s a (a + max s s) _ _ twice (rw first at l) (rw first at (far-passes s s a a z))

  -- what passes by z is D past the sides, or later
  past_third : z < a + diagonal s → z < local_of s s a a z
  unfolding square
  past_third near = go (local-answers s s a a z) (order z (local_of s s a a z))
    where
      go : Answers s s a a z → (z < local_of s s a a z) ⊎ (local_of s s a a z ≤ z) → z < local_of s s a a z
      go q (inl k) = k
      go (stays (inl e) f) (inr k) = absurd (omega (arith, mul-le-mul i i))
      go (stays (inr e) f) (inr k) = absurd (omega arith)
      go (comes p n l) (inr k) =
          let e = local_of s s a a z - a in
          let none : local_of s s a a z - z ≡ 0 = omega arith in
          let passed = rw none at (sym (equal_passes s a a z (local_of s s a a z) i) ∙ l.found (far-passes s s a a z)) in
          let enough : s * s ≤ 2 * (e * e) = omega (arith, leb-true (s * s) (e * e + e * e + 0 * 0) passed) in
          let far : diagonal s ≤ e = least_bound (diagonal-least s) e (omega arith) (le-leb (s * s) (2 * (e * e)) enough) in
          absurd (omega (arith, far, some e (omega (arith, enough, mul-le-mul i i))))

pub diagonal-step : DiagonalStep
unfolding DiagonalStep
diagonal-step s l r u d o n h k e m =
    rw (local-is s s l r u d o n, ← e) (equal_sides s (earlier l r) (earlier o n) h m, past_third s (earlier l r) (earlier o n) h m)

pub one-diagonal-step : OneDiagonalStep
unfolding OneDiagonalStep one_passes square
one-diagonal-step s a h k m =
    let side : earlier a never ≡ a = earlier-min a never ∙ omega arith in
    let both : earlier a a ≡ a = earlier-min a a ∙ omega arith in
    let q = rw (side, both) at (one_found s a never a never h (rw (side, both) m)) in
    diagonal-from s a (a + s) _ _ twice q.0 q.1
  where
    twice : (e : ℕ) → e ≤ diagonal s → one_passes s a a (a + e) ≡ leb (s * s) (2 * (e * e))
    twice e l =
        let past : a + e - a ≡ e = omega arith in
        rw past (ap (leb (s * s)) (omega arith))
