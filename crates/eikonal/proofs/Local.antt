-- The local rule of a board: three weighted axes. Its laws are those of Axes.antt.
use mathlib.Core.Path.{◌≡◌, refl, sym, ap₂, ◌∙◌, fun_ext}
use mathlib.Core.Bool.{Bool, true, false, cond}
use mathlib.Core.List.{List, [], ◌∷◌}
use mathlib.Core.Logic.{◌⊎◌, inl, inr, ◌≢◌}
use Prim.Native.Nat.{ℕ, zero, suc, ◌+◌, ◌*◌, ◌-◌, ◌≤◌, ◌<◌, min, max}
use native.Mathlib.Omega.{arith}
use native.Mathlib.Nat.{mul-le-mul_left}
use lib.Dec.{ltb, leb}
use borrow.Author.Tests.{ltb-true, ltb-false, le-leb}
use Rattle.eikonal.specs.Board.{never, earlier, square, passes, local_of, local}
use Rattle.eikonal.proofs.Least.{Least}
use Rattle.eikonal.specs.Axes.{earliest, pull, passes_axes, local_axes, Enough}
use Rattle.eikonal.proofs.Axes.{axes-on, axes-step, AnswersAxes, axes-answers, axes-passes, passes-local_axes, bounded, axes-agree}

-- ---- the earlier of two
pub earlier-min : (a b : ℕ) → earlier a b ≡ min a b
unfolding earlier
earlier-min a b = go (ltb a b) refl
  where
    go : (t : Bool) → ltb a b ≡ t → cond t a b ≡ min a b
    go true e = omega (arith, ltb-true a b e)
    go false e = omega (arith, ltb-false a b e)

min-min : (t a b : ℕ) → min t (min a b) ≡ min (min t a) (min t b)
min-min t a b = omega arith

pub earlier-agree : (t a b x y : ℕ) → min t a ≡ min t x → min t b ≡ min t y → min t (earlier a b) ≡ min t (earlier x y)
earlier-agree t a b x y p q =
    rw (earlier-min a b, earlier-min x y) (min-min t a b ∙ ap₂ min p q ∙ sym (min-min t x y))

pub earlier-under : (t a b x y : ℕ) → min t a ≤ x → min t b ≤ y → min t (earlier a b) ≤ earlier x y
earlier-under t a b x y p q = rw (earlier-min a b, earlier-min x y) (omega arith)

-- the earliest of three
pub earlier-three : (a b z : ℕ) → earlier a (earlier b z) ≡ min a (min b z)
earlier-three a b z = rw (earlier-min b z) (earlier-min a (min b z))

-- ---- three axes: that of the row has the weight h, those of the column and between storeys g
abbrev pub others : (g : ℕ) → List ℕ
others g = g ∷ g ∷ []

unfoldable three : (a b z : ℕ) → ℕ → ℕ
three a b z zero = a
three a b z (suc zero) = b
three a b z (suc (suc i)) = z

-- what holds of the times of each axis
each : (P : ℕ → ℕ → Type 0) (a b z x y w : ℕ) → P a x → P b y → P z w → (i : ℕ) → P (three a b z i) (three x y w i)
unfolding three
each P a b z x y w p q r zero = p
each P a b z x y w p q r (suc zero) = q
each P a b z x y w p q r (suc (suc i)) = r

pub enough : (g h : ℕ) → Enough (max g h) (g * h) h (others g)
unfolding Enough
enough g h =
    let x : g ≤ max g h = omega arith in
    let y : h ≤ max g h = omega arith in
    (omega (arith, mul-le-mul_left h x), (mul-le-mul_left g y, mul-le-mul_left g y))

-- of axes whose times some function has by number
passes-by : (g h : ℕ) (f : ℕ → ℕ) (t : ℕ) → passes g h (f 0) (f 1) (f 2) t ≡ passes_axes (g * h) h (others g) f t
unfolding passes passes_axes pull square
passes-by g h f t =
    let due : g * g * (h * h) ≡ g * h * (g * h) = omega arith in
    ap₂ leb due (sum (t - f 0) (t - f 1) (t - f 2))
  where
    sum : (p q r : ℕ) → p * p * (h * h) + q * q * (g * g) + r * r * (g * g) ≡ h * p * (h * p) + (g * q * (g * q) + g * r * (g * r))
    sum p q r = omega arith

earliest-by : (g : ℕ) (f : ℕ → ℕ) → earliest (others g) f ≡ min (f 0) (min (f 1) (f 2))
unfolding earliest
earliest-by g f = refl

pub local_by : (g h : ℕ) (f : ℕ → ℕ) → local_of g h (f 0) (f 1) (f 2) ≡ local_axes (max g h) (g * h) h (others g) f
unfolding local_of local_axes
local_by g h f = rw (fun_ext (passes-by g h f), earlier-three (f 0) (f 1) (f 2), earliest-by g f)

-- of three times
passes-is : (g h a b z t : ℕ) → passes g h a b z t ≡ passes_axes (g * h) h (others g) (three a b z) t
unfolding three
passes-is g h a b z = passes-by g h (three a b z)

earliest-is : (g a b z : ℕ) → earliest (others g) (three a b z) ≡ min a (min b z)
unfolding three
earliest-is g a b z = earliest-by g (three a b z)

local_axes-is : (g h a b z : ℕ) → local_of g h a b z ≡ local_axes (max g h) (g * h) h (others g) (three a b z)
unfolding three
local_axes-is g h a b z = local_by g h (three a b z)

pub local-is : (g h l r u d o n : ℕ) → local g h l r u d o n ≡ local_of g h (earlier l r) (earlier u d) (earlier o n)
unfolding local
local-is g h l r u d o n = refl

-- ---- the times that pass
pub passes_on : (g h a b z v x y w u : ℕ) → v - a ≤ u - x → v - b ≤ u - y → v - z ≤ u - w → passes g h a b z v ≡ true → passes g h x y w u ≡ true
passes_on g h a b z v x y w u p q r k =
    passes-is g h x y w u
    ∙ axes-on (g * h) h (others g) (three a b z) (three x y w) v u (each (λ i j. v - i ≤ u - j) a b z x y w p q r) (sym (passes-is g h a b z v) ∙ k)

-- so far from the earliest axis is enough, whichever it is
pub far-passes : (g h a b z : ℕ) → passes g h a b z (min a (min b z) + max g h) ≡ true
far-passes g h a b z =
    passes-is g h a b z (min a (min b z) + max g h)
    ∙ (rw (earliest-is g a b z) at (axes-step (max g h) (g * h) h (others g) (enough g h) (three a b z)))

-- the axes of the weight g the other way round
passes_turn : (g h a b z t : ℕ) → passes g h a b z t ≡ passes g h a z b t
unfolding passes square
passes_turn g h a b z t = ap₂ leb refl (sum ((t - a) * (t - a)) ((t - b) * (t - b)) ((t - z) * (t - z)))
  where
    sum : (p q r : ℕ) → p * (h * h) + q * (g * g) + r * (g * g) ≡ p * (h * h) + r * (g * g) + q * (g * g)
    sum p q r = omega arith

-- a straight step is enough, from each axis
pub along_passes : (g h a b z : ℕ) → passes g h a b z (a + g) ≡ true
unfolding passes square
along_passes g h a b z =
    let x : a + g - a ≡ g = omega arith in
    rw x (le-leb _ _ (most ((a + g - b) * (a + g - b)) ((a + g - z) * (a + g - z))))
  where
    most : (q r : ℕ) → g * g * (h * h) ≤ g * g * (h * h) + q * (g * g) + r * (g * g)
    most q r = omega arith

pub down-passes : (g h a b z : ℕ) → passes g h a b z (b + h) ≡ true
unfolding passes square
down-passes g h a b z =
    let x : b + h - b ≡ h = omega arith in
    rw x (le-leb _ _ (most ((b + h - a) * (b + h - a)) ((b + h - z) * (b + h - z))))
  where
    most : (p r : ℕ) → g * g * (h * h) ≤ p * (h * h) + h * h * (g * g) + r * (g * g)
    most p r = omega arith

pub storey_passes : (g h a b z : ℕ) → passes g h a b z (z + h) ≡ true
storey_passes g h a b z = passes_turn g h a b z (z + h) ∙ down-passes g h a z b

-- it stays never for a wall or where no side is reached; else it is the least that passes from the earliest side on
pub data Answers (g h a b z : ℕ) : Type 0 where
  stays : (g * h ≡ 0) ⊎ (min a (min b z) ≡ never) → local_of g h a b z ≡ never → Answers g h a b z
  comes : 1 ≤ g * h → min a (min b z) ≢ never
      → Least (λ t. passes g h a b z t) (min a (min b z)) (min a (min b z) + max g h) (local_of g h a b z) → Answers g h a b z

pub local-answers : (g h a b z : ℕ) → Answers g h a b z
unfolding earliest three
local-answers g h a b z = go (axes-answers (max g h) (g * h) h (others g) (enough g h) (three a b z))
  where
    go : AnswersAxes (max g h) (g * h) h (others g) (enough g h) (three a b z) → Answers g h a b z
    go (AnswersAxes.stays e f) = stays e (local_axes-is g h a b z ∙ f)
    go (AnswersAxes.comes p n l) = comes p n (rw (fun_ext (passes-is g h a b z), local_axes-is g h a b z) l)

-- THE LAW: the answer is at most v, before never, just if v passes
pub local-passes : (g h a b z v : ℕ) → v < never → local_of g h a b z ≤ v → (1 ≤ g * h) × (passes g h a b z v ≡ true)
local-passes g h a b z v l k =
    let r = axes-passes (max g h) (g * h) h (others g) (enough g h) (three a b z) v l (rw (local_axes-is g h a b z) at k) in
    (r.0, passes-is g h a b z v ∙ r.1)

pub passes-local : (g h a b z v : ℕ) → v < never → 1 ≤ g * h → passes g h a b z v ≡ true → local_of g h a b z ≤ v
passes-local g h a b z v l p k =
    rw (local_axes-is g h a b z)
    (passes-local_axes (max g h) (g * h) h (others g) (enough g h) (three a b z) v l p (sym (passes-is g h a b z v) ∙ k))

-- CAUSAL
local-agree : (g h a b z x y w t : ℕ) → t < never → min t a ≡ min t x → min t b ≡ min t y → min t z ≡ min t w
    → min (suc t) (local_of g h a b z) ≡ min (suc t) (local_of g h x y w)
local-agree g h a b z x y w t l p q r =
    rw (local_axes-is g h a b z, local_axes-is g h x y w)
    (axes-agree (max g h) (g * h) h (others g) (enough g h) (three a b z) (three x y w) t l (each (λ i j. min t i ≡ min t j) a b z x y w p q r))

-- TWO AXES ARE ENOUGH where the third is not before their answer, cut at a limit
pub third_late : (limit g h a b z : ℕ) → limit ≤ never → min limit (local_of g h a b never) ≤ z
    → min limit (local_of g h a b z) ≡ min limit (local_of g h a b never)
third_late limit g h a b z fits l =
    omega (arith, local-agree g h a b z a b never (min z (never - 1)) (omega arith) refl refl (omega arith))

-- ---- the rule, its axes the other way round: the two of the weight g
pub local_turn : (g h a b z : ℕ) → local_of g h a b z ≡ local_of g h a z b
unfolding local_of
local_turn g h a b z =
    let m : earlier b z ≡ earlier z b = rw (earlier-min b z, earlier-min z b) (omega arith) in
    rw (fun_ext (passes_turn g h a b z), m)

-- and the row's with the column's, where the numbers are equal or the third axis is never
passes_swap : (g h a b z t : ℕ) → (g ≡ h) ⊎ (t ≤ z) → passes g h a b z t ≡ passes h g b a z t
unfolding passes square
passes_swap g h a b z t k =
    let due : g * g * (h * h) ≡ h * h * (g * g) = omega arith in
    ap₂ leb due (go k (t - a) (t - b))
  where
    go : (g ≡ h) ⊎ (t ≤ z) → (p q : ℕ) → p * p * (h * h) + q * q * (g * g) + (t - z) * (t - z) * (g * g)
        ≡ q * q * (g * g) + p * p * (h * h) + (t - z) * (t - z) * (h * h)
    go (inl e) p q = rw e (omega arith)
    go (inr l) p q = let none : t - z ≡ 0 = omega arith in rw none (omega arith)

swap_under : (g h a b z : ℕ) → ((v : ℕ) → v < never → (g ≡ h) ⊎ (v ≤ z)) → min never (local_of g h a b z) ≤ local_of h g b a z
swap_under g h a b z k = bounded never _ _ follow
  where
    follow : (v : ℕ) → v < never → local_of h g b a z ≤ v → local_of g h a b z ≤ v
    follow v l i =
        let r = local-passes h g b a z v l i in
        passes-local g h a b z v l (omega (arith, r.0)) (passes_swap g h a b z v (k v l) ∙ r.1)

pub local_swap : (g h a b z : ℕ) → (g ≡ h) ⊎ (never ≤ z) → min never (local_of g h a b z) ≡ min never (local_of h g b a z)
local_swap g h a b z k = omega (arith, swap_under g h a b z (go k), swap_under h g b a z (λ v l. other (go k v l)))
  where
    go : (g ≡ h) ⊎ (never ≤ z) → (v : ℕ) → v < never → (g ≡ h) ⊎ (v ≤ z)
    go (inl e) v l = inl e
    go (inr i) v l = inr (omega arith)

    other : {v : ℕ} → (g ≡ h) ⊎ (v ≤ z) → (h ≡ g) ⊎ (v ≤ z)
    other (inl e) = inl (sym e)
    other (inr i) = inr i
