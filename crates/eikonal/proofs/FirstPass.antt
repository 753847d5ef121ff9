-- The local rule's answer, at most a limit, is the first time that passes.
use mathlib.Core.Path.{◌≡◌, refl, sym, ap, ◌∙◌}
use mathlib.Core.Bool.{Bool, true, false, true≢false}
use mathlib.Core.Logic.{inl}
use Prim.Native.Nat.{ℕ, ◌+◌, ◌*◌, ◌-◌, ◌≤◌, ◌<◌, min, max}
use native.Mathlib.Omega.{arith}
use native.Mathlib.Decide.{dec_le, dec_lt}
use native.Mathlib.Nat.{mul-le-mul, mul-le-mul_right}
use lib.Dec.{leb}
use borrow.Author.Tests.{le-leb, lt-leb, leb-true, leb-false}
use Rattle.eikonal.specs.Board.{never, square, passes, local_of}
use Rattle.eikonal.specs.Inner.Weighed.{weighed, three_squares}
use Rattle.eikonal.proofs.Local.{local-passes, passes-local, passes_on, along_passes, third_late, local_turn, local_swap}

-- what is cut at never first
pub cut_twice : (l r x y : ℕ) → l ≤ never → x ≡ min never y → r ≡ min l x → r ≡ min l y
cut_twice l r x y h e f = omega arith

-- what is the same up to never
pub cut-same : (l r x y : ℕ) → l ≤ never → min never x ≡ min never y → r ≡ min l x → r ≡ min l y
cut-same l r x y h e f = omega arith

module _ (g h a b z : ℕ) where
  -- it comes no earlier than v if w, one tick before v or later, does not pass
  not-before : (v w : ℕ) → v ≤ w + 1 → (1 ≤ g * h → passes g h a b z w ≡ false) → min never v ≤ local_of g h a b z
  not-before v w i f = elim (dec_lt (local_of g h a b z) (min never v)) [
    | yes l ↦ (let q = local-passes g h a b z (local_of g h a b z) (omega arith) (omega arith) in
        absurd
        (true≢false (sym (passes_on g h a b z (local_of g h a b z) a b z w (omega arith) (omega arith) (omega arith) q.1) ∙ f q.0)))
    | no l ↦ omega arith
  ]

  module _ (limit : ℕ) (fits : limit ≤ never) where
    -- a wall, or one tick before the limit, or later, does not pass
    pub limit-stays : (w : ℕ) → limit ≤ w + 1 → (1 ≤ g * h → passes g h a b z w ≡ false) → limit ≡ min limit (local_of g h a b z)
    limit-stays w i f = omega (arith, not-before limit w i f)

    first_pass : (v : ℕ) → 1 ≤ g * h → passes g h a b z v ≡ true → passes g h a b z (min limit v - 1) ≡ false
        → min limit v ≡ min limit (local_of g h a b z)
    first_pass v o p f = omega (arith, high, not-before (min limit v) (min limit v - 1) (omega arith) (λ _. f))
      where
        high : min limit (local_of g h a b z) ≤ v
        high = elim (dec_lt v limit) [
          | yes l ↦ omega (arith, passes-local g h a b z v (omega arith) o p)
          | no l ↦ omega arith
        ]

-- ---- past the last axis that counts, n: so many ticks past it come to f, against what is due
module _ (g h a b z n due : ℕ) (f : ℕ → ℕ) (past : (e : ℕ) → n + e ≤ never → passes g h a b z (n + e) ≡ leb due (f e)) (limit : ℕ) (fits : limit ≤ never) where
  -- so many are too few, and the limit is at most a tick later
  pub held_back : (e : ℕ) → n + e ≤ never → limit ≤ n + e + 1 → f e < due → limit ≡ min limit (local_of g h a b z)
  held_back e i l k = limit-stays g h a b z limit fits (n + e) l (λ _. past e i ∙ lt-leb _ _ k)

  -- e ticks, before the limit, are enough, and e - 1 are not
  pub let_through : (e : ℕ) → 1 ≤ g * h → n + e < limit → 1 ≤ e → due ≤ f e → f (e - 1) < due → n + e ≡ min limit (local_of g h a b z)
  let_through e o l i p k =
      let here : n + e ≡ min limit (n + e) = omega arith in
      let before : min limit (n + e) - 1 ≡ n + (e - 1) = omega arith in
      here
      ∙ first_pass g h a b z limit fits (n + e) o (past e (omega arith) ∙ le-leb _ _ p) (rw before (past (e - 1) (omega arith) ∙ lt-leb _ _ k))

-- ---- two axes: by the straight step x from the earlier, m, and y from the later, n
module _ (x y m n : ℕ) (x-some : 1 ≤ x) (y-some : 1 ≤ y) (ordered : m ≤ n) where
  both : 1 ≤ x * y
  both = mul-le-mul x-some y-some

  passes_gaps : (t p q : ℕ) → t ≤ never → t - m ≡ p → t - n ≡ q → passes x y m n never t ≡ leb (x * x * (y * y)) (p * p * (y * y) + q * q * (x * x))
  unfolding passes square
  passes_gaps t p q l f g =
      let none : t - never ≡ 0 = omega arith in
      rw (f, g, none) (ap (leb (x * x * (y * y))) (sum (p * p * (y * y) + q * q * (x * x))))
    where
      sum : (k : ℕ) → k + 0 * 0 * (x * x) ≡ k
      sum k = omega arith

  short : (p : ℕ) → p < x → p * p * (y * y) + 0 * 0 * (x * x) < x * x * (y * y)
  short p k = omega (arith, mul-le-mul_right (y * y) (mul-le-mul k k), mul-le-mul y-some y-some)

  -- up to the later axis only the earlier counts
  early : (t : ℕ) → t ≤ never → t ≤ n → t - m < x → passes x y m n never t ≡ false
  early t l k g = passes_gaps t (t - m) 0 l refl (omega arith) ∙ lt-leb _ _ (short (t - m) g)

  -- past it both
  pub gaps_past : (e : ℕ) → n + e ≤ never → passes x y m n never (n + e) ≡ leb (x * x * (y * y)) (weighed (y * y) (x * x) (n - m) e)
  gaps_past e l =
      let s : (n - m + e) * (n - m + e) * (y * y) + e * e * (x * x) ≡ weighed (y * y) (x * x) (n - m) e = omega arith in
      passes_gaps (n + e) (n - m + e) e l (omega arith) (omega arith) ∙ ap (leb (x * x * (y * y))) s

  module _ (limit : ℕ) (fits : limit ≤ never) where
    -- the later axis comes too late
    pub straight : x ≤ n - m → min limit (m + x) ≡ min limit (local_of x y m n never)
    straight k =
        first_pass x y m n never limit fits (m + x) both (along_passes x y m n never)
        (early (min limit (m + x) - 1) (omega arith) (omega arith) (omega arith))

-- ---- equal numbers: what is due and what squares come to, both counted s² times
scaled : (s x : ℕ) → s * s ≤ x → s * s * (s * s) ≤ x * (s * s)
scaled s x h = mul-le-mul_right (s * s) h

scaled_short : (s x : ℕ) → 1 ≤ s → x < s * s → x * (s * s) < s * s * (s * s)
scaled_short s x i h = omega (arith, mul-le-mul_right (s * s) h, mul-le-mul i i)

pub weighed_scaled : (s d e : ℕ) → s * s ≤ weighed 1 1 d e → s * s * (s * s) ≤ weighed (s * s) (s * s) d e
weighed_scaled s d e h = omega (arith, scaled s (weighed 1 1 d e) h)

pub weighed-short : (s d e : ℕ) → 1 ≤ s → weighed 1 1 d e < s * s → weighed (s * s) (s * s) d e < s * s * (s * s)
weighed-short s d e i h = omega (arith, scaled_short s (weighed 1 1 d e) i h)

pub equal_passes : (s a b z t : ℕ) → 1 ≤ s → passes s s a b z t ≡ leb (s * s) ((t - a) * (t - a) + (t - b) * (t - b) + (t - z) * (t - z))
unfolding passes square
equal_passes s a b z t i = go ((t - a) * (t - a)) ((t - b) * (t - b)) ((t - z) * (t - z))
  where
    go : (p q r : ℕ) → leb (s * s * (s * s)) (p * (s * s) + q * (s * s) + r * (s * s)) ≡ leb (s * s) (p + q + r)
    go p q r =
        let all : p * (s * s) + q * (s * s) + r * (s * s) ≡ (p + q + r) * (s * s) = omega arith in
        rw all (by (leb (s * s) (p + q + r)) refl)
      where
        by : (v : Bool) → leb (s * s) (p + q + r) ≡ v → leb (s * s * (s * s)) ((p + q + r) * (s * s)) ≡ v
        by true e = le-leb _ _ (scaled s _ (leb-true _ _ e))
        by false e = lt-leb _ _ (scaled_short s _ i (leb-false _ _ e))

-- where the other two are enough by the last axis's time, it does not count
pub last-late : (limit s a b z r : ℕ) → limit ≤ never → s * s ≤ three_squares (z - a) (z - b) 0
    → r ≡ min limit (local_of s s a b never) → r ≡ min limit (local_of s s a b z)
unfolding local_of
last-late limit s a b z r fits h k = elim (dec_le 1 s) [
  | yes i ↦ k ∙ sym (third_late limit s s a b z fits (by-then i))
  | no i ↦ k ∙ wall (omega arith)
]
  where
    more : (p q r : ℕ) → s * s ≤ three_squares p q 0 → s * s ≤ p * p + q * q + r * r
    more p q r k = omega arith

    by-then : 1 ≤ s → min limit (local_of s s a b never) ≤ z
    by-then i = elim (dec_lt z never) [
      | yes l ↦ omega (
        arith,
        passes-local s s a b never z l (mul-le-mul i i) (equal_passes s a b never z i ∙ le-leb _ _ (more (z - a) (z - b) _ h)),
      )
      | no l ↦ omega arith
    ]

    wall : s ≡ 0 → min limit (local_of s s a b never) ≡ min limit (local_of s s a b z)
    wall e = rw e refl

pub alike : (limit g h a b z r : ℕ) → g ≡ h → r ≡ min limit (local_of g g a b z) → r ≡ min limit (local_of g h a b z)
alike limit g h a b z r e k = rw (← e) k

-- and the earlier axis is the lesser of the two
sorted : (s a b z : ℕ) → min never (local_of s s (min a b) (max a b) z) ≡ min never (local_of s s a b z)
sorted s a b z = elim (dec_le a b) [
  | yes l ↦ (let m : min a b ≡ a = omega arith in let n : max a b ≡ b = omega arith in rw (m, n))
  | no l ↦ (let m : min a b ≡ b = omega arith in let n : max a b ≡ a = omega arith in rw (m, n) (local_swap s s b a z (inl refl)))
]

pub in_order : (limit s a b z m n r : ℕ) → limit ≤ never → m ≡ min a b → n ≡ max a b → r ≡ min limit (local_of s s m n z) → r ≡ min limit (local_of s s a b z)
in_order limit s a b z m n r fits em en k = cut-same limit r _ _ fits (sorted s a b z) (rw (em, en) at k)

-- the last of three is the greater of the greater of two and the third
turned : (g h a b z : ℕ) → local_of g h a (min b z) (max b z) ≡ local_of g h a b z
turned g h a b z = elim (dec_le b z) [
  | yes l ↦ (let m : min b z ≡ b = omega arith in let n : max b z ≡ z = omega arith in rw (m, n))
  | no l ↦ (let m : min b z ≡ z = omega arith in let n : max b z ≡ b = omega arith in rw (m, n) (local_turn g h a z b))
]

pub last_in_order : (limit s a b z m n i j r : ℕ) → limit ≤ never → m ≡ min a b → n ≡ max a b → i ≡ min n z → j ≡ max n z
    → r ≡ min limit (local_of s s m i j) → r ≡ min limit (local_of s s a b z)
last_in_order limit s a b z m n i j r fits em en ei ej k =
    in_order limit s a b z m n r fits em en (rw (← turned s s m n z, ← ei, ← ej) k)
