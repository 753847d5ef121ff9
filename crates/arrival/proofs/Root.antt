-- The ticks past the last axis that counts: lines that clear a disc, a plane that clears a ball, and Newton's steps on what the ticks come to.
use mathlib.Core.Path.{◌≡◌, sym, ap, ◌∙◌}
use mathlib.Core.Logic.{inl, inr, ◌≢◌}
use lib.Dec.{leb}
use Prim.Native.Nat.{ℕ, zero, suc, ◌+◌, ◌*◌, ◌-◌, ◌/◌, ◌≤◌, ◌<◌, min, max}
use native.Mathlib.Omega.{arith}
use native.Mathlib.Decide.{dec_le, dec_lt}
use native.Mathlib.Nat.{mul-le-mul, mul-le-mul_left, mul-le-mul_right, le_of_mul-le-mul_left, div-eq_of_lt, div-mul-le_self, le-div_iff_mul-le}
use Rattle.eikonal.specs.Board.{never, passes, local_of}
use Rattle.eikonal.specs.Inner.Weighed.{weighed, three_squares}
use Rattle.eikonal.proofs.FirstPass.{held_back, let_through, equal_passes, gaps_past}
use Rattle.arrival.specs.Weight.{at, over, slope, Least, Capped}

-- e ticks past the later axis are enough for what is due
abbrev pub Enough : (due v w d e : ℕ) → Type 0
Enough due v w d e = due ≤ weighed v w d e

-- so many that the later axis alone is enough
pub as_many : (due v w d e : ℕ) → due ≤ w * (e * e) → Enough due v w d e
as_many due v w d e h = omega arith

-- the squares of numbers below 8192 fit, and so does their sum
small : (x : ℕ) → x < 8192 → x * x ≤ 67092481
small x h = let k : x ≤ 8191 = omega arith in mul-le-mul k k

pub squares_fit : (d e : ℕ) → d + e < 8192 → (d + e) * (d + e) + e * e ≤ 134184962
squares_fit d e h = omega (arith, small (d + e) h, small e (omega arith))

pub square-most : {a : ℕ} → a ≤ 4095 → a * a ≤ 16769025
square-most h = mul-le-mul h h

pub three-most : (d f e : ℕ) → d ≤ 4095 → f ≤ 4095 → e ≤ 4095
    → ((d + e) * (d + e) ≤ 67076100) × ((f + e) * (f + e) ≤ 67076100) × (e * e ≤ 16769025)
three-most d f e p q r =
    let first : d + e ≤ 8190 = omega arith in
    let second : f + e ≤ 8190 = omega arith in
    (mul-le-mul first first, mul-le-mul second second, square-most r)

-- ---- lines
two_products : (x y : ℕ) → 2 * (x * y) ≤ x * x + y * y
two_products x y = elim (dec_le x y) [
  | yes h ↦ rw (apart x y h) (more x (y - x))
  | no h ↦ rw (apart y x (omega arith)) (omega (arith, more y (x - y)))
]
  where
    apart : (a b : ℕ) → a ≤ b → b ≡ a + (b - a)
    apart a b h = omega arith

    more : (a k : ℕ) → 2 * (a * (a + k)) ≤ a * a + (a + k) * (a + k)
    more a k = omega arith

-- no point past a line that clears the disc of radius s lies within it
beyond : (u v k s x y : ℕ) → 1 ≤ k → u * u + v * v ≤ k * k → k * s ≤ u * x + v * y → s * s ≤ x * x + y * y
beyond u v k s x y h l m =
    le_of_mul-le-mul_left {k = k * k}
    (omega (arith, mul-le-mul m m, two_products (u * y) (v * x), mul-le-mul_right (x * x + y * y) l))
    (omega (arith, mul-le-mul h h))

-- the two lines of the first guess
pub past-lines : (s d e : ℕ) → min (185 * s - 154 * d) (219 * s - 215 * d) ≤ 256 * e → s * s ≤ at (d * d) d 2 e
past-lines s d e h = elim (dec_le (185 * s) (154 * (d + e) + 102 * e)) [
  | yes k ↦ omega (arith, beyond 154 102 185 s (d + e) e (omega arith) (omega arith) k)
  | no k ↦ omega (arith, beyond 215 41 219 s (d + e) e (omega arith) (omega arith) (omega arith))
]

-- and the plane: of the squares of three numbers, three times the sum is no less than the square of theirs; and 3 × 15² ≤ 26²
pub past_plane : (s d f e : ℕ) → 26 * s - 15 * (d + f) ≤ 45 * e → s * s ≤ at (d * d + f * f) (d + f) 3 e
past_plane s d f e h = omega (arith, through (d + e) (f + e) e (omega arith))
  where
    through : (x y z : ℕ) → 26 * s ≤ 15 * (x + y + z) → s * s ≤ x * x + y * y + z * z
    through x y z k =
        le_of_mul-le-mul_left {k = 675}
        (omega (arith, mul-le-mul k k, two_products x y, two_products x z, two_products y z))
        (omega arith)

-- so many ticks from any of the axes that it alone is enough
pub any-side : (s d f e : ℕ) → s ≤ max e (max d f) → s * s ≤ three_squares d f e
any-side s d f e h = elim (dec_le s e) [
  | yes k ↦ omega (arith, mul-le-mul k k)
  | no k ↦ elim (dec_le s d) [
    | yes l ↦ omega (arith, mul-le-mul l l)
    | no l ↦ (let m : s ≤ f = omega arith in omega (arith, mul-le-mul m m))
  ]
]

-- where no ticks are enough, neither of the others is a straight step before the last, and the plane is not yet reached
pub sides-short : (s d f : ℕ) → three_squares d f 0 < s * s → (d < s) × (f < s) × (15 * (d + f) ≤ 26 * s)
sides-short s d f h = (side d (omega arith), side f (omega arith), before)
  where
    side : (x : ℕ) → x * x < s * s → x < s
    side x k = elim (dec_lt x s) [
      | yes l ↦ l
      | no l ↦ (let m : s ≤ x = omega arith in absurd (omega (arith, mul-le-mul m m)))
    ]

    before : 15 * (d + f) ≤ 26 * s
    before = elim (dec_le (15 * (d + f)) (26 * s)) [
      | yes l ↦ l
      | no l ↦ (let m : 26 * s ≤ 15 * (d + f) = omega arith in absurd (omega (arith, mul-le-mul m m, two_products d f)))
    ]

-- ---- Newton's steps down, on what e ticks come to, by its value, half its slope and its curve at 0
pub weighed-at : (v w d e : ℕ) → weighed v w d e ≡ at (v * (d * d)) (v * d) (v + w) e
weighed-at v w d e = omega arith

-- of numbers of at most 4,095
pub weighed-most : (x y d e : ℕ) → x ≤ 4095 → y ≤ 4095 → d ≤ 4095 → e ≤ 4095 → weighed (y * y) (x * x) d e ≤ 1406001396101025
weighed-most x y d e hx hy hd he =
    let whole : d + e ≤ 8190 = omega arith in
    omega (arith, mul-le-mul (square-most hy) (mul-le-mul whole whole), mul-le-mul (square-most hx) (mul-le-mul he he))

-- a step of q ticks is of some, and the ticks that it leaves are enough
pub record Nearer (due flat half curve e q : ℕ) : Type 0 where
  pub some : 1 ≤ q
  pub within : q ≤ e
  pub still : due ≤ at flat half curve (e - q)

-- no ticks past the last axis are too few
module _ (due f h k : ℕ) (curved : 1 ≤ k) (short : f < due) where
  some-past : (e : ℕ) → due ≤ at f h k e → 1 ≤ e
  some-past zero p = absurd (omega arith)
  some-past (suc e) p = omega arith

  module _ (e : ℕ) (enough : due ≤ at f h k e) where
    pub some-slope : 1 ≤ slope h k e
    some-slope = omega (arith, mul-le-mul curved (some-past e enough))

    step-within : (q : ℕ) → q * slope h k e ≤ over due f h k e → q ≤ e
    step-within q l = elim (dec_le q e) [
      | yes p ↦ p
      | no p ↦ (let more : suc e ≤ q = omega arith in
          absurd (omega (arith, short, mul-le-mul_left k (some-past e enough), mul-le-mul_right (slope h k e) more)))
    ]

    -- by the square of q, which makes up for what `over` has too much
    step-still : (g q : ℕ) → e ≡ g + q → 1 ≤ q → q * slope h k e ≤ over due f h k e → due ≤ at f h k g
    step-still g q p i l = omega (arith, mul-le-mul_left k (mul-le-mul i i), rw p at l, rw p at enough)

    -- the step, and no more than there are ticks
    pub step-most : over due f h k e / slope h k e ≤ e
    step-most = step-within _ (div-mul-le_self (over due f h k e) (slope h k e))

    pub step-nearer : (q : ℕ) → q ≡ over due f h k e / slope h k e → q ≢ 0 → Nearer due f h k e q
    step-nearer q s n =
        let i : 1 ≤ q = omega arith in
        let w : q ≤ e = rw s step-most in
        record { some = i; within = w; still = step-still (e - q) q (omega arith) i (rw s (div-mul-le_self (over due f h k e) (slope h k e))) }

  -- where no step is left, one tick fewer is too few
  pub no_step : (e : ℕ) → due ≤ at f h k e → over due f h k e / slope h k e ≡ 0 → Least due (at f h k) e
  no_step e p s = record { some = some-past e p; enough = p; fewer = fewer e p below }
    where
      below : over due f h k e < slope h k e
      below = elim (dec_lt (over due f h k e) (slope h k e)) [
        | yes l ↦ l
        | no l ↦ absurd (omega (arith, s, (le-div_iff_mul-le {k = slope h k e} {x = 1} {y = over due f h k e} (some-slope e p)).1 (omega arith)))
      ]

      fewer : (e : ℕ) → due ≤ at f h k e → over due f h k e < slope h k e → at f h k (e - 1) < due
      fewer zero p l = absurd (omega (arith, some-past 0 p))
      fewer (suc e) p l =
          let b : suc e - 1 ≡ e = omega arith in
          rw b (omega arith)

-- code has them as o and s
pub none_left : {o s o' s' : ℕ} → o ≡ o' → s ≡ s' → o < s → 0 ≡ o' / s'
none_left p q l = rw (← p, ← q) (sym (div-eq_of_lt l))

-- no fewer than the least are enough
pub no_fewer : (due f h k e n : ℕ) → at f h k (e - 1) < due → due ≤ at f h k n → e ≤ n
no_fewer due f h k e n l g = elim (dec_le e n) [
  | yes i ↦ i
  | no i ↦ (let up : n ≤ e - 1 = omega arith in absurd (omega (arith, l, mul-le-mul_left h up, mul-le-mul_left k (mul-le-mul up up))))
]

-- ---- THE LAST AXIS at n: the ticks past it, at most a limit, give the local rule's time
pub by_ticks : (g h a b z n due : ℕ) (f : ℕ → ℕ) → ((e : ℕ) → n + e ≤ never → passes g h a b z (n + e) ≡ leb due (f e)) → 1 ≤ g * h
    → (limit time : ℕ) → limit ≤ never → Capped due f n limit time → time ≡ min limit (local_of g h a b z)
by_ticks _ _ _ _ _ _ _ _ past o _ _ fits (inl (held, is)) = is ∙ held_back _ _ _ _ _ _ _ _ past _ fits held.ticks held.known held.late held.few
by_ticks _ _ _ _ _ _ _ _ past o _ _ fits (inr c) =
    c.is ∙ let_through _ _ _ _ _ _ _ _ past _ fits c.ticks o c.before c.least.some c.least.enough c.least.fewer

pub two_past : (s m n : ℕ) → 1 ≤ s → m ≤ n → (e : ℕ) → n + e ≤ never → passes s s m n never (n + e) ≡ leb (s * s) (at ((n - m) * (n - m)) (n - m) 2 e)
two_past s m n i o e l =
    let none : n + e - never ≡ 0 = omega arith in
    let first : n + e - m ≡ n - m + e = omega arith in
    let second : n + e - n ≡ e = omega arith in
    let all : (n - m + e) * (n - m + e) + e * e + 0 * 0 ≡ at ((n - m) * (n - m)) (n - m) 2 e = omega arith in
    equal_passes s m n never (n + e) i ∙ rw (none, first, second) (ap (leb (s * s)) all)

pub three_past : (s a b z : ℕ) → 1 ≤ s → a ≤ z → b ≤ z → (e : ℕ) → z + e ≤ never
    → passes s s a b z (z + e) ≡ leb (s * s) (at ((z - a) * (z - a) + (z - b) * (z - b)) (z - a + (z - b)) 3 e)
three_past s a b z i p q e l =
    let first : z + e - a ≡ z - a + e = omega arith in
    let second : z + e - b ≡ z - b + e = omega arith in
    let last : z + e - z ≡ e = omega arith in
    let all : (z - a + e) * (z - a + e) + (z - b + e) * (z - b + e) + e * e ≡ at ((z - a) * (z - a) + (z - b) * (z - b)) (z - a + (z - b)) 3 e =
    omega arith
    in
    equal_passes s a b z (z + e) i ∙ rw (first, second, last) (ap (leb (s * s)) all)

pub unequal_past : (x y m n : ℕ) → 1 ≤ x → 1 ≤ y → m ≤ n → (e : ℕ) → n + e ≤ never
    → passes x y m n never (n + e) ≡ leb (x * x * (y * y)) (at (y * y * ((n - m) * (n - m))) (y * y * (n - m)) (y * y + x * x) e)
unequal_past x y m n i j o e l =
    gaps_past x y m n i j o e l ∙ ap (leb (x * x * (y * y))) (weighed-at (y * y) (x * x) (n - m) e)
