use Rattle.std.proofs.Common.{arith, ◌≡◌, ℕ, ◌+◌, ◌-◌, ◌*◌, ◌/◌, ◌≤◌, ◌<◌, refl}
use native.Mathlib.Nat.{mul-le-mul, mul-le-mul_left}
use Rattle.arrival.specs.Weight.{at, over, slope}
use Rattle.arrival.proofs.Root.{square-most, weighed-most, none_left, some-slope, step-most}
use Rattle.arrival.proofs.weights.UnequalWeight.step.Goals as goal

curved : (x y : ℕ) → 1 ≤ y → 1 ≤ y * y + x * x
curved x y h = omega (arith, mul-le-mul h h)

short : (x y d : ℕ) → d < x → 1 ≤ y → y * y * (d * d) < x * x * (y * y)
short x y d h i = omega (arith, mul-le-mul_left (y * y) (mul-le-mul h h), mul-le-mul i i)

-- u is what the code has over, s its slope
divides : (x y d e u s : ℕ) → d < x → 1 ≤ y → x * x * (y * y) ≤ at (y * y * (d * d)) (y * y * d) (y * y + x * x) e
    → u ≡ over (x * x * (y * y)) (y * y * (d * d)) (y * y * d) (y * y + x * x) e → s ≡ slope (y * y * d) (y * y + x * x) e → (1 ≤ s) × (u / s ≤ e)
divides x y d e u s h i m p q =
    rw (p, q) (some-slope _ _ _ _ (curved x y i) (short x y d h i) e m, step-most _ _ _ _ (curved x y i) (short x y d h i) e m)

pub overflow_add-over-2 : goal.overflow_add-over-2
overflow_add-over-2 c =
    let w = c.args.self in
    omega (
      arith,
      c.weigh.ensures,
      square-most w.valid.1,
      square-most w.valid.3,
      weighed-most w.x w.y w.apart c.args.past w.valid.1 w.valid.3 (omega (arith, w.valid.0, w.valid.1)) c.requires.0,
    )

pub returns-then-over-slope : goal.returns-then-over-slope
returns-then-over-slope c = none_left (omega (arith, c.weigh.ensures, c.due.ensures)) (omega arith) c.if-over-slope.true

pub nonzero_div-result : goal.nonzero_div-result
nonzero_div-result c =
    let w = c.args.self in
    (divides w.x w.y w.apart c.args.past _ _ w.valid.0 w.valid.2 c.requires.1 refl (omega arith)).0

pub overflow_cast-result : goal.overflow_cast-result
overflow_cast-result c =
    let w = c.args.self in
    let u = c.weigh.result - c.due.result + (w.y * w.y + w.x * w.x) in
    let s = 2 * (w.y * w.y * (w.apart + c.args.past) + w.x * w.x * c.args.past) in
    let some = divides w.x w.y w.apart c.args.past u s w.valid.0 w.valid.2 c.requires.1 (omega (arith, c.weigh.ensures, c.due.ensures)) (omega arith) in
    omega (arith, c.requires.0, some.1)
