-- The squares and each of the two terms fit 64 bits, and so does their sum.
use Rattle.std.proofs.Common.{arith, ◌+◌, ◌≤◌}
use native.Mathlib.Nat.{mul-le-mul}
use Rattle.arrival.proofs.weights.weigh.Goals as goal

pub overflow_add-result : goal.overflow_add-result
overflow_add-result c =
    let most : c.args.apart + c.args.past ≤ 8190 = omega (arith, c.requires.2, c.requires.3) in
    let whole = mul-le-mul most most in
    let last = mul-le-mul c.requires.3 c.requires.3 in
    omega (arith, mul-le-mul c.requires.0 whole, mul-le-mul c.requires.1 last)
