use Rattle.std.proofs.Common.{arith, ◌*◌, sym}
use native.Mathlib.Nat.{mul-le-mul, mul-le-mul_left}
use borrow.Author.Tests.{le-ltb}
use Rattle.arrival.proofs.weights.UnequalWeight.too_few.Goals as goal

pub returns-then-past-self : goal.returns-then-past-self
returns-then-past-self c =
    let w = c.args.self in
    sym (le-ltb _ _ (omega (arith, mul-le-mul_left (w.x * w.x) (mul-le-mul c.if-past-self.true c.if-past-self.true))))
