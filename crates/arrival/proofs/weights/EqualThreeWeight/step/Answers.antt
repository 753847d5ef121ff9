use Rattle.std.proofs.Common.{arith}
use Rattle.arrival.proofs.Root.{sides-short, none_left}
use Rattle.arrival.proofs.weights.EqualThreeWeight.step.Goals as goal

pub overflow_add-slope-2 : goal.overflow_add-slope-2
overflow_add-slope-2 c = let w = c.args.self in omega (arith, sides-short w.slowness w.far w.near w.valid.1)

pub overflow_mul-slope-2 : goal.overflow_mul-slope-2
overflow_mul-slope-2 c = let w = c.args.self in omega (arith, sides-short w.slowness w.far w.near w.valid.1)

pub returns-then-over-slope : goal.returns-then-over-slope
returns-then-over-slope c = none_left (omega (arith, c.three_squares.ensures)) (omega arith) c.if-over-slope.true
