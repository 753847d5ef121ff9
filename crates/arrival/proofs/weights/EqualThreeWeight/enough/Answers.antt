-- The answer lies past the plane.
use Rattle.std.proofs.Common.{arith, rules}
use Rattle.arrival.proofs.Root.{past_plane, sides-short}
use Rattle.arrival.proofs.weights.EqualThreeWeight.enough.Goals as goal

pub overflow_sub-result : goal.overflow_sub-result
overflow_sub-result c = let w = c.args.self in omega (arith, sides-short w.slowness w.far w.near w.valid.1)

pub returns : goal.returns
returns c = (search rules, past_plane _ _ _ _ (omega arith))
