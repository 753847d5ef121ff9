use Rattle.std.proofs.Common.{arith}
use Rattle.eikonal.specs.Sides.{sides_of}
use Rattle.arrival.proofs.sides_of.Goals as goal

pub returns : goal.returns
unfolding sides_of
returns c = omega (arith, c.flat_sides.ensures.is, c.side.ensures.is)
