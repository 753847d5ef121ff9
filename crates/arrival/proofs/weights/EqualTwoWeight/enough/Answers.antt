-- The answer lies past the lesser of two lines, each of which clears the disc.
use Rattle.std.proofs.Common.{arith, rules}
use Rattle.arrival.proofs.Root.{past-lines}
use Rattle.arrival.proofs.weights.EqualTwoWeight.enough.Goals as goal

pub returns : goal.returns
returns c = (search rules, rw c.args.self.valid.2 (past-lines _ _ _ (omega arith)))
