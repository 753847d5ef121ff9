-- A time above the largest counts as never.
use Rattle.std.proofs.Common.{arith}
use borrow.Author.Tests.{lt-ltb, le-ltb}
use Rattle.eikonal.specs.Board.{largest}
use Rattle.eikonal.specs.Entry.{seen}
use Rattle.arrival.proofs.known.Goals as goal

pub returns-then-time-gt-LARGEST : goal.returns-then-time-gt-LARGEST
unfolding seen
returns-then-time-gt-LARGEST c = rw (lt-ltb largest c.args.time (omega arith))

pub returns-else-time-gt-LARGEST : goal.returns-else-time-gt-LARGEST
unfolding seen
returns-else-time-gt-LARGEST c = rw (le-ltb largest c.args.time (omega arith))
