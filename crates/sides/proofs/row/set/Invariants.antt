-- `sides::row::set` meets its contract: the entries before i are worked out.
use lib.ListN.{get_or}
use Rattle.sides.specs.Row.{flat, shown}
use Rattle.sides.proofs.Rows.{Worked}
use Rattle.sides.proofs.row.set.Given as goal

abbrev pub invariant-loop-i : goal.invariant-loop-i
invariant-loop-i l =
    Worked (λ j. flat (get_or l.left j 0) (get_or l.right j 0) (get_or l.above j 0) (get_or l.below j 0)
    (shown l.bound (get_or l.own j 0))) l.i l.initial.sides l.sides
