-- `sides::row::add_storeys` meets its contract: the entries before i are worked out.
use Prim.Native.Nat.{◌+◌, ◌*◌}
use lib.ListN.{get_or}
use Rattle.eikonal.specs.Sides.{side}
use Rattle.sides.specs.Row.{shown}
use Rattle.sides.proofs.Rows.{Worked}
use Rattle.sides.proofs.row.add_storeys.Given as goal

abbrev pub invariant-loop-i : goal.invariant-loop-i
invariant-loop-i l =
    Worked (λ j. get_or l.initial.sides j 0 + 16 * side (get_or l.over j 0) (get_or l.under j 0) (shown l.bound (get_or l.own j 0))) l.i l.initial.sides l.sides
