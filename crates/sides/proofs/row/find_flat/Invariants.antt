-- `sides::row::find_flat` meets its contract: the cells before `col` have their sides, and those that see their own tile alone.
use Prim.Native.Nat.{◌-◌}
use lib.ListN.{length}
use Rattle.sides.proofs.Rows.{FoundBefore}
use Rattle.sides.proofs.row.find_flat.Given as goal

abbrev pub invariant-loop-col : goal.invariant-loop-col
invariant-loop-col l = FoundBefore l.across l.bound l.own l.far l.above l.below l.col l.sides

abbrev pub decreases-loop-col : goal.decreases-loop-col
decreases-loop-col l = length l.own - l.col
