-- `sides::find` meets its contract.
use Prim.Native.Nat.{◌*◌, ◌≤◌}
use Rattle.sides.specs.Pass.{Done}
use Rattle.sides.specs.View.{found_in}
use Rattle.sides.proofs.find.Given as goal

abbrev pub invariant-loop-row : goal.invariant-loop-row
invariant-loop-row l =
    let s = l.view.shape in
    (l.row ≤ s.height * s.storeys) × Done (found_in l.view l.bound) 0 (l.row * s.width) l.initial.sides l.sides
