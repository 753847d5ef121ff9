-- The numbers in the parts before this one are there.
use Rattle.std.proofs.Common.{◌≡◌, true, ◌*◌, min}
use Rattle.eikonal.specs.Refusals.{all_there}
use Rattle.tile_orders.proofs.all_there.Given as goal

abbrev pub invariant-loop-part : goal.invariant-loop-part
invariant-loop-part l = all_there (min (l.part * 8192) l.count) l.order ≡ true
