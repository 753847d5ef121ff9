-- `queue::place_of` meets its contract.
use Rattle.std.proofs.Common.{refl}
use Rattle.queue.specs.Heap.{place}
use Rattle.queue.proofs.place_of.Goals as goal

pub returns : goal.returns
unfolding place
returns c = refl
