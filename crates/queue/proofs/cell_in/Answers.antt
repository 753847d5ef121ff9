-- `queue::cell_in` meets its contract.
use Rattle.std.proofs.Common.{refl}
use Rattle.queue.specs.Heap.{cell}
use Rattle.queue.proofs.cell_in.Goals as goal

pub returns : goal.returns
unfolding cell
returns c = refl
