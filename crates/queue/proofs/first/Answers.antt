-- `queue::first` meets its contract.
use Rattle.std.proofs.Common.{sym, subst}
use Rattle.queue.specs.Heap.{Least}
use Rattle.queue.proofs.Heap.{first-least}
use Rattle.queue.proofs.first.Goals as goal

pub returns : goal.returns
returns c = subst (λ r. Least c.args.work.now c.args.size c.args.n r) (sym c.cell_in.ensures) (first-least c.requires.2 c.requires.0)
