-- `queue::least_key` meets its contract.
use Rattle.std.proofs.Common.{refl, arith}
use Rattle.queue.proofs.Heap.{key_stale, top_least}
use Rattle.queue.proofs.least_key.Goals as goal

pub returns-then-size-gt0 : goal.returns-then-size-gt0
returns-then-size-gt0 c = (top_least c.requires.1 c.if-size-gt0.true, λ l. (c.if-size-gt0.true, refl))

pub returns-else-size-gt0 : goal.returns-else-size-gt0
returns-else-size-gt0 c = (
  λ d. omega (arith, key_stale c.args.work.now c.args.size d (λ l. absurd (omega arith))),
  λ l. absurd (omega arith),
)
