-- `front::seed::gather` meets its contract: the cells before c are gathered.
use Rattle.front.proofs.Theory.Seeding.{gather_begins}
use Rattle.front.proofs.seed.gather.Goals as goal

pub loop-c-init : goal.loop-c-init
loop-c-init c = gather_begins c.args.from c.requires.0
