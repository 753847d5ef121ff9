-- `front::seed::place` meets its contract.
use Rattle.front.proofs.Theory.Seeding.{placed_one}
use Rattle.front.proofs.seed.place.Goals as goal

pub returns : goal.returns
returns c = rw c.min.ensures (placed_one c.requires.1 c.args.start c.requires.0)
