use Rattle.std.proofs.Common.{arith}
use Rattle.front.proofs.Theory.Reading.{slow-long}
use Rattle.front.proofs.scene.Scene.ghost_time.Goals as goal

pub bounds-self-e-2 : goal.bounds-self-e-2
bounds-self-e-2 c = omega (arith, c.requires, slow-long c.args.self.now.ground)
