use Rattle.sides.proofs.Pass.{laid_legal}
use Rattle.sides.proofs.find_laid.Goals as goal

pub find-requires : goal.find-requires
find-requires c = laid_legal c.args.scene.now.shape c.args.work.now c.args.scene.now.ground c.requires
