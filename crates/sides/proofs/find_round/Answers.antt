use Rattle.std.proofs.Common.{arith}
use Rattle.sides.proofs.Pass.{round_laid, round-found}
use Rattle.sides.proofs.find_round.Goals as goal

pub lay_ghosts-requires : goal.lay_ghosts-requires
lay_ghosts-requires c =
    omega (arith, c.fill.ensures.long, c.requires.1)

pub find_laid-requires : goal.find_laid-requires
find_laid-requires c =
    let p = c.requires in
    round_laid c.args.scene.now.ground c.fill.ensures c.lay_ghosts.ensures p.0 p.1 p.2

pub returns : goal.returns
returns c = round-found c.args.scene.now.ground c.fill.ensures c.lay_ghosts.ensures c.find_laid.ensures
