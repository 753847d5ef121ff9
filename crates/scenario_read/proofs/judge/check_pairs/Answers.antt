use Rattle.std.proofs.Common.{[], ◌∷◌, ap}
use Rattle.eikonal.specs.Order.{first_of}
use Rattle.refusals.proofs.Pairs.{flaws_find}
use Rattle.scenario.proofs.Slows.{ground_pair}
use Rattle.scenario_read.proofs.judge.check_pairs.Goals as goal

-- by what the ground's pair and the runs' leave
pub returns : goal.returns
returns c =
    let g = c.args.head.ground in
    rw (c.check_flaws.ensures, c.with_runs-flaws.ensures, c.with_pair.ensures, c.flawless.ensures)
    (ap first_of (flaws_find _ _ _ (g ∷ []) _ _ (ground_pair g)))
