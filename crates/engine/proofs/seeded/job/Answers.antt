-- `engine::seeded::job` meets its contract, job by job.
use native.Mathlib.Omega.{arith}
use Rattle.engine.specs.Calls.{Doable}
use Rattle.engine.proofs.seeded.job.Goals as goal

pub march-requires : goal.march-requires
unfolding Doable
march-requires c =
    let d = rw c.in-March.is at c.requires.1 in
    (c.requires.0, d.0, d.1, omega (arith, d.2))

pub one_round-requires : goal.one_round-requires
unfolding Doable
one_round-requires c =
    let d = rw c.in-Round.is at c.requires.1 in
    (c.requires.0, omega (arith, d.2), d.3)

pub tile_run-requires : goal.tile_run-requires
unfolding Doable
tile_run-requires c =
    let d = rw c.in-Run.is at c.requires.1 in
    (c.requires.0, omega (arith, d.2), omega (arith, d.3), omega (arith, d.4))

pub returns-in-Round : goal.returns-in-Round
unfolding Doable
returns-in-Round c =
    let d = rw c.in-Round.is at c.requires.1 in
    rw (c.in-Round.is, ← d.0, ← d.1) c.one_round.ensures

pub returns-in-Run : goal.returns-in-Run
unfolding Doable
returns-in-Run c =
    let d = rw c.in-Run.is at c.requires.1 in
    rw (c.in-Run.is, ← d.0, ← d.1) c.tile_run.ensures
