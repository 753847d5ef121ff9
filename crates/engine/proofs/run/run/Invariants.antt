-- `engine::run::run`: what holds after some rounds, no more than the limit, is MidRun, of whatever starts the board began with.
use mathlib.Core.List.{List}
use Prim.Native.Nat.{◌-◌, ◌≤◌}
use Rattle.eikonal.specs.declared.Start.{Start}
use Rattle.eikonal.specs.Inner.Good.{Good}
use Rattle.front.specs.Board.{at}
use Rattle.engine.specs.Run.{whole, AtRound}
use Rattle.engine.proofs.Theory.Running.{MidRun}
use Rattle.engine.proofs.run.run.Given as goal

abbrev pub invariant-loop-done : goal.invariant-loop-done
invariant-loop-done l =
    let t = l.tiling in
    (l.done ≤ l.limit)
    × ((xs : List Start) → Good (whole t.shape t.slow.now xs)
    → AtRound t.shape t.slow.now xs t.stride t.horizon 0 l.initial.times (at l.initial.work l.size)
    → MidRun t.shape t.slow.now xs t.stride t.horizon l.done l.initial.times l.times (at l.initial.work l.size) (at l.work l.pending))

abbrev pub decreases-loop-done : goal.decreases-loop-done
decreases-loop-done l = l.limit - l.done
