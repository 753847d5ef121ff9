-- `engine::run::run` meets its contract.
use Prim.Native.Nat.{◌*◌}
use native.Mathlib.Omega.{arith}
use native.Mathlib.Numerals.{add-one}
use mathlib.Core.Path.{◌≡◌, sym, subst, ◌∙◌}
use mathlib.Core.Bool.{true, false}
use lib.Dec.{leb}
use Rattle.engine.specs.Run.{Leapt}
use Rattle.engine.proofs.Theory.Rounds.{leap_short}
use Rattle.engine.proofs.Theory.Running.{ground-kept, run_short, run_stops, run_ends, run-goes_on, run-early, run-busy}
use Rattle.engine.proofs.run.run.Goals.{then-taken-eq0+else-at_horizon, else-taken-eq0}
use Rattle.engine.proofs.run.run.Goals as goal

pub round-taken-requires : goal.round-taken-requires
round-taken-requires c =
    let t = c.args.tiling.now in
    let p = c.requires in
    let o = p.1 in
    let md = c.loop-done.invariant.1 o.starts o.good o.at in
    let short = run_short t.shape t.slow.now o.starts o.good t.stride t.horizon t.stride_low t.stride_high t.horizon_high md in (
      ground-kept md.long p.0,
      record { starts = o.starts; good = o.good; at = md.at },
      omega (arith, short),
    )

pub overflow_add-done : goal.overflow_add-done
overflow_add-done c =
    let t = c.args.tiling.now in
    let p = c.requires in
    let o = p.1 in
    let md = c.loop-done.invariant.1 o.starts o.good o.at in
    omega (arith, run_short t.shape t.slow.now o.starts o.good t.stride t.horizon t.stride_low t.stride_high t.horizon_high md)

pub at_horizon-requires : goal.at_horizon-requires
at_horizon-requires c =
    let t = c.args.tiling.now in
    let p = c.requires in
    let o = p.1 in
    let md = c.loop-done.invariant.1 o.starts o.good o.at in
    omega (arith, run_short t.shape t.slow.now o.starts o.good t.stride t.horizon t.stride_low t.stride_high t.horizon_high md)

pub returns-then-at_horizon : goal.returns-then-at_horizon
returns-then-at_horizon c xs good ar =
    let t = c.args.tiling.now in
    let p = c.requires in
    let md = c.loop-done.invariant.1 xs good ar in
    rw (add-one c.loop-done.done)
    (run_ends t.shape t.slow.now xs good t.stride t.horizon t.stride_low t.stride_high t.horizon_high md (c.round-taken.ensures xs good md.at)
    c.if-taken-eq0.true
    (subst (λ u. leb t.horizon (u * t.stride) ≡ true) (add-one c.loop-done.done) (sym c.at_horizon.ensures ∙ c.if-at_horizon.true))
    (omega (arith, c.loop-done-test.true)))

pub loop-done-preserved : goal.loop-done-preserved
loop-done-preserved c =
    let t = c.args.tiling.now in
    let p = c.requires in (
      omega (arith, c.at_most-done.ensures),
      λ xs good ar.
          let md = c.loop-done.invariant.1 xs good ar in
          let one = c.round-taken.ensures xs good md.at in
          run-goes_on t.shape t.slow.now xs good t.stride t.horizon t.stride_low t.stride_high t.horizon_high md one
          c.least_key-least.ensures.0
          (leap_short
          (subst (λ u. Leapt c.least_key-least.result u t.stride t.horizon c.leap.result) (add-one c.loop-done.done) c.leap.ensures)
          (omega (arith, c.loop-done-test.true, c.leap.ensures.up, c.at_most-done.ensures))
          (omega (arith, c.at_most-done.ensures)))
          (elim c.if-taken-eq0.branch [
            | then-taken-eq0+else-at_horizon w ↦
                run-early t.shape t.slow.now xs good t.stride t.horizon t.stride_low t.stride_high t.horizon_high md one
                (subst (λ u. leb t.horizon (u * t.stride) ≡ false) (add-one c.loop-done.done) (sym w.at_horizon.ensures ∙ w.if-at_horizon.false))
            | else-taken-eq0 w ↦ run-busy t.shape t.slow.now xs good t.stride t.horizon t.stride_low t.stride_high t.horizon_high md one w.if-taken-eq0.false
          ]),
    )

pub returns : goal.returns
returns c xs good ar =
    let t = c.args.tiling.now in
    let p = c.requires in
    run_stops t.shape t.slow.now xs good t.stride t.horizon t.stride_low t.stride_high t.horizon_high (c.loop-done.invariant.1 xs good ar)
    (omega (arith, c.loop-done.invariant.0, c.loop-done-test.false))
