-- `engine::run::round` meets its contract.
use native.Mathlib.Omega.{arith}
use Rattle.front.proofs.Theory.Reading.{cells-most}
use Rattle.front.proofs.Theory.Strips.{all_drained}
use Rattle.engine.proofs.Theory.Running.{drained_to, ready, taken-fit, taken-on, one-round}
use Rattle.engine.proofs.run.round.Goals as goal

pub drain-taken-requires : goal.drain-taken-requires
drain-taken-requires c =
    let p = c.requires in
    (record { lo = _; hi = _; is = ready p.0 p.1.at }, omega (arith, c.args.tiling.now.horizon_high, c.bound_after-bound.ensures))

pub store-requires : goal.store-requires
store-requires c =
    let p = c.requires in
    let dr = all_drained p.0 (drained_to c.bound_after-bound.ensures (c.drain-taken.ensures _ _ (ready p.0 p.1.at))) in
    (taken-fit p.0 p.1.at dr, cells-most p.0, p.0.many, dr.held.room, taken-on p.0 p.1.at dr)

pub announce-pending-requires : goal.announce-pending-requires
announce-pending-requires c =
    let p = c.requires in
    let dr = all_drained p.0 (drained_to c.bound_after-bound.ensures (c.drain-taken.ensures _ _ (ready p.0 p.1.at))) in
    (dr.held, taken-fit p.0 p.1.at dr, taken-on p.0 p.1.at dr)

pub returns : goal.returns
returns c xs good begun =
    let t = c.args.tiling.now in
    let p = c.requires in
    let dr = all_drained p.0 (drained_to c.bound_after-bound.ensures (c.drain-taken.ensures _ _ (ready p.0 p.1.at))) in
    one-round p.0 begun dr good t.stride_low t.horizon_high _ c.store.ensures.0 c.store.ensures.1 c.announce-pending.ensures
