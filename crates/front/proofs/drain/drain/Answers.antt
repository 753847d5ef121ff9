use Rattle.std.proofs.Common.{◌≤◌, add-one, arith}
use Rattle.queue.specs.Heap.{key}
use Rattle.front.proofs.Theory.Reading.{cells-most}
use Rattle.front.proofs.Theory.Draining.{among-begins, among-goes_on, drain_room, drain_ends, took_weight}
use Rattle.front.proofs.drain.drain.Goals as goal

pub loop-size-init : goal.loop-size-init
loop-size-init c = λ lo hi re. among-begins c.args.scene.now.ground re

pub least_key-t-requires : goal.least_key-t-requires
least_key-t-requires c =
    let held = (c.loop-size.invariant c.requires.0.lo c.requires.0.hi c.requires.0.is).mid.held in
    (omega (arith, held.room), held.heap)

pub returns-then-t-bound : goal.returns-then-t-bound
returns-then-t-bound c = λ lo hi re. drain_ends (c.loop-size.invariant lo hi re).mid (λ d. omega (arith, c.if-t-bound.true, c.least_key-t.ensures.0 d))

pub take-pending-requires : goal.take-pending-requires
take-pending-requires c =
    let md = (c.loop-size.invariant c.requires.0.lo c.requires.0.hi c.requires.0.is).mid in
    let due = c.least_key-t.ensures.1 (omega (arith, c.if-t-bound.false, c.requires.1)) in
    (md.held, due.0, drain_room md due.0, due.1)

pub overflow_add-m : goal.overflow_add-m
overflow_add-m c =
    let md = (c.loop-size.invariant c.requires.0.lo c.requires.0.hi c.requires.0.is).mid in
    let due = c.least_key-t.ensures.1 (omega (arith, c.if-t-bound.false, c.requires.1)) in
    omega (arith, cells-most c.args.scene.now.ground, drain_room md due.0)

pub loop-size-smaller : goal.loop-size-smaller
loop-size-smaller c =
    let md = (c.loop-size.invariant c.requires.0.lo c.requires.0.hi c.requires.0.is).mid in
    took_weight md.held c.take-pending.ensures

pub loop-size-preserved : goal.loop-size-preserved
loop-size-preserved c =
    let due = c.least_key-t.ensures.1 (omega (arith, c.if-t-bound.false, c.requires.1)) in
    let low : key c.loop-size.work 0 ≤ c.args.bound = omega (arith, due.1, c.if-t-bound.false) in
    λ lo hi re. rw (add-one c.loop-size.m)
    (among-goes_on c.args.scene.now.ground re (c.loop-size.invariant lo hi re) c.take-pending.ensures due.0 low)
