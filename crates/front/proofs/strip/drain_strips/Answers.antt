use Rattle.std.proofs.Common.{◌≡◌, ◌+◌, ◌*◌, min, arith}
use Rattle.front.specs.State.{Parted}
use Rattle.front.proofs.Theory.Strips.{none-worked, strips_on, whole_worked, parted_strip, top_parted, next_parted}
use Rattle.front.proofs.strip.drain_strips.Goals as goal

pub loop-row-init : goal.loop-row-init
loop-row-init c =
    let none : 0 * c.args.scene.now.shape.width ≡ 0 = omega arith in
    (omega arith, top_parted c.args.scene.now.ground, rw none (none-worked c.args.scene.now.ground c.requires.0))

-- the next rows, of a board that is no house and so is flat
pub drain_strip-requires-in-loop-row : goal.drain_strip-requires-in-loop-row
drain_strip-requires-in-loop-row c =
    let gr = c.args.scene.now.ground in
    let s = c.args.scene.now.shape in
    let l = c.loop-row in
    let flat : s.storeys ≡ 1 = omega (arith, c.if-scene-gt1.false, gr.good.storeys_low) in
    let to : c.min-end.result ≡ min (l.row + s.down) s.height = omega (arith, c.min-end.ensures) in
    let next : Parted s l.row c.min-end.result = rw to (next_parted gr flat c.loop-row-test.true l.invariant.1) in
    (parted_strip gr next, l.invariant.2.placed, c.requires.2)

-- and those before it
pub loop-row-preserved : goal.loop-row-preserved
loop-row-preserved c =
    let gr = c.args.scene.now.ground in
    let s = c.args.scene.now.shape in
    let l = c.loop-row in
    let flat : s.storeys ≡ 1 = omega (arith, c.if-scene-gt1.false, gr.good.storeys_low) in
    let to : c.min-end.result ≡ min (l.row + s.down) s.height = omega (arith, c.min-end.ensures) in
    let end : c.min-end.result ≡ l.row + s.down = omega arith in
    let next : Parted s l.row c.min-end.result = rw to (next_parted gr flat c.loop-row-test.true l.invariant.1) in
    rw (← end)
    (next.fits, next.behind, strips_on gr flat c.loop-row-test.true l.invariant.1 to l.invariant.2 c.drain_strip-in-loop-row.ensures)

pub returns-else-scene-gt1 : goal.returns-else-scene-gt1
returns-else-scene-gt1 c =
    let flat : c.args.scene.now.shape.storeys ≡ 1 = omega (arith, c.if-scene-gt1.false, c.args.scene.now.ground.good.storeys_low) in
    whole_worked c.args.scene.now.ground flat (omega arith) c.loop-row.invariant.2

pub returns-else-scene-gt1-2 : goal.returns-else-scene-gt1-2
returns-else-scene-gt1-2 c =
    let gr = c.args.scene.now.ground in
    let s = c.args.scene.now.shape in
    let l = c.loop-row in
    let flat : s.storeys ≡ 1 = omega (arith, c.if-scene-gt1.false, gr.good.storeys_low) in
    let to : c.min-end.result ≡ min (l.row + s.down) s.height = omega (arith, c.min-end.ensures) in
    let more = strips_on gr flat c.loop-row-test.true l.invariant.1 to l.invariant.2 c.drain_strip-in-loop-row.ensures in
    whole_worked gr flat (omega arith) more
