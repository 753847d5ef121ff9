use Rattle.std.proofs.Common.{mul-le-mul_right, add-one, arith}
use Rattle.front.specs.Board.{at}
use Rattle.front.proofs.Theory.Telling.{told-held}
use Rattle.front.proofs.Theory.Waking.{woken_none}
use Rattle.front.proofs.wake.wake.Goals as goal

pub loop-row-init : goal.loop-row-init
loop-row-init c = woken_none c.args.scene.now.ground _ (at c.args.work.now c.args.size)

pub wake_row-pending-requires : goal.wake_row-pending-requires
wake_row-pending-requires c =
    (told-held c.requires.0 c.loop-row.invariant.told, omega (arith, c.loop-row-test.true, c.requires.2))

pub loop-row-preserved : goal.loop-row-preserved
loop-row-preserved c =
    let l = c.loop-row in
    let low = mul-le-mul_right c.args.scene.now.shape.width l.auto.row in
    rw (add-one l.row) (c.wake_row-pending.ensures _ _ low l.invariant)
