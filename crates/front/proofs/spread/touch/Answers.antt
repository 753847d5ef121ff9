use Rattle.std.proofs.Common.{refl, inl, inr, arith}
use Rattle.front.specs.State.{stays}
use Rattle.front.proofs.Theory.Relaxing.{touched_nobody, touched_there, stays_wall}
use Rattle.front.proofs.spread.touch.Goals as goal

pub returns-then-not-there : goal.returns-then-not-there
returns-then-not-there c = touched_nobody _ c.if-not-there.true

pub returns-then-work-at : goal.returns-then-work-at
returns-then-work-at c = touched_there _ c.if-not-there.false (stays refl (λ l. inl (omega (arith, c.if-work-at.true))))

pub returns-then-scene-site-eq0 : goal.returns-then-scene-site-eq0
returns-then-scene-site-eq0 c = touched_there _ c.if-not-there.false (stays_wall c.args.scene.now.ground c.requires.0 c.if-scene-site-eq0.true)

pub returns : goal.returns
returns c = touched_there _ c.if-not-there.false (c.relax.ensures _ (inr (omega (arith, c.if-work-at.false))))
