use Rattle.std.proofs.Common.{◌≡◌, ◌-◌, true, arith}
use Rattle.front.specs.State.{all, next}
use Rattle.front.proofs.Theory.Reading.{step-low, before-site, behind-site}
use Rattle.front.proofs.Theory.Relaxing.{hearer-same}
use Rattle.front.proofs.Theory.Telling.{touched_held}
use Rattle.front.proofs.spread.tell_along.Goals as goal

pub touch-told-requires : goal.touch-told-requires
touch-told-requires c =
    let st = c.requires.1 in (
      c.requires.0,
      λ b. before-site st (c.back.ensures (step-low st b)) (c.back-2.ensures (st.back b).0) (c.back-3.ensures (st.back b).1),
    )

pub touch-requires : goal.touch-requires
touch-requires c = (touched_held c.requires.0 c.touch-told.ensures, λ b. behind-site c.requires.1 b)

pub returns : goal.returns
returns c =
    let a = c.args in
    let same : (b : a.before ≡ true) → c.back.result ≡ a.site.cell - a.step.cells =
    λ b. omega (arith, c.back.ensures (step-low c.requires.1 b)) in
    next _ _ _ _ _ (rw (hearer-same a.scene.now.shape.cells a.before same) at c.touch-told.ensures)
    (next _ _ _ _ _ c.touch.ensures (all _))
