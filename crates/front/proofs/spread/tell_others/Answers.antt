use Rattle.std.proofs.Common.{sym, ◌∙◌, arith, eqb-true}
use Rattle.front.specs.Seams.{border}
use Rattle.front.proofs.Theory.Reading.{columns-step, rows_step}
use Rattle.front.proofs.Theory.Relaxing.{near_none, near-told, columns-told, rows_told, border-told}
use Rattle.front.proofs.Theory.Telling.{told-held}
use Rattle.front.proofs.spread.tell_others.Goals as goal

pub returns-then-inner : goal.returns-then-inner
returns-then-inner c =
    let here = rw (c.site-site.ensures.same) at c.site-site.ensures.is in
    near_none c.args.scene.now.ground here (eqb-true _ _ (sym c.inner.ensures ∙ c.if-inner.true)) _

pub tell_along-across-requires : goal.tell_along-across-requires
tell_along-across-requires c =
    (c.requires.0, columns-step c.args.scene.now.ground c.site-site.ensures.is border (λ z. omega arith))

pub tell_along-requires : goal.tell_along-requires
tell_along-requires c =
    let held = told-held c.requires.0 c.tell_along-across.ensures in
    (held, rows_step c.args.scene.now.ground c.site-site.ensures.is border (λ z. omega arith))

pub returns : goal.returns
returns c =
    let g = c.args.scene.now.ground in
    let here = c.site-site.ensures.is in
    rw (c.site-site.ensures.same) at
    (near-told g here border
    (columns-told g here border c.tell_along-across.ensures)
    (rows_told g here border c.tell_along.ensures)
    (border-told g here _))
