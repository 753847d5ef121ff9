use Rattle.std.proofs.Common.{◌≡◌, ℕ, suc, ◌+◌, ◌*◌, sym, refl, ◌∙◌, inl, arith, eqb-true}
use Rattle.front.specs.Board.{Site}
use Rattle.front.proofs.Theory.Telling.{touched_held, touched_long}
use Rattle.front.proofs.Theory.Waking.{woken_touched, woken_inner, seams_inside, rows_fit}
use Rattle.front.proofs.wake.wake_row.Goals.{then-not-inner, else-not-inner}
use Rattle.front.proofs.wake.wake_row.Goals as goal

pub relax-pending-requires : goal.relax-pending-requires
relax-pending-requires c =
    let a = c.args in
    let s = a.scene.now in
    let here : Site s.shape.cells s.shape.width (a.row * s.shape.width + c.loop-col.col) a.row c.loop-col.col = record {
      on = omega (arith, c.loop-col-test.true, rows_fit s.ground c.requires.1);
      cell = refl;
      column = c.loop-col-test.true;
    } in
    (here, c.loop-col.invariant.0)

pub loop-col-preserved : goal.loop-col-preserved
loop-col-preserved c =
    let a = c.args in
    let l = c.loop-col in
    let s = a.scene.now in
    let gr = s.ground in
    let k : ℕ = a.row * s.shape.width + l.col in
    let then : a.row * s.shape.width + (l.col + 1) ≡ suc k = omega arith in
    let here : Site s.shape.cells s.shape.width k a.row l.col = record {
      on = omega (arith, c.loop-col-test.true, rows_fit gr c.requires.1);
      cell = refl;
      column = c.loop-col-test.true;
    } in
    elim c.if-not-inner.branch [
      | then-not-inner w ↦
          let h = w.relax-pending.ensures 0 (inl refl) in (
            rw (w.work-is, w.pending-is) (touched_held l.invariant.0 h),
            rw w.work-is (touched_long h ∙ l.invariant.1),
            λ lo v low wo. rw (w.work-is, w.pending-is) (woken_touched gr then (omega arith) (l.invariant.2 lo v low wo) h),
          )
      | else-not-inner w ↦
          let q = eqb-true _ _ (sym c.inner.ensures ∙ w.if-not-inner.false) in (
            rw (w.work-is, w.pending-is) l.invariant.0,
            rw w.work-is l.invariant.1,
            λ lo v low wo. rw (w.work-is, w.pending-is) (woken_inner gr then (omega arith) (l.invariant.2 lo v low wo) (seams_inside gr here q)),
          )
    ]
