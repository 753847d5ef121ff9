use Rattle.std.proofs.Common.{◌≡◌, sym, ◌∙◌, arith}
use Rattle.front.specs.Seams.{inside}
use Rattle.front.specs.Board.{keys, at}
use Rattle.front.proofs.Theory.Reading.{columns-step, rows_step}
use Rattle.front.proofs.Theory.Telling.{told-held}
use Rattle.front.proofs.Theory.Relaxing.{near-told, columns-told, rows_told, flat-told}
use Rattle.front.proofs.Theory.Draining.{is-popped, popped-held}
use Rattle.front.proofs.drain.take.Goals as goal

-- the cell is on the board
pub site-site-requires : goal.site-site-requires
site-site-requires c = c.first-c.ensures.on

-- those along its row and its column hear of it
pub tell_along-across-requires : goal.tell_along-across-requires
tell_along-across-requires c =
    let taken = is-popped c.requires.0 c.first-c.ensures c.requires.2 c.remove_first-left.ensures in
    (popped-held c.requires.0 taken, columns-step c.args.scene.now.ground c.site-site.ensures.is inside (λ z. omega arith))

pub tell_along-pending-requires : goal.tell_along-pending-requires
tell_along-pending-requires c =
    let taken = is-popped c.requires.0 c.first-c.ensures c.requires.2 c.remove_first-left.ensures in
    let held = told-held (popped-held c.requires.0 taken) c.tell_along-across.ensures in
    (held, rows_step c.args.scene.now.ground c.site-site.ensures.is inside (λ z. omega arith))

-- a house
pub tell_stack-requires : goal.tell_stack-requires
tell_stack-requires c =
    let taken = is-popped c.requires.0 c.first-c.ensures c.requires.2 c.remove_first-left.ensures in
    (told-held (told-held (popped-held c.requires.0 taken) c.tell_along-across.ensures) c.tell_along-pending.ensures, c.first-c.ensures.on)

pub returns-then-scene-gt1 : goal.returns-then-scene-gt1
returns-then-scene-gt1 c =
    let g = c.args.scene.now.ground in
    let here = rw (c.site-site.ensures.same) at c.site-site.ensures.is in
    let taken = is-popped c.requires.0 c.first-c.ensures c.requires.2 c.remove_first-left.ensures in
    let due : c.args.t ≡ keys (at c.args.work.now c.args.size) c.first-c.result = c.requires.3 ∙ sym c.first-c.ensures.top in
    record {
      cell = _;
      middle = _;
      popped = taken;
      told = rw (← due)
          (near-told g here inside
          (columns-told g here inside (rw (c.site-site.ensures.same) at c.tell_along-across.ensures))
          (rows_told g here inside (rw (c.site-site.ensures.same) at c.tell_along-pending.ensures)) c.tell_stack.ensures);
    }

-- a flat board: nobody is under or over the cell
pub returns : goal.returns
returns c =
    let g = c.args.scene.now.ground in
    let here = rw (c.site-site.ensures.same) at c.site-site.ensures.is in
    let taken = is-popped c.requires.0 c.first-c.ensures c.requires.2 c.remove_first-left.ensures in
    let due : c.args.t ≡ keys (at c.args.work.now c.args.size) c.first-c.result = c.requires.3 ∙ sym c.first-c.ensures.top in
    let flat : c.args.scene.now.shape.storeys ≡ 1 = omega (arith, c.if-scene-gt1.false, g.good.storeys_low) in
    record {
      cell = _;
      middle = _;
      popped = taken;
      told = rw (← due)
          (near-told g here inside
          (columns-told g here inside (rw (c.site-site.ensures.same) at c.tell_along-across.ensures))
          (rows_told g here inside (rw (c.site-site.ensures.same) at c.tell_along-pending.ensures))
          (flat-told g here _ flat));
    }
