use Rattle.std.proofs.Common.{refl}
use Rattle.front.specs.Seams.{inside}
use Rattle.front.proofs.Theory.Relaxing.{stack-told}
use Rattle.front.proofs.spread.tell_stack.Goals as goal

pub returns : goal.returns
returns c =
    let g = c.args.scene.now.ground in
    let here = rw (c.site.ensures.same) at c.site.ensures.is in
    stack-told g here inside refl (rw (c.seam_under.ensures, c.seam_over.ensures, c.site.ensures.same) at c.tell_along.ensures)
