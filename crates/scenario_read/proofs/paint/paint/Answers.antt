-- `scenario_read::paint::paint` meets its contract.
use Rattle.std.proofs.Common.{◌≡◌, ◌+◌, ◌-◌, replicate, arith}
use Rattle.std.proofs.lemmas.Grind.{common_steps}
use Rattle.std.proofs.lemmas.List.{length-replicate}
use Rattle.scenario_read.proofs.Painting.{two_parts}
use Rattle.scenario_read.proofs.paint.paint.Goals as goal

pub returns : goal.returns
returns c =
    let a = c.args in
    let x = a.x in
    let ground : c.fill.new.self ≡ replicate (x.offset - a.from) a.ground = grind (arith, common_steps, c.fill.ensures.after (λ y e. e)) in
    let run : c.fill-2.new.self ≡ replicate x.long x.slow = grind (arith, common_steps, c.fill-2.ensures.after (λ y e. e)) in
    rw (c.run_end.ensures, ground, run)
    (two_parts a.slow.now _ _ a.from x.offset (x.offset + x.long) c.requires.0 c.requires.1
    (length-replicate (x.offset - a.from) a.ground) (omega (arith, length-replicate x.long x.slow)))
