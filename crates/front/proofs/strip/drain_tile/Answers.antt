use Rattle.std.proofs.Common.{arith}
use Rattle.front.proofs.Theory.Reading.{cells-most}
use Rattle.front.proofs.Theory.Strips.{all_apart, unwoken, strip_ready, strip_done}
use Rattle.front.proofs.strip.drain_tile.Goals as goal

pub gather-size-requires : goal.gather-size-requires
gather-size-requires c = (cells-most c.args.scene.now.ground, omega arith, omega arith, c.requires.0)

pub drain-requires : goal.drain-requires
drain-requires c =
    let gr = c.args.scene.now.ground in
    let ready = strip_ready gr (all_apart gr) (omega arith) c.requires.0 c.gather-size.ensures (unwoken gr c.requires.1 c.requires.2 _) in
    (record { lo = _; hi = _; is = ready }, c.requires.3)

pub returns : goal.returns
returns c =
    let gr = c.args.scene.now.ground in
    let ready = strip_ready gr (all_apart gr) (omega arith) c.requires.0 c.gather-size.ensures (unwoken gr c.requires.1 c.requires.2 _) in
    strip_done gr (all_apart gr) (omega arith) c.requires.0 c.gather-size.ensures (unwoken gr c.requires.1 c.requires.2 _) c.requires.3
    (c.drain.ensures _ _ ready)
