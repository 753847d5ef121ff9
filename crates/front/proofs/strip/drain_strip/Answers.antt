use Rattle.front.proofs.Theory.Reading.{cells-most}
use Rattle.front.proofs.Theory.Strips.{strip_fits, strip_ready, strip_done}
use Rattle.front.proofs.strip.drain_strip.Goals as goal

pub gather-size-requires : goal.gather-size-requires
gather-size-requires c =
    let fits = strip_fits c.args.scene.now.ground c.requires.0 in
    (cells-most c.args.scene.now.ground, fits.0, fits.1, c.requires.1)

pub drain-requires : goal.drain-requires
drain-requires c =
    let gr = c.args.scene.now.ground in
    let st = c.requires.0 in
    let ready = strip_ready gr st.apart (strip_fits gr st).1 c.requires.1 c.gather-size.ensures c.wake-pending.ensures in
    (record { lo = _; hi = _; is = ready }, c.requires.2)

pub returns : goal.returns
returns c =
    let gr = c.args.scene.now.ground in
    let st = c.requires.0 in
    let ready = strip_ready gr st.apart (strip_fits gr st).1 c.requires.1 c.gather-size.ensures c.wake-pending.ensures in
    strip_done gr st.apart (strip_fits gr st).1 c.requires.1 c.gather-size.ensures c.wake-pending.ensures c.requires.2
    (c.drain.ensures _ _ ready)
