use Rattle.std.proofs.Common.{◌+◌, ◌*◌, ◌<◌, ◌∙◌, arith}
use Rattle.queue.proofs.Parts.{part-long}
use Rattle.sides.proofs.Seen.{flat-is}
use Rattle.sides.proofs.Pass.{ends, above-lines, below-lines, done-part}
use Rattle.sides.proofs.flat_row.Goals as goal

pub row_at-above-requires : goal.row_at-above-requires
row_at-above-requires c = (c.requires.0.nothing, above-lines c.requires.0 c.requires.1)

pub row_at-below-requires : goal.row_at-below-requires
row_at-below-requires c = (c.requires.0.nothing, below-lines c.requires.0 c.requires.1)

pub slice_bounds-find_flat-end : goal.slice_bounds-find_flat-end
slice_bounds-find_flat-end c = omega (arith, ends c.requires.0 c.requires.1)

pub returns : goal.returns
returns c =
    let a = c.args in
    let lg = c.requires.0 in
    let w = a.view.now.shape.width in
    let fits = ends lg c.requires.1 in
    let wide = part-long a.sides.now (a.row * w) w (omega (arith, fits)) in
    let f = c.find_flat in
    done-part a.sides.now f.new.sides (a.row * w) (a.row * w + w) (omega arith) (omega (arith, fits)) f.ensures.long
    (λ i l.
    let in_row : i < w = omega (arith, l) in
    f.ensures.each i (omega (arith, wide, in_row))
    ∙ flat-is lg.ground a.view.now.far.now lg.beyond a.bound c.requires.1 in_row c.row_at-above.ensures c.row_at-below.ensures)
