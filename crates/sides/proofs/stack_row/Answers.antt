use Rattle.std.proofs.Common.{◌+◌, ◌*◌, ◌<◌, refl, arith}
use Rattle.queue.proofs.Parts.{part-long, part_at}
use Rattle.front.proofs.Theory.Reading.{storey_most}
use Rattle.sides.proofs.Seen.{stack_is}
use Rattle.sides.proofs.Pass.{ends, over-lines, under-lines, even, done-part}
use Rattle.sides.proofs.stack_row.Goals as goal

pub seam_over-requires : goal.seam_over-requires
seam_over-requires c =
    let lg = c.requires.0 in
    let fits = ends lg c.requires.1 in
    (omega (arith, fits), omega (arith, fits, storey_most lg.ground))

pub row_at-over-requires : goal.row_at-over-requires
row_at-over-requires c =
    let lg = c.requires.0 in (lg.nothing, rw c.seam_over.ensures (over-lines lg c.requires.1 refl))

pub row_at-under-requires : goal.row_at-under-requires
row_at-under-requires c =
    let lg = c.requires.0 in (lg.nothing, rw c.seam_under.ensures (under-lines lg c.requires.1 refl))

pub slice_bounds-add_storeys-end : goal.slice_bounds-add_storeys-end
slice_bounds-add_storeys-end c = omega (arith, ends c.requires.0 c.requires.1)

pub slice_bounds-add_storeys-end-2 : goal.slice_bounds-add_storeys-end-2
slice_bounds-add_storeys-end-2 c = omega (arith, ends c.requires.0 c.requires.1)

pub add_storeys-requires : goal.add_storeys-requires
add_storeys-requires c =
    let a = c.args in
    let lg = c.requires.0 in
    let w = a.view.now.shape.width in
    let fits = ends lg c.requires.1 in
    let wide = part-long a.sides.now (a.row * w) w (omega (arith, fits)) in (
      even lg c.requires.1 c.row_at-over.ensures c.row_at-under.ensures,
      λ i l.
          let in_row : i < w = omega (arith, l, wide) in
          omega (arith, part_at a.sides.now (a.row * w) w i in_row, c.requires.2 (a.row * w + i) (omega arith, omega (arith, in_row))),
    )

pub returns : goal.returns
returns c =
    let a = c.args in
    let lg = c.requires.0 in
    let w = a.view.now.shape.width in
    let fits = ends lg c.requires.1 in
    let wide = part-long a.sides.now (a.row * w) w (omega (arith, fits)) in
    let over = rw c.seam_over.ensures at c.row_at-over.ensures in
    let under = rw c.seam_under.ensures at c.row_at-under.ensures in
    let f = c.add_storeys in
    done-part a.sides.now f.new.sides (a.row * w) (a.row * w + w) (omega arith) (omega (arith, fits)) f.ensures.long
    (λ i l.
    let in_row : i < w = omega (arith, l) in
    omega (
      arith,
      f.ensures.each i (omega (arith, wide, in_row)),
      part_at a.sides.now (a.row * w) w i in_row,
      stack_is lg.ground a.view.now.far.now lg.beyond a.bound c.requires.1 in_row refl over under,
    ))
