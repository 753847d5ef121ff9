use Rattle.std.proofs.Common.{arith}
use Rattle.sides.proofs.Seen.{row-off, row-own, row-far}
use Rattle.sides.proofs.row_at.Goals as goal

pub returns-then-seam-eq-EDGE : goal.returns-then-seam-eq-EDGE
returns-then-seam-eq-EDGE c = row-off c.if-seam-eq-EDGE.true c.requires.0

pub returns-then-seam-eq-INSIDE : goal.returns-then-seam-eq-INSIDE
returns-then-seam-eq-INSIDE c =
    let l = c.requires.1 in
    let d = c.if-seam-eq-EDGE.false in
    row-own c.if-seam-eq-INSIDE.true (omega (arith, l.low d, l.own_fits d))

pub returns : goal.returns
returns c =
    let l = c.requires.1 in
    let d = c.if-seam-eq-EDGE.false in
    row-far d c.if-seam-eq-INSIDE.false (omega (arith, l.low d, l.far_fits d))
