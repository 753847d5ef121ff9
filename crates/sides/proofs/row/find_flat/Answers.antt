use Rattle.std.proofs.Common.{◌≡◌, ◌+◌, sym, ◌∙◌, arith}
use Rattle.sides.proofs.Rows.{found_none, found-more, found, part_of}
use Rattle.sides.proofs.row.find_flat.Goals as goal

pub loop-col-init : goal.loop-col-init
loop-col-init c = found_none (sym c.requires.0.own) c.set_inner.ensures

pub set_ends-requires : goal.set_ends-requires
set_ends-requires c =
    let p = c.requires in
    let f = c.loop-col.invariant in
    let e = f.long ∙ p.0.own in
    let l = c.loop-col-test.true in
    (rw e p.0, p.1 ∙ sym e, rw e p.2, rw f.long (part_of p.3 l (f.begins l) c.min-end.ensures))

pub loop-col-preserved : goal.loop-col-preserved
loop-col-preserved c =
    let on : c.min-end.result ≡ c.loop-col.col + c.args.across = omega arith in
    rw on at (found-more c.loop-col.invariant c.requires.3 c.loop-col-test.true c.min-end.ensures c.set_ends.ensures)

-- the last part ends where the row does
pub returns-2 : goal.returns-2
returns-2 c =
    found (sym c.requires.0.own) (omega arith)
    (found-more c.loop-col.invariant c.requires.3 c.loop-col-test.true c.min-end.ensures c.set_ends.ensures)
