-- `rows::tiles::write_storeys` meets its contract: the storeys before this one are final.
use Rattle.std.proofs.Common.{arith, ◌≡◌, ◌+◌, ◌*◌, ◌≤◌}
use native.Mathlib.Nat.{mul_comm, mul-le-mul_right}
use Rattle.eikonal.proofs.Grid.{quotient_low}
use Rattle.rows.proofs.Theory.Entered.{altered-most, entered-most, entered-none, entered-then, entered_of}
use Rattle.rows.proofs.Theory.TileRows.{no_storeys, one_storey_more}
use Rattle.rows.proofs.tiles.write_storeys.Goals as goal

pub loop-storey-init : goal.loop-storey-init
loop-storey-init c =
    let none : 0 * c.args.shape.height ≡ 0 = omega arith in
    rw none (entered-none _ _ _ (λ d l b. no_storeys b))

pub overflow_add-count : goal.overflow_add-count
overflow_add-count c =
    let p = c.requires.0 in
    let l = c.loop-storey in
    let w = c.write_rows-count in
    omega (arith, p.few, p.many, l.invariant.long, entered-most l.invariant, w.ensures.counted, altered-most l.times w.new.times)

pub loop-storey-preserved : goal.loop-storey-preserved
loop-storey-preserved c =
    let l = c.loop-storey in
    let h = c.args.shape.height in
    let next : (l.storey + 1) * h ≡ l.storey * h + h = omega arith in
    rw next (entered-then l.invariant c.write_rows-count.ensures _ (λ d k b. one_storey_more c.requires.0.high_low l.storey b))

pub returns : goal.returns
returns c =
    let r = c.requires.0 in
    let s = c.args.shape in
    let lines : s.storeys * s.height ≤ c.loop-storey.storey * s.height = mul-le-mul_right s.height c.loop-storey-test.false in
    entered_of _ (λ d l b. record {
      is = b;
      before = omega (arith, lines, mul_comm s.height s.storeys, quotient_low d s.width (s.height * s.storeys) (omega (arith, r.cells, r.many)));
    }) c.loop-storey.invariant
