-- `rings_lines::put_rows` meets its contract.
use Rattle.std.proofs.Common.{[], ◌∷◌, ◌++◌, get_or, refl, sym, ap, arith}
use Rattle.rings_lines.specs.Rings.{turn_text}
use Rattle.rings_lines.proofs.Stores.{put_more, put_is}
use Rattle.rings_lines.proofs.Rows.{rows_none, rows_more}
use Rattle.rings_lines.proofs.put_rows.Goals as goal

pub loop-i-preserved : goal.loop-i-preserved
loop-i-preserved c =
    let a = c.args in
    let l = c.loop-i in
    let p = c.put_turn-place in
    let text = turn_text a.ticks (get_or a.times.now l.i 0) in
    let field = put_is p.ensures.put (ap (λ u. text ++ (u ∷ [])) c.behind.ensures) in
    let more = sym (rows_more a.width a.ticks l.i a.times.now c.loop-i-test.true) in
    record {
      same = omega (arith, p.auto.out, l.invariant.same);
      room = omega (arith, p.ensures.most, l.invariant.room, c.loop-i-test.true);
      rest = λ now next q. l.invariant.rest now next (put_is (put_more field q) more);
    }

pub returns-clause-put : goal.returns-clause-put
returns-clause-put c =
    let l = c.loop-i in
    let a = c.args in
    let e = rows_none a.width a.ticks l.i a.times.now (omega (arith, c.loop-i-test.false)) in
    l.invariant.rest _ _ (put_is (record { place = omega arith; bytes = refl }) (sym e))
