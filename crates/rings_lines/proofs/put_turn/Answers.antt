-- `rings_lines::put_turn` meets its contract.
use Rattle.std.proofs.Common.{refl, add-one, arith}
use Rattle.rings_lines.proofs.Rows.{text_never, text_turn}
use Rattle.rings_lines.proofs.put_turn.Goals as goal

pub returns-then-turn-clause-put : goal.returns-then-turn-clause-put
returns-then-turn-clause-put c =
    let a = c.args in
    rw (text_never a.time a.ticks c.turn-reply.result c.requires.1 c.turn-reply.ensures c.if-turn.true)
    (record { place = omega arith; bytes = rw (add-one a.at) refl })

pub returns-clause-put : goal.returns-clause-put
returns-clause-put c =
    let a = c.args in
    rw (text_turn a.time a.ticks c.turn-reply.result c.requires.1 c.turn-reply.ensures c.if-turn.false) c.put_number.ensures.put
