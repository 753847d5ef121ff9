use Rattle.std.proofs.Common.{arith}
use Rattle.front.proofs.Theory.Relaxing.{stored-heap, stored-room, stored-key, stored-new, lowers}
use Rattle.front.proofs.spread.relax.Goals as goal

pub insert-requires : goal.insert-requires
insert-requires c =
    let he = c.requires.1 in
    let l = c.requires.0.on in
    let x = c.rule-x.result in
    (l, stored-room he x l, stored-heap he x l, stored-new he x l (omega (arith, c.if-y.true)), omega (arith, c.if-x-y.true, c.if-y.true))

pub returns-then-y : goal.returns-then-y
returns-then-y c = lowers c.requires.1 c.rule-x.result c.requires.0.on c.insert.ensures (omega (arith, c.rule-x.ensures, c.if-x-y.true)) c.if-x-y.true

pub lower-requires : goal.lower-requires
lower-requires c =
    let he = c.requires.1 in
    let l = c.requires.0.on in
    let x = c.rule-x.result in
    (l, stored-room he x l, stored-heap he x l, stored-key he x l c.if-x-y.true)

pub returns-then-x-y : goal.returns-then-x-y
returns-then-x-y c = lowers c.requires.1 c.rule-x.result c.requires.0.on c.lower.ensures (omega (arith, c.rule-x.ensures, c.if-x-y.true)) c.if-x-y.true
