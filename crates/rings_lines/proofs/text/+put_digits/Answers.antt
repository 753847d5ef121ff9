-- `rings_lines::text::put_digits` meets its contract.
use Rattle.std.proofs.Common.{◌+◌, ◌-◌, ◌/◌, ◌%◌, refl, sym, arith}
use Rattle.rings_lines.proofs.Stores.{put_byte, put_is}
use Rattle.rings_lines.proofs.Texts.{digits-few, digits-none, digits-one, digits_more}
use Rattle.rings_lines.proofs.text.+put_digits.Goals as goal

pub returns-then-most-eq0 : goal.returns-then-most-eq0
returns-then-most-eq0 t c =
    let a = c.args in
    rw (digits-none a.most a.x c.if-most-eq0.true) (record { place = omega arith; bytes = refl })

pub returns-then-x-lt10 : goal.returns-then-x-lt10
returns-then-x-lt10 t c =
    let a = c.args in
    rw (digits-one a.most a.x c.if-most-eq0.false c.if-x-lt10.true) (record { place = refl; bytes = rw c.digit.ensures refl })

pub bounds-out-next : goal.bounds-out-next
bounds-out-next t c = omega (arith, digits-few (c.args.most - 1) (c.args.x / 10))

pub overflow_add-result-2 : goal.overflow_add-result-2
overflow_add-result-2 t c = omega (arith, digits-few (c.args.most - 1) (c.args.x / 10))

pub returns : goal.returns
returns t c =
    let a = c.args in
    let e = sym (digits_more a.most a.x c.if-most-eq0.false c.if-x-lt10.false) in
    rw c.digit-2.ensures (put_is (put_byte c.put_digits-next.ensures (48 + a.x % 10)) e)
