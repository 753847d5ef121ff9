-- `rings_lines::text::put_number` meets its contract.
use Rattle.std.proofs.Common.{arith}
use Rattle.rings_lines.specs.Text.{decimal}
use Rattle.rings_lines.proofs.Stores.{put_byte}
use Rattle.rings_lines.proofs.Texts.{digits-few}
use Rattle.rings_lines.proofs.text.put_number.Goals as goal

pub bounds-out-next : goal.bounds-out-next
bounds-out-next c = omega (arith, digits-few 10 c.args.x)

pub overflow_add-result : goal.overflow_add-result
overflow_add-result c = omega (arith, digits-few 10 c.args.x)

pub returns-clause-put : goal.returns-clause-put
unfolding decimal
returns-clause-put c = put_byte c.put_digits-next.ensures c.args.last

pub returns-clause-most : goal.returns-clause-most
returns-clause-most c = omega (arith, digits-few 10 c.args.x)
