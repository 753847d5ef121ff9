-- `rings_lines::put_head_line` meets its contract.
use Rattle.rings_lines.specs.Rings.{head_line}
use Rattle.rings_lines.proofs.Stores.{put_more}
use Rattle.rings_lines.proofs.put_head_line.Goals as goal

pub returns-clause-put : goal.returns-clause-put
unfolding head_line
returns-clause-put c = put_more c.put_number-second.ensures.put (put_more c.put_number-third.ensures.put c.put_number.ensures.put)
