-- `rings_lines::put_lines` meets its contract.
use Rattle.std.proofs.Common.{arith}
use Rattle.rings_lines.proofs.Stores.{put_more}
use Rattle.rings_lines.proofs.put_lines.Goals as goal

pub put_rows-requires : goal.put_rows-requires
put_rows-requires c =
    let l = c.put_head_line-at in
    (omega (arith, c.requires.0, c.requires.3, l.ensures.most, l.auto.out), c.requires.3, c.requires.1, c.requires.2)

pub returns-clause-put : goal.returns-clause-put
returns-clause-put c = put_more c.put_head_line-at.ensures.put c.put_rows.ensures.put
