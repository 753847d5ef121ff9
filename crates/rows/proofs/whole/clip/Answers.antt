-- `rows::whole::clip` meets its contract.
use Rattle.std.proofs.Common.{sym}
use Rattle.eikonal.proofs.Clip.{clip_keeps, clip_loses}
use Rattle.rows.proofs.whole.clip.Goals as goal

pub returns-then-t-bound : goal.returns-then-t-bound
returns-then-t-bound c = sym (clip_keeps _ _ c.if-t-bound.true)

pub returns-else-t-bound : goal.returns-else-t-bound
returns-else-t-bound c = sym (clip_loses _ _ c.if-t-bound.false)
