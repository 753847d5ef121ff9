use Rattle.refusals.proofs.Judging.{unwalled_finds}
use Rattle.scenario_read.proofs.judge.check_records.Goals as goal

pub returns : goal.returns
returns c =
    rw (c.check_judged.ensures, c.judge_unwalled.ensures, c.board_size.ensures, c.starts_base.ensures) (unwalled_finds _ _)
