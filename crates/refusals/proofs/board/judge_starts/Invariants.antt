-- What the starts passed leave.
use Rattle.std.proofs.Common.{◌≡◌, length, take}
use Rattle.refusals.specs.Judge.{judge}
use Rattle.refusals.proofs.board.judge_starts.Given as goal

abbrev pub invariant-loop-i : goal.invariant-loop-i
invariant-loop-i g l =
    (l.i-end ≡ length (g.S.Starts.all l.starts)) × (l.judged ≡ judge l.slow (take l.i (g.S.Starts.all l.starts)) l.initial.judged)
