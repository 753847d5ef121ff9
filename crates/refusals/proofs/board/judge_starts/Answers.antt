-- `refusals::board::judge_starts` meets its contract: what the starts passed leave.
use mathlib.Core.Path.{refl, ap, ◌∙◌}
use native.Mathlib.Numerals.{add-one}
use native.Mathlib.Omega.{arith}
use lib.Seq.{take_all}
use Rattle.refusals.specs.Judge.{judge_by, judge}
use Rattle.refusals.proofs.Judging.{judge_more, judge_passed}
use Rattle.refusals.proofs.board.judge_starts.Goals as goal

pub loop-i-init : goal.loop-i-init
unfolding judge_by
loop-i-init g c = (c.many-i-end.ensures, refl)

-- as many were judged as entries were passed, so that one more can be counted
pub judge_start-judged-requires : goal.judge_start-judged-requires
judge_start-judged-requires g c =
    let xs = g.S.Starts.all c.args.starts in
    let j = c.as_handed-judged in
    let passed = judge_passed c.args.slow.now xs j.result c.loop-i.i in
    let room = c.requires (omega (arith, c.loop-i.invariant.0)) in
    omega (arith, room, ap (λ u. u.seen) c.loop-i.invariant.1, passed, ap (λ u. u.seen) j.ensures, c.loop-i.invariant.0)

pub loop-i-preserved : goal.loop-i-preserved
loop-i-preserved g c =
    let xs = g.S.Starts.all c.args.starts in
    let more = judge_more c.args.slow.now xs c.as_handed-judged.result c.loop-i.i (omega (arith, c.loop-i.invariant.0)) in
    (c.loop-i.invariant.0, rw (add-one, c.judge_start-judged.ensures, c.slowness_at.ensures, c.at-cell.ensures, c.loop-i.invariant.1) more)

pub returns : goal.returns
returns g c =
    let xs = g.S.Starts.all c.args.starts in
    c.loop-i.invariant.1 ∙ ap (λ ys. judge c.args.slow.now ys c.as_handed-judged.result) (take_all c.loop-i.i xs (omega (arith, c.loop-i.invariant.0)))
    ∙ ap (judge c.args.slow.now xs) c.as_handed-judged.ensures
