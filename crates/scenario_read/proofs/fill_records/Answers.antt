use Rattle.std.proofs.Common.{◌++◌, drop, ap₂, ◌∙◌, arith}
use Rattle.eikonal.specs.Handing.{no_start}
use Rattle.scenario.specs.Inner.Walk.{starts_whole}
use Rattle.scenario_read.proofs.Copied.{copied_more, copied_all, whole, many}
use Rattle.scenario_read.proofs.fill_records.Goals as goal

pub bounds-records-i : goal.bounds-records-i
bounds-records-i c =
    let n = many c.args.head c.args.file.now _ c.requires.0 c.starts_in-starts.ensures in
    omega (arith, c.loop-i-test.true, c.many-i-end.ensures, n, c.requires.1, c.loop-i.auto.records)

pub loop-i-preserved : goal.loop-i-preserved
loop-i-preserved c =
    let n = many c.args.head c.args.file.now _ c.requires.0 c.starts_in-starts.ensures in
    copied_more no_start _ _ _ (omega (arith, c.loop-i-test.true, c.many-i-end.ensures)) (omega (arith, n, c.requires.1))
    c.loop-i.invariant c.at.ensures

pub returns : goal.returns
returns c =
    let f = c.args.file.now in
    let w = whole c.args.head f _ c.requires.0 c.starts_in-starts.ensures in
    let n = many c.args.head f _ c.requires.0 c.starts_in-starts.ensures in
    c.loop-i.invariant ∙ copied_all (starts_whole c.starts_in-starts.result.bytes.now) c.args.records.now c.loop-i.i
    (omega (arith, c.loop-i-test.false, c.many-i-end.ensures))
    ∙ ap₂ (λ u k. u ++ drop k c.args.records.now) w n
