-- `scenario_write::write::write_starts` meets its contract.
use mathlib.Core.Path.{◌∙◌}
use native.Mathlib.Omega.{arith}
use Rattle.scenario_write.proofs.StartBytes.{written-more, written_all}
use Rattle.scenario_write.proofs.write.write_starts.Goals as goal

pub loop-i-preserved : goal.loop-i-preserved
loop-i-preserved g c =
    let xs = g.S.Starts.all c.args.starts in
    written-more xs c.loop-i.i c.loop-i.out c.loop-i.invariant _ _ c.at-start.ensures
    (omega (arith, c.loop-i-test.true, c.many-i-end.ensures)) c.put_wide_pair.ensures

pub returns : goal.returns
returns g c =
    let xs = g.S.Starts.all c.args.starts in
    written_all xs c.loop-i.i c.loop-i.out c.loop-i.invariant (omega (arith, c.loop-i-test.false, c.many-i-end.ensures))
    (c.loop-i.auto.out ∙ c.requires)
