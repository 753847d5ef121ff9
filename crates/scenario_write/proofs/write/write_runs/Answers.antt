-- `scenario_write::write::write_runs` meets its contract: a stretch ends where a cell differs from the one before it, and nowhere else.
use Rattle.std.proofs.Common.{append_assoc, arith}
use Rattle.scenario_write.proofs.Stretches.{stretch_on, turn-length, turn-bytes}
use Rattle.scenario_write.proofs.write.write_runs.Goals.{then-x-last, else-x-last}
use Rattle.scenario_write.proofs.write.write_runs.Goals as goal

pub put_stretch-at-requires : goal.put_stretch-at-requires
put_stretch-at-requires c =
    let l = c.loop-i in
    let a = c.args in
    let n = turn-length a.slow.now a.ground l.i l.from l.last c.loop-i-test.true (λ q. omega (arith, c.if-x-last.true, q)) in
    (omega (arith, n, l.invariant.room, l.invariant.same, c.requires.0), l.invariant.from, omega (arith, c.requires.1))

pub loop-i-preserved : goal.loop-i-preserved
loop-i-preserved c =
    let l = c.loop-i in
    let a = c.args in
    elim c.if-x-last.branch [
      | then-x-last w ↦
          let n = turn-length a.slow.now a.ground l.i l.from l.last c.loop-i-test.true (λ q. omega (arith, w.if-x-last.true, q)) in
          let b = turn-bytes a.slow.now a.ground l.i l.from l.last c.loop-i-test.true (λ q. omega (arith, w.if-x-last.true, q)) in
          grind (arith, append_assoc)
      | else-x-last w ↦ let s = stretch_on a.slow.now a.ground l.i l.from l.last c.loop-i-test.true (omega (arith, w.if-x-last.false)) in grind arith
    ]
