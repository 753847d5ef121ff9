-- `scenario_read::paint::read_slow` meets its contract.
use mathlib.Core.Path.{◌≡◌, refl, sym, ap, ◌∙◌}
use mathlib.Core.List.{List}
use Prim.Native.Nat.{ℕ}
use native.Mathlib.Omega.{arith}
use lib.ListN.{length}
use Rattle.std.proofs.lemmas.Grind.{common_steps}
use Rattle.scenario.specs.declared.Head.{Head}
use Rattle.scenario.specs.Runs.{painted, runs_good}
use Rattle.scenario.specs.File.{head_in, runs_in}
use Rattle.scenario.specs.Inner.Walk.{runs_onward}
use Rattle.scenario.proofs.Reading.{runs_read}
use Rattle.scenario.proofs.RunWalk.{runs-all}
use Rattle.scenario_read.proofs.Painting.{painting_none, painting_fits, painting_more, painting_end}
use Rattle.scenario_read.proofs.paint.read_slow.Goals as goal

-- all runs of the file
all : (f : List ℕ) (x : Head) → x ≡ head_in f → runs_in f ≡ runs_onward f x.runs 0
all f x e = sym (runs_read f x e x.runs refl) ∙ runs-all f x.runs

pub loop-i-init : goal.loop-i-init
loop-i-init c =
    let a = c.args in
    let g = a.head.ground in
    let n = length a.slow.now in
    painting_none _ _ g n a.slow.now refl (ap (runs_good n g 0 g) (sym (all a.file.now a.head c.requires.head.0)) ∙ c.requires.runs)

pub paint-requires : goal.paint-requires
paint-requires c =
    let l = c.loop-i in
    let f = painting_fits l.invariant c.run_at-x.result c.loop-i-test.true c.run_at-x.ensures in
    (f.behind, omega (arith, f.within, l.invariant.long))

pub loop-i-preserved : goal.loop-i-preserved
loop-i-preserved c =
    let l = c.loop-i in
    painting_more l.invariant c.run_at-x.result c.loop-i-test.true c.run_at-x.ensures
    c.paint.new.slow c.run_end-free.result (omega (arith, c.paint.auto.slow, l.invariant.long)) c.run_end-free.ensures c.paint.ensures

pub returns : goal.returns
returns c =
    let l = c.loop-i in
    let a = c.args in
    painting_end l.invariant c.loop-i-test.false _ (grind (arith, common_steps, c.fill.ensures.after (λ y e. e)))
    ∙ ap (painted a.head.ground 0 (length a.slow.now)) (sym (all a.file.now a.head c.requires.head.0))
