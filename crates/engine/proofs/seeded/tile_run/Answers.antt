-- `engine::seeded::tile_run` meets its contract.
use native.Mathlib.Omega.{arith}
use mathlib.Core.Path.{◌∙◌}
use Rattle.engine.proofs.Theory.Calls.{ground, cells-few, land-fits, never-times, run-start, run_through}
use Rattle.engine.proofs.seeded.tile_run.Goals as goal

pub gather-size-requires : goal.gather-size-requires
gather-size-requires c = let o = c.requires.0 in (cells-few o.fit, omega arith, omega arith, o.stands.placed)

pub run-count-requires : goal.run-count-requires
run-count-requires c =
    let p = c.requires in
    let o = p.0 in
    let e = c.fill.ensures in (
      ground o.fit _ _ _ (e.long ∙ o.fit.many) c.lay_columns-cols.ensures c.lay_rows-rows.ensures,
      record { starts = o.starts; good = o.fit.good; at = run-start o.fit o.stands c.gather-size.ensures _ (never-times o.fit _ e) _ _ },
    )

pub find_whole-requires : goal.find_whole-requires
find_whole-requires c =
    let o = c.requires.0 in
    let e = c.fill.ensures in
    let ga = c.gather-size.ensures in
    let ran = c.run-count.ensures o.starts o.fit.good (run-start o.fit o.stands ga _ (never-times o.fit _ e) _ _) in
    land-fits o.fit _ _ _ (ran.long ∙ e.long ∙ o.fit.many) (omega (arith, ran.kept, ga.long, o.fit.room)) o.fit.sided

pub returns : goal.returns
returns c xs fit stands =
    let a = c.args in
    let p = c.requires in
    let all = never-times fit _ c.fill.ensures in
    let ga = c.gather-size.ensures in
    let begins = run-start fit stands ga _ all a.stride a.horizon in
    run_through fit stands ga _ all a.stride a.horizon p.1 p.2 p.3 _ _ _ _ _ _ _ (omega arith)
    (c.run-count.ensures xs fit.good begins) c.find_whole.ensures c.fill-2.ensures (c.fill.ensures.long ∙ fit.many)
