-- `engine::seeded::march` meets its contract.
use native.Mathlib.Omega.{arith}
use Rattle.engine.proofs.Theory.Calls.{ground, cells-few, land-fits, march_through}
use Rattle.engine.proofs.seeded.march.Goals as goal

pub invariant_of-scene : goal.invariant_of-scene
invariant_of-scene c =
    let f = c.requires.0.fit in
    record { ground = ground f c.args.times.now _ _ f.many c.lay_columns-cols.ensures c.lay_rows-rows.ensures }

pub drain_tile-requires : goal.drain_tile-requires
drain_tile-requires c =
    let p = c.requires in
    let o = p.0 in (
      o.stands.placed,
      p.1,
      p.2,
      omega (arith, p.3),
    )

pub finish-count-requires : goal.finish-count-requires
finish-count-requires c =
    let p = c.requires in
    let f = p.0.fit in
    (f.many, omega (arith, c.drain_tile.ensures.placed.room), cells-few f, omega (arith, p.3))

pub find_whole-requires : goal.find_whole-requires
find_whole-requires c =
    let o = c.requires.0.fit in
    land-fits o _ _ _ c.finish-count.ensures.long (omega (arith, c.drain_tile.ensures.placed.room)) o.sided

pub returns : goal.returns
returns c xs fit stands =
    let p = c.requires in
    march_through fit p.1 p.2 stands _ _ _ _ _ c.args.horizon _ p.3
    c.drain_tile.ensures c.finish-count.ensures c.find_whole.ensures c.fill.ensures
