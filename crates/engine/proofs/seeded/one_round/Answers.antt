-- `engine::seeded::one_round` meets its contract.
use native.Mathlib.Omega.{arith}
use Rattle.engine.proofs.Theory.Calls.{ground, cells-few, round_through, rows_whole}
use Rattle.engine.proofs.seeded.one_round.Goals as goal

pub invariant_of-scene : goal.invariant_of-scene
invariant_of-scene c =
    let f = c.requires.0.fit in
    record { ground = ground f c.args.times.now _ _ f.many c.lay_columns-cols.ensures c.lay_rows-rows.ensures }

pub drain_strips-requires : goal.drain_strips-requires
drain_strips-requires c =
    let p = c.requires in
    let o = p.0 in
    (o.stands.placed, o.fit.down_high, omega (arith, p.1))

pub find_round-requires : goal.find_round-requires
find_round-requires c =
    let f = c.requires.0.fit in
    (f.across_high, c.drain_strips.ensures.placed.room, f.sided)

pub write_tiles-count-requires : goal.write_tiles-count-requires
write_tiles-count-requires c =
    let p = c.requires in
    let f = p.0.fit in (
      record {
        cells = rows_whole f;
        few = cells-few f;
        wide_low = f.good.wide_low;
        wide_high = f.good.wide_high;
        high_low = f.good.high_low;
        high_high = f.good.high_high;
        storeys_high = f.good.storeys_high;
        across_low = f.across_low;
        across_high = f.across_high;
        down_low = f.down_low;
        down_high = f.down_high;
        many = f.many;
        space = omega (arith, c.find_round.ensures.kept, c.drain_strips.ensures.placed.room);
      },
      p.2,
    )

pub returns : goal.returns
returns c xs fit stands =
    let p = c.requires in
    round_through fit stands _ _ _ _ _ c.args.bound _ p.1 c.drain_strips.ensures c.find_round.ensures c.write_tiles-count.ensures
    c.fill.ensures
