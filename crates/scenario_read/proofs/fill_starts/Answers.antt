use Rattle.std.proofs.Common.{◌≡◌, ◌<◌, length, ap, ◌∙◌, arith}
use Rattle.eikonal.specs.Refusals.{cells_of, begins_of}
use Rattle.scenario.specs.Calls.{filled}
use Rattle.scenario.specs.File.{start_count}
use Rattle.scenario.specs.Inner.Walk.{starts_whole}
use Rattle.scenario_read.proofs.Copied.{whole, many, field_more, field_all}
use Rattle.scenario_read.proofs.fill_starts.Goals.{After-starts_in-starts, After-at-start}
use Rattle.scenario_read.proofs.fill_starts.Goals as goal

count : (c : After-starts_in-starts) → length (starts_whole c.starts_in-starts.result.bytes.now) ≡ start_count c.args.file.now
count c = many c.args.head c.args.file.now _ c.requires.file c.starts_in-starts.ensures

-- a start for each entry
entry : (c : After-at-start) → (c.loop-i.i < length c.args.cells.now) × (c.loop-i.i < length c.args.begins.now)
entry c =
    let n = count (goal.at.After-at-start c).After-starts_in-starts in
    let i : c.loop-i.i < start_count c.args.file.now = omega (arith, c.loop-i-test.true, c.many-i-end.ensures, n) in
    (omega (arith, i, c.requires.room.0), omega (arith, i, c.requires.room.1))

pub offset_bounds-cells-i : goal.offset_bounds-cells-i
offset_bounds-cells-i c = let e = (entry (goal.at.offset_bounds-cells-i c).After-at-start).0 in record { fits = omega (arith, e) }

pub bounds-cells-i : goal.bounds-cells-i
bounds-cells-i c = omega (arith, (entry (goal.at.bounds-cells-i c).After-at-start).0, c.loop-i.auto.cells)

pub offset_bounds-begins-i : goal.offset_bounds-begins-i
offset_bounds-begins-i c = let e = (entry (goal.at.offset_bounds-begins-i c).After-at-start).1 in record { fits = omega (arith, e) }

pub bounds-begins-i : goal.bounds-begins-i
bounds-begins-i c = omega (arith, (entry (goal.at.bounds-begins-i c).After-at-start).1, c.loop-i.auto.begins)

pub loop-i-preserved : goal.loop-i-preserved
unfolding cells_of begins_of
loop-i-preserved c =
    let n = count (goal.at.loop-i-preserved c).After-starts_in-starts in
    let xs = starts_whole c.starts_in-starts.result.bytes.now in
    let inside : c.loop-i.i < length xs = omega (arith, c.loop-i-test.true, c.many-i-end.ensures) in (
      field_more (λ x. x.cell) xs c.args.cells.now (omega (arith, n, c.requires.room.0)) _ inside c.loop-i.invariant.0 c.at-start.ensures,
      field_more (λ x. x.time) xs c.args.begins.now (omega (arith, n, c.requires.room.1)) _ inside c.loop-i.invariant.1 c.at-start.ensures,
    )

pub returns-clause-cells : goal.returns-clause-cells
unfolding cells_of
returns-clause-cells c =
    let s = (goal.at.returns-clause-cells c).After-starts_in-starts in
    c.loop-i.invariant.0
    ∙ field_all (λ x. x.cell) (starts_whole c.starts_in-starts.result.bytes.now) c.args.cells.now
    (omega (arith, count s, c.requires.room.0)) c.loop-i.i
    (omega (arith, c.loop-i-test.false, c.many-i-end.ensures))
    ∙ ap (λ u. filled 0 (cells_of u) c.args.cells.now) (whole c.args.head c.args.file.now _ c.requires.file c.starts_in-starts.ensures)

pub returns-clause-begins : goal.returns-clause-begins
unfolding begins_of
returns-clause-begins c =
    let s = (goal.at.returns-clause-begins c).After-starts_in-starts in
    c.loop-i.invariant.1
    ∙ field_all (λ x. x.time) (starts_whole c.starts_in-starts.result.bytes.now) c.args.begins.now
    (omega (arith, count s, c.requires.room.1)) c.loop-i.i
    (omega (arith, c.loop-i-test.false, c.many-i-end.ensures))
    ∙ ap (λ u. filled 0 (begins_of u) c.args.begins.now) (whole c.args.head c.args.file.now _ c.requires.file c.starts_in-starts.ensures)
