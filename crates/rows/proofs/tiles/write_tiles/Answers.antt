-- `rows::tiles::write_tiles` meets its contract: the tiles written so far are final.
use Rattle.std.proofs.Common.{arith, ◌≡◌, length}
use Rattle.rows.proofs.Theory.Entered.{entered-most, entered-none, entered-then}
use Rattle.rows.proofs.Theory.TileRows.{no_tile, one-tile-more, wrote}
use Rattle.rows.proofs.tiles.write_tiles.Goals as goal

pub loop-tile-init : goal.loop-tile-init
loop-tile-init c = entered-none _ _ _ (λ d l m. no_tile _ m)

pub overflow_add-count : goal.overflow_add-count
overflow_add-count c =
    let p = c.requires.0 in
    let i = c.loop-tile.invariant in
    omega (arith, p.few, p.many, i.long, entered-most i, entered-most c.write_tile-count.ensures)

pub loop-tile-preserved : goal.loop-tile-preserved
loop-tile-preserved c =
    let k = c.loop-tile-test.true in
    entered-then c.loop-tile.invariant c.write_tile-count.ensures _ (λ d l m. one-tile-more _ _ _ k m)

pub returns : goal.returns
returns c =
    let l = c.loop-tile in
    let all : l.tile-index ≡ length c.args.order.now = omega (arith, c.loop-tile-test.false) in
    wrote c.requires.0 _ c.requires.1 all l.invariant
