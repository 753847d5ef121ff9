-- `rows::tiles::write_tile` meets its contract.
use Rattle.std.proofs.Common.{arith, ◌≡◌, []}
use Rattle.eikonal.specs.Tiles.{up}
use Rattle.front.specs.Board.{land}
use Rattle.rows.specs.Rows.{tile_in}
use Rattle.rows.proofs.Theory.Entered.{entered_of}
use Rattle.rows.proofs.Theory.TileRows.{corner, in_tile}
use Rattle.rows.proofs.tiles.write_tile.Goals as goal

pub write_storeys-requires : goal.write_storeys-requires
unfolding up
write_storeys-requires c =
    let k = corner c.requires c.args.tile in
    let e = c.min-right.ensures in
    (c.requires, omega (arith, k), omega (arith, c.min-bottom.ensures), omega (arith, e), omega (arith, e))

pub returns : goal.returns
unfolding up
returns c =
    let x = c.args in
    let r = c.requires in
    entered_of (λ d. tile_in x.shape d ≡ x.tile)
    (λ d l e. in_tile (land x.shape []) x.shape.across x.shape.down r.wide_low r.high_low r.across_low r.down_low d
    c.min-bottom.ensures c.min-right.ensures e)
    c.write_storeys.ensures
