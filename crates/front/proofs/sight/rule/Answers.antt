-- `front::sight::rule` meets its contract.
use Rattle.std.proofs.Common.{◌≡◌, ℕ, ◌+◌, ◌≤◌, List, min, get_or, arith}
use Rattle.eikonal.specs.Board.{never, slowness, along_row, down_column, local_of}
use Rattle.eikonal.specs.Inner.Good.{Pair}
use Rattle.eikonal.proofs.FirstPass.{alike}
use Rattle.eikonal.proofs.Walls.{unequal}
use Rattle.front.proofs.Theory.Reading.{sees-columns, sees-rows, columns_read, rows_read, flat_read, rule_read}
use Rattle.front.specs.Board.{both_seen, tentative}
use Rattle.front.specs.Scene.{land_of, rule_of, IsSite}
use Rattle.front.specs.declared.Site.{Site}
use Rattle.front.specs.declared.scene.Scene.{Scene}
use Rattle.front.proofs.sight.rule.Goals as goal

pub along-across-requires : goal.along-across-requires
along-across-requires c = sees-columns c.args.scene.now.ground c.requires.0 c.requires.1

pub along-down-requires : goal.along-down-requires
along-down-requires c = sees-rows c.args.scene.now.ground c.requires.0 c.requires.1

-- the cell's pair, and what the rule gives by it
pair_of : (s : Scene) (c : ℕ) → Pair (along_row (get_or s.slow.now c 0)) (down_column (get_or s.slow.now c 0))
unfolding slowness
pair_of s c = s.ground.good.pairs c

by_pair : (s : Scene) {p : Site} → IsSite s p → (work : List ℕ) {limit x y z : ℕ} → limit ≤ never → s.shape.storeys ≤ 1
    → x ≡ both_seen (land_of s) s.times.now (tentative work s.shape.cells) p.cell 1 (get_or s.cols.now p.col 0) (get_or s.cols.now (p.col + 1) 0)
    → y ≡ both_seen (land_of s) s.times.now (tentative work s.shape.cells) p.cell s.shape.width (get_or s.rows.now p.row 0)
    (get_or s.rows.now (p.row + 1) 0)
    → z ≡ min limit (local_of (along_row (get_or s.slow.now p.cell 0)) (down_column (get_or s.slow.now p.cell 0)) x y never)
    → z ≡ min limit (rule_of s p.cell (tentative work s.shape.cells))
by_pair s si work l h ex ey e =
    let g = s.ground in
    let f = tentative work s.shape.cells in
    let flat : s.shape.storeys ≡ 1 = omega (arith, h, g.good.storeys_low) in
    let read = rule_read g si f (columns_read g si f ex) (rows_read g si f ey) (flat_read g si f flat) in
    omega (arith, e, read, l)

pub of_equal-requires : goal.of_equal-requires
unfolding along_row down_column
of_equal-requires c = (pair_of c.args.scene.now c.args.site.cell).along_most

pub returns-then-g-h : goal.returns-then-g-h
unfolding along_row down_column
returns-then-g-h c =
    by_pair c.args.scene.now c.requires.0 c.args.work.now (omega (arith, c.ranges.limit.fits)) (omega (arith, c.if-scene-gt1.false))
    c.along-across.ensures c.along-down.ensures (alike _ _ _ _ _ _ _ c.if-g-h.true c.of_equal.ensures)

pub of_unequal-requires : goal.of_unequal-requires
unfolding along_row down_column
of_unequal-requires c = unequal (pair_of c.args.scene.now c.args.site.cell) c.if-g-h.false

pub returns : goal.returns
unfolding along_row down_column
returns c =
    by_pair c.args.scene.now c.requires.0 c.args.work.now (omega (arith, c.ranges.limit.fits)) (omega (arith, c.if-scene-gt1.false))
    c.along-across.ensures c.along-down.ensures c.of_unequal.ensures
