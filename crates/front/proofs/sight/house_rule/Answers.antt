-- `front::sight::house_rule` meets its contract.
use Rattle.std.proofs.Common.{◌*◌, refl, sym, subst, arith}
use Rattle.eikonal.specs.Board.{slowness, along_row, down_column}
use Rattle.eikonal.proofs.FirstPass.{alike}
use Rattle.front.proofs.Theory.Reading.{cells-most, storey_most, sees-columns, sees-rows, under_some, over-some}
use Rattle.front.proofs.Theory.Reading.{fits-back, fits_on, columns_read, rows_read, stack_read, rule_read}
use Rattle.front.specs.Board.{tentative}
use Rattle.front.specs.Scene.{SeesOver}
use Rattle.front.proofs.sight.house_rule.Goals as goal

pub along-across-requires : goal.along-across-requires
along-across-requires c = sees-columns c.args.scene.now.ground c.requires.0 c.requires.1

pub along-down-requires : goal.along-down-requires
along-down-requires c = sees-rows c.args.scene.now.ground c.requires.0 c.requires.1

pub seam_over-requires : goal.seam_over-requires
seam_over-requires c =
    let g = c.args.scene.now.ground in
    (omega (arith, c.requires.0.on, cells-most g), omega (arith, cells-most g, storey_most g))

pub along-stack-requires : goal.along-stack-requires
along-stack-requires c =
    let a = c.args in
    let s = a.scene.now in
    let area = s.shape.width * s.shape.height in
    let si = c.requires.0 in (
      subst (λ m. SeesOver s a.work.now a.site.cell area 0 m) (sym c.seam_under.ensures)
          (fits-back s.ground si c.requires.1 area (under_some s.ground si refl)),
      subst (λ m. SeesOver s a.work.now a.site.cell 0 area m) (sym c.seam_over.ensures)
          (fits_on s.ground si c.requires.1 area (over-some s.ground si refl)),
    )

pub of_three-requires : goal.of_three-requires
unfolding along_row down_column slowness
of_three-requires c = (c.args.scene.now.ground.good.pairs c.args.site.cell).along_most

pub returns : goal.returns
unfolding along_row down_column slowness
returns c =
    let g = c.args.scene.now.ground in
    let si = c.requires.0 in
    let f = tentative c.args.work.now c.args.scene.now.shape.cells in
    let stack = stack_read g si f refl (rw (c.seam_under.ensures, c.seam_over.ensures) at c.along-stack.ensures) in
    let read =
    rule_read g si f (columns_read g si f c.along-across.ensures) (rows_read g si f c.along-down.ensures) stack in
    let is = alike _ _ _ _ _ _ _ (g.good.level c.requires.2 c.args.site.cell) c.of_three.ensures in
    omega (arith, is, read, c.ranges.limit.fits)
