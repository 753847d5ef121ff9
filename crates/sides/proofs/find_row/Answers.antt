use Rattle.std.proofs.Common.{◌≡◌, arith}
use Rattle.sides.proofs.Pass.{legal-on, flat-most, row-flat, row_house}
use Rattle.sides.proofs.find_row.Goals as goal

pub stack_row-requires : goal.stack_row-requires
stack_row-requires c =
    let lg = c.requires.0 in
    let f = c.flat_row.ensures in (
      legal-on lg f.long,
      c.requires.1,
      flat-most lg c.requires.1 c.args.bound f,
    )

pub returns-then-view-gt1 : goal.returns-then-view-gt1
returns-then-view-gt1 c = row_house c.requires.0 c.requires.1 c.args.bound c.flat_row.ensures c.stack_row.ensures

pub returns-else-view-gt1 : goal.returns-else-view-gt1
returns-else-view-gt1 c =
    let lg = c.requires.0 in
    let flat : c.args.view.now.shape.storeys ≡ 1 = omega (arith, lg.ground.good.storeys_low) in
    row-flat lg c.requires.1 c.args.bound flat (omega arith) c.flat_row.ensures
