use Rattle.sides.proofs.Pass.{whole-legal, whole-found}
use Rattle.sides.proofs.find_whole.Goals as goal

pub find-requires : goal.find-requires
find-requires c = whole-legal c.requires c.fill.ensures c.lay_columns-cols.ensures c.lay_rows-rows.ensures

pub returns : goal.returns
returns c = whole-found c.requires c.fill.ensures c.find.ensures
