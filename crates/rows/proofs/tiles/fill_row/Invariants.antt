-- `rows::tiles::fill_row` keeps, while it loops: the entries before `column` are final.
use Rattle.std.proofs.Common.{◌<◌, get_or}
use Rattle.eikonal.specs.Inner.Clip.{clip}
use Rattle.rows.specs.Rows.{Entered}
use Rattle.rows.proofs.tiles.fill_row.Given as goal

abbrev pub invariant-loop-column : goal.invariant-loop-column
invariant-loop-column l =
    Entered (λ d. d < l.column) (λ d. clip l.bound (get_or l.from d 0)) l.initial.row l.row l.count
