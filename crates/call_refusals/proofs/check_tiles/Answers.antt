-- `call_refusals::check_tiles` meets its contract: an order is looked at where the tiles' sides are good.
use borrow.Author.Tests.{not-false}
use Rattle.eikonal.proofs.Good.{sides-within}
use Rattle.eikonal.proofs.Outcomes.{unmet}
use Rattle.call_refusals.proofs.check_tiles.Goals as goal

pub order_good-requires : goal.order_good-requires
order_good-requires c =
    let good = rw c.sides_good.ensures at (not-false c.sides_good.result (unmet 10 _ c.in_ok-refuse_if.ensures)) in
    let s = sides-within _ _ good in
    (c.requires.0, c.requires.1, s.0, s.1, s.2, s.3)
