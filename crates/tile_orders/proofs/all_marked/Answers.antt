-- `tile_orders::all_marked` meets its contract.
use Rattle.std.proofs.Common.{◌∙◌, eqb, take, arith, rules, tests}
use Rattle.std.proofs.lemmas.Iterator.{YieldsList-from_slice}
use Rattle.std.proofs.lemmas.Iterator.Search.{all_from_yields_List}
use Rattle.tile_orders.proofs.Orders.{all_below-marked}
use Rattle.tile_orders.proofs.all_marked.Goals as goal

pub returns : goal.returns
returns c =
    let many = c.args.many in
    let seen = c.args.seen.now in
    let marks = YieldsList-from_slice {s = c.iter.result} (take many seen) (search rules) in
    all_from_yields_List (λ m. eqb m 1) _ _ c.all.result c.all.ensures.ran marks (λ x b q k. search (rules, tests))
    ∙ all_below-marked many seen (omega (arith, c.told-seen))
