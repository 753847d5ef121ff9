-- `tile_orders::part_there` meets its contract: the entries before i are marked where they lie in the part.
use mathlib.Core.Path.{refl, sym, ap, ◌∙◌}
use mathlib.Core.Bool.{Bool, ◌||◌}
use mathlib.Core.List.{List}
use Prim.Native.Nat.{ℕ, ◌+◌}
use native.Mathlib.Numerals.{add-one}
use native.Mathlib.Omega.{arith}
use lib.Dec.{eqb}
use lib.ListN.{get_or, get_or-replicate}
use lib.Seq.{take_all}
use Rattle.eikonal.specs.Refusals.{member}
use Rattle.tile_orders.proofs.Orders.{all_below-same, member-more}
use Rattle.tile_orders.proofs.part_there.Goals as goal

pub loop-tile-init : goal.loop-tile-init
unfolding member
loop-tile-init c = (refl, λ j h. rw (get_or-replicate {A = ℕ} 8192 j 0 0 h))

pub loop-tile-preserved : goal.loop-tile-preserved
loop-tile-preserved c =
    let i = c.loop-tile.tile-index in
    let order = c.args.order.now in
    let from = c.args.from in (
      c.note.ensures.many ∙ c.loop-tile.invariant.0,
      λ j h. c.note.ensures.marks j h
          ∙ ap (λ (t : Bool). t || eqb (get_or order i 0) (from + j)) (c.loop-tile.invariant.1 j h)
          ∙ rw add-one (sym (member-more (from + j) order i c.loop-tile-test.true)),
    )

pub returns : goal.returns
returns c =
    let order = c.args.order.now in
    let from = c.args.from in
    c.all_marked.ensures
    ∙ all_below-same c.args.many _ (λ j. member (from + j) order) (λ j h. c.loop-tile.invariant.1 j (omega arith)
    ∙ ap (λ (xs : List ℕ). member (from + j) xs) (take_all c.loop-tile.tile-index order (omega arith)))
