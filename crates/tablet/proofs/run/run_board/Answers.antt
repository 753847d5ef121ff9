use Rattle.std.proofs.Common.{◌≡◌, ℕ, ◌*◌, ◌≤◌, length, refl, sym, ap₂, ◌∙◌, arith}
use native.Mathlib.Nat.{mul-le-mul}
use lib.Seq.{length-take-le}
use Rattle.eikonal.specs.Tiles.{up, tile_count}
use Rattle.eikonal.specs.Handing.{handed_in}
use Rattle.eikonal.specs.Board.{Board}
use Rattle.eikonal.proofs.Good.{sides-within}
use Rattle.eikonal.proofs.Up.{up-most}
use Rattle.tablet.specs.Small.{Tiled}
use Rattle.tablet.proofs.Orders.{rise-good}
use Rattle.tablet.proofs.Runs.{run-rounds, run-times}
use Rattle.tablet.proofs.run.run_board.Goals as goal

pub tiles_along-requires : goal.tiles_along-requires
tiles_along-requires g c =
    let t = sides-within c.args.across c.args.down c.requires.tiles.sides in
    (omega (arith, c.requires.sides.0), t.0, t.1)

pub tiles_along-requires-2 : goal.tiles_along-requires-2
tiles_along-requires-2 g c =
    let t = sides-within c.args.across c.args.down c.requires.tiles.sides in
    (omega (arith, c.requires.sides.1), t.2, t.3)

-- no more than 32 tiles each way
few : {w h s tw th x y : ℕ} → Tiled s tw th → w ≤ 32 → h ≤ 32 → x ≡ up w tw → y ≡ up h th → x * y ≤ 1024
few {w} {h} {s} {tw} {th} {x} {y} t a b d e =
    let g = sides-within tw th t.sides in
    let i : x ≤ 32 = omega (arith, d, up-most w tw g.0) in
    let j : y ≤ 32 = omega (arith, e, up-most h th g.2) in
    mul-le-mul i j

-- they are the board's
counted : (b : Board) (tw th : ℕ) → up b.wide tw * up b.high th ≡ tile_count b tw th
unfolding tile_count
counted b tw th = refl

pub overflow_mul-tiles : goal.overflow_mul-tiles
overflow_mul-tiles g c =
    let n = few c.requires.tiles c.requires.sides.0 c.requires.sides.1 c.tiles_along.ensures c.tiles_along-2.ensures in
    record { fits = omega (arith, n) }

-- so the order has room for them
pub slice_bounds-order-end : goal.slice_bounds-order-end
slice_bounds-order-end g c =
    let n = few c.requires.tiles c.requires.sides.0 c.requires.sides.1 c.tiles_along.ensures c.tiles_along-2.ensures in
    omega (arith, n, c.entries-order.ensures)

pub slice_bounds-order-end-2 : goal.slice_bounds-order-end-2
slice_bounds-order-end-2 g c =
    let n = few c.requires.tiles c.requires.sides.0 c.requires.sides.1 c.tiles_along.ensures c.tiles_along-2.ensures in
    sym (length-take-le _ c.entries-order.result (omega (arith, n, c.entries-order.ensures)))

pub returns-clause-rounds : goal.returns-clause-rounds
returns-clause-rounds g c =
    let a = c.args in
    let p = handed_in g.S.Starts.all g.S.Starts.paired a.board.now in
    let s = c.requires.sides in
    let n = few c.requires.tiles s.0 s.1 c.tiles_along.ensures c.tiles_along-2.ensures in
    -- the rising order is good
    let ordered = rise-good c.rise.new.order (λ k h. c.rise.ensures k (omega (arith, h, c.rise.auto.order))) p.board a.across a.down
    (c.rise.auto.order ∙ length-take-le _ c.entries-order.result (omega (arith, n, c.entries-order.ensures))
    ∙ ap₂ ◌*◌ c.tiles_along.ensures c.tiles_along-2.ensures ∙ counted p.board a.across a.down) in
    let even = length-take-le (length a.times.now) c.side_entries-sides.result (omega (arith, c.side_entries-sides.ensures, s.2, s.3)) in
    run-rounds p _ _ _ _ c.requires.board s c.requires.tiles ordered even c.work_entries-work.ensures _ _ _ _ _ _ _ c.play-reply.ensures
    refl refl refl

pub returns-clause-times : goal.returns-clause-times
returns-clause-times g c =
    let a = c.args in
    let p = handed_in g.S.Starts.all g.S.Starts.paired a.board.now in
    let s = c.requires.sides in
    let n = few c.requires.tiles s.0 s.1 c.tiles_along.ensures c.tiles_along-2.ensures in
    let ordered = rise-good c.rise.new.order (λ k h. c.rise.ensures k (omega (arith, h, c.rise.auto.order))) p.board a.across a.down
    (c.rise.auto.order ∙ length-take-le _ c.entries-order.result (omega (arith, n, c.entries-order.ensures))
    ∙ ap₂ ◌*◌ c.tiles_along.ensures c.tiles_along-2.ensures ∙ counted p.board a.across a.down) in
    let even = length-take-le (length a.times.now) c.side_entries-sides.result (omega (arith, c.side_entries-sides.ensures, s.2, s.3)) in
    run-times p _ _ _ _ c.requires.board s c.requires.tiles ordered even c.work_entries-work.ensures _ _ _ _ _ _ _ c.play-reply.ensures
    refl refl refl
