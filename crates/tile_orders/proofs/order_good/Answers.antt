-- `tile_orders::order_good` meets its contract.
use Prim.Native.Nat.{◌*◌, ◌≤◌}
use native.Mathlib.Nat.{mul-le-mul}
use native.Mathlib.Omega.{arith}
use Rattle.eikonal.proofs.Up.{up-most}
use Rattle.tile_orders.proofs.Orders.{order-uneven, order-even}
use Rattle.tile_orders.proofs.order_good.Goals as goal

pub overflow_mul-count : goal.overflow_mul-count
overflow_mul-count c =
    let a = c.args in
    let p = c.requires in
    let wide : c.tiles_along.result ≤ 256 = omega (arith, up-most a.width a.across p.2) in
    let high : c.tiles_along-2.result ≤ 256 = omega (arith, up-most a.height a.down p.4) in
    let few : c.tiles_along.result * c.tiles_along-2.result ≤ 65536 = mul-le-mul wide high in
    omega (arith, few)

pub returns-then-order-count : goal.returns-then-order-count
returns-then-order-count c =
    let a = c.args in
    order-uneven a.width a.height a.across a.down a.order.now _ _ c.tiles_along.ensures c.tiles_along-2.ensures (λ e. omega arith)

pub returns : goal.returns
returns c =
    let a = c.args in
    order-even a.width a.height a.across a.down a.order.now _ _ c.tiles_along.ensures c.tiles_along-2.ensures (omega arith) _ c.all_there.ensures
