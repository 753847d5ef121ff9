-- `engine::calls::try_play` meets its contract: each step leaves what the next one asks.
use mathlib.Core.Path.{refl}
use lib.ListN.{length}
use Rattle.eikonal.specs.Ledger.{call}
use Rattle.eikonal.specs.Told.{own_of}
use Rattle.eikonal.specs.Handing.{handed_in}
use Rattle.engine.proofs.Theory.Steps.{shapely, roomy, sowable, ready, clearable, says, turned_down}
use Rattle.engine.proofs.calls.try_play.Goals as goal

pub returns-in_err-check_call : goal.returns-in_err-check_call
returns-in_err-check_call g c =
    let a = c.args in
    let p = call (handed_in g.S.Starts.all g.S.Starts.paired a.board.now) a.job a.order.now (length a.sides.now) (length a.work.now) in
    turned_down p (own_of a.own) a.times.now a.sides.now a.work.now _ _ c.in_err-check_call.ensures c.from_residual.ensures.1

pub shape_of-shape-requires : goal.shape_of-shape-requires
shape_of-shape-requires g c =
    let a = c.args in
    let p = call (handed_in g.S.Starts.all g.S.Starts.paired a.board.now) a.job a.order.now (length a.sides.now) (length a.work.now) in
    shapely p (own_of a.own) a.times.now a.sides.now a.work.now refl refl c.in_ok-check_call.ensures

pub empty-requires : goal.empty-requires
empty-requires g c =
    let a = c.args in
    let p = call (handed_in g.S.Starts.all g.S.Starts.paired a.board.now) a.job a.order.now (length a.sides.now) (length a.work.now) in
    roomy p (own_of a.own) a.times.now a.sides.now a.work.now refl refl c.in_ok-check_call.ensures _ c.shape_of-shape.ensures

pub seed-requires : goal.seed-requires
seed-requires g c =
    let a = c.args in
    let p = call (handed_in g.S.Starts.all g.S.Starts.paired a.board.now) a.job a.order.now (length a.sides.now) (length a.work.now) in
    sowable p (own_of a.own) a.times.now a.sides.now a.work.now refl refl c.in_ok-check_call.ensures _ c.shape_of-shape.ensures _ c.empty.ensures

pub job-count-requires : goal.job-count-requires
job-count-requires g c =
    let a = c.args in
    let p = call (handed_in g.S.Starts.all g.S.Starts.paired a.board.now) a.job a.order.now (length a.sides.now) (length a.work.now) in
    ready p (own_of a.own) a.times.now a.sides.now a.work.now refl refl c.in_ok-check_call.ensures _ c.shape_of-shape.ensures _ c.empty.ensures _ c.seed.ensures

pub clear-requires : goal.clear-requires
clear-requires g c =
    let a = c.args in
    let p = call (handed_in g.S.Starts.all g.S.Starts.paired a.board.now) a.job a.order.now (length a.sides.now) (length a.work.now) in
    clearable p (own_of a.own) a.times.now a.sides.now a.work.now refl refl c.in_ok-check_call.ensures _ c.shape_of-shape.ensures _ c.empty.ensures
    _ c.seed.ensures _ _ _ _ c.job-count.ensures

pub returns : goal.returns
returns g c =
    let a = c.args in
    let p = call (handed_in g.S.Starts.all g.S.Starts.paired a.board.now) a.job a.order.now (length a.sides.now) (length a.work.now) in
    says p (own_of a.own) a.times.now a.sides.now a.work.now refl refl c.in_ok-check_call.ensures _ c.shape_of-shape.ensures _ c.empty.ensures
    _ c.seed.ensures _ _ _ _ c.job-count.ensures _ c.clear.ensures
