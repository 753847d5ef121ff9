use Rattle.std.proofs.Common.{◌≡◌, ◌*◌, ◌≤◌, length, refl, sym, ap, subst, ◌∙◌, arith}
use lib.Seq.{length-take-le}
use Rattle.eikonal.specs.Board.{size}
use Rattle.eikonal.specs.Told.{refusal_of}
use Rattle.eikonal.proofs.Causes.{number_is}
use Rattle.eikonal.proofs.Outcomes.{numbered}
use Rattle.scenario.specs.Bytes.{four_bytes, bytes_of}
use Rattle.scenario.specs.File.{held}
use Rattle.scenario.proofs.Reading.{cells_read}
use Rattle.tablet.specs.Tablet.{times_bytes, TabletSays}
use Rattle.tablet.proofs.SmallFiles.{small, cells-few}
use Rattle.tablet.proofs.Answers.{Taken, taken, says_refused, says-done}
use Rattle.tablet.proofs.tablet_run.Goals.{After-entries-times}
use Rattle.tablet.proofs.tablet_run.Goals as goal

pub returns-in-Err : goal.returns-in-Err
returns-in-Err c =
    let a = c.args in
    let r = c.in-Err.refusal in
    subst (λ x. TabletSays a.file.now a.stride a.across a.down a.out.now a.out.now x) (sym c.number.ensures)
    (says_refused a.file.now a.stride a.across a.down a.out.now (refusal_of r) c.in-Err.ensures.told (numbered r.cause))

-- nothing refuses the call: there is an entry for each cell, and 4 bytes of output
good : (c : After-entries-times) → Taken c.args.file.now c.args.stride c.args.across c.args.down (length c.args.out.now)
good c = taken _ _ _ _ _ (sym (number_is c.in-Ok.ensures.told))

cells : (c : After-entries-times) → c.board_size-n.result ≡ size (held c.args.file.now)
cells c = cells_read c.args.file.now c.in-Ok.head c.in-Ok.ensures.head.head _ c.board_size-n.ensures

fits : (c : After-entries-times) → c.board_size-n.result ≤ length c.entries-times.result
fits c = omega (arith, cells-few _ (small _ (good c).accepted), cells c, c.entries-times.ensures)

room : (c : After-entries-times) → 4 * c.board_size-n.result ≤ length c.args.out.now
room c = omega (arith, (good c).room, cells c)

pub slice_bounds-times-end : goal.slice_bounds-times-end
slice_bounds-times-end c = fits (goal.at.slice_bounds-times-end c).After-entries-times

pub slice_bounds-times-end-2 : goal.slice_bounds-times-end-2
slice_bounds-times-end-2 c = sym (length-take-le _ c.entries-times.result (fits (goal.at.slice_bounds-times-end-2 c).After-entries-times))

pub run_file-rounds-requires-clause-board : goal.run_file-rounds-requires-clause-board
run_file-rounds-requires-clause-board c =
    let t = (goal.at.run_file-rounds-requires-clause-board c).After-entries-times in
    ((good t).accepted, length-take-le _ c.entries-times.result (fits t) ∙ cells t)

pub run_file-rounds-requires-clause-tiles : goal.run_file-rounds-requires-clause-tiles
run_file-rounds-requires-clause-tiles c = (good (goal.at.run_file-rounds-requires-clause-tiles c).After-entries-times).tiles

pub slice_bounds-put_times-end : goal.slice_bounds-put_times-end
slice_bounds-put_times-end c = room (goal.at.slice_bounds-put_times-end c).After-entries-times

pub slice_bounds-put_times-end-2 : goal.slice_bounds-put_times-end-2
slice_bounds-put_times-end-2 c = sym (length-take-le _ c.args.out.now (room (goal.at.slice_bounds-put_times-end-2 c).After-entries-times))

-- the times that came back are as many
pub put_times-requires : goal.put_times-requires
put_times-requires c =
    let w = (goal.at.put_times-requires c).After-entries-times in
    let times = c.run_file-rounds.auto.times ∙ length-take-le _ c.entries-times.result (fits w) in
    length-take-le _ c.args.out.now (room w) ∙ ap (λ u. 4 * u) (sym times)

pub returns : goal.returns
unfolding times_bytes
returns c =
    let a = c.args in
    let w = (goal.at.returns c).After-entries-times in
    let now = c.put_times.ensures ∙ ap (bytes_of four_bytes) c.run_file-rounds.ensures.times in
    let long = sym (ap length now) ∙ c.put_times.auto.out ∙ length-take-le _ a.out.now (room w) in
    says-done a.file.now a.stride a.across a.down a.out.now _ c.in-Ok.ensures.told c.run_file-rounds.result _ _
    refl c.run_file-rounds.ensures.rounds now long
