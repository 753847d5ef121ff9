use Rattle.std.proofs.Common.{◌≡◌, ◌*◌, ◌++◌, refl, sym, ap, ◌∙◌, append-nil, length, take, arith}
use lib.ListN.{drop_of_length-le}
use lib.Seq.{length-take-le}
use Rattle.eikonal.specs.Board.{size, marched}
use Rattle.eikonal.specs.Tiles.{rounds}
use Rattle.eikonal.specs.Refusals.{handed_refusal}
use Rattle.scenario.specs.File.{held}
use Rattle.scenario.proofs.Causes.{accepts}
use Rattle.scenario.proofs.Answers.{filled_in}
use Rattle.scenario.specs.Inner.Walk.{Fits}
use Rattle.scenario.proofs.Reading.{slow_length, fits_read}
use Rattle.tablet.specs.Small.{horizon}
use Rattle.tablet.proofs.SmallFiles.{small, cells-few, board_is, board_good}
use Rattle.tablet.proofs.run.run_file.Goals.{After-head_of-head, After-entries-slow, After-fill_slow}
use Rattle.tablet.proofs.run.run_file.Goals as goal

pub head_of-head-requires : goal.head_of-head-requires
head_of-head-requires c = (small c.args.file.now c.requires.board.0).taken.front.head

fits : (c : After-head_of-head) → Fits c.head_of-head.result c.args.file.now
fits c = fits_read _ _ c.head_of-head.ensures (small c.args.file.now c.requires.board.0).taken.front

pub starts_in-requires : goal.starts_in-requires
starts_in-requires c = fits (goal.at.starts_in-requires c).After-head_of-head

-- there is an entry for each cell
long : (c : After-entries-slow) → length (take (length c.args.times.now) c.entries-slow.result) ≡ length c.args.times.now
long c =
    let f = c.args.file.now in
    length-take-le _ c.entries-slow.result (omega (arith, c.requires.board.1, cells-few f (small f c.requires.board.0), c.entries-slow.ensures))

pub slice_bounds-slow-end : goal.slice_bounds-slow-end
slice_bounds-slow-end c =
    let f = c.args.file.now in
    omega (arith, c.requires.board.1, cells-few f (small f c.requires.board.0), c.entries-slow.ensures)

pub slice_bounds-slow-end-2 : goal.slice_bounds-slow-end-2
slice_bounds-slow-end-2 c = sym (long (goal.at.slice_bounds-slow-end-2 c).After-entries-slow)

pub fill_slow-requires : goal.fill_slow-requires
fill_slow-requires c =
    let s = small c.args.file.now c.requires.board.0 in
    (accepts _ s.taken, omega (arith, long (goal.at.fill_slow-requires c).After-entries-slow, c.requires.board.1))

-- the slownesses are the board's
slows : (c : After-fill_slow) → c.fill_slow.new.slow ≡ (held c.args.file.now).slow
unfolding held size
slows c =
    let f = c.args.file.now in
    let p = c.requires.board in
    let n = long (goal.at.After-fill_slow c).After-entries-slow in
    c.fill_slow.ensures ∙ filled_in 0 (held f).slow _ refl
    ∙ ap (λ u. (held f).slow ++ u) (drop_of_length-le _ {i = length (held f).slow} (omega (arith, n, p.1, slow_length f (small f p.0).taken)))
    ∙ append-nil (held f).slow

pub run_board-requires-clause-board : goal.run_board-requires-clause-board
run_board-requires-clause-board c =
    let f = c.args.file.now in
    let p = c.requires.board in
    let b = board_is f c.head_of-head.result _ _ (fits (goal.at.run_board-requires-clause-board c).After-head_of-head)
    (slows (goal.at.run_board-requires-clause-board c).After-fill_slow) c.starts_in.ensures in
    ap (λ u. (handed_refusal u).number) b ∙ board_good f (small f p.0).taken

pub run_board-requires-clause-sides : goal.run_board-requires-clause-sides
unfolding held size
run_board-requires-clause-sides c =
    let x = c.head_of-head.ensures in
    let s = small c.args.file.now c.requires.board.0 in
    let size = ap (λ u. u.width * u.height * u.storeys) x in
    (omega (arith, ap (λ u. u.width) x, s.wide), omega (arith, ap (λ u. u.height) x, s.high), omega (arith, size, s.few), c.requires.board.1 ∙ sym size)

pub returns-clause-rounds : goal.returns-clause-rounds
returns-clause-rounds c =
    let a = c.args in
    let b = board_is a.file.now c.head_of-head.result _ _ (fits (goal.at.returns-clause-rounds c).After-head_of-head)
    (slows (goal.at.returns-clause-rounds c).After-fill_slow) c.starts_in.ensures in
    c.run_board.ensures.rounds ∙ ap (λ u. rounds u.board a.across a.down a.stride horizon) b

pub returns-clause-times : goal.returns-clause-times
returns-clause-times c =
    let a = c.args in
    let b = board_is a.file.now c.head_of-head.result _ _ (fits (goal.at.returns-clause-times c).After-head_of-head)
    (slows (goal.at.returns-clause-times c).After-fill_slow) c.starts_in.ensures in
    c.run_board.ensures.times ∙ ap (λ u. marched u.board horizon) b
