-- `scenario_read::fill_slow` meets its contract.
use mathlib.Core.Path.{◌≡◌, sym, ◌∙◌}
use Prim.Native.Nat.{◌≤◌}
use native.Mathlib.Omega.{arith}
use lib.ListN.{length, take}
use lib.Seq.{length-take-le}
use Rattle.eikonal.specs.Board.{size}
use Rattle.scenario.specs.Runs.{painted}
use Rattle.scenario.specs.File.{runs_in, held}
use Rattle.scenario.proofs.Causes.{accepted}
use Rattle.scenario.proofs.Answers.{part-entered}
use Rattle.scenario.proofs.Reading.{slow_length, file_long, sides_read, cells_read}
use Rattle.scenario_read.proofs.fill_slow.Goals.{After-board_size-n}
use Rattle.scenario_read.proofs.fill_slow.Goals as goal

pub head_of-head-requires : goal.head_of-head-requires
head_of-head-requires c = (accepted _ c.requires.0).front.head

pub board_size-n-requires : goal.board_size-n-requires
board_size-n-requires c = sides_read _ _ c.head_of-head.ensures (accepted _ c.requires.0).front

-- the part is as long as the board has cells
cells : (c : After-board_size-n) → c.board_size-n.result ≡ size (held c.args.file.now)
cells c = cells_read _ _ c.head_of-head.ensures _ c.board_size-n.ensures

fits : (c : After-board_size-n) → c.board_size-n.result ≤ length c.args.slow.now
fits c = omega (arith, c.requires.1, cells c)

long : (c : After-board_size-n) → length (take c.board_size-n.result c.args.slow.now) ≡ c.board_size-n.result
long c = length-take-le c.board_size-n.result c.args.slow.now (fits c)

pub slice_bounds-read_slow-end : goal.slice_bounds-read_slow-end
slice_bounds-read_slow-end c = fits (goal.at.slice_bounds-read_slow-end c).After-board_size-n

pub slice_bounds-read_slow-end-2 : goal.slice_bounds-read_slow-end-2
slice_bounds-read_slow-end-2 c = sym (long (goal.at.slice_bounds-read_slow-end-2 c).After-board_size-n)

pub read_slow-requires-clause-head : goal.read_slow-requires-clause-head
read_slow-requires-clause-head c =
    let h = c.head_of-head.ensures in
    (h, omega (arith, file_long _ _ h (accepted _ c.requires.0).front))

pub read_slow-requires-clause-runs : goal.read_slow-requires-clause-runs
read_slow-requires-clause-runs c =
    let b = (goal.at.read_slow-requires-clause-runs c).After-board_size-n in
    rw (c.head_of-head.ensures, long b ∙ cells b) (accepted _ c.requires.0).runs

pub returns : goal.returns
unfolding held size
returns c =
    let b = (goal.at.returns c).After-board_size-n in
    let f = c.args.file.now in
    let e = long b ∙ cells b in
    part-entered c.board_size-n.result _ (held f).slow c.args.slow.now
    (c.read_slow.ensures ∙ (λ i. painted (c.head_of-head.ensures i).ground 0 (e i) (runs_in f)))
    (slow_length f (accepted f c.requires.0) ∙ sym (cells b))
