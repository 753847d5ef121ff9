-- `rings_lines::put_board` meets its contract.
use Rattle.std.proofs.Common.{◌≡◌, List, ℕ, ◌≤◌, ◌*◌, ◌++◌, length, take, refl, sym, ap, ◌∙◌, arith}
use lib.Seq.{length-take-le}
use Rattle.eikonal.specs.Refusals.{sides_good}
use Rattle.eikonal.proofs.Good.{sides-within}
use Rattle.scenario.specs.File.{head_in, ticks_good}
use Rattle.scenario.specs.declared.Head.{Head}
use Rattle.scenario.proofs.Reading.{cells_read}
use Rattle.rings_lines.specs.Rings.{head_line, rows, board_lines}
use Rattle.rings_lines.proofs.Stores.{put_is}
use Rattle.tablet.specs.Small.{small_refusal}
use Rattle.tablet.proofs.SmallFiles.{small, cells-few}
use Rattle.rings_lines.proofs.put_board.Goals.{After-entries-times}
use Rattle.rings_lines.proofs.put_board.Goals as goal

pub board_size-n-requires : goal.board_size-n-requires
board_size-n-requires c = (c.requires.2.wide, c.requires.2.high)

cells-most : (f : List ℕ) (x : Head) (n : ℕ) → (small_refusal f).number ≡ 0 → x ≡ head_in f → n ≡ x.width * x.height * x.storeys → n ≤ 1024
cells-most f x n e h p = omega (arith, cells_read f x h n p, cells-few f (small f e))

-- there is an entry for each cell
fits : (f : List ℕ) (x : Head) (n : ℕ) (l : List ℕ) → (small_refusal f).number ≡ 0 → x ≡ head_in f → n ≡ x.width * x.height * x.storeys
    → length l ≡ 1024 → n ≤ length l
fits f x n l e h p q = omega (arith, cells-most f x n e h p)

pub slice_bounds-times-end : goal.slice_bounds-times-end
slice_bounds-times-end c = fits _ _ _ _ c.requires.1 c.requires.2.head c.board_size-n.ensures c.entries-times.ensures

-- the times that are lent on
long : (c : After-entries-times) → length (take c.board_size-n.result c.entries-times.result) ≡ c.board_size-n.result
long c = length-take-le _ c.entries-times.result (fits _ _ _ _ c.requires.1 c.requires.2.head c.board_size-n.ensures c.entries-times.ensures)

pub slice_bounds-times-end-2 : goal.slice_bounds-times-end-2
slice_bounds-times-end-2 c = sym (long (goal.at.slice_bounds-times-end-2 c).After-entries-times)

pub run_file-requires-clause-board : goal.run_file-requires-clause-board
run_file-requires-clause-board c = (
  c.requires.1,
  long (goal.at.run_file-requires-clause-board c).After-entries-times ∙ cells_read _ _ c.requires.2.head _ c.board_size-n.ensures,
)

-- tiles of 8 by 8, stride 65,536
pub run_file-requires-clause-tiles : goal.run_file-requires-clause-tiles
unfolding sides_good
run_file-requires-clause-tiles c = record { least = omega arith; most = omega arith; sides = refl }

pub put_lines-requires : goal.put_lines-requires
put_lines-requires c =
    let n = long (goal.at.put_lines-requires c).After-entries-times in
    let s = (small c.args.file.now c.requires.1).taken in
    let y = head_in c.args.file.now in (
      c.requires.0,
      omega (arith, ap (λ u. u.width) c.requires.2.head, (sides-within y.width y.height s.front.sides).0),
      ap (λ u. ticks_good u.ticks) c.requires.2.head ∙ s.ticks,
      omega (arith, c.run_file.auto.times, n, cells-most _ _ _ c.requires.1 c.requires.2.head c.board_size-n.ensures),
    )

pub returns-clause-put : goal.returns-clause-put
unfolding board_lines
returns-clause-put c =
    let x = c.requires.2.head in
    let times = c.run_file.ensures.times in
    put_is c.put_lines.ensures.put (λ i. head_line (x i) ++ rows (x i).width (x i).ticks 0 (times i))
