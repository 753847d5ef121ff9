-- A board of 4 by 1 cells as a file, byte by byte: ground 10 along a row and 20 down a column, a run of two cells of 300 and 7, a wall behind it, a start.
use mathlib.Core.Path.{◌≡◌, refl}
use mathlib.Core.List.{List, [], ◌∷◌}
use Prim.Native.Nat.{ℕ, ◌+◌, ◌*◌}
use lib.ListN.{drop}
use Rattle.eikonal.specs.Board.{Board, size, slowness, along_row, down_column}
use Rattle.eikonal.specs.Order.{cause, none, first_of}
use Rattle.eikonal.specs.Refusals.{sides_good, steep, half_wall, uneven, any_pair, pair_causes}
use Rattle.eikonal.specs.Refusals.{ill_stacked, first_fault, late, on_wall, record_causes, start_causes}
use Rattle.scenario.specs.Bytes.{two, four, two_bytes, four_bytes, records, bytes_of}
use Rattle.scenario.specs.Runs.{run, end, painted, run_good, runs_good, closed, runs_on, runs_of}
use Rattle.scenario.specs.File.{head_bytes, run_bytes, start_bytes, head_of, front, file_of, head_in, run_in, start_in, runs_in, starts_in, held}
use Rattle.scenario.specs.File.{ticks_good, length_good, front_causes, rest_causes, file_causes, file_refusal}

abbrev ground : ℕ
ground = 10 + 65536 * 20

abbrev other : ℕ
other = 300 + 65536 * 7

board : Board
board = record { wide = 4; high = 1; storeys = 1; slow = ground ∷ other ∷ other ∷ 0 ∷ []; starts = record { cell = 2; time = 70000 } ∷ [] }

bytes : List ℕ
bytes =
    4 ∷ 0 ∷ 1 ∷ 0 ∷ 1 ∷ 0 ∷ 100 ∷ 0 ∷ 10 ∷ 0 ∷ 20 ∷ 0 ∷ 2 ∷ 0 ∷ 0 ∷ 0 ∷ 1 ∷ 0 ∷ 0 ∷ 0
    ∷ 1 ∷ 0 ∷ 0 ∷ 0 ∷ 2 ∷ 0 ∷ 0 ∷ 0 ∷ 44 ∷ 1 ∷ 7 ∷ 0
    ∷ 3 ∷ 0 ∷ 0 ∷ 0 ∷ 1 ∷ 0 ∷ 0 ∷ 0 ∷ 0 ∷ 0 ∷ 0 ∷ 0
    ∷ 2 ∷ 0 ∷ 0 ∷ 0 ∷ 112 ∷ 17 ∷ 1 ∷ 0 ∷ []

its_bytes : file_of 100 ground board ≡ bytes
unfolding file_of head_of front head_bytes two_bytes four_bytes bytes_of run_bytes start_bytes runs_of runs_on closed run board bytes
its_bytes = refl

-- as two storeys of 2 by 1 cells
stacked : List ℕ
stacked = 2 ∷ 0 ∷ 1 ∷ 0 ∷ 2 ∷ 0 ∷ drop 6 bytes

-- with pairs of unequal numbers it is accepted on one storey alone
its_refusal : (file_refusal bytes ≡ none) × (file_refusal stacked ≡ cause 23)
unfolding file_refusal file_causes front_causes rest_causes first_of length_good sides_good ticks_good pair_causes any_pair
    steep half_wall uneven ill_stacked along_row down_column start_causes record_causes first_fault late on_wall
    slowness size held head_in runs_in starts_in records run_in start_in run end painted run_good runs_good two four bytes stacked
its_refusal = (refl, refl)
