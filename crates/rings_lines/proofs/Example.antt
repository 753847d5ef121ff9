-- The three-by-three board of document 01 with the turns of Card 3: the four lines that `rings` prints, worked out from the definitions.
use mathlib.Core.Path.{◌≡◌, refl}
use mathlib.Core.List.{List, [], ◌∷◌}
use Prim.Native.Nat.{ℕ}
use Rattle.eikonal.specs.Axes.{place, sight}
use Rattle.eikonal.specs.Board.{size, slowness, along_row, down_column, earlier, least_from, square, passes, local_of, start_time, arrival, met, time}
use Rattle.eikonal.specs.Board.{one_pass, passes_of, all_never, solved, cut, marched}
use Rattle.eikonal.specs.Order.{first_of}
use Rattle.eikonal.specs.Refusals.{sides_good, steep, half_wall, any_pair, uneven, ill_stacked}
use Rattle.eikonal.specs.Refusals.{pair_causes, first_fault, late, on_wall, record_causes, start_causes}
use Rattle.eikonal.specs.Tiles.{up}
use Rattle.scenario.specs.Bytes.{two, four, records}
use Rattle.scenario.specs.Runs.{painted, runs_good}
use Rattle.scenario.specs.File.{head_in, start_in, runs_in, starts_in, held, ticks_good, length_good, front_causes, rest_causes}
use Rattle.scenario.specs.Turns.{turn_of}
use Rattle.tablet.specs.Small.{board_small, small_causes}
use Rattle.rings_lines.specs.Text.{digits, decimal}
use Rattle.rings_lines.specs.Rings.{turn_text, behind, rows, head_line, rings_causes, rings_refusal, board_lines, lines}

-- 3 by 3, one storey, 10 ticks, ground 10 both ways, no runs, start cell 0 at 0
bytes : List ℕ
bytes = 3 ∷ 0 ∷ 3 ∷ 0 ∷ 1 ∷ 0 ∷ 10 ∷ 0 ∷ 10 ∷ 0 ∷ 10 ∷ 0 ∷ 0 ∷ 0 ∷ 0 ∷ 0 ∷ 1 ∷ 0 ∷ 0 ∷ 0 ∷ 0 ∷ 0 ∷ 0 ∷ 0 ∷ 0 ∷ 0 ∷ 0 ∷ 0 ∷ []

its_lines : lines bytes
    ≡ 51 ∷ 32 ∷ 51 ∷ 32 ∷ 49 ∷ 48 ∷ 10
    ∷ 48 ∷ 32 ∷ 49 ∷ 32 ∷ 50 ∷ 10
    ∷ 49 ∷ 32 ∷ 50 ∷ 32 ∷ 51 ∷ 10
    ∷ 50 ∷ 32 ∷ 51 ∷ 32 ∷ 52 ∷ 10 ∷ []
unfolding lines board_lines rings_refusal rings_causes head_line rows behind turn_text decimal digits small_causes board_small turn_of up first_of
    front_causes rest_causes length_good sides_good ticks_good held starts_in runs_in head_in start_in painted runs_good two four
    records pair_causes ill_stacked uneven any_pair steep half_wall first_fault late on_wall record_causes start_causes
    size slowness along_row down_column earlier least_from square passes local_of start_time arrival met time place sight
    one_pass passes_of all_never solved cut marched bytes
its_lines = refl
