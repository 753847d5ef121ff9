-- The scenario file: its bytes, what it holds, and its refusals ("The scenario file" and "Turned down" of document 01).
use Rattle.std.specs.Prelude.{Bool, ◌&&◌, not, List, [], ◌∷◌, ◌++◌, map, ℕ, ◌+◌, ◌*◌, leb, eqb, length, drop}
use Rattle.eikonal.specs.Board.{Board, board_of, size}
use Rattle.eikonal.specs.declared.Start.{Start}
use Rattle.eikonal.specs.Order.{Cause, caused, first_of}
use Rattle.eikonal.specs.Refusals.{within, sides_good, pair_causes, start_causes}
use Rattle.eikonal.specs.Order.{Refusal}
use Rattle.scenario.specs.Bytes.{two, four, two_bytes, four_bytes, records, bytes_of}
use Rattle.scenario.specs.declared.Head.{Head}
use Rattle.scenario.specs.declared.Run.{Run}
use Rattle.scenario.specs.Runs.{run, painted, runs_good, runs_of}

-- HOW MANY BYTES a head, a run and a start have; where so many runs end, and where the file does
abbrev pub head_size : ℕ
head_size = 20

abbrev pub run_size : ℕ
run_size = 12

abbrev pub start_size : ℕ
start_size = 8

abbrev pub runs_end : (runs : ℕ) → ℕ
runs_end r = head_size + run_size * r

abbrev pub file_size : (runs starts : ℕ) → ℕ
file_size r q = runs_end r + start_size * q

-- THEIR BYTES
unfoldable pub head_bytes : Head → List ℕ
head_bytes x =
    two_bytes x.width ++ two_bytes x.height ++ two_bytes x.storeys ++ two_bytes x.ticks ++ four_bytes x.ground ++ four_bytes x.runs
    ++ four_bytes x.starts

unfoldable pub run_bytes : Run → List ℕ
run_bytes x = four_bytes x.offset ++ four_bytes x.long ++ four_bytes x.slow

unfoldable pub start_bytes : Start → List ℕ
start_bytes x = four_bytes x.cell ++ four_bytes x.time

-- the head of a board with so many starts, and all bytes in front of these
unfoldable pub head_of : (w h storeys ticks ground : ℕ) → (slow : List ℕ) → (starts : ℕ) → Head
head_of w h s t g ss q = record { width = w; height = h; storeys = s; ticks = t; ground = g; runs = length (runs_of g ss); starts = q }

unfoldable pub front : Head → (slow : List ℕ) → List ℕ
front x ss = head_bytes x ++ bytes_of run_bytes (runs_of x.ground ss)

-- THE ONE FILE that fits a board, its ticks per turn and its ground
unfoldable pub file_of : (ticks ground : ℕ) → Board → List ℕ
file_of t g b =
    front (head_of b.wide b.high b.storeys t g b.slow (length b.starts)) b.slow ++ bytes_of start_bytes b.starts

-- WHAT A FILE HOLDS
unfoldable pub head_in : List ℕ → Head
head_in f = record {
  width = two f;
  height = two (drop 2 f);
  storeys = two (drop 4 f);
  ticks = two (drop 6 f);
  ground = four (drop 8 f);
  runs = four (drop 12 f);
  starts = four (drop 16 f);
}

abbrev pub start_count : List ℕ → ℕ
start_count f = (head_in f).starts

unfoldable pub run_in : List ℕ → Run
run_in bs = run (four bs) (four (drop 4 bs)) (four (drop 8 bs))

unfoldable pub start_in : List ℕ → Start
start_in bs = record { cell = four bs; time = four (drop 4 bs) }

unfoldable pub runs_in : List ℕ → List Run
runs_in f = records run_size run_in (head_in f).runs (drop head_size f)

unfoldable pub starts_in : List ℕ → List Start
starts_in f = records start_size start_in (head_in f).starts (drop (runs_end (head_in f).runs) f)

unfoldable pub held : List ℕ → Board
held f =
    let x = head_in f in
    board_of x.width x.height x.storeys (painted x.ground 0 (x.width * x.height * x.storeys) (runs_in f)) (starts_in f)

-- WHY A FILE IS REFUSED: the causes in the order in which they are looked for
unfoldable pub ticks_good : ℕ → Bool
ticks_good t = within 1 65535 t

unfoldable pub length_good : List ℕ → Bool
length_good f = leb head_size (length f) && eqb (length f) (file_size (head_in f).runs (head_in f).starts)

-- 1, 2: its length, then the sides
unfoldable pub front_causes : List ℕ → List Cause
front_causes f = caused 1 (not (length_good f)) ∷ caused 2 (not (sides_good (head_in f).width (head_in f).height)) ∷ []

-- 3; 5, 21, 23 of the ground's and all runs' slownesses; 6, the rules of runs; 7, 18, 8, 9 are those of the board that it holds
unfoldable pub rest_causes : List ℕ → List Cause
rest_causes f =
    let x = head_in f in
    let g = x.ground in
    caused 3 (not (ticks_good x.ticks))
    ∷ (pair_causes x.width x.height x.storeys (g ∷ map (λ y. y.slow) (runs_in f))
    ++ caused 6 (not (runs_good (size (held f)) g 0 g (runs_in f))) ∷ start_causes (held f))

unfoldable pub file_causes : List ℕ → List Cause
file_causes f = front_causes f ++ rest_causes f

unfoldable pub file_refusal : List ℕ → Refusal
file_refusal f = first_of (file_causes f)
