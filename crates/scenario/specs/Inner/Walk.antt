-- The runs and starts behind a file's head, and starts looked up among sorted runs, both in one walk. No public promise rests on these.
use Rattle.std.specs.Prelude.{◌≡◌, Bool, false, ◌||◌, cond, List, [], ◌∷◌, ℕ, ◌+◌, ◌-◌, ◌*◌, ◌/◌, ◌≤◌, leb, eqb, length, drop}
use Rattle.eikonal.specs.declared.Start.{Start}
use Rattle.scenario.specs.declared.Head.{Head}
use Rattle.scenario.specs.declared.Run.{Run}
use Rattle.scenario.specs.Bytes.{records}
use Rattle.scenario.specs.Runs.{end}
use Rattle.scenario.specs.File.{head_size, run_size, start_size, runs_end, file_size, head_in, run_in, start_in}

-- a file as long as its head says, with sides that a board may have
pub record Fits (x : Head) (f : List ℕ) : Type 0 where
  pub head : x ≡ head_in f
  pub long : length f ≡ file_size x.runs x.starts
  pub wide : x.width ≤ 256
  pub high : x.height ≤ 256

-- the runs and the starts behind it
abbrev pub runs_by : Head → List ℕ → List Run
runs_by x f = records run_size run_in x.runs (drop head_size f)

abbrev pub starts_by : Head → List ℕ → List Start
starts_by x f = records start_size start_in x.starts (drop (runs_end x.runs) f)

-- the starts that bytes hold from end to end
abbrev pub starts_whole : List ℕ → List Start
starts_whole bs = records start_size start_in (length bs / start_size) bs

-- the runs of a file from the i-th on, of n
abbrev pub runs_onward : List ℕ → (n i : ℕ) → List Run
runs_onward f n i = records run_size run_in (n - i) (drop (runs_end i) f)

-- the starts of a file from the i-th on, of n that begin at a base
abbrev pub starts_onward : List ℕ → (base n i : ℕ) → List Start
starts_onward f a n i = records start_size start_in (n - i) (drop (a + start_size * i) f)

-- without the runs in front that end at a cell or before it
unfoldable pub past : (cell : ℕ) → List Run → List Run
past c [] = []
past c (x ∷ xs) = cond (leb (end x) c) (past c xs) (x ∷ xs)

-- the slowness of a cell that lies in the first run or in front of it
unfoldable pub near : (ground cell : ℕ) → List Run → ℕ
near g c [] = g
near g c (x ∷ xs) = cond (leb x.offset c) x.slow g

unfoldable pub wall_among : (ground : ℕ) → List Run → List Start → Bool
wall_among g xs [] = false
wall_among g xs (s ∷ ss) = eqb (near g s.cell (past s.cell xs)) 0 || wall_among g xs ss
