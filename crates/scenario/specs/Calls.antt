-- What the reader and the writer answer, and what they leave in lent lists.
use Rattle.std.specs.Prelude.{◌≡◌, Bool, ◌&&◌, not, cond, List, [], ◌∷◌, ◌++◌, ℕ, ◌*◌, min, ltb, leb, eqb, length, drop, Result, Ok, Err}
use Rattle.eikonal.specs.Order.{Cause, caused, none, first_of}
use Rattle.eikonal.specs.Refusals.{Handed, board_causes, cells_of, begins_of}
use Rattle.eikonal.specs.Ledger.{answered}
use Rattle.eikonal.specs.Order.{Refusal}
use Rattle.eikonal.specs.Told.{refusal_of}
use Rattle.eikonal.specs.declared.refused.Refusal as code
use Rattle.eikonal.specs.declared.Reply.{Reply}
use Rattle.scenario.specs.File.{file_of, head_in, held, starts_in, file_causes}
use Rattle.scenario.specs.Turns.{turn_refusal}
use Rattle.scenario.specs.declared.Head.{Head}
use Rattle.scenario.specs.declared.Scenario.{Scenario}

-- a list that is lent to a call begins with what the call enters, and its later entries stay; a refused call leaves it as it was
unfoldable pub filled : (number : ℕ) → (entered old : List ℕ) → List ℕ
filled k xs old = cond (eqb k 0) (xs ++ drop (length xs) old) old

-- THE READER: 14 is for a slowness list under N and start lists under q
unfoldable pub room_good : Head → (slows starts : ℕ) → Bool
room_good x n q = leb (x.width * x.height * x.storeys) n && leb x.starts q

unfoldable pub reader_causes : List ℕ → (slows starts : ℕ) → List Cause
reader_causes f n q = file_causes f ++ caused 14 (not (room_good (head_in f) n q)) ∷ []

unfoldable pub reader_refusal : List ℕ → (slows starts : ℕ) → Refusal
reader_refusal f n q = first_of (reader_causes f n q)

unfoldable pub scenario : Refusal → (width height storeys ticks ground starts : ℕ) → Scenario
scenario k w h s t g q = record { number = k.number; width = w; height = h; storeys = s; ticks = t; ground = g; starts = q; place = k.place }

unfoldable pub scenario_of : Head → Scenario
scenario_of x = scenario none x.width x.height x.storeys x.ticks x.ground x.starts

unfoldable pub reader_answer : Refusal → List ℕ → Scenario
reader_answer k f = cond (eqb k.number 0) (scenario_of (head_in f)) (scenario k 0 0 0 0 0 0)

-- an outcome, as the C struct has it: the rest of a head, or a refusal and zeros
abbrev pub scenario_told : Result Head code.Refusal → Scenario
scenario_told (Ok x) = scenario_of x
scenario_told (Err r) = scenario (refusal_of r) 0 0 0 0 0 0

pub record Reads (f slow slow-now cells cells-now begins begins-now : List ℕ) (x : Scenario) : Type 0 where
  pub answers : x ≡ reader_answer (reader_refusal f (length slow) (min (length cells) (length begins))) f
  pub slow_holds : slow-now ≡ filled x.number (held f).slow slow
  pub cells_hold : cells-now ≡ filled x.number (cells_of (starts_in f)) cells
  pub begins_hold : begins-now ≡ filled x.number (begins_of (starts_in f)) begins

-- THE WRITER: the board's causes, with the ground's pair in front of its own and 3 behind 2; 14 is for an output that the file does not fit
unfoldable pub written : Handed → (ticks ground : ℕ) → List ℕ
written p t g = file_of t g p.board

unfoldable pub writer_causes : Handed → (ticks ground out : ℕ) → List Cause
writer_causes p t g n =
    board_causes p (g ∷ p.board.slow) (turn_refusal t) none ++ caused 14 (ltb n (length (written p t g))) ∷ []

unfoldable pub writer_refusal : Handed → (ticks ground out : ℕ) → Refusal
writer_refusal p t g n = first_of (writer_causes p t g n)

pub record Writes (p : Handed) (ticks ground : ℕ) (out out-now : List ℕ) (x : Reply) : Type 0 where
  pub answers : x ≡ answered (writer_refusal p ticks ground (length out)) (length (written p ticks ground))
  pub leaves : out-now ≡ filled x.number (written p ticks ground) out
