-- WHAT `rings` PRINTS, byte for byte: "The scenario file" and "Turned down" of document 01, turns as Card 3 of document 02 has them, storeys as Card 12.
use Rattle.std.specs.Prelude.{◌≡◌, cond, List, [], ◌∷◌, ◌++◌, ℕ, ◌+◌, ◌%◌, ◌≤◌, ltb, eqb, length, take, drop}
use Rattle.eikonal.specs.Board.{never, marched}
use Rattle.eikonal.specs.Order.{Cause, caused, first_of}
use Rattle.eikonal.specs.Order.{Refusal}
use Rattle.scenario.specs.File.{file_size, head_in, held}
use Rattle.scenario.specs.declared.Head.{Head}
use Rattle.scenario.specs.Turns.{turn_of}
use Rattle.tablet.specs.Small.{horizon, small_causes}
use Rattle.rings_lines.specs.Text.{decimal}

-- the turn of a time, rounded up, `-` for never. 32 is a space, 10 a newline, 45 is `-`
unfoldable pub turn_text : (ticks time : ℕ) → List ℕ
turn_text k t = cond (eqb (turn_of t k) never) (45 ∷ []) (decimal (turn_of t k))

-- behind the field of cell c: a newline where a row ends, else a space
unfoldable pub behind : (wide c : ℕ) → ℕ
behind w c = cond (eqb ((c + 1) % w) 0) 10 32

-- a field for each time, from cell c on: row after row and storey after storey
unfoldable pub rows : (wide ticks c : ℕ) → (times : List ℕ) → List ℕ
rows w k c [] = []
rows w k c (t ∷ ts) = (turn_text k t ++ (behind w c ∷ [])) ++ rows w k (c + 1) ts

unfoldable pub head_line : Head → List ℕ
head_line x = (decimal x.width ++ (32 ∷ [])) ++ ((decimal x.height ++ (32 ∷ [])) ++ (decimal x.ticks ++ (10 ∷ [])))

-- `refused`, a space and the number
unfoldable pub refused_line : (number : ℕ) → List ℕ
refused_line n = (114 ∷ 101 ∷ 102 ∷ 117 ∷ 115 ∷ 101 ∷ 100 ∷ 32 ∷ []) ++ (decimal n ++ (10 ∷ []))

-- 20,500 bytes: a board of 1,024 cells can have as many runs and starts
abbrev pub longest : ℕ
longest = file_size 1024 1024

-- a longer file is 15 before anything else of it is looked at; behind that the causes of a small file follow the one order
unfoldable pub rings_causes : List ℕ → List Cause
rings_causes f = caused 15 (ltb longest (length f)) ∷ small_causes f

unfoldable pub rings_refusal : List ℕ → Refusal
rings_refusal f = first_of (rings_causes f)

unfoldable pub board_lines : List ℕ → List ℕ
board_lines f =
    let x = head_in f in
    head_line x ++ rows x.width x.ticks 0 (marched (held f) horizon)

-- THE LINES of a file
unfoldable pub lines : List ℕ → List ℕ
lines f = cond (eqb (rings_refusal f).number 0) (board_lines f) (refused_line (rings_refusal f).number)

-- room for any lines: 33 bytes in front and 11 a cell are enough
abbrev pub room : ℕ
room = 11300

-- a list with that much room begins with the lines, and its later bytes stay; a shorter one stays whole, and the answer is 0
pub record RingsSays (f out out-now : List ℕ) (r : ℕ) : Type 0 where
  pub answers : r ≡ cond (ltb (length out) room) 0 (length (lines f))
  pub leaves : out-now ≡ cond (ltb (length out) room) out (lines f ++ drop (length (lines f)) out)
  -- these two follow from the others: whoever lends the first r bytes on finds them here
  pub within : r ≤ length out-now
  pub counts : r ≡ length (take r out-now)
