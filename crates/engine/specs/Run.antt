-- A tile run between two rounds. Only internal contracts cite these.
use Rattle.std.specs.Prelude.{◌≡◌, ◌≢◌, List, ℕ, suc, ◌*◌, ◌≤◌, ◌<◌, min, length, get_or}
use Rattle.eikonal.specs.Board.{Board, board_of, size, start_time, time}
use Rattle.eikonal.specs.declared.Start.{Start}
use Rattle.eikonal.specs.Tiles.{altered, after_rounds, rounds}
use Rattle.eikonal.specs.Inner.Good.{Good}
use Rattle.front.specs.Front.{Tied, Settled, Upheld, Drift}
use Rattle.front.specs.Board.{rule_by, tentative, Work, keys}
use Rattle.front.specs.State.{Held}
use Rattle.front.specs.declared.Shape.{Shape}

abbrev pub starts : Board → ℕ → ℕ
starts b c = start_time c b.starts

-- BETWEEN ROUNDS: j rounds are worked out, and the front stands ready for the next
pub record Between (b : Board) (tw th s h j : ℕ) (ts : List ℕ) (y k : ℕ → ℕ) : Type 0 where
  pub is : ts ≡ after_rounds j b tw th s h
  pub tied : Tied (size b) y k
  pub settled : Settled (size b) (rule_by b tw th ts) y k
  pub upheld : Upheld (size b) (rule_by b tw th ts) (starts b) y
  pub drift : (note : ℕ → ℕ) → Drift (size b) (time ts) y k 0 0 note

-- the board with its starts
abbrev pub whole : Shape → (slow : List ℕ) → List Start → Board
whole s ss xs = board_of s.width s.height s.storeys ss xs

-- after j rounds, with the work list at hand
pub record AtRound (s : Shape) (slow : List ℕ) (xs : List Start) (stride horizon j : ℕ) (times : List ℕ) (work : Work) : Type 0 where
  pub held : Held s.cells work
  pub between : Between (whole s slow xs) s.across s.down stride horizon j times (tentative work.list s.cells) (keys work)

-- the same, of some legal board that has the sides and slownesses
pub record Amid (s : Shape) (slow : List ℕ) (stride horizon j : ℕ) (times : List ℕ) (work : Work) : Type 0 where
  pub starts : List Start
  pub good : Good (whole s slow starts)
  pub at : AtRound s slow starts stride horizon j times work

-- ONE ROUND MORE, in which m cells were taken: none just if the round alters nothing
pub record OneRound (s : Shape) (slow : List ℕ) (xs : List Start) (stride horizon j m : ℕ) (times times' : List ℕ) (work work' : Work) : Type 0 where
  pub long : length times' ≡ length times
  pub kept : length work'.list ≡ length work.list
  pub past : (i : ℕ) → 4 * s.cells ≤ i → get_or work'.list i 0 ≡ get_or work.list i 0
  pub next : AtRound s slow xs stride horizon (suc j) times' work'
  pub idle : m ≡ 0 → after_rounds (suc j) (whole s slow xs) s.across s.down stride horizon
      ≡ after_rounds j (whole s slow xs) s.across s.down stride horizon
  pub busy : 1 ≤ m → altered (after_rounds j (whole s slow xs) s.across s.down stride horizon)
      (after_rounds (suc j) (whole s slow xs) s.across s.down stride horizon) ≢ 0

-- a leap: rounds up to r are before the least key and before the horizon
pub record Leapt (least done stride horizon r : ℕ) : Type 0 where
  pub up : done ≤ r
  pub short : done < r → r * stride < min least horizon

-- A TILE RUN WITH A LIMIT: it counts the lesser of the limit and the number of rounds, and holds the times after so many
pub record Ran (s : Shape) (slow : List ℕ) (xs : List Start) (stride horizon limit r : ℕ) (times times' work work' : List ℕ) : Type 0 where
  pub counted : r ≡ min limit (rounds (whole s slow xs) s.across s.down stride horizon)
  pub holds : times' ≡ after_rounds r (whole s slow xs) s.across s.down stride horizon
  pub long : length times' ≡ length times
  pub kept : length work' ≡ length work
  pub past : (i : ℕ) → 4 * s.cells ≤ i → get_or work' i 0 ≡ get_or work i 0

-- WHATEVER STARTS the work list stands for: one round more, and a run with a limit
abbrev pub RoundsOn : Shape → (slow : List ℕ) → (stride horizon j m : ℕ) → (times times' : List ℕ) → (work work' : Work) → Type 0
RoundsOn s ss S H j m ts ts' v v' = (xs : List Start) → Good (whole s ss xs) → AtRound s ss xs S H j ts v → OneRound s ss xs S H j m ts ts' v v'

abbrev pub Runs : Shape → (slow : List ℕ) → (stride horizon limit r : ℕ) → (times times' : List ℕ) → (work : Work) → (work' : List ℕ) → Type 0
Runs s ss S H limit r ts ts' v v' = (xs : List Start) → Good (whole s ss xs) → AtRound s ss xs S H 0 ts v → Ran s ss xs S H limit r ts ts' v.list v'
