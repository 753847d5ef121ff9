-- What is promised where one tile covers the board. Each statement is a type; proofs/Promises.antt has their proofs.
use Rattle.std.specs.Prelude.{◌≡◌, true, List, ℕ, suc, ◌+◌, ◌*◌, ◌-◌, ◌≤◌, min}
use Rattle.eikonal.specs.Board.{Board, size, solved, marched, largest}
use Rattle.eikonal.specs.Tiles.{round, after_rounds, rounds}
use Rattle.eikonal.specs.Sides.{march_sides, round_sides, sides_after}
use Rattle.eikonal.specs.Refusals.{Handed}
use Rattle.eikonal.specs.Ledger.{call}
use Rattle.eikonal.specs.Entry.{Lent, Says}
use Rattle.eikonal.specs.Promise.{board_good}
use Rattle.eikonal.specs.declared.Reply.{Reply}
use Rattle.eikonal.specs.declared.Job.TheVariants.{Run}
use Rattle.one_tile.specs.Rounds.{strides, exact_rounds}

-- A ROUND is the march to its bound, in times and sides, whatever times are stored
unfoldable pub OneTileRoundIsMarch : Type 0
OneTileRoundIsMarch =
    (b : Board) (tw th m : ℕ) (stored : List ℕ) → board_good b ≡ true → b.wide ≤ tw → b.high ≤ th → m ≤ largest →
    (round b tw th m stored ≡ marched b m) × (round_sides b tw th m stored ≡ march_sides b m)

-- so that is what a tile run holds after each round
unfoldable pub OneTileHolds : Type 0
OneTileHolds =
    (b : Board) (tw th s h j : ℕ) → board_good b ≡ true → b.wide ≤ tw → b.high ≤ th → h ≤ largest →
    (after_rounds (suc j) b tw th s h ≡ marched b (min (suc j * s) h)) × (sides_after (suc j) b tw th s h ≡ march_sides b (min (suc j * s) h))

-- THE ROUNDS of a tile run, exactly
unfoldable pub OneTileRounds : Type 0
OneTileRounds =
    (b : Board) (tw th s h : ℕ) → board_good b ≡ true → b.wide ≤ tw → b.high ≤ th → 1 ≤ s → h ≤ largest →
    rounds b tw th s h ≡ exact_rounds s h (solved b)

-- K of them, known before the run, where the last span starts past every time that a board of N cells can have: a start is at most 1,000,000, and each cell
-- after the first adds at most 4,095
unfoldable pub OneTileBeforehand : Type 0
OneTileBeforehand =
    (b : Board) (tw th s h : ℕ) → board_good b ≡ true → b.wide ≤ tw → b.high ≤ th → 1 ≤ s → h ≤ largest →
    995905 + 4095 * size b ≤ (strides s h - 1) * s →
    rounds b tw th s h ≡ strides s h

-- A TILE RUN that is accepted counts them, over records as over plain lists: by the board's times, and by those that it leaves
unfoldable pub OneTileRunCounts : Type 0
OneTileRunCounts =
    (p : Handed) (tw th s z n w : ℕ) (os : List ℕ) (x : Reply) (l m : Lent) →
    Says (call p (Run tw th s z) os n w) x l m → x.number ≡ 0 → p.board.wide ≤ tw → p.board.high ≤ th →
    (x.count ≡ exact_rounds s z (solved p.board)) × (x.count ≡ exact_rounds s z m.sheet.times)
