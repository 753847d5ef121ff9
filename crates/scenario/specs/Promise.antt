-- What is promised of the scenario file and of turns. Each statement is a type; proofs/Promises.antt has their proofs.
use Rattle.std.specs.Prelude.{◌≡◌, true, List, [], ◌∷◌, ◌++◌, ℕ, ◌+◌, ◌*◌, ◌≤◌, ◌<◌, length, take, drop}
use Rattle.eikonal.specs.Board.{Board, size, largest}
use Rattle.eikonal.specs.Order.{InOrder, none}
use Rattle.eikonal.specs.Refusals.{Handed, house_refusal, board_refusal, by_lists}
use Rattle.eikonal.specs.Ledger.{answer}
use Rattle.eikonal.specs.Promise.{FirstAtFault}
use Rattle.eikonal.specs.declared.Reply.{Reply}
use Rattle.scenario.specs.Bytes.{Bytes}
use Rattle.scenario.specs.File.{file_of, head_in, held, ticks_good, file_refusal}
use Rattle.scenario.specs.Calls.{reader_causes, Reads, writer_causes, Writes, scenario}
use Rattle.scenario.specs.Turns.{turn_of, to_go}
use Rattle.scenario.specs.declared.Scenario.{Scenario}

-- EVERY ACCEPTED FILE is the file of what it holds
unfoldable pub AcceptedIsFileOf : Type 0
AcceptedIsFileOf =
    (f : List ℕ) → Bytes f → (file_refusal f).number ≡ 0 → f ≡ file_of (head_in f).ticks (head_in f).ground (held f)

-- so a board, its ticks and its ground have one file
unfoldable pub OneFile : Type 0
OneFile =
    (e f : List ℕ) → Bytes e → Bytes f → (file_refusal e).number ≡ 0 → (file_refusal f).number ≡ 0 →
    held e ≡ held f → (head_in e).ticks ≡ (head_in f).ticks → (head_in e).ground ≡ (head_in f).ground → e ≡ f

-- THE FILE OF A GOOD BOARD, with a ground that is no cause of refusal, is accepted, and holds that board
unfoldable pub FileOfIsAccepted : Type 0
FileOfIsAccepted =
    (b : Board) (t g : ℕ) (f : List ℕ) → (board_refusal b).number ≡ 0 → ticks_good t ≡ true →
    (house_refusal b.wide b.high b.storeys (g ∷ [])).number ≡ 0 →
    f ≡ file_of t g b → ((file_refusal f).number ≡ 0) × (held f ≡ b) × ((head_in f).ticks ≡ t) × ((head_in f).ground ≡ g)

-- READ, THEN WRITTEN with the same ground, an accepted file has the same bytes. The lists that were lent may be longer than needed
unfoldable pub ReadThenWrite : Type 0
ReadThenWrite =
    (f slow slow-now cells cells-now begins begins-now : List ℕ) (x : Scenario) (out out-now : List ℕ) (y : Reply) → Bytes f →
    Reads f slow slow-now cells cells-now begins begins-now x → x.number ≡ 0 →
    Writes (by_lists x.width x.height x.storeys
    (take (x.width * x.height * x.storeys) slow-now) (take x.starts cells-now) (take x.starts begins-now))
    x.ticks x.ground out out-now y →
    length f ≤ length out → (y ≡ answer none (length f)) × (out-now ≡ f ++ drop (length f) out)

-- WRITTEN, THEN READ into lists that are long enough, a board is the same board
unfoldable pub WriteThenRead : Type 0
WriteThenRead =
    (w h storeys t g : ℕ) (slow cells begins out out-now : List ℕ) (y : Reply) (s s-now c c-now b b-now : List ℕ) (x : Scenario) →
    Writes (by_lists w h storeys slow cells begins) t g out out-now y → y.number ≡ 0 → Reads (take y.count out-now) s s-now c c-now b b-now x →
    length slow ≤ length s → length cells ≤ length c → length cells ≤ length b →
    (x ≡ scenario none w h storeys t g (length cells)) × (s-now ≡ slow ++ drop (length slow) s)
    × (c-now ≡ cells ++ drop (length cells) c) × (b-now ≡ begins ++ drop (length begins) b)

-- THE CAUSES that the reader and the writer look for follow the one order
unfoldable pub ReaderInOrder : Type 0
ReaderInOrder = (f : List ℕ) (slows starts : ℕ) → InOrder (reader_causes f slows starts)

unfoldable pub WriterInOrder : Type 0
WriterInOrder = (p : Handed) (t g out : ℕ) → InOrder (writer_causes p t g out)

-- THE PLACE that the reader and the writer answer is that of the first start at fault
unfoldable pub ReaderPlace : Type 0
ReaderPlace =
    (f slow slow-now cells cells-now begins begins-now : List ℕ) (x : Scenario) → Reads f slow slow-now cells cells-now begins begins-now x →
    FirstAtFault (size (held f)) (held f).starts x.number x.place

unfoldable pub WriterPlace : Type 0
WriterPlace =
    (p : Handed) (t g : ℕ) (out out-now : List ℕ) (y : Reply) → Writes p t g out out-now y →
    FirstAtFault (size p.board) p.board.starts y.number y.place

-- THE TURN OF A TIME that is not never closes then, or less than a turn later: turn × ticks is exactly the time and the ticks to go
unfoldable pub TurnCloses : Type 0
TurnCloses = (t k : ℕ) → 1 ≤ k → t ≤ largest → (turn_of t k * k ≡ t + to_go t k) × (to_go t k < k)

-- no other turn and no other ticks to go meet these two
unfoldable pub OneTurn : Type 0
OneTurn = (t k n g : ℕ) → t ≤ largest → n * k ≡ t + g → g < k → (n ≡ turn_of t k) × (g ≡ to_go t k)
