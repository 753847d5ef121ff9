-- What is promised of scenario files that are read into start records, and written from them. Each statement is a type;
-- proofs/StartRecords.antt has their proofs.
use Rattle.std.specs.Prelude.{◌≡◌, List, ◌++◌, ℕ, ◌*◌, ◌≤◌, length, take, drop}
use Rattle.eikonal.specs.Order.{none}
use Rattle.eikonal.specs.Refusals.{by_lists, by_records, cells_of, begins_of}
use Rattle.eikonal.specs.Ledger.{answer}
use Rattle.eikonal.specs.declared.Reply.{Reply}
use Rattle.eikonal.specs.declared.Start.{Start}
use Rattle.scenario.specs.Bytes.{Bytes}
use Rattle.scenario.specs.Calls.{Reads, Writes, scenario}
use Rattle.scenario.specs.declared.Scenario.{Scenario}

-- RECORDS AND PLAIN LISTS are filled alike, and written alike
unfoldable pub SameRead : Type 0
SameRead =
    (f slow s s' c c' b b' : List ℕ) (ys ys' : List Start) (x x' : Scenario) → c ≡ cells_of ys → b ≡ begins_of ys →
    Reads f slow s (cells_of ys) (cells_of ys') (begins_of ys) (begins_of ys') x → Reads f slow s' c c' b b' x' →
    (x ≡ x') × (s ≡ s') × (cells_of ys' ≡ c') × (begins_of ys' ≡ b')

unfoldable pub SameWrite : Type 0
SameWrite =
    (w h storeys t g : ℕ) (slow c b out o o' : List ℕ) (ys : List Start) (y y' : Reply) → c ≡ cells_of ys → b ≡ begins_of ys →
    Writes (by_records w h storeys slow ys) t g out o y → Writes (by_lists w h storeys slow c b) t g out o' y' →
    (y ≡ y') × (o ≡ o')

-- READ into records, THEN WRITTEN from them with the same ground, an accepted file has the same bytes
unfoldable pub RecordsReadThenWrite : Type 0
RecordsReadThenWrite =
    (f slow slow-now : List ℕ) (ys ys-now : List Start) (x : Scenario) (out out-now : List ℕ) (y : Reply) → Bytes f →
    Reads f slow slow-now (cells_of ys) (cells_of ys-now) (begins_of ys) (begins_of ys-now) x → x.number ≡ 0 →
    Writes (by_records x.width x.height x.storeys (take (x.width * x.height * x.storeys) slow-now) (take x.starts ys-now))
    x.ticks x.ground out out-now y →
    length f ≤ length out → (y ≡ answer none (length f)) × (out-now ≡ f ++ drop (length f) out)

-- WRITTEN from records, THEN READ into records that are long enough, a board is the same board
unfoldable pub RecordsWriteThenRead : Type 0
RecordsWriteThenRead =
    (w h storeys t g : ℕ) (slow : List ℕ) (zs : List Start) (out out-now : List ℕ) (y : Reply) (s s-now : List ℕ) (ys ys-now : List Start)
    (x : Scenario) →
    Writes (by_records w h storeys slow zs) t g out out-now y → y.number ≡ 0 →
    Reads (take y.count out-now) s s-now (cells_of ys) (cells_of ys-now) (begins_of ys) (begins_of ys-now) x →
    length slow ≤ length s → length zs ≤ length ys →
    (x ≡ scenario none w h storeys t g (length zs)) × (s-now ≡ slow ++ drop (length slow) s) × (ys-now ≡ zs ++ drop (length zs) ys)
