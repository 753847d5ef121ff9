-- The reader and the writer, one after the other, from what their contracts say.
use mathlib.Core.Path.{◌≡◌, refl, sym, ap, ap₂, ◌∙◌}
use mathlib.Core.Bool.{true}
use mathlib.Core.List.{List, ◌∷◌, ◌++◌}
use Prim.Native.Nat.{ℕ, ◌*◌, ◌≤◌, min}
use native.Mathlib.Omega.{arith}
use lib.ListN.{length, take, drop, length-map}
use lib.Seq.{take_at}
use borrow.Author.Tests.{eqb-true, le-ltb, le-leb}
use Rattle.eikonal.specs.Board.{size}
use Rattle.eikonal.specs.Order.{none}
use Rattle.eikonal.specs.Refusals.{Handed, handed, by_records, by_lists, starts_of, cells_of, begins_of}
use Rattle.eikonal.specs.Ledger.{answer}
use Rattle.eikonal.specs.Promise.{SameHanded, ListsAreRecords}
use Rattle.eikonal.specs.declared.Reply.{Reply}
use Rattle.eikonal.proofs.Causes.{NoneMet, none-met, unrefused, met-append, number_is}
use Rattle.eikonal.proofs.Good.{none_house}
use Rattle.eikonal.proofs.Answers.{answered-number, answered-zero}
use Rattle.eikonal.proofs.Ledger.{same-handed, lists_are_records}
use Rattle.scenario.specs.Bytes.{Bytes}
use Rattle.scenario.specs.File.{head_in, start_count, runs_in, starts_in, held, file_causes, file_refusal}
use Rattle.scenario.specs.Calls.{filled, scenario, scenario_of, room_good, reader_causes, reader_refusal, reader_answer, Reads}
use Rattle.scenario.specs.Calls.{written, writer_causes, writer_refusal, Writes}
use Rattle.scenario.specs.Promise.{AcceptedIsFileOf, FileOfIsAccepted, ReadThenWrite, WriteThenRead}
use Rattle.scenario.specs.declared.Scenario.{Scenario}
use Rattle.scenario.proofs.Slows.{good-among, ground_alone}
use Rattle.scenario.proofs.Painted.{painted-among}
use Rattle.scenario.proofs.Causes.{pass_ticks, Given, gives, board-taken, Accepted, accepted}
use Rattle.scenario.proofs.Answers.{reader-number, reader-zero, filled_in}
use Rattle.scenario.proofs.Reading.{slow_length, count-starts, count-cells, count-begins, read_zero}
use Rattle.scenario.proofs.Writing.{Taken, causes, took}
use Rattle.scenario.proofs.Accepted.{accepted-is-file_of}
use Rattle.scenario.proofs.Written.{file_of-is-accepted}

-- what a list that was lent begins with
taken : (k n : ℕ) (xs old now : List ℕ) → k ≡ 0 → length xs ≡ n → now ≡ filled k xs old → take n now ≡ xs
taken k n xs old now e l h = ap (take n) (h ∙ filled_in k xs old e) ∙ take_at xs (drop (length xs) old) n l

-- ---- READ, THEN WRITTEN
pub held-given : (f : List ℕ) → Accepted f → Given (handed (held f) true) ((head_in f).ground ∷ (held f).slow)
unfolding held size
held-given f a =
    let x = head_in f in
    let among = painted-among (x.width * x.height * x.storeys) x.ground (runs_in f) in
    record { sides = a.front.sides; paired = refl; long = slow_length f a; slows = good-among _ _ _ _ _ among a.slows; starts = a.starts }

-- its board as the reader hands it on, in plain lists
unfoldable pub held_lists : List ℕ → Handed
held_lists f =
    by_lists (head_in f).width (head_in f).height (head_in f).storeys (held f).slow (cells_of (starts_in f)) (begins_of (starts_in f))

pub held-handed : (f : List ℕ) → held_lists f ≡ handed (held f) true
unfolding held_lists SameHanded by_records held
held-handed f = same-handed (head_in f).width (head_in f).height (head_in f).storeys (held f).slow (starts_in f)

module _ (f : List ℕ) (h : Bytes f) (e : (file_refusal f).number ≡ 0) where
  held-written : written (held_lists f) (head_in f).ticks (head_in f).ground ≡ f
  unfolding written AcceptedIsFileOf
  held-written = rw (held-handed f) (sym (accepted-is-file_of f h e))

  held-refusal : (n : ℕ) → length f ≤ n → (writer_refusal (held_lists f) (head_in f).ticks (head_in f).ground n).number ≡ 0
  unfolding writer_refusal writer_causes NoneMet
  held-refusal n l =
      let a = accepted f e in
      let board = gives _ _ _ none (held-given f a) (pass_ticks _ a.ticks) refl in
      number_is (unrefused _ (met-append (causes (held_lists f) (head_in f).ticks (head_in f).ground) _
      (rw (held-handed f) board) (rw held-written (le-ltb n (length f) l), tt)))

-- what an accepted call of the writer leaves
wrote : (p : Handed) (t g : ℕ) (out out-now f : List ℕ) (y : Reply) → Writes p t g out out-now y → (writer_refusal p t g (length out)).number ≡ 0
    → written p t g ≡ f → (y ≡ answer none (length f)) × (out-now ≡ f ++ drop (length f) out)
unfolding answer
wrote p t g out out-now f y w e q =
    let is : y ≡ answer none (length f) = w.answers ∙ answered-zero _ _ e ∙ ap (λ u. answer none (length u)) q in
    (is, w.leaves ∙ rw q (filled_in y.number f out (ap (λ u. u.number) is)))

-- what an accepted call of the reader has read
record Read (f slow-now cells-now begins-now : List ℕ) (x : Scenario) : Type 0 where
  accepted : (file_refusal f).number ≡ 0
  is : x ≡ scenario_of (head_in f)
  slows : take ((head_in f).width * (head_in f).height * (head_in f).storeys) slow-now ≡ (held f).slow
  cells_are : take (start_count f) cells-now ≡ cells_of (starts_in f)
  begins_are : take (start_count f) begins-now ≡ begins_of (starts_in f)

read : (f slow slow-now cells cells-now begins begins-now : List ℕ) (x : Scenario) → Reads f slow slow-now cells cells-now begins begins-now x
    → x.number ≡ 0 → Read f slow-now cells-now begins-now x
read f slow slow-now cells cells-now begins begins-now x r z =
    let q = min (length cells) (length begins) in
    let k = reader_refusal f (length slow) q in
    let none : k.number ≡ 0 = sym (reader-number k f) ∙ ap (λ u. u.number) (sym r.answers) ∙ z in
    let e = (read_zero f (length slow) q none).0 in
    record {
      accepted = e;
      is = r.answers ∙ reader-zero k f none;
      slows = taken x.number _ (held f).slow slow slow-now z (slow_length f (accepted f e)) r.slow_holds;
      cells_are = taken x.number _ _ cells cells-now z (count-cells f) r.cells_hold;
      begins_are = taken x.number _ _ begins begins-now z (count-begins f) r.begins_hold;
    }

pub read_then_write : ReadThenWrite
unfolding ReadThenWrite scenario_of scenario held_lists
read_then_write f slow slow-now cells cells-now begins begins-now x out out-now y h r z w room =
    let d = read f slow slow-now cells cells-now begins begins-now x r z in
    wrote (held_lists f) (head_in f).ticks (head_in f).ground out out-now f y (rw (d.is, d.slows, d.cells_are, d.begins_are) at w)
    (held-refusal f h d.accepted (length out) room) (held-written f h d.accepted)

-- ---- WRITTEN, THEN READ
-- the file that was written, as the reader finds it
module _ (p : Handed) (t g : ℕ) (k : Taken p t g) where
  found : let f = written p t g in ((file_refusal f).number ≡ 0) × (held f ≡ p.board) × ((head_in f).ticks ≡ t) × ((head_in f).ground ≡ g)
  unfolding FileOfIsAccepted written
  found = file_of-is-accepted p.board t g (written p t g) (board-taken k.given) k.ticks
      (none_house _ _ _ _ (ground_alone _ _ _ g p.board.slow k.given.slows)) refl

  found-sides : let x = head_in (written p t g) in (x.width ≡ p.board.wide) × (x.height ≡ p.board.high) × (x.storeys ≡ p.board.storeys)
  unfolding held
  found-sides = (ap (λ u. u.wide) found.1, ap (λ u. u.high) found.1, ap (λ u. u.storeys) found.1)

  found-starts : starts_in (written p t g) ≡ p.board.starts
  unfolding held
  found-starts = ap (λ u. u.starts) found.1

  found-count : (head_in (written p t g)).starts ≡ length p.board.starts
  found-count = sym (count-starts (written p t g)) ∙ ap length found-starts

  found-refusal : (n q : ℕ) → length p.board.slow ≤ n → length p.board.starts ≤ q → (reader_refusal (written p t g) n q).number ≡ 0
  unfolding reader_refusal reader_causes room_good file_refusal NoneMet size
  found-refusal n q l m =
      let b = p.board in
      let room = le-leb (b.wide * b.high * b.storeys) n (omega (arith, k.given.long)) in
      number_is (unrefused _ (met-append (file_causes (written p t g)) _ (none-met _ found.0)
      (rw (found-sides.0, found-sides.1, found-sides.2, found-count, room, le-leb (length b.starts) q m) refl, tt)))

  found-answer : (n q : ℕ) → length p.board.slow ≤ n → length p.board.starts ≤ q → let f = written p t g in
      reader_answer (reader_refusal f n q) f ≡ scenario none p.board.wide p.board.high p.board.storeys t g (length p.board.starts)
  unfolding scenario_of
  found-answer n q l m =
      reader-zero _ (written p t g) (found-refusal n q l m) ∙ rw (found-sides.0, found-sides.1, found-sides.2, found.2, found.3, found-count) refl

-- a list that was lent begins with what was entered
begins_with : (n : ℕ) (xs ys old now : List ℕ) → n ≡ 0 → now ≡ filled n xs old → xs ≡ ys → now ≡ ys ++ drop (length ys) old
begins_with n xs ys old now z e q = e ∙ filled_in n xs old z ∙ ap (λ u. u ++ drop (length u) old) q

pub write_then_read : WriteThenRead
unfolding WriteThenRead ListsAreRecords by_lists cells_of answer scenario
write_then_read w h storeys t g slow cells begins out out-now y s s-now c c-now b b-now x wr z rd ls lc lb =
    let p = by_lists w h storeys slow cells begins in
    let taken : (writer_refusal p t g (length out)).number ≡ 0 = sym (answered-number _ _) ∙ ap (λ u. u.number) (sym wr.answers) ∙ z in
    let k = (took p t g (length out) taken).0 in
    let pair = lists_are_records cells begins (eqb-true _ _ k.given.paired) in
    let many = ap length pair.0 ∙ length-map (starts_of cells begins) (λ u. u.cell) in
    let done = wrote p t g out out-now (written p t g) y wr taken refl in
    let back : take y.count out-now ≡ written p t g =
    ap₂ take (ap (λ u. u.count) done.0) done.1 ∙ take_at (written p t g) _ (length (written p t g)) refl in
    let r = rw back at rd in
    let is = r.answers ∙ found-answer p t g k (length s) (min (length c) (length b)) ls (omega (arith, many)) in
    let zero = ap (λ u. u.number) is in (
      is ∙ ap (scenario none w h storeys t g) (sym many),
      begins_with x.number _ slow s s-now zero r.slow_holds (ap (λ u. u.slow) (found p t g k).1),
      begins_with x.number _ cells c c-now zero r.cells_hold (ap cells_of (found-starts p t g k) ∙ sym pair.0),
      begins_with x.number _ begins b b-now zero r.begins_hold (ap begins_of (found-starts p t g k) ∙ sym pair.1),
    )
