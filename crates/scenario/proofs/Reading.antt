-- The reader's call: what it has when its number is 0, and what its answer and lists come to.
use mathlib.Core.Path.{◌≡◌, sym, ap, ◌∙◌}
use mathlib.Core.Bool.{true, not}
use mathlib.Core.List.{List, [], ◌∷◌}
use Prim.Native.Nat.{ℕ, ◌*◌, ◌≤◌, min}
use native.Mathlib.Omega.{arith}
use lib.Dec.{leb}
use lib.ListN.{length, drop, length-map}
use borrow.Author.Tests.{leb-true, not-false}
use Rattle.eikonal.specs.Board.{size}
use Rattle.eikonal.specs.Refusals.{cells_of, begins_of}
use Rattle.std.specs.Prelude.{Result, Ok, Err, IfOk}
use Rattle.eikonal.specs.Order.{Refusal, caused, or_else, first_of}
use Rattle.eikonal.specs.Told.{told}
use Rattle.eikonal.specs.declared.refused.Refusal as code
use Rattle.eikonal.proofs.Outcomes.{numbered}
use Rattle.eikonal.proofs.Causes.{NoneMet, none-met, neither, number_is, first-append}
use Rattle.eikonal.proofs.Good.{and-true, sides-within}
use Rattle.scenario.specs.declared.Head.{Head}
use Rattle.scenario.specs.declared.Scenario.{Scenario}
use Rattle.scenario.specs.Bytes.{records}
use Rattle.scenario.specs.File.{head_size, run_size, start_size, file_size}
use Rattle.scenario.specs.File.{head_in, run_in, start_in, start_count, runs_in, starts_in, held, file_causes, file_refusal}
use Rattle.scenario.specs.Calls.{filled, room_good, reader_causes, reader_refusal, scenario, scenario_of, scenario_told, reader_answer, Reads}
use Rattle.scenario.specs.Inner.Walk.{Fits}
use Rattle.scenario.proofs.Records.{length-records}
use Rattle.scenario.proofs.Painted.{length-painted}
use Rattle.scenario.proofs.Causes.{Headed, Accepted}
use Rattle.scenario.proofs.Answers.{reader-number, reader-zero, reader-refused}

pub slow_length : (f : List ℕ) → Accepted f → let x = head_in f in length (held f).slow ≡ x.width * x.height * x.storeys
unfolding held size
slow_length f a =
    let x = head_in f in
    length-painted (x.width * x.height * x.storeys) x.ground 0 x.ground (runs_in f) a.runs (omega arith) ∙ omega arith

pub count-starts : (f : List ℕ) → length (starts_in f) ≡ start_count f
unfolding starts_in
count-starts f = length-records start_size start_in (start_count f) _

pub count-cells : (f : List ℕ) → length (cells_of (starts_in f)) ≡ start_count f
unfolding cells_of
count-cells f = length-map (starts_in f) (λ x. x.cell) ∙ count-starts f

pub count-begins : (f : List ℕ) → length (begins_of (starts_in f)) ≡ start_count f
unfolding begins_of
count-begins f = length-map (starts_in f) (λ x. x.time) ∙ count-starts f

-- ---- what is read by a file's head
module _ (f : List ℕ) (x : Head) (e : x ≡ head_in f) where
  pub file_long : Headed f → length f ≡ file_size x.runs x.starts
  file_long h = rw e h.long

  pub sides_read : Headed f → (x.width ≤ 256) × (x.height ≤ 256)
  sides_read h = let s = sides-within _ _ h.sides in rw e (s.1, s.3)

  pub fits_read : Headed f → Fits x f
  fits_read h = let s = sides_read h in record { head = e; long = file_long h; wide = s.0; high = s.1 }

  pub cells_read : (n : ℕ) → n ≡ x.width * x.height * x.storeys → n ≡ size (held f)
  unfolding held size
  cells_read n p = rw e at p

  pub runs_read : (n : ℕ) → n ≡ x.runs → records run_size run_in n (drop head_size f) ≡ runs_in f
  unfolding runs_in
  runs_read n p = rw (p, e)

-- ---- the call
-- the file, then the room
pub reader_by_parts : (f : List ℕ) (n q : ℕ) → reader_refusal f n q ≡ or_else (file_refusal f) (first_of (caused 14 (not (room_good (head_in f) n q)) ∷ []))
unfolding reader_refusal reader_causes file_refusal
reader_by_parts f n q = first-append (file_causes f) (caused 14 _ ∷ [])

pub read_zero : (f : List ℕ) (n q : ℕ) → (reader_refusal f n q).number ≡ 0 → ((file_refusal f).number ≡ 0) × (room_good (head_in f) n q ≡ true)
unfolding NoneMet
read_zero f n q e =
    let r = neither _ _ (sym (number_is (reader_by_parts f n q)) ∙ e) in
    (r.0, not-false _ (none-met (caused 14 _ ∷ []) r.1).0)

-- a file that is accepted, with room for what it holds
pub record Room (f : List ℕ) (n q : ℕ) : Type 0 where
  pub accepted : (file_refusal f).number ≡ 0
  pub slows : size (held f) ≤ n
  pub starts : start_count f ≤ q

pub room : (f : List ℕ) (n q : ℕ) → (reader_refusal f n q).number ≡ 0 → Room f n q
unfolding room_good held size
room f n q z =
    let r = read_zero f n q z in
    let s = and-true (leb (size (held f)) n) (leb (start_count f) q) r.1 in
    record { accepted = r.0; slows = leb-true (size (held f)) n s.0; starts = leb-true (start_count f) q s.1 }

-- ---- an outcome, as the C struct has it
answer_told : (f : List ℕ) (k : Refusal) (x : Result Head code.Refusal) → told x ≡ k → IfOk x (λ h. Fits h f) → scenario_told x ≡ reader_answer k f
answer_told f k (Ok h) e fits = ap scenario_of fits.head ∙ sym (reader-zero k f (sym (number_is e)))
answer_told f k (Err r) e fits =
    ap (λ u. scenario u 0 0 0 0 0 0) e ∙ sym (reader-refused k f (λ z. numbered r.cause (number_is e ∙ z)))

-- lists that were filled as the outcome says
pub reads_so : (f slow slow-now cells cells-now begins begins-now : List ℕ) (x : Scenario) (q n : ℕ) (y : Result Head code.Refusal)
    → q ≡ min (length cells) (length begins) → told y ≡ reader_refusal f (length slow) q → IfOk y (λ h. Fits h f) → x ≡ scenario_told y
    → (told y).number ≡ n → slow-now ≡ filled (told y).number (held f).slow slow
    → cells-now ≡ filled n (cells_of (starts_in f)) cells → begins-now ≡ filled n (begins_of (starts_in f)) begins
    → Reads f slow slow-now cells cells-now begins begins-now x
reads_so f slow slow-now cells cells-now begins begins-now x q n y shorter e fits is zero s c b =
    let answers = is ∙ answer_told f _ y e fits in
    let number : (told y).number ≡ x.number = number_is e ∙ sym (ap (λ u. u.number) answers ∙ reader-number _ f) in
    record {
      answers = answers ∙ ap (λ u. reader_answer (reader_refusal f (length slow) u) f) shorter;
      slow_holds = s ∙ ap (λ u. filled u (held f).slow slow) number;
      cells_hold = c ∙ ap (λ u. filled u (cells_of (starts_in f)) cells) (sym zero ∙ number);
      begins_hold = b ∙ ap (λ u. filled u (begins_of (starts_in f)) begins) (sym zero ∙ number);
    }
