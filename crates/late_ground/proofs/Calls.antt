-- Running code: what two accepted calls leave, the second on a board that is retouched late.
use mathlib.Core.Path.{◌≡◌, refl, ap, ◌∙◌}
use mathlib.Core.List.{List, [], ◌∷◌, ◌++◌}
use Prim.Native.Nat.{ℕ, zero, suc, ◌≤◌}
use native.Mathlib.Omega.{arith}
use lib.ListN.{length, length-append}
use Rattle.eikonal.specs.Board.{Board, largest, size, all_never}
use Rattle.eikonal.specs.Tiles.{after_rounds}
use Rattle.eikonal.specs.Refusals.{Handed, job_causes, nothing_own}
use Rattle.eikonal.specs.Sides.{sides_after}
use Rattle.eikonal.specs.Ledger.{sheet, Call, call, call_board, refusal, entered, ledger_answer, times_after, sides_left, ledger, ledger_sides, Book, book}
use Rattle.eikonal.specs.Entry.{Lent, Says}
use Rattle.eikonal.specs.Promise.{single_rounds, single_round, Steps, RunIsRounds, EveryList}
use Rattle.eikonal.specs.declared.Reply.{Reply}
use Rattle.eikonal.specs.declared.Job.{Job}
use Rattle.eikonal.specs.declared.Job.TheVariants.{March, Round, Run}
use Rattle.eikonal.proofs.Causes.{NoneMet}
use Rattle.eikonal.proofs.Passes.{never-time}
use Rattle.eikonal.proofs.Accepted.{Fits, fits, not-refused, march_can, round-can, run-can}
use Rattle.eikonal.proofs.Ledger.{accepted-after, steps_long}
use Rattle.eikonal.proofs.Promises.{run_is_rounds, every_list}
use Rattle.late_ground.specs.LateGround.{retouched}
use Rattle.late_ground.specs.Promise.{march_sheet, run_sheet, round_sheet, GoesTo, last_left, LateCalls, LateRoundCalls, LateSingleRounds}
use Rattle.late_ground.proofs.Rounds.{none-early, march_early, round-early, run-early}

-- AN ACCEPTED CALL was handed a good board and leaves what is entered
module _ (c : Call) (x : Reply) (l m : Lent) (says : Says c x l m) (zero_number : x.number ≡ 0) where
  taken : (refusal c (length l.sheet.times)).number ≡ 0
  taken = not-refused c nothing_own x l m says zero_number

  call_fits : Fits c (length l.sheet.times)
  call_fits = fits c nothing_own _ taken

  call-leaves : m.sheet ≡ entered (call_board c) c.job l.sheet.times
  call-leaves = says.leaves ∙ accepted-after c nothing_own l.sheet.times l.sheet.sides taken

-- a march or a tile run enters the march to its horizon
enters_march : (b : Board) (j : Job) (os ts : List ℕ) (h : ℕ) → GoesTo h j → NoneMet (job_causes b j os)
    → (entered b j ts ≡ march_sheet b h) × (h ≤ largest)
unfolding GoesTo entered
enters_march b (March z) os ts h e k = (rw e refl, rw e at (march_can b os z k))
enters_march b (Round tw th m) os ts h e k = absurd e
enters_march b (Run tw th s z) os ts h e k = (rw e refl, rw e at (run-can b os tw th s z k).0)

pub late_calls : LateCalls
unfolding LateCalls
late_calls c d x y l m n o ss h T says-c says-d x0 y0 to-c to-d is raised late =
    let fc = call_fits c x l m says-c x0 in
    let fd = call_fits d y n o says-d y0 in
    let mc = enters_march (call_board c) c.job c.order l.sheet.times h to-c fc.can in
    let md = enters_march (call_board d) d.job d.order n.sheet.times h to-d fd.can in
    let left = call-leaves c x l m says-c x0 ∙ mc.0 in
    let right = call-leaves d y n o says-d y0 ∙ md.0 ∙ ap (λ (b : Board). march_sheet b h) is in
    rw (left, right) (march_early (call_board c) ss fc.given.good (rw is at fd.given.good) T raised h mc.1 (rw left at late))

pub late_round_calls : LateRoundCalls
unfolding LateRoundCalls entered
late_round_calls p q tw th bound u v w z os us x y l m n o ss T says-p says-q x0 y0 same is raised late-stored late =
    let c = call p (Round tw th bound) os u v in
    let d = call q (Round tw th bound) us w z in
    let fc = call_fits c x l m says-p x0 in
    let fd = call_fits d y n o says-q y0 in
    let left : m.sheet ≡ round_sheet p.board tw th bound l.sheet.times = call-leaves c x l m says-p x0 in
    let right : o.sheet ≡ round_sheet (retouched p.board ss) tw th bound l.sheet.times =
    call-leaves d y n o says-q y0 ∙ rw (is, same) refl in
    rw (left, right)
    (round-early p.board ss fc.given.good (rw is at fd.given.good) T raised tw th bound (round-can p.board os tw th bound fc.can).0
    l.sheet.times late-stored (rw left at late))

-- ---- SINGLE ROUNDS with a tile run's bounds
-- what the last of some calls leaves in the sides that it is lent
record LeftLast (c : Call) (ts ss : List ℕ) : Type 0 where
  lent : List ℕ
  is : ss ≡ sides_left c ts lent

behind-first : (v : List ℕ) (vs : List (List ℕ)) → 1 ≤ length vs → last_left (v ∷ vs) ≡ last_left vs
unfolding last_left
behind-first v [] l = absurd (omega arith)
behind-first v (w ∷ vs) l = refl

some_left : (cs : List Call) (c : Call) (us : List (List ℕ)) (ts : List ℕ) → length us ≡ suc (length cs) → 1 ≤ length (ledger_sides (cs ++ c ∷ []) us ts)
unfolding ledger_sides
some_left [] c [] ts l = absurd (omega arith)
some_left [] c (u ∷ us) ts l = omega arith
some_left (d ∷ cs) c [] ts l = absurd (omega arith)
some_left (d ∷ cs) c (u ∷ us) ts l = omega arith

last-sides : (cs : List Call) (c : Call) (us : List (List ℕ)) (zs : List Reply) (ts : List ℕ) → length us ≡ suc (length cs)
    → LeftLast c (ledger cs zs ts).times (last_left (ledger_sides (cs ++ c ∷ []) us ts))
unfolding ledger book ledger_sides last_left
last-sides [] c [] zs ts l = absurd (omega arith)
last-sides [] c (u ∷ us) zs ts l = record { lent = u; is = refl }
last-sides (d ∷ cs) c [] zs ts l = absurd (omega arith)
last-sides (d ∷ cs) c (u ∷ us) zs ts l =
    let r = last-sides cs c us (zs ++ (ledger_answer d ts ∷ [])) (times_after d ts) (omega arith) in
    let rest = ledger_sides (cs ++ c ∷ []) us (times_after d ts) in
    record { lent = r.lent; is = behind-first (sides_left d ts u) rest (some_left cs c us (times_after d ts) (omega arith)) ∙ r.is }

module _ (p : Handed) (tw th s h n w : ℕ) (os : List ℕ) (taken : (refusal (call p (Run tw th s h) os n w) (size p.board)).number ≡ 0) where
  run_fits : Fits (call p (Run tw th s h) os n w) (size p.board)
  run_fits = fits (call p (Run tw th s h) os n w) nothing_own _ taken

  run_numbers : (h ≤ largest) × (1 ≤ s)
  run_numbers = let r = run-can p.board os tw th s h run_fits.can in (r.0, r.1)

  module _ (j : ℕ) (xs : List Reply) (es bs : List (List ℕ)) (ts : List ℕ) where
    abbrev Stepped : ℕ → Type 0
    Stepped i = Steps (all_never p.board) (single_rounds i p tw th s h os n w) xs es bs ts

    -- they leave the times that the run holds
    round-times : Stepped j → ts ≡ after_rounds j p.board tw th s h
    unfolding RunIsRounds EveryList book
    round-times steps = ap (λ (x : Book). x.times) (every_list _ xs es bs _ ts steps).0 ∙ (run_is_rounds p tw th s h n w j os taken).0

    -- and the last of them the sides
    round_sides-left : Stepped (suc j) → last_left bs ≡ sides_after (suc j) p.board tw th s h
    unfolding RunIsRounds EveryList single_rounds
    round_sides-left steps =
        let cs = single_rounds j p tw th s h os n w in
        let long : length es ≡ suc (length cs) = omega (arith, steps_long steps, length-append cs (single_round j p tw th s h os n w ∷ [])) in
        let r = last-sides cs (single_round j p tw th s h os n w) es [] (all_never p.board) long in
        ap last_left (every_list _ xs es bs _ ts steps).1 ∙ r.is ∙ (run_is_rounds p tw th s h n w j os taken).1 r.lent

  round_sheets : (j : ℕ) (xs : List Reply) (es bs : List (List ℕ)) (ts : List ℕ) → Stepped j xs es bs ts (suc j)
      → sheet ts (last_left bs) ≡ run_sheet (suc j) p.board tw th s h
  round_sheets j xs es bs ts steps = λ i. sheet (round-times (suc j) xs es bs ts steps i) (round_sides-left j xs es bs ts steps i)

pub late-single_rounds : LateSingleRounds
unfolding LateSingleRounds after_rounds
late-single_rounds p q tw th s h n w k v zero os ps xs ys es bs cs ds ts us ss T taken taken-q steps steps-q is raised late =
    none-early _ T _ _
    (λ c. rw (round-times p tw th s h n w os taken 0 xs es bs ts steps) (never-time p.board c))
    (λ c. rw (round-times q tw th s h k v ps taken-q 0 ys cs ds us steps-q) (never-time q.board c))
late-single_rounds p q tw th s h n w k v (suc j) os ps xs ys es bs cs ds ts us ss T taken taken-q steps steps-q is raised late =
    let r = run_numbers p tw th s h n w os taken in
    let left = round_sheets p tw th s h n w os taken j xs es bs ts steps in
    let right = round_sheets q tw th s h k v ps taken-q j ys cs ds us steps-q ∙ ap (λ (b : Board). run_sheet (suc j) b tw th s h) is in
    let gp = (run_fits p tw th s h n w os taken).given.good in
    let gq = rw is at (run_fits q tw th s h k v ps taken-q).given.good in
    rw (left, right) (run-early p.board ss gp gq T raised tw th s h r.1 r.0 late (suc j))
