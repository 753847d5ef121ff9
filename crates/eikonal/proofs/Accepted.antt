-- What a call that is not refused has been handed and lent, whatever else it looks for.
use mathlib.Core.Path.{◌≡◌, refl, sym, ap, ◌∙◌}
use mathlib.Core.Bool.{true, not}
use mathlib.Core.List.{List}
use Prim.Native.Nat.{ℕ, ◌*◌, ◌≤◌}
use lib.Dec.{ltb, eqb}
use native.Mathlib.Omega.{arith}
use lib.ListN.{length}
use borrow.Author.Tests.{eqb-true, ltb-false, le-ltb, not-false}
use Rattle.eikonal.specs.Board.{Board, size, largest}
use Rattle.eikonal.specs.Refusals.{Handed, within, board_causes, tile_causes, job_causes, list_causes, order_good, nothing_own}
use Rattle.eikonal.specs.Ledger.{Call, call, call_board, call_causes, own_refusal, refusal, own_answer, counted}
use Rattle.eikonal.specs.Entry.{Lent, Counts}
use Rattle.eikonal.specs.Order.{Own}
use Rattle.eikonal.specs.declared.Reply.{Reply}
use Rattle.eikonal.specs.declared.Job.TheVariants.{March, Round, Run}
use Rattle.eikonal.proofs.Causes.{NoneMet, none-met, unrefused, met-append, met_parts, number_is}
use Rattle.eikonal.proofs.Good.{Accepted, passes, sides-within, in_range, or-false}
use Rattle.eikonal.proofs.Answers.{answered-number}

-- AN ACCEPTED CALL on the front, lent so many times
pub record Fits (c : Call) (times : ℕ) : Type 0 where
  pub given : Accepted c.handed
  pub can : NoneMet (job_causes (call_board c) c.job c.order)
  pub times_fit : times ≡ size (call_board c)
  pub sides_fit : c.sides ≡ size (call_board c)
  pub work_fits : 4 * size (call_board c) ≤ c.work

-- its causes in three parts: of the board, of what is to be done, of the lists
parts : (c : Call) (o : Own) (t : ℕ) → (own_refusal c o t).number ≡ 0 → let b = call_board c in
    NoneMet (board_causes c.handed b.slow o.ticks o.kinds) × NoneMet (job_causes b c.job c.order)
    × NoneMet (list_causes (size b) t c.sides c.work o)
unfolding own_refusal call_causes NoneMet
parts c o t e =
    let b = call_board c in
    let r = met_parts (board_causes c.handed b.slow o.ticks o.kinds) _ (none-met (call_causes c o t) e) in
    let q = met_parts (job_causes b c.job c.order) (list_causes (size b) t c.sides c.work o) r.1.1 in
    (r.0, q.0, q.1)

pub fits : (c : Call) (o : Own) (t : ℕ) → (own_refusal c o t).number ≡ 0 → Fits c t
unfolding NoneMet list_causes
fits c o t e =
    let n = size (call_board c) in
    let r = parts c o t e in
    let lists = or-false (not (eqb c.sides n)) (ltb c.work (4 * n)) r.2.1.1.0 in
    record {
      given = passes c.handed o.ticks o.kinds r.0;
      can = r.1;
      times_fit = eqb-true t n (not-false _ r.2.0);
      sides_fit = eqb-true c.sides n (not-false _ lists.0);
      work_fits = ltb-false c.work (4 * n) lists.1;
    }

-- it is one where number 0 is answered
pub not-refused : (c : Call) (o : Own) (x : Reply) (l m : Lent) → Counts c o x l m → x.number ≡ 0
    → (own_refusal c o (length l.sheet.times)).number ≡ 0
unfolding own_answer
not-refused c o x l m s n =
    sym (answered-number (own_refusal c o (length l.sheet.times)) (counted (call_board c) c.job l.sheet.times))
    ∙ sym (ap (λ (y : Reply). y.number) s.answers)
    ∙ n

-- ---- what the job's numbers are
pub record Tiled (b : Board) (tw th : ℕ) (order : List ℕ) : Type 0 where
  pub across_low : 1 ≤ tw
  pub across_high : tw ≤ 256
  pub down_low : 1 ≤ th
  pub down_high : th ≤ 256
  pub ordered : order_good b tw th order ≡ true

tiled : (b : Board) (tw th : ℕ) (xs : List ℕ) → NoneMet (tile_causes b tw th xs) → Tiled b tw th xs
unfolding NoneMet tile_causes
tiled b tw th xs e =
    let s = sides-within tw th (not-false _ e.0) in
    record { across_low = s.0; across_high = s.1; down_low = s.2; down_high = s.3; ordered = not-false _ e.1.0 }

module _ (b : Board) (xs : List ℕ) where
  pub march_can : (z : ℕ) → NoneMet (job_causes b (March z) xs) → z ≤ largest
  unfolding NoneMet job_causes
  march_can z e = ltb-false largest z e.0

  pub round-can : (tw th m : ℕ) → NoneMet (job_causes b (Round tw th m) xs) → (m ≤ largest) × Tiled b tw th xs
  unfolding NoneMet job_causes
  round-can tw th m e = (ltb-false largest m e.0, tiled b tw th xs e.1)

  pub run-can : (tw th s z : ℕ) → NoneMet (job_causes b (Run tw th s z) xs) → (z ≤ largest) × (1 ≤ s) × (s ≤ largest) × Tiled b tw th xs
  unfolding NoneMet job_causes
  run-can tw th s z e =
      let far = or-false (ltb largest z) (not (within 1 largest s)) e.0 in
      let stride = in_range 1 largest s (not-false _ far.1) in
      (ltb-false largest z far.0, stride.0, stride.1, tiled b tw th xs e.1)

-- the rounds of an accepted run, each with a bound up to the horizon, are accepted
pub round-accepted : (p : Handed) (tw th s h m : ℕ) (xs : List ℕ) (n w t : ℕ) → m ≤ h
    → (refusal (call p (Run tw th s h) xs n w) t).number ≡ 0 → (refusal (call p (Round tw th m) xs n w) t).number ≡ 0
unfolding own_refusal call_causes NoneMet job_causes
round-accepted p tw th s h m xs n w t k e =
    let c = call p (Run tw th s h) xs n w in
    let r = parts c nothing_own t e in
    let far = (run-can p.board xs tw th s h r.1).0 in
    number_is (unrefused (call_causes (call p (Round tw th m) xs n w) nothing_own t)
    (met-append (board_causes p p.board.slow _ _) _ r.0
    (refl, (le-ltb largest m (omega arith), met-append (tile_causes p.board tw th xs) _ r.1.1 r.2))))
