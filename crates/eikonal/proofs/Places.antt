-- The one order, call by call; and the place beside a number is that of the first start at fault: of the starts, of lists of causes that have the starts'
-- in their midst, and of all answers along a list of calls.
use mathlib.Core.Path.{◌≡◌, refl}
use mathlib.Core.Bool.{Bool, true, false, ◌&&◌, ◌||◌, cond}
use mathlib.Core.List.{List, [], ◌∷◌, ◌++◌, append-nil}
use Prim.Native.Nat.{ℕ, zero, suc, ◌-◌, ◌≤◌, ◌<◌}
use native.Mathlib.Omega.{arith}
use native.Mathlib.Decide.{ℕ_discrete}
use lib.Dec.{ltb, leb, eqb}
use lib.ListN.{length}
use borrow.Author.Tests.{ltb-true, ltb-false, leb-true, leb-false, eqb-true, ne_eqb}
use Rattle.eikonal.specs.Board.{size}
use Rattle.eikonal.specs.Order.{Cause, at_fault, cause, cause_at, none, first_of, rank, rank_in, follows, InOrder}
use Rattle.eikonal.specs.Refusals.{Handed, on_board, first_off, first_low, board_causes, pair_causes, record_causes, start_causes, tile_causes}
use Rattle.eikonal.specs.Refusals.{job_causes, list_causes, nothing_own}
use Rattle.eikonal.specs.Ledger.{Call, call, call_board, call_causes, own_refusal, own_answer, answer, answered}
use Rattle.eikonal.specs.Entry.{local_causes}
use Rattle.eikonal.specs.Promise.{CallsInOrder, LocalInOrder, cell_at, AllOn, AllRise, FirstAtFault, PlaceIsFirst}
use Rattle.eikonal.specs.Promise.{Steps, AllPlace, EveryPlace}
use Rattle.eikonal.specs.declared.Start.{Start}
use Rattle.eikonal.specs.Order.{Refusal}
use Rattle.eikonal.specs.declared.Reply.{Reply}
use Rattle.eikonal.specs.declared.Job.{Job}
use Rattle.eikonal.specs.declared.Job.TheVariants.{March, Round, Run}
use Rattle.eikonal.proofs.Faults.{least_at, there, before}
use Rattle.eikonal.proofs.Good.{and-true}
use Rattle.eikonal.proofs.Answers.{answered-zero, answered-refused}

-- ---- the lists of causes follow the one order: computed
pub calls_in_order : CallsInOrder
unfolding CallsInOrder call_causes board_causes pair_causes start_causes record_causes job_causes tile_causes list_causes follows rank rank_in
calls_in_order c t = go c.handed c.job c.order c.sides c.work
  where
    go : (p : Handed) (j : Job) (ys : List ℕ) (n w : ℕ) → InOrder (call_causes (call p j ys n w) nothing_own t)
    go p (March z) ys n w = refl
    go p (Round tw th m) ys n w = refl
    go p (Run tw th s z) ys n w = refl

pub local_in_order : LocalInOrder
unfolding LocalInOrder local_causes follows rank rank_in
local_in_order g h o n = refl

-- ---- causes in front of the starts' and behind them: their numbers are looked for there, and none has a place
unfoldable pub all_plain : (test : ℕ → Bool) → List Cause → Bool
all_plain p [] = true
all_plain p (k ∷ ks) = ((eqb k.number 0 || p k.number) && eqb k.place 0) && all_plain p ks

unfoldable pub in_front : (number : ℕ) → Bool
in_front m = ltb (rank m) (rank 7)

unfoldable pub in_the_rear : (number : ℕ) → Bool
in_the_rear m = ltb (rank 18) (rank m)

seven_first : rank 7 < rank 18
unfolding rank rank_in
seven_first = omega arith

-- nothing found stands behind all
pub nothing-last : rank 18 < rank 0
unfolding rank rank_in
nothing-last = omega arith

-- a cell below the least that it may be is not the first, and not above the one before
below-least : (xs : List Start) (k : ℕ) → cell_at xs k < least_at 0 xs k → (1 ≤ k) × (cell_at xs k ≤ cell_at xs (k - 1))
unfolding least_at
below-least xs zero h = absurd (omega arith)
below-least xs (suc k) h =
    let last : suc k - 1 ≡ k = omega arith in
    (omega arith, rw last (omega arith))

module _ (n : ℕ) (xs : List Start) where
  abbrev pub Tells : Refusal → Type 0
  Tells k = FirstAtFault n xs k.number k.place

  -- no start is at fault
  abbrev Right : Type 0
  Right = AllOn n xs (length xs) × AllRise xs (length xs)

  -- a list that begins with such causes, by what each of them says where it is met
  pub past : (p : ℕ → Bool) → ((k : ℕ) → 1 ≤ k → p k ≡ true → Tells (cause k)) → (ks rest : List Cause) → all_plain p ks ≡ true → Tells (first_of rest)
      → Tells (first_of (ks ++ rest))
  unfolding all_plain first_of
  past p says [] rest e t = t
  past p says (k ∷ ks) rest e t =
      let r = and-true ((eqb k.number 0 || p k.number) && eqb k.place 0) (all_plain p ks) e in
      let q = and-true (eqb k.number 0 || p k.number) (eqb k.place 0) r.0 in
      go (ltb 0 k.number) k.met refl q.0 (eqb-true k.place 0 q.1) (past p says ks rest r.1 t)
    where
      go : (a b : Bool) → ltb 0 k.number ≡ a → eqb k.number 0 || p k.number ≡ true → k.place ≡ 0 → Tells (first_of (ks ++ rest))
          → Tells (cond (a && b) (cause_at k.number k.place) (first_of (ks ++ rest)))
      go true true h e z t =
          let l = ltb-true 0 k.number h in
          let some : eqb k.number 0 ≡ false = ne_eqb k.number 0 (λ w. omega arith) in
          rw z (says k.number (omega arith) (rw some at e))
      go true false h e z t = t
      go false b h e z t = t

  front_says : (k : ℕ) → 1 ≤ k → in_front k ≡ true → Tells (cause k)
  unfolding in_front
  front_says k l e =
      let h = ltb-true (rank k) (rank 7) e in
      record {
        off = λ q. absurd (omega (arith, (rw q at h)));
        low = λ q. absurd (omega (arith, (rw q at h), seven_first));
        right = λ q. absurd (omega (arith, seven_first));
        rest = λ a b. refl;
      }

  rear_says : Right → (k : ℕ) → 1 ≤ k → in_the_rear k ≡ true → Tells (cause k)
  unfolding in_the_rear
  rear_says r k l e =
      let h = ltb-true (rank 18) (rank k) e in
      record {
        off = λ q. absurd (omega (arith, (rw q at h), seven_first));
        low = λ q. absurd (omega (arith, (rw q at h)));
        right = λ q. r;
        rest = λ a b. refl;
      }

  pub passes : Right → Tells none
  passes r = record { off = λ q. absurd (omega arith); low = λ q. absurd (omega arith); right = λ q. r; rest = λ a b. refl }

  -- THE STARTS, with causes in front of them and behind them: what a list tells
  starts_tell : (rest : List Cause) → all_plain in_the_rear rest ≡ true
      → Tells (first_of (at_fault 7 (first_off n xs) (length xs) ∷ at_fault 18 (first_low xs) (length xs) ∷ rest))
  unfolding first_of least_at
  starts_tell rest e = go (ltb (first_off n xs) (length xs)) refl (ltb (first_low xs) (length xs)) refl
    where
      on : ltb (first_off n xs) (length xs) ≡ false → AllOn n xs (length xs)
      on e i l = ltb-true _ n (before (on_board n) 0 xs i (omega (arith, ltb-false (first_off n xs) (length xs) e)))

      rise : (k : ℕ) → k ≤ first_low xs → AllRise xs k
      rise k h i l = leb-true _ _ (before leb 0 xs (suc i) (omega arith))

      go : (p : Bool) → ltb (first_off n xs) (length xs) ≡ p → (q : Bool) → ltb (first_low xs) (length xs) ≡ q
          → Tells (cond p (cause_at 7 (first_off n xs)) (cond q (cause_at 18 (first_low xs)) (first_of rest)))
      go true a q b =
          let h = ltb-true (first_off n xs) (length xs) a in
          record {
            off = λ z. (h, ltb-false _ n (there (on_board n) 0 xs h), λ i l. ltb-true _ n (before (on_board n) 0 xs i l));
            low = λ z. absurd (omega arith);
            right = λ z. absurd (omega (arith, seven_first));
            rest = λ a b. absurd (a refl);
          }
      go false a true b =
          let h = ltb-true (first_low xs) (length xs) b in
          let s = below-least xs (first_low xs) (leb-false _ _ (there leb 0 xs h)) in
          record {
            off = λ z. absurd (omega arith);
            low = λ z. (s.0, h, s.1, rise (first_low xs) (omega arith), on a);
            right = λ z. absurd (omega arith);
            rest = λ a b. absurd (b refl);
          }
      go false a false b =
          let r : Right = (on a, rise (length xs) (ltb-false (first_low xs) (length xs) b)) in
          rw append-nil at (past in_the_rear (rear_says r) rest [] e (passes r))

  pub tells : (front rest : List Cause) → all_plain in_front front ≡ true → all_plain in_the_rear rest ≡ true
      → Tells (first_of (front ++ (at_fault 7 (first_off n xs) (length xs) ∷ at_fault 18 (first_low xs) (length xs) ∷ rest)))
  tells front rest a b = past in_front front_says front _ a (starts_tell rest b)

  -- ---- and the answer
  pub tells_none : (k : Refusal) → k.number ≡ 0 → Tells k → Tells none
  tells_none k z t = passes (t.right (rw z nothing-last))

  pub tells_answer : (k : Refusal) (c : ℕ) → Tells k → FirstAtFault n xs (answered k c).number (answered k c).place
  unfolding answer
  tells_answer k c t = elim (ℕ_discrete k.number 0) [
    | yes z ↦ rw (answered-zero k c z) (tells_none k z t)
    | no d ↦ rw (answered-refused k c d) t
  ]

-- THE PLACE in the answer of a call
pub place-is-first : PlaceIsFirst
unfolding PlaceIsFirst own_answer own_refusal call_causes board_causes pair_causes start_causes record_causes job_causes tile_causes list_causes
    all_plain in_front in_the_rear rank rank_in
place-is-first c ts = tells_answer (size (call_board c)) (call_board c).starts _ _ (go c.handed c.job c.order c.sides c.work)
  where
    go : (p : Handed) (j : Job) (ys : List ℕ) (n w : ℕ)
        → Tells (size p.board) p.board.starts (first_of (call_causes (call p j ys n w) nothing_own (length ts)))
    go p (March z) ys n w = tells (size p.board) p.board.starts (_ ∷ _ ∷ _ ∷ _ ∷ _ ∷ _ ∷ _ ∷ []) _ refl refl
    go p (Round tw th m) ys n w = tells (size p.board) p.board.starts (_ ∷ _ ∷ _ ∷ _ ∷ _ ∷ _ ∷ _ ∷ []) _ refl refl
    go p (Run tw th s z) ys n w = tells (size p.board) p.board.starts (_ ∷ _ ∷ _ ∷ _ ∷ _ ∷ _ ∷ _ ∷ []) _ refl refl

-- and all along a list of calls
pub every_place : EveryPlace
unfolding EveryPlace PlaceIsFirst
every_place _ _ _ _ _ _ s = along s
  where
    along : {cs : List Call} {xs : List Reply} {us vs : List (List ℕ)} {a z : List ℕ} → Steps a cs xs us vs z → AllPlace cs xs
    along (Steps.done a) = AllPlace.done
    along (Steps.then l m z c x cs xs us vs s rest) = AllPlace.then c x cs xs (rw s.answers (place-is-first c l.sheet.times)) (along rest)
