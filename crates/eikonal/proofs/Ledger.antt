-- The ledger: OrderFree, RunOrderFree, SidesOrderFree, RunIsRounds, EveryList, EverySheet and ListsKeep; records and plain lists.
use mathlib.Core.Path.{◌≡◌, refl, sym, ap, ap₂, subst, ◌∙◌}
use mathlib.Core.Bool.{true}
use mathlib.Core.List.{List, [], ◌∷◌, ◌++◌, append_assoc, append-nil}
use Prim.Native.Nat.{ℕ, zero, suc, ◌*◌, min}
use native.Mathlib.Omega.{arith}
use lib.ListN.{length, length-map}
use borrow.Author.Tests.{eq-eqb}
use Rattle.eikonal.specs.Board.{Board, board_of, size, all_never}
use Rattle.eikonal.specs.declared.Start.{Start}
use Rattle.eikonal.specs.Tiles.{after_rounds}
use Rattle.eikonal.specs.Sides.{sides_after}
use Rattle.eikonal.specs.Refusals.{Handed, handed, by_lists, by_records, starts_of, cells_of, begins_of, order_good, tile_causes, job_causes, nothing_own}
use Rattle.eikonal.specs.Ledger.{sheet, Call, call, call_board, call_causes, own_refusal, refusal, entered, own_answer, own_times, own_sides}
use Rattle.eikonal.specs.Ledger.{ledger_answer, times_after, sides_left, ledger, ledger_sides, sides_along, Book, book}
use Rattle.eikonal.specs.Entry.{Lent, Counts, Says}
use Rattle.eikonal.specs.Promise.{ordered, OrderFree, RunOrderFree, SidesOrderFree, RunIsRounds, single_round, single_rounds, rounds_leave}
use Rattle.eikonal.specs.Promise.{Steps, done, then, EveryList, HandedOn, EverySheet, Program, Keeps, played, played_sides, ListsKeep}
use Rattle.eikonal.specs.Promise.{SameHanded, ListsAreRecords, SameAnswers}
use Rattle.eikonal.specs.Order.{Own}
use Rattle.eikonal.specs.declared.Reply.{Reply}
use Rattle.eikonal.specs.declared.Job.{Job}
use Rattle.eikonal.specs.declared.Job.TheVariants.{March, Round, Run}
use Rattle.eikonal.proofs.Accepted.{Fits, fits, run-can, round-accepted}
use Rattle.eikonal.proofs.Rounds.{after-length}

-- ---- the order serves for number 12 alone
same-tiles : (b : Board) (tw th : ℕ) (xs ys : List ℕ) → order_good b tw th xs ≡ true → order_good b tw th ys ≡ true
    → tile_causes b tw th xs ≡ tile_causes b tw th ys
unfolding tile_causes
same-tiles b tw th xs ys a e = rw (a, e)

same-job : (b : Board) (j : Job) (xs ys : List ℕ) → ordered b j xs ≡ true → ordered b j ys ≡ true → job_causes b j xs ≡ job_causes b j ys
unfolding ordered job_causes
same-job b (March z) xs ys a e = refl
same-job b (Round tw th m) xs ys a e = rw (same-tiles b tw th xs ys a e)
same-job b (Run tw th s z) xs ys a e = rw (same-tiles b tw th xs ys a e)

pub order_free : OrderFree
unfolding OrderFree own_answer own_times own_sides own_refusal call_causes
order_free p j n w xs ys ts a b = let e = same-job p.board j xs ys a b in (rw e, rw e, λ ss. rw e)

-- ---- a ledger of two lists of calls is one after the other
ledger-append : (cs ds : List Call) (zs : List Reply) (ts : List ℕ)
    → ledger (cs ++ ds) zs ts ≡ ledger ds (ledger cs zs ts).answers (ledger cs zs ts).times
unfolding ledger book
ledger-append [] ds zs ts = refl
ledger-append (c ∷ cs) ds zs ts = ledger-append cs ds (zs ++ (ledger_answer c ts ∷ [])) (times_after c ts)

-- one call more
ledger-more : (cs : List Call) (c : Call) (zs : List Reply) (ts : List ℕ)
    → ledger (cs ++ (c ∷ [])) zs ts ≡ book ((ledger cs zs ts).answers ++ (ledger_answer c (ledger cs zs ts).times ∷ []))
    (times_after c (ledger cs zs ts).times)
unfolding ledger
ledger-more cs c zs ts = ledger-append cs (c ∷ []) zs ts

-- ---- two lists of calls that differ in orders of tiles alone have one ledger, whatever sides they are lent
abbrev SameIn : (c d : Call) → (ts : List ℕ) → Type 0
SameIn c d ts =
    (times_after c ts ≡ times_after d ts) × (ledger_answer c ts ≡ ledger_answer d ts) × ((ss : List ℕ) → sides_left c ts ss ≡ sides_left d ts ss)

data Alike : List Call → List Call → Type 0 where
  none : Alike [] []
  also : (c d : Call) (cs ds : List Call) → ((ts : List ℕ) → SameIn c d ts) → Alike cs ds → Alike (c ∷ cs) (d ∷ ds)

alike_append : {cs ds es fs : List Call} → Alike cs ds → Alike es fs → Alike (cs ++ es) (ds ++ fs)
alike_append none b = b
alike_append (also c d cs ds k a) b = also c d _ _ k (alike_append a b)

alike_ledger : {cs ds : List Call} → Alike cs ds → (zs : List Reply) (ts : List ℕ) → ledger cs zs ts ≡ ledger ds zs ts
unfolding ledger
alike_ledger none zs ts = refl
alike_ledger (also c d cs ds k a) zs ts = rw ((k ts).1, (k ts).0) (alike_ledger a (zs ++ (ledger_answer d ts ∷ [])) (times_after d ts))

alike_sides : {cs ds : List Call} → Alike cs ds → (us : List (List ℕ)) (ts : List ℕ) → ledger_sides cs us ts ≡ ledger_sides ds us ts
unfolding ledger_sides
alike_sides none us ts = refl
alike_sides (also c d cs ds k a) [] ts = refl
alike_sides (also c d cs ds k a) (u ∷ us) ts =
    rw ((k ts).2 u, (k ts).0) (ap (λ (vs : List (List ℕ)). sides_left d ts u ∷ vs) (alike_sides a us (times_after d ts)))

module _ (p : Handed) (tw th s h n w : ℕ) (xs ys : List ℕ) (a : order_good p.board tw th xs ≡ true) (b : order_good p.board tw th ys ≡ true) where
  rounds_alike : (j : ℕ) → Alike (single_rounds j p tw th s h xs n w) (single_rounds j p tw th s h ys n w)
  unfolding single_rounds OrderFree ordered
  rounds_alike zero = none
  rounds_alike (suc j) =
      alike_append (rounds_alike j) (also _ _ [] [] (λ ts. order_free p (Round tw th (min (suc j * s) h)) n w xs ys ts a b) none)

pub run_order_free : RunOrderFree
unfolding RunOrderFree
run_order_free p tw th s h n w xs ys ts a b j = alike_ledger (rounds_alike p tw th s h n w xs ys a b j) [] ts

pub sides_order_free : SidesOrderFree
unfolding SidesOrderFree
sides_order_free p tw th s h n w xs ys ts a b j us = alike_sides (rounds_alike p tw th s h n w xs ys a b j) us ts

-- ---- what an accepted call leaves
pub accepted-after : (c : Call) (o : Own) (ts ss : List ℕ) → (own_refusal c o (length ts)).number ≡ 0
    → sheet (own_times c o ts) (own_sides c o ts ss) ≡ entered (call_board c) c.job ts
unfolding own_times own_sides
accepted-after c o ts ss e = rw (eq-eqb (own_refusal c o (length ts)).number 0 e) refl

-- ---- single rounds leave what a run holds
module _ (p : Handed) (tw th s h n w : ℕ) (xs : List ℕ) (e : (refusal (call p (Run tw th s h) xs n w) (size p.board)).number ≡ 0) where
  abbrev nth : ℕ → Call
  nth j = single_round j p tw th s h xs n w

  abbrev held : ℕ → List ℕ
  held j = after_rounds j p.board tw th s h

  run_fits : Fits (call p (Run tw th s h) xs n w) (size p.board)
  run_fits = fits (call p (Run tw th s h) xs n w) nothing_own (size p.board) e

  -- the next round on the run's times is accepted, since they are as long as the board
  next-round : (j : ℕ) (ss : List ℕ) → sheet (times_after (nth j) (held j)) (sides_left (nth j) (held j) ss)
      ≡ sheet (held (suc j)) (sides_after (suc j) p.board tw th s h)
  unfolding after_rounds sides_after entered
  next-round j ss =
      let r = run-can p.board xs tw th s h run_fits.can in
      let long : length (held j) ≡ size p.board = after-length p.board run_fits.given.good tw th s h r.1 r.0 j in
      let taken = round-accepted p tw th s h (min (suc j * s) h) xs n w (size p.board) (omega arith) e in
      accepted-after (nth j) nothing_own (held j) ss (rw long taken)

  rounds_hold : (j : ℕ) → rounds_leave j p tw th s h xs n w ≡ held j
  unfolding single_rounds ledger book after_rounds
  rounds_hold zero = refl
  rounds_hold (suc j) =
      ap (λ (x : Book). x.times) (ledger-more (single_rounds j p tw th s h xs n w) (nth j) [] (all_never p.board))
      ∙ rw (rounds_hold j) (ap (λ q. q.times) (next-round j []))

pub run_is_rounds : RunIsRounds
unfolding RunIsRounds
run_is_rounds p tw th s h n w j xs e =
    let left = rounds_hold p tw th s h n w xs e j in
    (left, λ ss. rw left (ap (λ q. q.sides) (next-round p tw th s h n w xs e j ss)))

-- ---- every list of calls
steps_keep : {a z : List ℕ} {cs : List Call} {xs : List Reply} {us vs : List (List ℕ)} (ys : List Reply) → Steps a cs xs us vs z
    → ledger cs ys a ≡ book (ys ++ xs) z
unfolding ledger
steps_keep ys (done a) = ap (λ (l : List Reply). book l a) (sym (append-nil ys))
steps_keep ys (then l m z c x cs xs us vs k ss) =
    rw (← k.answers, ← ap (λ q. q.times) k.leaves) (steps_keep (ys ++ (x ∷ [])) ss ∙ rw append_assoc)

steps_sides : {a z : List ℕ} {cs : List Call} {xs : List Reply} {us vs : List (List ℕ)} → Steps a cs xs us vs z → vs ≡ ledger_sides cs us a
unfolding ledger_sides
steps_sides (done a) = refl
steps_sides (then l m z c x cs xs us vs k ss) =
    rw (← ap (λ q. q.times) k.leaves, ← ap (λ q. q.sides) k.leaves) (ap (λ (ws : List (List ℕ)). m.sheet.sides ∷ ws) (steps_sides ss))

pub every_list : EveryList
unfolding EveryList
every_list cs xs us vs a z s = (sym (steps_keep [] s), steps_sides s)

-- one list of sides that is handed on
on_along : {p q : List ℕ} {us vs : List (List ℕ)} (cs : List Call) (a : List ℕ) → length us ≡ length cs → vs ≡ ledger_sides cs us a → HandedOn p us vs q
    → q ≡ sides_along cs a p
unfolding ledger_sides sides_along
on_along [] a l e (HandedOn.done p) = refl
on_along (c ∷ cs) a l e (HandedOn.done p) = absurd (omega arith)
on_along [] a l e (HandedOn.then p r q us vs h) = absurd (omega arith)
on_along (c ∷ cs) a l e (HandedOn.then p r q us vs h) =
    let first : r ≡ sides_left c a p = cc e in
    let rest : vs ≡ ledger_sides cs us (times_after c a) = cc e in
    rw (← first) (on_along cs (times_after c a) (omega arith) rest h)

pub steps_long : {a z : List ℕ} {cs : List Call} {xs : List Reply} {us vs : List (List ℕ)} → Steps a cs xs us vs z → length us ≡ length cs
steps_long (done a) = refl
steps_long (then l m z c x cs xs us vs k ss) = ap suc (steps_long ss)

pub every_sheet : EverySheet
unfolding EverySheet
every_sheet cs xs us vs a z p q s h = (sym (steps_keep [] s), on_along cs a (steps_long s) (steps_sides s) h)

-- ---- a program as a function
module _ (f : Program) (k : (c : Call) (ts ss : List ℕ) → Keeps f c ts ss) where
  plays : (cs : List Call) (us : List (List ℕ)) (zs : List Reply) (ts : List ℕ) → length us ≡ length cs → played f cs us zs ts ≡ ledger cs zs ts
  unfolding played ledger
  plays [] us zs ts l = refl
  plays (c ∷ cs) [] zs ts l = absurd (omega arith)
  plays (c ∷ cs) (u ∷ us) zs ts l = rw ((k c ts u).answers, (k c ts u).times) (plays cs us (zs ++ (ledger_answer c ts ∷ [])) (times_after c ts) (omega arith))

  plays_sides : (cs : List Call) (us : List (List ℕ)) (ts : List ℕ) → played_sides f cs us ts ≡ ledger_sides cs us ts
  unfolding played_sides ledger_sides
  plays_sides [] us ts = refl
  plays_sides (c ∷ cs) [] ts = refl
  plays_sides (c ∷ cs) (u ∷ us) ts =
      rw ((k c ts u).times, (k c ts u).sides) (ap (λ (vs : List (List ℕ)). sides_left c ts u ∷ vs) (plays_sides cs us (times_after c ts)))

pub lists_keep : ListsKeep
unfolding ListsKeep
lists_keep f cs us ts l k = (plays f k cs us [] ts l, plays_sides f k cs us ts)

-- ---- a call of the ledger, by the names of what it looks for and of its job
pub is-job : (p : Handed) (o : Own) → o ≡ nothing_own → (j j' : Job) → j ≡ j' → (os : List ℕ) (n w : ℕ) (x : Reply) (a b : Lent)
    → Counts (call p j os n w) o x a b → Says (call p j' os n w) x a b
is-job p o i j j' e os n w x a b s =
    subst (λ (k : Job). Says (call p k os n w) x a b) e (subst (λ (q : Own). Counts (call p j os n w) q x a b) i s)

-- ---- records and plain lists
pub starts_again : (xs : List Start) → starts_of (cells_of xs) (begins_of xs) ≡ xs
unfolding starts_of cells_of begins_of
starts_again [] = refl
starts_again (x ∷ xs) = ap (λ (ys : List Start). x ∷ ys) (starts_again xs)

pub same-handed : SameHanded
unfolding SameHanded by_lists by_records cells_of begins_of
same-handed w h s ss xs =
    ap₂ (λ ys p. handed (board_of w h s ss ys) p) (starts_again xs) (eq-eqb (length (cells_of xs)) (length (begins_of xs)) (simp length-map))

pub lists_are_records : ListsAreRecords
unfolding ListsAreRecords starts_of cells_of begins_of
lists_are_records [] [] e = (refl, refl)
lists_are_records [] (t ∷ ts) e = absurd (omega arith)
lists_are_records (c ∷ cs) [] e = absurd (omega arith)
lists_are_records (c ∷ cs) (t ∷ ts) e =
    let r = lists_are_records cs ts (omega arith) in
    (ap (λ (ys : List ℕ). c ∷ ys) r.0, ap (λ (ys : List ℕ). t ∷ ys) r.1)

pub same-answers : SameAnswers
unfolding SameAnswers
same-answers c x y l m n a b =
    (a.answers ∙ sym b.answers, λ i. record { sheet = (a.leaves ∙ sym b.leaves) i; work = (a.works ∙ sym b.works) i })
