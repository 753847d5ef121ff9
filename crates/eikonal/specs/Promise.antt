-- What is promised. Each statement is a type; proofs/Promises.antt gathers their proofs.
use Rattle.std.specs.Prelude.{◌≡◌, Bool, true, false, ◌||◌, cond, List, [], ◌∷◌, ◌++◌, ◌⊎◌, ◌≢◌, ℕ, zero, suc, ◌+◌, ◌*◌, ◌-◌, ◌≤◌, ◌<◌, min, max, leb}
use Rattle.std.specs.Prelude.{eqb, length, get_or}
use Rattle.eikonal.specs.Axes.{Near, NextOn, NoSlower, Lattice, given_on, met_on}
use Rattle.eikonal.specs.Board.{Board, axes, size, slowness, start_time, time, Meets, solved, marched, reached, diagonal, local, never, largest}
use Rattle.eikonal.specs.Board.{all_never, least_from, square, passes, earlier}
use Rattle.eikonal.specs.declared.Start.{Start}
use Rattle.eikonal.specs.Tiles.{MeetsInTiles, solved_in_tiles, after_rounds, last_round, rounds, up}
use Rattle.eikonal.specs.Order.{InOrder, LookedForBehind}
use Rattle.eikonal.specs.Refusals.{Handed, by_lists, by_records, starts_of, cells_of, begins_of, board_refusal, order_good, nothing_own}
use Rattle.eikonal.specs.Sides.{march_sides, sides_after}
use Rattle.eikonal.specs.Ledger.{Call, call, call_board, call_causes, refusal, ledger_answer, times_after, sides_left}
use Rattle.eikonal.specs.Ledger.{Book, book, ledger, ledger_sides, sides_along}
use Rattle.eikonal.specs.Entry.{Lent, Says, local_causes}
use Rattle.eikonal.specs.declared.Reply.{Reply}
use Rattle.eikonal.specs.declared.Job.{Job}
use Rattle.eikonal.specs.declared.Job.TheVariants.{March, Round, Run}

unfoldable pub board_good : Board → Bool
board_good b = eqb (board_refusal b).number 0

-- ---- THE ONE ORDER: the causes of every call follow it
unfoldable pub CallsInOrder : Type 0
CallsInOrder = (c : Call) (t : ℕ) → InOrder (call_causes c nothing_own t)

unfoldable pub LocalInOrder : Type 0
LocalInOrder = (g h o n : ℕ) → InOrder (local_causes g h o n)

-- ---- THE PLACE OF A START AT FAULT is the position, from 0, of the first that is at fault by that cause
abbrev pub cell_at : List Start → (place : ℕ) → ℕ
cell_at xs i = get_or (cells_of xs) i 0

-- of so many starts each is on a board of n cells; each is above the one before
abbrev pub AllOn : (n : ℕ) → List Start → (many : ℕ) → Type 0
AllOn n xs k = (i : ℕ) → i < k → cell_at xs i < n

abbrev pub AllRise : List Start → (many : ℕ) → Type 0
AllRise xs k = (i : ℕ) → suc i < k → cell_at xs i < cell_at xs (suc i)

-- what a number and the place beside it say of the starts xs, on a board of n cells
pub record FirstAtFault (n : ℕ) (xs : List Start) (number place : ℕ) : Type 0 where
  -- 7, of the list: the cell there is off the board, and none before it is
  pub off : number ≡ 7 → (place < length xs) × (n ≤ cell_at xs place) × AllOn n xs place
  -- 18: the cell there is not above the one before it, every earlier one is above its own, and none in the list is off the board
  pub low : number ≡ 18 → (1 ≤ place) × (place < length xs) × (cell_at xs place ≤ cell_at xs (place - 1))
      × AllRise xs place × AllOn n xs (length xs)
  -- all numbers that are looked for behind both, and 0, nothing found: no start is at fault by either
  pub right : LookedForBehind 18 number → AllOn n xs (length xs) × AllRise xs (length xs)
  -- any number but these two, 0 too
  pub rest : number ≢ 7 → number ≢ 18 → place ≡ 0

-- what it says in the answer of a call
abbrev pub Places : Call → Reply → Type 0
Places c x = FirstAtFault (size (call_board c)) (call_board c).starts x.number x.place

unfoldable pub PlaceIsFirst : Type 0
PlaceIsFirst = (c : Call) (ts : List ℕ) → Places c (ledger_answer c ts)

-- ---- THE LOCAL RULE: its answer passes, and no earlier time does; it is at most a straight step away from each axis
unfoldable pub LocalLeast : Type 0
LocalLeast =
    (g h l r u d o n t : ℕ) →
    let a = earlier l r in
    let b = earlier u d in
    let z = earlier o n in
    let m = earlier a (earlier b z) in
    let answer = local g h l r u d o n in
    1 ≤ g → 1 ≤ h → m < never →
    (passes g h a b z answer ≡ true)
    × (answer ≤ a + g) × (answer ≤ b + h) × (answer ≤ z + h)
    × (m ≤ t → t < answer → passes g h a b z t ≡ false)

-- WITH EQUAL NUMBERS and no neighbour over or under it is the rule of one slowness: the least t, not below the earlier of a and b, with
-- p² + q² at least s². Up to never, which no time of a board passes
unfoldable pub one_passes : (s a b t : ℕ) → Bool
one_passes s a b t = leb (square s) (square (t - a) + square (t - b))

unfoldable pub one_local : (s left right above below : ℕ) → ℕ
one_local s l r u d =
    let a = earlier l r in
    let b = earlier u d in
    let m = earlier a b in
    cond (eqb s 0 || eqb m never) never (least_from s m (λ t. one_passes s a b t))

unfoldable pub OldRule : Type 0
OldRule = (s l r u d : ℕ) → min never (local s s l r u d never never) ≡ min never (one_local s l r u d)

-- and what document 03 says of that rule, word for word: its answer passes, and no earlier time does; it is at most a straight step away,
unfoldable pub OneLocalLeast : Type 0
OneLocalLeast =
    (s l r u d t : ℕ) → 1 ≤ s → s ≤ 4095 → earlier (earlier l r) (earlier u d) < never →
    (one_passes s (earlier l r) (earlier u d) (one_local s l r u d) ≡ true)
    × (one_local s l r u d ≤ earlier (earlier l r) (earlier u d) + s)
    × (earlier (earlier l r) (earlier u d) ≤ t → t < one_local s l r u d → one_passes s (earlier l r) (earlier u d) t ≡ false)

-- and for equal sides D away
unfoldable pub OneDiagonalStep : Type 0
OneDiagonalStep = (s a : ℕ) → 1 ≤ s → s ≤ 4095 → a < never → one_local s a never a never ≡ a + diagonal s

-- with equal numbers and equal sides, a, it is D away as far as the third square is zero: up to the time between storeys. If a + D is past that, so is
-- the answer: with nothing over or under it is D away for every a below never, up to never
unfoldable pub DiagonalStep : Type 0
DiagonalStep =
    (s l r u d o n : ℕ) → 1 ≤ s → s ≤ 4095 → earlier l r ≡ earlier u d → earlier l r < never →
    (earlier l r + diagonal s ≤ earlier o n → local s s l r u d o n ≡ earlier l r + diagonal s)
    × (earlier o n < earlier l r + diagonal s → earlier o n < local s s l r u d o n)

-- ---- ANY NUMBER OF AXES: earlier neighbours give no later answer; a time above never counts as never
unfoldable pub EarlierNoLater : Type 0
EarlierNoLater =
    (l : Lattice) (c : ℕ) (f g : ℕ → ℕ) → c < l.cells → ((e : ℕ) → e < l.cells → Near l.axes c e → min never (f e) ≤ g e) →
    min never (given_on l c f) ≤ given_on l c g

-- nor does a cell that is no slower, of two lattices with the same axes
unfoldable pub QuickerNoLater : Type 0
QuickerNoLater =
    (l m : Lattice) (c : ℕ) (f : ℕ → ℕ) → l.axes ≡ m.axes → NoSlower (l.weights c) (m.weights c) →
    min never (given_on l c f) ≤ given_on m c f

-- and exactly one set of times fits
pub record Fits (l : Lattice) (times : ℕ → ℕ) : Type 0 where
  pub on : (c : ℕ) → c < l.cells → times c ≡ met_on l c times
  pub off : (c : ℕ) → l.cells ≤ c → times c ≡ never

pub record JustOne (l : Lattice) : Type 0 where
  pub times : ℕ → ℕ
  pub fits : Fits l times
  pub only : (f : ℕ → ℕ) → Fits l f → (c : ℕ) → f c ≡ times c

unfoldable pub OneSet : Type 0
OneSet = (l : Lattice) → JustOne l

-- ---- THE SECOND CONDITION: just one set of times meets the rule, and it is the one worked out
unfoldable pub OneSolution : Type 0
OneSolution = (b : Board) → board_good b ≡ true → Meets b (solved b) × ((ts : List ℕ) → Meets b ts → ts ≡ solved b)

-- the largest true time
unfoldable pub TimesBelow : Type 0
TimesBelow = (b : Board) (c : ℕ) → board_good b ≡ true → c < size b → (time (solved b) c < 269369920) ⊎ (time (solved b) c ≡ never)

-- never, exactly: a marched time is never just if the solution lies past the horizon
unfoldable pub NeverPastHorizon : Type 0
NeverPastHorizon =
    (b : Board) (h c : ℕ) → board_good b ≡ true → h ≤ largest → c < size b →
    (time (marched b h) c ≡ never → h < time (solved b) c) × (h < time (solved b) c → time (marched b h) c ≡ never)

-- e is right of c in its row, below it on its storey, or over it: at the next place on an axis
abbrev pub Beside : Board → (c e : ℕ) → Type 0
Beside b c e = NextOn (axes b) c e

abbrev pub Neighbour : Board → (c e : ℕ) → Type 0
Neighbour b c e = Near (axes b) c e

-- a chain of open cells, each a neighbour of the next, joins the cell to a start
pub data Joined (b : Board) : (c : ℕ) → Type 0 where
  begins : (c : ℕ) → c < size b → slowness b c ≢ 0 → start_time c b.starts ≢ never → Joined b c
  goes_on : (c e : ℕ) → c < size b → slowness b c ≢ 0 → Neighbour b c e → Joined b e → Joined b c

-- never, exactly: the solution is never just if no chain joins the cell to a start
unfoldable pub NeverUnjoined : Type 0
NeverUnjoined =
    (b : Board) (c : ℕ) → board_good b ≡ true → c < size b →
    (time (solved b) c ≡ never → Joined b c → ⊥) × ((Joined b c → ⊥) → time (solved b) c ≡ never)

-- ---- THE THIRD CONDITION: just one set of times meets the rule in tiles, the one whose cut a round is by definition
unfoldable pub RoundIsSolution : Type 0
RoundIsSolution =
    (b : Board) (tw th : ℕ) (stored : List ℕ) → board_good b ≡ true →
    MeetsInTiles b tw th stored (solved_in_tiles b tw th stored)
    × ((ts : List ℕ) → MeetsInTiles b tw th stored ts → ts ≡ solved_in_tiles b tw th stored)

-- a tile run's rounds come to the march, in times and sides, whatever its tiles and stride; its last round is the first that can be, and they are few
unfoldable pub RunIsMarch : Type 0
RunIsMarch =
    (b : Board) (tw th s h : ℕ) → board_good b ≡ true → 1 ≤ tw → tw ≤ 256 → 1 ≤ th → th ≤ 256 → 1 ≤ s → s ≤ 300000000 → h ≤ 300000000 →
    (last_round b tw th s h (rounds b tw th s h) ≡ true) × (after_rounds (rounds b tw th s h) b tw th s h ≡ marched b h)
    × (sides_after (rounds b tw th s h) b tw th s h ≡ march_sides b h)

unfoldable pub RoundsLeast : Type 0
RoundsLeast =
    (b : Board) (tw th s h : ℕ) → board_good b ≡ true → 1 ≤ tw → tw ≤ 256 → 1 ≤ th → th ≤ 256 → 1 ≤ s → s ≤ 300000000 → h ≤ 300000000 →
    (1 ≤ rounds b tw th s h) × (last_round b tw th s h (rounds b tw th s h) ≡ true)
    × ((k : ℕ) → 1 ≤ k → k < rounds b tw th s h → last_round b tw th s h k ≡ false)

unfoldable pub FewRounds : Type 0
FewRounds =
    (b : Board) (tw th s h : ℕ) → board_good b ≡ true → 1 ≤ tw → tw ≤ 256 → 1 ≤ th → th ≤ 256 → 1 ≤ s → s ≤ 300000000 → h ≤ 300000000 →
    rounds b tw th s h ≤ max 1 (up h s) + reached h (solved b)

-- the order of tiles serves for number 12 alone, whatever is to be done
unfoldable pub ordered : Board → Job → List ℕ → Bool
ordered b (March z) xs = true
ordered b (Round tw th m) xs = order_good b tw th xs
ordered b (Run tw th s z) xs = order_good b tw th xs

unfoldable pub OrderFree : Type 0
OrderFree =
    (p : Handed) (j : Job) (n w : ℕ) (xs ys ts : List ℕ) → ordered p.board j xs ≡ true → ordered p.board j ys ≡ true →
    let c = call p j xs n w in
    let d = call p j ys n w in
    (times_after c ts ≡ times_after d ts) × (ledger_answer c ts ≡ ledger_answer d ts) × ((ss : List ℕ) → sides_left c ts ss ≡ sides_left d ts ss)

-- round j + 1 of a tile run as a single round; and the first j of them
abbrev pub single_round : (j : ℕ) → Handed → (tw th stride horizon : ℕ) → (order : List ℕ) → (sides work : ℕ) → Call
single_round j p tw th s h xs n w = call p (Round tw th (min (suc j * s) h)) xs n w

unfoldable pub single_rounds : (j : ℕ) → Handed → (tw th stride horizon : ℕ) → (order : List ℕ) → (sides work : ℕ) → List Call
single_rounds zero p tw th s h xs n w = []
single_rounds (suc j) p tw th s h xs n w = single_rounds j p tw th s h xs n w ++ (single_round j p tw th s h xs n w ∷ [])

-- the times that they leave, called in turn from all never
abbrev pub rounds_leave : (j : ℕ) → Handed → (tw th stride horizon : ℕ) → (order : List ℕ) → (sides work : ℕ) → List ℕ
rounds_leave j p tw th s h xs n w = (ledger (single_rounds j p tw th s h xs n w) [] (all_never p.board)).times

-- are those that a tile run holds after its round j; and the sides that the next one leaves, in whatever list it is lent, are the run's after that
unfoldable pub RunIsRounds : Type 0
RunIsRounds =
    (p : Handed) (tw th s h n w j : ℕ) (xs : List ℕ) → (refusal (call p (Run tw th s h) xs n w) (size p.board)).number ≡ 0 →
    let left = rounds_leave j p tw th s h xs n w in
    (left ≡ after_rounds j p.board tw th s h)
    × ((ss : List ℕ) → sides_left (single_round j p tw th s h xs n w) left ss ≡ sides_after (suc j) p.board tw th s h)

-- two runs that differ in the order alone hold the same after every round,
unfoldable pub RunOrderFree : Type 0
RunOrderFree =
    (p : Handed) (tw th s h n w : ℕ) (xs ys ts : List ℕ) → order_good p.board tw th xs ≡ true → order_good p.board tw th ys ≡ true →
    (j : ℕ) → ledger (single_rounds j p tw th s h xs n w) [] ts ≡ ledger (single_rounds j p tw th s h ys n w) [] ts

-- and leave equal sides: TWO ORDERS OF TILES GIVE EQUAL SIDES AFTER EACH ROUND, whatever sides each round is lent
unfoldable pub SidesOrderFree : Type 0
SidesOrderFree =
    (p : Handed) (tw th s h n w : ℕ) (xs ys ts : List ℕ) → order_good p.board tw th xs ≡ true → order_good p.board tw th ys ≡ true →
    (j : ℕ) (us : List (List ℕ)) → ledger_sides (single_rounds j p tw th s h xs n w) us ts ≡ ledger_sides (single_rounds j p tw th s h ys n w) us ts

-- a list of calls, each of which meets its contract and is lent the times that the one before left, and sides of its own: those that they are lent and leave
pub data Steps : (times : List ℕ) → List Call → List Reply → (lent left : List (List ℕ)) → (last : List ℕ) → Type 0 where
  done : (a : List ℕ) → Steps a [] [] [] [] a
  then : (l m : Lent) (z : List ℕ) (c : Call) (x : Reply) (cs : List Call) (xs : List Reply) (us vs : List (List ℕ))
      → Says c x l m → Steps m.sheet.times cs xs us vs z
      → Steps l.sheet.times (c ∷ cs) (x ∷ xs) (l.sheet.sides ∷ us) (m.sheet.sides ∷ vs) z

-- A SINGLE CLAIM ABOUT THE WHOLE LIST: answers, with counts and places, times, and what is left in the sides are the ledger's
unfoldable pub EveryList : Type 0
EveryList =
    (cs : List Call) (xs : List Reply) (us vs : List (List ℕ)) (a z : List ℕ) → Steps a cs xs us vs z →
    (book xs z ≡ ledger cs [] a) × (vs ≡ ledger_sides cs us a)

-- where one list of sides is handed on, the first call being lent p and the last one leaving q, that is the ledger's too
pub data HandedOn : (p : List ℕ) → (lent left : List (List ℕ)) → (q : List ℕ) → Type 0 where
  done : (p : List ℕ) → HandedOn p [] [] p
  then : (p r q : List ℕ) (us vs : List (List ℕ)) → HandedOn r us vs q → HandedOn p (p ∷ us) (r ∷ vs) q

unfoldable pub EverySheet : Type 0
EverySheet =
    (cs : List Call) (xs : List Reply) (us vs : List (List ℕ)) (a z p q : List ℕ) → Steps a cs xs us vs z → HandedOn p us vs q →
    (book xs z ≡ ledger cs [] a) × (q ≡ sides_along cs a p)

-- and each place is that of the first start at fault
pub data AllPlace : List Call → List Reply → Type 0 where
  done : AllPlace [] []
  then : (c : Call) (x : Reply) (cs : List Call) (xs : List Reply) → Places c x → AllPlace cs xs → AllPlace (c ∷ cs) (x ∷ xs)

unfoldable pub EveryPlace : Type 0
EveryPlace = (cs : List Call) (xs : List Reply) (us vs : List (List ℕ)) (a z : List ℕ) → Steps a cs xs us vs z → AllPlace cs xs

-- the same of a program as a function: one that keeps the ledger in each call keeps it along every list
pub record Done : Type 0 where
  pub answered : Reply
  pub times : List ℕ
  pub sides : List ℕ

abbrev pub Program : Type 0
Program = Call → (times sides : List ℕ) → Done

pub record Keeps (f : Program) (c : Call) (ts ss : List ℕ) : Type 0 where
  pub answers : (f c ts ss).answered ≡ ledger_answer c ts
  pub times : (f c ts ss).times ≡ times_after c ts
  pub sides : (f c ts ss).sides ≡ sides_left c ts ss

unfoldable pub played : Program → List Call → (lent : List (List ℕ)) → (so_far : List Reply) → (times : List ℕ) → Book
played f [] us xs ts = book xs ts
played f (c ∷ cs) [] xs ts = book xs ts
played f (c ∷ cs) (u ∷ us) xs ts = played f cs us (xs ++ ((f c ts u).answered ∷ [])) (f c ts u).times

unfoldable pub played_sides : Program → List Call → (lent : List (List ℕ)) → (times : List ℕ) → List (List ℕ)
played_sides f [] us ts = []
played_sides f (c ∷ cs) [] ts = []
played_sides f (c ∷ cs) (u ∷ us) ts = (f c ts u).sides ∷ played_sides f cs us (f c ts u).times

unfoldable pub ListsKeep : Type 0
ListsKeep =
    (f : Program) (cs : List Call) (us : List (List ℕ)) (ts : List ℕ) → length us ≡ length cs →
    ((c : Call) (ts ss : List ℕ) → Keeps f c ts ss) →
    (played f cs us [] ts ≡ ledger cs [] ts) × (played_sides f cs us ts ≡ ledger_sides cs us ts)

-- RECORDS AND PLAIN LISTS get the same answers: a board is the same, handed in as records or as the plain lists of their cells and times,
unfoldable pub SameHanded : Type 0
SameHanded = (w h s : ℕ) (ss : List ℕ) (xs : List Start) → by_lists w h s ss (cells_of xs) (begins_of xs) ≡ by_records w h s ss xs

-- plain lists of one length are those of some records,
unfoldable pub ListsAreRecords : Type 0
ListsAreRecords =
    (cs ts : List ℕ) → length cs ≡ length ts → (cs ≡ cells_of (starts_of cs ts)) × (ts ≡ begins_of (starts_of cs ts))

-- and two calls that meet one contract and are lent the same lists answer and leave the same
unfoldable pub SameAnswers : Type 0
SameAnswers = (c : Call) (x y : Reply) (l m n : Lent) → Says c x l m → Says c y l n → (x ≡ y) × (m ≡ n)

-- THE THIRD CONDITION, WHOLE: a value of this record shows it
pub record ThirdCondition : Type 0 where
  -- every list of marches, tile runs and rounds, refused ones too, over records and over plain lists as it comes, is the ledger's
  pub every_list : EveryList
  pub every_sheet : EverySheet
  pub every_place : EveryPlace
  -- just one set of times meets the rule in tiles, the one whose cut a round is by definition
  pub round_is_solution : RoundIsSolution
  -- a tile run comes to the march, at its first round that can be the last, and soon
  pub run_is_march : RunIsMarch
  pub rounds_least : RoundsLeast
  pub few_rounds : FewRounds
  -- what it holds after each round is what single rounds leave
  pub run_is_rounds : RunIsRounds
  -- and the order of tiles never shows, in the times, in the sides or in the answers
  pub order_free : OrderFree
  pub run_order_free : RunOrderFree
  pub sides_order_free : SidesOrderFree
