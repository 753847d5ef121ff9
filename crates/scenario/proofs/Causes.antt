-- What files and boards have passed that are not refused.
use mathlib.Core.Path.{◌≡◌, refl, sym, ◌∙◌}
use mathlib.Core.Bool as Bools
use mathlib.Core.Bool.{Bool, true, false, ◌&&◌, not}
use mathlib.Core.List.{List, [], ◌∷◌}
use Prim.Native.Nat.{ℕ, suc, ◌+◌, ◌≤◌, ◌<◌}
use native.Mathlib.Omega.{arith}
use native.Mathlib.Decide.{dec_le}
use lib.Dec.{ltb, leb, eqb}
use lib.ListN.{length}
use borrow.Author.Tests.{lt-ltb, le-ltb, lt-leb, ltb-false, eqb-true, eq-eqb, leb-true, le-leb, ltb-true, not-false, not-true}
use Rattle.eikonal.specs.Board.{size}
use Rattle.eikonal.specs.Order.{caused, found, none, or_else, first_of}
use Rattle.eikonal.specs.Refusals.{sides_good, late, Handed, handed, pair_causes, start_causes, board_causes, handed_refusal, board_refusal}
use Rattle.eikonal.specs.Inner.Good.{starts_rise}
use Rattle.eikonal.specs.declared.Start.{Start}
use Rattle.eikonal.specs.Order.{Refusal}
use Rattle.eikonal.proofs.Causes.{NoneMet, none-met, unrefused, met-append, met_parts, number_is, first-append}
use Rattle.eikonal.proofs.Good.{in_range, and-true, or-false, sides-within}
use Rattle.scenario.specs.Runs.{runs_good}
use Rattle.scenario.specs.File.{head_size, file_size, head_in, runs_in, held}
use Rattle.scenario.specs.File.{ticks_good, length_good, front_causes, rest_causes, file_causes, file_refusal}
use Rattle.scenario.specs.declared.Head.{Head}
use Rattle.scenario.specs.Inner.Walk.{Fits}
use Rattle.scenario.specs.Turns.{turn_refusal}
use Rattle.scenario.proofs.Records.{All}
use Rattle.scenario.proofs.Slows.{Good, cells_alone}
use Rattle.scenario.proofs.GoodRuns.{slows_of}

-- what a call answered of a test, and the branch on it
pub holds : {p q : Bool} → p ≡ q → not p ≡ false → q ≡ true
holds {p} e h = sym e ∙ not-false p h

pub fails : {p q : Bool} → p ≡ q → not p ≡ true → q ≡ false
fails {p} e h = sym e ∙ not-true p h

-- ---- ticks
pub some-ticks : (k : ℕ) → ticks_good k ≡ true → (1 ≤ k) × (k ≤ 65535)
unfolding ticks_good
some-ticks k g = in_range 1 65535 k g

pub ticks_pass : (k : ℕ) → (turn_refusal k).number ≡ 0 → ticks_good k ≡ true
unfolding turn_refusal NoneMet
ticks_pass k e = not-false _ (none-met (caused 3 (not (ticks_good k)) ∷ []) e).0

pub pass_ticks : (k : ℕ) → ticks_good k ≡ true → (turn_refusal k).number ≡ 0
unfolding turn_refusal first_of
pass_ticks k e = rw e refl

-- a value that was looked for and not found
pub unfound : (r : Refusal) → ltb 0 r.number && true ≡ false → r.number ≡ 0
unfound r e = omega (arith, ltb-false 0 r.number (sym (Bools.and-true _) ∙ e))

-- ---- boards as they are handed in, with all pairs that are looked at, whatever else was looked for
pub record Given (p : Handed) (ss : List ℕ) : Type 0 where
  pub sides : sides_good p.board.wide p.board.high ≡ true
  pub paired : p.paired ≡ true
  pub long : length p.board.slow ≡ size p.board
  pub slows : Good p.board.wide p.board.high p.board.storeys ss
  pub starts : NoneMet (start_causes p.board)

module _ (p : Handed) (ss : List ℕ) (u v : Refusal) where
  pub given : NoneMet (board_causes p ss u v) → Given p ss
  unfolding NoneMet board_causes
  given n =
      let b = p.board in
      let r = met_parts (pair_causes b.wide b.high b.storeys ss) (found v ∷ start_causes b) n.1.1.1 in
      let even = and-true p.paired (eqb (length b.slow) (size b)) (not-false _ n.1.1.0) in
      record { sides = not-false _ n.0; paired = even.0; long = eqb-true _ _ even.1; slows = r.0; starts = r.1.1 }

  pub gives : Given p ss → u.number ≡ 0 → v.number ≡ 0 → NoneMet (board_causes p ss u v)
  unfolding NoneMet board_causes
  gives k y z =
      let b = p.board in
      rw (k.sides, k.paired, eq-eqb (length b.slow) (size b) k.long, y)
      (refl, (refl, (refl, met-append (pair_causes b.wide b.high b.storeys ss) _ k.slows (rw z refl, k.starts))))

-- with the ground's pair in front of its own, the board alone is not refused
pub board-taken : {p : Handed} {g : ℕ} → Given p (g ∷ p.board.slow) → (board_refusal p.board).number ≡ 0
unfolding handed_refusal
board-taken {p} {g} k =
    let b = p.board in
    let slows = cells_alone _ _ _ g b.slow k.slows in
    let alone : Given (handed b true) b.slow = record { sides = k.sides; paired = refl; long = k.long; slows = slows; starts = k.starts } in
    number_is (unrefused _ (gives (handed b true) b.slow none none alone refl refl))

-- ---- files
-- 1, 2
pub record Headed (f : List ℕ) : Type 0 where
  pub head : head_size ≤ length f
  pub long : length f ≡ file_size (head_in f).runs (head_in f).starts
  pub sides : sides_good (head_in f).width (head_in f).height ≡ true

pub headed : (f : List ℕ) → NoneMet (front_causes f) → Headed f
unfolding NoneMet front_causes length_good
headed f n =
    let one = and-true (leb head_size (length f)) _ (not-false _ n.0) in
    record { head = leb-true head_size (length f) one.0; long = eqb-true (length f) _ one.1; sides = not-false _ n.1.0 }

-- where code looks for 1 twice: a file is too short for a head, or not as long as its head x says
module _ (f : List ℕ) (x : Head) (e : x ≡ head_in f) where
  pub front_split : (n : ℕ) (p : Bool) → n ≡ file_size x.runs x.starts → p ≡ sides_good x.width x.height
      → first_of (caused 1 (ltb (length f) head_size) ∷ caused 1 (not (eqb (length f) n)) ∷ caused 2 (not p) ∷ []) ≡ first_of (front_causes f)
  unfolding front_causes length_good first_of
  front_split n p long good = rw (long, good, e) (elim (dec_le head_size (length f)) [
    | yes h ↦ rw (le-leb head_size (length f) h, le-ltb (length f) head_size h) refl
    | no h ↦ rw (lt-leb head_size (length f) (omega arith), lt-ltb (length f) head_size (omega arith)) refl
  ])

  pub front_fits : none ≡ first_of (front_causes f) → Fits x f
  front_fits z =
      let h = headed f (none-met (front_causes f) (sym (number_is z))) in
      let s = sides-within _ _ h.sides in
      record { head = e; long = rw e h.long; wide = rw e s.1; high = rw e s.3 }

-- and 3, 5, 21, 23, 6, 7, 18, 8, 9
pub record Accepted (f : List ℕ) : Type 0 where
  pub front : Headed f
  pub ticks : ticks_good (head_in f).ticks ≡ true
  pub slows : let x = head_in f in Good x.width x.height x.storeys (x.ground ∷ slows_of (runs_in f))
  pub runs : runs_good (size (held f)) (head_in f).ground 0 (head_in f).ground (runs_in f) ≡ true
  pub starts : NoneMet (start_causes (held f))

-- the front, then the rest
pub file_by_parts : (f : List ℕ) → file_refusal f ≡ or_else (first_of (front_causes f)) (first_of (rest_causes f))
unfolding file_refusal file_causes
file_by_parts f = first-append (front_causes f) (rest_causes f)

module _ (f : List ℕ) where
  pub accepted : (file_refusal f).number ≡ 0 → Accepted f
  unfolding NoneMet file_refusal file_causes rest_causes
  accepted e =
      let m = met_parts (front_causes f) (rest_causes f) (none-met (file_causes f) e) in
      let r = met_parts (pair_causes _ _ _ _) (caused 6 _ ∷ start_causes (held f)) m.1.1 in
      record { front = headed f m.0; ticks = not-false _ m.1.0; slows = r.0; runs = not-false _ r.1.0; starts = r.1.1 }

  pub accepts : Accepted f → (file_refusal f).number ≡ 0
  unfolding NoneMet file_refusal file_causes front_causes rest_causes length_good
  accepts a =
      let h = a.front in
      let front : NoneMet (front_causes f) = rw (le-leb head_size (length f) h.head, eq-eqb (length f) _ h.long, h.sides) (refl, (refl, tt)) in
      number_is (unrefused (file_causes f) (met-append (front_causes f) (rest_causes f) front
      (rw a.ticks refl, met-append (pair_causes _ _ _ _) _ a.slows (rw a.runs refl, a.starts))))

-- ---- starts
-- cells that rise are no more than the board has
pub rise-count : (n l : ℕ) (xs : List Start) → starts_rise n l xs ≡ true → l ≤ n → l + length xs ≤ n
unfolding starts_rise
rise-count n l [] e h = omega arith
rise-count n l (x ∷ xs) e h =
    let r = and-true (leb l x.cell && ltb x.cell n) _ e in
    let s = and-true (leb l x.cell) (ltb x.cell n) r.0 in
    let low = leb-true l x.cell s.0 in
    let high = ltb-true x.cell n s.1 in
    let rest = rise-count n (suc x.cell) xs r.1 high in
    omega arith

-- the numbers of a start fit their bytes
pub record Small (x : Start) : Type 0 where
  pub cell : x.cell < 4294967296
  pub time : x.time < 4294967296

pub all_small : (n l : ℕ) (xs : List Start) → n < 4294967296 → starts_rise n l xs ≡ true → late xs ≡ false → All Small xs
unfolding starts_rise late
all_small n l [] h e k = tt
all_small n l (x ∷ xs) h e k =
    let r = and-true (leb l x.cell && ltb x.cell n) _ e in
    let high = ltb-true x.cell n (and-true (leb l x.cell) (ltb x.cell n) r.0).1 in
    let s = or-false (ltb 1000000 x.time) (late xs) k in
    (record { cell = omega arith; time = omega (arith, ltb-false 1000000 x.time s.0) }, all_small n (suc x.cell) xs h r.1 s.1)
