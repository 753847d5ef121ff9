-- Starts judged in parts: two parts, one start more, and what the judgement of a whole list says.
use mathlib.Core.Path.{◌≡◌, refl, sym, ap, ◌∙◌}
use mathlib.Core.Bool.{Bool, true, false, ◌||◌, or-false, or_assoc, cond}
use mathlib.Core.List.{List, [], ◌∷◌, ◌++◌}
use Prim.Native.Nat.{ℕ, suc, ◌+◌, ◌<◌, ◌≤◌}
use native.Mathlib.Omega.{arith}
use lib.Dec.{ltb, leb, eqb}
use lib.ListN.{length, get_or, take, length-take}
use lib.Seq.{take-suc}
use Rattle.eikonal.specs.Board.{Board, size, slowness}
use Rattle.eikonal.specs.declared.Start.{Start}
use borrow.Author.Tests.{lt-ltb}
use Rattle.eikonal.specs.Order.{Cause, caused, at_fault, first_of}
use Rattle.std.specs.Prelude.{Option, Some, None}
use Prim.Native.Nat.compare
use native.Mathlib.Nat.{add-zero, zero-add, add-suc, suc-add}
use Rattle.eikonal.specs.Refusals.{first_fault, on_board, first_off, first_low, late, on_wall, record_causes, start_causes}
use Rattle.eikonal.specs.Handing.{no_start}
use Rattle.refusals.specs.declared.board.Judged.{Judged}
use Rattle.refusals.specs.Judge.{onward, judge_start, judge_by, judge, unwalled, nothing_judged, fault, judged_causes}

-- ---- two parts
pub judge-append : (n : ℕ) (f : ℕ → ℕ) (xs ys : List Start) (j : Judged) → judge_by n f (xs ++ ys) j ≡ judge_by n f ys (judge_by n f xs j)
unfolding judge_by
judge-append n f [] ys j = refl
judge-append n f (x ∷ xs) ys j = judge-append n f xs ys (judge_start n (f x.cell) x.cell x.time j)

-- ---- one start more
pub judge_more : (ss : List ℕ) (xs : List Start) (j : Judged) (i : ℕ) → i < length xs → (let x = get_or xs i no_start in
    judge_start (length ss) (get_or ss x.cell 0) x.cell x.time (judge ss (take i xs) j) ≡ judge ss (take (suc i) xs) j)
unfolding judge_by
judge_more ss xs j i h =
    rw (take-suc xs i no_start h) (sym (judge-append (length ss) (λ c. get_or ss c 0) (take i xs) (get_or xs i no_start ∷ []) j))

-- a good start leaves the first at fault what it was
pub onward-good : (o : Option ℕ) (k : ℕ) → onward o k true ≡ o
unfolding onward
onward-good (Some i) k = refl
onward-good None k = refl

-- ---- the judgement of a whole list
-- a first fault, kept along the list
kept_along : (p : (least cell : ℕ) → Bool) → List Start → (least seen : ℕ) → (first : Option ℕ) → Option ℕ
kept_along p [] l k o = o
kept_along p (x ∷ xs) l k o = kept_along p xs (suc x.cell) (suc k) (onward o k (p l x.cell))

-- one that was met stays, and while none was the next may be it
met-stays : (p : (least cell : ℕ) → Bool) (xs : List Start) (l k i : ℕ) → kept_along p xs l k (Some i) ≡ Some i
unfolding kept_along onward
met-stays p [] l k i = refl
met-stays p (x ∷ xs) l k i = met-stays p xs (suc x.cell) (suc k) i

first-kept : (p : (least cell : ℕ) → Bool) (xs : List Start) (l k : ℕ)
    → kept_along p xs l k None ≡ (let i = first_fault p l xs in cond (ltb i (length xs)) (Some (k + i)) None)
unfolding kept_along onward first_fault
first-kept p [] l k = refl
first-kept p (x ∷ xs) l k = go (p l x.cell) (first-kept p xs (suc x.cell) (suc k))
  where
    i : ℕ
    i = first_fault p (suc x.cell) xs

    go : (q : Bool) → kept_along p xs (suc x.cell) (suc k) None ≡ cond (ltb i (length xs)) (Some (suc k + i)) None
        → kept_along p xs (suc x.cell) (suc k) (cond q None (Some k))
        ≡ (let j = cond q (suc i) 0 in cond (ltb j (suc (length xs))) (Some (k + j)) None)
    go true e = e ∙ rw (compare.suc-suc (suc i) (length xs), add-suc k i, suc-add k i) refl
    go false e = met-stays p xs (suc x.cell) (suc k) k ∙ rw (lt-ltb 0 (suc (length xs)) (omega arith), add-zero k) refl

-- a cause by such a place is that of the first at fault
fault_is : (k i n : ℕ) (ks : List Cause) → first_of (fault (suc k) (cond (ltb i n) (Some i) None) ∷ ks) ≡ first_of (at_fault (suc k) i n ∷ ks)
unfolding first_of
fault_is k i n ks = go (ltb i n)
  where
    go : (p : Bool) → first_of (fault (suc k) (cond p (Some i) None) ∷ ks) ≡ first_of (record { number = suc k; met = p; place = i } ∷ ks)
    go true = refl
    go false = rw (lt-ltb 0 (suc k) (omega arith)) refl

-- field by field
module _ (n : ℕ) (f : ℕ → ℕ) where
  pub judged-seen : (xs : List Start) (j : Judged) → (judge_by n f xs j).seen ≡ j.seen + length xs
  unfolding judge_by judge_start
  judged-seen [] j = omega arith
  judged-seen (x ∷ xs) j = omega (arith, judged-seen xs (judge_start n (f x.cell) x.cell x.time j))

  judged-late : (xs : List Start) (j : Judged) → (judge_by n f xs j).late ≡ j.late || late xs
  unfolding judge_by judge_start late
  judged-late [] j = sym (or-false j.late)
  judged-late (x ∷ xs) j =
      judged-late xs (judge_start n (f x.cell) x.cell x.time j) ∙ or_assoc j.late (ltb 1000000 x.time) (late xs)

  judged-off : (xs : List Start) (j : Judged) → (judge_by n f xs j).off ≡ kept_along (on_board n) xs j.least j.seen j.off
  unfolding judge_by judge_start kept_along
  judged-off [] j = refl
  judged-off (x ∷ xs) j = judged-off xs (judge_start n (f x.cell) x.cell x.time j)

  judged-low : (xs : List Start) (j : Judged) → (judge_by n f xs j).low ≡ kept_along leb xs j.least j.seen j.low
  unfolding judge_by judge_start kept_along
  judged-low [] j = refl
  judged-low (x ∷ xs) j = judged-low xs (judge_start n (f x.cell) x.cell x.time j)

-- as many were judged as starts were passed
pub judge_passed : (ss : List ℕ) (xs : List Start) (j : Judged) (i : ℕ) → (judge ss (take i xs) j).seen ≤ j.seen + i
judge_passed ss xs j i = omega (arith, judged-seen (length ss) (λ c. get_or ss c 0) (take i xs) j, length-take i xs)

-- two lists alike behind one cause
alike_after : (k : Cause) (js ks : List Cause) → first_of js ≡ first_of ks → first_of (k ∷ js) ≡ first_of (k ∷ ks)
unfolding first_of
alike_after k js ks e = rw e refl

-- THE JUDGEMENT OF A WHOLE LIST: the causes of the records, then walls, if they were met
judge_by_finds : (n : ℕ) (f : ℕ → ℕ) (xs : List Start) (w : Bool) → (judge_by n f xs nothing_judged).walled ≡ w
    → first_of (judged_causes (judge_by n f xs nothing_judged)) ≡ first_of (record_causes n xs ++ caused 9 w ∷ [])
unfolding judged_causes record_causes
judge_by_finds n f xs w e =
    let k = length xs in
    let i = first_off n xs in
    let j = first_low xs in
    let off = judged-off n f xs nothing_judged ∙ first-kept (on_board n) xs 0 0 in
    let low = judged-low n f xs nothing_judged ∙ first-kept leb xs 0 0 in
    let last = caused 8 (late xs) ∷ caused 9 w ∷ [] in
    let lows = fault 18 (cond (ltb j k) (Some j) None) ∷ last in
    rw (off, low, judged-late n f xs nothing_judged, e, zero-add i, zero-add j)
    (fault_is 6 i k lows ∙ alike_after (at_fault 7 i k) lows (at_fault 18 j k ∷ last) (fault_is 17 j k last))

-- on a board
judged_walled : (n : ℕ) (b : Board) (xs : List Start) (j : Judged) → (judge_by n (λ c. get_or b.slow c 0) xs j).walled ≡ j.walled || on_wall b xs
unfolding judge_by judge_start on_wall slowness
judged_walled n b [] j = sym (or-false j.walled)
judged_walled n b (x ∷ xs) j =
    let s = get_or b.slow x.cell 0 in
    judged_walled n b xs (judge_start n s x.cell x.time j) ∙ or_assoc j.walled (eqb s 0) (on_wall b xs)

pub judge_finds : (b : Board) → length b.slow ≡ size b → first_of (judged_causes (judge b.slow b.starts nothing_judged)) ≡ first_of (start_causes b)
unfolding start_causes
judge_finds b e =
    let n = length b.slow in
    judge_by_finds n (λ c. get_or b.slow c 0) b.starts _ (judged_walled n b b.starts nothing_judged)
    ∙ ap (λ (k : ℕ). first_of (record_causes k b.starts ++ caused 9 (on_wall b b.starts) ∷ [])) e

-- as if there were no walls
none_walled : (n : ℕ) (xs : List Start) (j : Judged) → (judge_by n unwalled xs j).walled ≡ j.walled
unfolding judge_by judge_start
none_walled n [] j = refl
none_walled n (x ∷ xs) j = none_walled n xs (judge_start n 1 x.cell x.time j) ∙ or-false j.walled

pub unwalled_finds : (n : ℕ) (xs : List Start) → first_of (judged_causes (judge_by n unwalled xs nothing_judged)) ≡ first_of (record_causes n xs)
unfolding record_causes first_of
unwalled_finds n xs = judge_by_finds n unwalled xs false (none_walled n xs nothing_judged)
