-- Why a call is refused: causes in one order, and the first of them that is met ("Turned down" of document 01, and the cards of document 02, which put
-- their numbers into that order).
use Rattle.std.specs.Prelude.{◌≡◌, Bool, true, ◌&&◌, cond, List, [], ◌∷◌, map, ℕ, suc, ◌<◌, ltb, leb, eqb}

-- A REFUSAL is a value: the number of its cause, 0 for none; and where a start is at fault, its place in the list, from 0
pub record Refusal : Type 0 where
  pub number : ℕ
  pub place : ℕ

abbrev pub cause_at : (number place : ℕ) → Refusal
cause_at n i = record { number = n; place = i }

abbrev pub cause : (number : ℕ) → Refusal
cause n = cause_at n 0

abbrev pub none : Refusal
none = cause 0

-- a refusal, or where it is none the next
unfoldable pub or_else : (a b : Refusal) → Refusal
or_else a b = cond (eqb a.number 0) b a

-- A CAUSE that is looked for: its number, whether it is met, and the place of the first start that is at fault by it, 0 for other causes
pub record Cause : Type 0 where
  pub number : ℕ
  pub met : Bool
  pub place : ℕ

abbrev pub caused : (number : ℕ) → (met : Bool) → Cause
caused k p = record { number = k; met = p; place = 0 }

-- by a start of so many, the first at fault being at this place
abbrev pub at_fault : (number first many : ℕ) → Cause
at_fault k i n = record { number = k; met = ltb i n; place = i }

-- what was found already, as a value: nothing where its number is 0
abbrev pub found : Refusal → Cause
found r = record { number = r.number; met = true; place = r.place }

-- THE REFUSAL OF A LIST of causes is the first of them that is met; no cause has the number 0
unfoldable pub first_of : List Cause → Refusal
first_of [] = none
first_of (k ∷ ks) = cond (ltb 0 k.number && k.met) (cause_at k.number k.place) (first_of ks)

-- THE ONE ORDER in which causes are looked for, by their numbers. Some belong to calls to come
abbrev pub order : List ℕ
order = 1 ∷ 2 ∷ 15 ∷ 3 ∷ 4 ∷ 5 ∷ 21 ∷ 23 ∷ 24 ∷ 6 ∷ 7 ∷ 18 ∷ 8 ∷ 9 ∷ 20 ∷ 16 ∷ 22 ∷ 10 ∷ 11 ∷ 12 ∷ 13 ∷ 14 ∷ 17 ∷ []

-- where a number stands in it, from 0. One that is not in it stands behind all, as 0 does, the number of nothing found
unfoldable pub rank_in : List ℕ → (number : ℕ) → ℕ
rank_in [] n = 0
rank_in (k ∷ ks) n = cond (eqb k n) 0 (suc (rank_in ks n))

unfoldable pub rank : (number : ℕ) → ℕ
rank n = rank_in order n

-- the second of two numbers is looked for behind the first
abbrev pub LookedForBehind : (first second : ℕ) → Type 0
LookedForBehind a b = rank a < rank b

-- numbers of causes that stand in that order, from a rank on; a value with the number 0 is no cause
unfoldable pub follows : (least : ℕ) → (numbers : List ℕ) → Bool
follows l [] = true
follows l (n ∷ ns) = cond (eqb n 0) (follows l ns) (leb l (rank n) && ltb (rank n) (rank 0) && follows (rank n) ns)

-- A LIST OF CAUSES FOLLOWS THE ORDER
abbrev pub InOrder : List Cause → Type 0
InOrder ks = follows 0 (map (λ k. k.number) ks) ≡ true

-- WHAT A CALL LOOKS FOR OF ITS OWN, beside a march's causes: refusals that it has found, by the slots where they are due
pub record Own : Type 0 where
  -- behind 2: 3
  pub ticks : Refusal
  -- behind 23: 24
  pub kinds : Refusal
  -- behind 9: 16, 22, or a start that is added or removed
  pub cell : Refusal
  -- behind 13: times by what they hold
  pub times : Refusal
  -- behind 14: other lists, and sides by what they hold
  pub lists : Refusal
  -- behind all: 17
  pub last : Refusal
