-- Outcomes of checks that are made one after the other, each but the last with a `?`: the first that refuses is the answer.
use mathlib.Core.Path.{◌≡◌, refl, sym, ap, ◌∙◌}
use mathlib.Core.Bool.{Bool, false}
use mathlib.Core.List.{List, [], ◌∷◌, ◌++◌}
use mathlib.Core.Logic.{◌≢◌}
use Prim.Native.Nat.{ℕ, suc}
use native.Mathlib.Omega.{arith}
use Rattle.std.specs.Prelude.{Result, Ok, Err, IsErrAnd}
use Rattle.eikonal.specs.Order.{Refusal, Cause, caused, found, none, or_else, first_of}
use Rattle.eikonal.specs.Told.{number_of, refusal_of, told}
use Rattle.eikonal.specs.declared.refused.Cause as causes
use Rattle.eikonal.specs.declared.refused.Cause.TheVariants.{FileLength, Sides, Ticks, Lengths, Steep, Runs, OffBoard, Late, OnWall}
use Rattle.eikonal.specs.declared.refused.Cause.TheVariants.{Far, TileSides, Order, Times, Room, Large, CellOffBoard, NoChain, NotRising}
use Rattle.eikonal.specs.declared.refused.Cause.TheVariants.{Unjoined, Change, HalfWall, FewCounts, Stacked, Kind, Other}
use Rattle.eikonal.specs.declared.refused.Refusal as code
use Rattle.eikonal.proofs.Causes.{first, next, first-append, first_found, NoneMet, none-met, number_is}
use borrow.Author.Tests.{lt-ltb}

-- no cause has the number 0
pub numbered : (k : causes.Cause) → number_of k ≢ 0
numbered FileLength e = absurd (omega (arith, e))
numbered Sides e = absurd (omega (arith, e))
numbered Ticks e = absurd (omega (arith, e))
numbered Lengths e = absurd (omega (arith, e))
numbered Steep e = absurd (omega (arith, e))
numbered Runs e = absurd (omega (arith, e))
numbered OffBoard e = absurd (omega (arith, e))
numbered Late e = absurd (omega (arith, e))
numbered OnWall e = absurd (omega (arith, e))
numbered Far e = absurd (omega (arith, e))
numbered TileSides e = absurd (omega (arith, e))
numbered Order e = absurd (omega (arith, e))
numbered Times e = absurd (omega (arith, e))
numbered Room e = absurd (omega (arith, e))
numbered Large e = absurd (omega (arith, e))
numbered CellOffBoard e = absurd (omega (arith, e))
numbered NoChain e = absurd (omega (arith, e))
numbered NotRising e = absurd (omega (arith, e))
numbered Unjoined e = absurd (omega (arith, e))
numbered Change e = absurd (omega (arith, e))
numbered HalfWall e = absurd (omega (arith, e))
numbered FewCounts e = absurd (omega (arith, e))
numbered Stacked e = absurd (omega (arith, e))
numbered Kind e = absurd (omega (arith, e))
numbered (Other k) e = absurd (omega (arith, e, k.some))

-- a refusal that a `?` hands on
pub handed_on : {A : Type 0} (r : code.Refusal) (x : Result A code.Refusal) → IsErrAnd x (λ e. e ≡ r) → told x ≡ refusal_of r
handed_on r (Ok v) h = absurd h
handed_on r (Err e) h = ap refusal_of h

-- .. has a number
pub refuses_still : {A : Type 0} (r : code.Refusal) (x : Result A code.Refusal) → IsErrAnd x (λ e. e ≡ r) → (told x).number ≢ 0
refuses_still r (Ok v) h e = absurd h
refuses_still r (Err y) h e = numbered y.cause e

-- what is found refuses, whatever stands behind it
stays : (r : code.Refusal) (js ks : List Cause) → refusal_of r ≡ first_of js → refusal_of r ≡ first_of (js ++ ks)
stays r js ks e = first _ _ _ e (λ z. numbered r.cause (number_is e ∙ z)) ∙ sym (first-append js ks)

pub stopped : {A : Type 0} (r : code.Refusal) (x : Result A code.Refusal) (js ks : List Cause) → refusal_of r ≡ first_of js
    → IsErrAnd x (λ e. e ≡ r) → told x ≡ first_of (js ++ ks)
stopped r x js ks e h = handed_on r x h ∙ stays r js ks e

-- where nothing is found, what stands behind it answers
pub went_on : {x : Refusal} (js ks : List Cause) → none ≡ first_of js → x ≡ first_of ks → x ≡ first_of (js ++ ks)
went_on js ks e f = next _ _ _ (sym (number_is e)) f ∙ sym (first-append js ks)

-- a cause that did not refuse is not met
pub unmet : (k : ℕ) (p : Bool) → none ≡ first_of (caused (suc k) p ∷ []) → p ≡ false
unfolding first_of NoneMet
unmet k p e = rw (lt-ltb 0 (suc k) (omega arith)) at (none-met (caused (suc k) p ∷ []) (sym (number_is e))).0

-- ---- for tactics
pub first_of_more : (k : Cause) (ks : List Cause) → first_of (k ∷ ks) ≡ or_else (first_of (k ∷ [])) (first_of ks)
first_of_more k ks = first-append (k ∷ []) ks

pub past_none : (a : Refusal) → or_else none a ≡ a
unfolding or_else
past_none a = refl

pub past_refusal : (r : code.Refusal) (a : Refusal) → or_else (refusal_of r) a ≡ refusal_of r
past_refusal r a = sym (first _ _ _ refl (numbered r.cause))

-- ---- an outcome that was found before stands in the list as a value
found_told : {A : Type 0} (x : Result A code.Refusal) → told x ≡ first_of (found (told x) ∷ [])
unfolding first_of
found_told (Ok v) = refl
found_told (Err r) = sym (first_found (refusal_of r) [] ∙ past_refusal r none)

pub told_alone : {A : Type 0} (x : Result A code.Refusal) → first_of (found (told x) ∷ []) ≡ told x
told_alone x = sym (found_told x)

pub nothing_found : {A : Type 0} (v : A) (x : Result A code.Refusal) → x ≡ Ok v → none ≡ first_of (found (told x) ∷ [])
nothing_found v x e = ap told (sym e) ∙ found_told x

pub was_found : {A : Type 0} (r : code.Refusal) (x : Result A code.Refusal) → x ≡ Err r → refusal_of r ≡ first_of (found (told x) ∷ [])
was_found r x e = ap told (sym e) ∙ found_told x

-- NAME THIS ONE at a function that makes checks with `?`: #[tactic(auto, using(eikonal::proofs::Outcomes::outcomes), unfolding(..))]
pub ruleset outcomes = (first_of_more, first_found, told_alone, past_none, past_refusal)
