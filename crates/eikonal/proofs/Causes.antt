-- Refusals as the first of a list of causes: what is not refused meets none of them, two lists are looked through one after the other, and a value that
-- was found stands for a list.
use mathlib.Core.Path.{◌≡◌, refl, ap}
use mathlib.Core.Bool.{Bool, true, false, ◌&&◌, cond}
use mathlib.Core.List.{List, [], ◌∷◌, ◌++◌}
use mathlib.Core.Logic.{◌≢◌}
use native.Mathlib.Omega.{arith}
use native.Mathlib.Decide.{ℕ_discrete}
use lib.Dec.{ltb, eqb}
use borrow.Author.Tests.{eqb-true, eqb-false, eq-eqb, ne_eqb, lt-ltb, le-ltb, ltb-true}
use Rattle.eikonal.specs.Order.{Cause, found, cause_at, none, or_else, first_of}
use Rattle.eikonal.specs.Order.{Refusal}

-- two refusals with one number, by the value
pub number_is : {a b : Refusal} → a ≡ b → a.number ≡ b.number
number_is e = ap (λ (k : Refusal). k.number) e

-- ---- or_else
pub neither : (a b : Refusal) → (or_else a b).number ≡ 0 → (a.number ≡ 0) × (b.number ≡ 0)
unfolding or_else
neither a b e = go (eqb a.number 0) refl e
  where
    go : (p : Bool) → eqb a.number 0 ≡ p → (cond p b a).number ≡ 0 → (a.number ≡ 0) × (b.number ≡ 0)
    go true q e = (eqb-true a.number 0 q, e)
    go false q e = absurd (eqb-false a.number 0 q e)

-- the first refusal that is one; past one that is none, the next
pub first : (a b x : Refusal) → x ≡ a → a.number ≢ 0 → x ≡ or_else a b
unfolding or_else
first a b x e d = rw (ne_eqb a.number 0 d) e

pub next : (a b x : Refusal) → a.number ≡ 0 → x ≡ b → x ≡ or_else a b
unfolding or_else
next a b x z e = rw (eq-eqb a.number 0 z) e

pub or_else_assoc : (a b c : Refusal) → or_else (or_else a b) c ≡ or_else a (or_else b c)
unfolding or_else
or_else_assoc a b c = elim (ℕ_discrete a.number 0) [
  | yes z ↦ rw (eq-eqb a.number 0 z) refl
  | no d ↦ rw (ne_eqb a.number 0 d) (rw (ne_eqb a.number 0 d) refl)
]

-- what is looked for behind a refusal matters where it is none
pub alike_behind : (a b c : Refusal) → (a.number ≡ 0 → b ≡ c) → or_else a b ≡ or_else a c
unfolding or_else
alike_behind a b c e = elim (ℕ_discrete a.number 0) [ yes z ↦ rw (eq-eqb a.number 0 z) (e z) | no d ↦ rw (ne_eqb a.number 0 d) refl ]

-- ---- NOTHING IS REFUSED just if no cause is met
unfoldable pub NoneMet : List Cause → Type 0
NoneMet [] = Unit {0}
NoneMet (k ∷ ks) = (ltb 0 k.number && k.met ≡ false) × NoneMet ks

pub none-met : (ks : List Cause) → (first_of ks).number ≡ 0 → NoneMet ks
unfolding first_of NoneMet
none-met [] e = tt
none-met (k ∷ ks) e = go (ltb 0 k.number) k.met refl (none-met ks) e
  where
    go : (p q : Bool) → ltb 0 k.number ≡ p → ((first_of ks).number ≡ 0 → NoneMet ks)
        → (cond (p && q) (cause_at k.number k.place) (first_of ks)).number ≡ 0 → (p && q ≡ false) × NoneMet ks
    go true true a on e = absurd (omega (arith, ltb-true 0 k.number a))
    go true false a on e = (refl, on e)
    go false q a on e = (refl, on e)

pub unrefused : (ks : List Cause) → NoneMet ks → first_of ks ≡ none
unfolding first_of NoneMet
unrefused [] n = refl
unrefused (k ∷ ks) n = rw n.0 (unrefused ks n.1)

-- ---- two lists
pub first-append : (js ks : List Cause) → first_of (js ++ ks) ≡ or_else (first_of js) (first_of ks)
unfolding first_of or_else
first-append [] ks = refl
first-append (k ∷ js) ks = go (ltb 0 k.number) k.met refl (first-append js ks)
  where
    go : (p q : Bool) → ltb 0 k.number ≡ p → first_of (js ++ ks) ≡ or_else (first_of js) (first_of ks)
        → (let r = cause_at k.number k.place in cond (p && q) r (first_of (js ++ ks)) ≡ or_else (cond (p && q) r (first_of js)) (first_of ks))
    go true true a on = let h = ltb-true 0 k.number a in rw (ne_eqb k.number 0 (λ z. omega arith)) refl
    go true false a on = on
    go false q a on = on

pub met-append : (js ks : List Cause) → NoneMet js → NoneMet ks → NoneMet (js ++ ks)
unfolding NoneMet
met-append [] ks a b = b
met-append (j ∷ js) ks a b = (a.0, met-append js ks a.1 b)

pub met_parts : (js ks : List Cause) → NoneMet (js ++ ks) → NoneMet js × NoneMet ks
unfolding NoneMet
met_parts [] ks n = (tt, n)
met_parts (j ∷ js) ks n = let r = met_parts js ks n.1 in ((n.0, r.0), r.1)

-- ---- a value that was found
pub first_found : (r : Refusal) (ks : List Cause) → first_of (found r ∷ ks) ≡ or_else r (first_of ks)
unfolding first_of or_else
first_found r ks = elim (ℕ_discrete r.number 0) [
  | yes z ↦ rw (eq-eqb r.number 0 z, le-ltb 0 r.number (omega arith)) refl
  | no d ↦ rw (ne_eqb r.number 0 d, lt-ltb 0 r.number (omega arith)) refl
]
