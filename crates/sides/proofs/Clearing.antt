-- Sides cleared, start by start.
use mathlib.Core.Path.{◌≡◌, refl, sym, ap, subst, ◌∙◌}
use mathlib.Core.Bool.{Bool, true, false, ◌&&◌, ◌||◌, cond}
use mathlib.Core.List.{List, [], ◌∷◌, ◌++◌}
use mathlib.Core.Logic.{◌≢◌}
use Prim.Native.Nat.{ℕ, suc, ◌≤◌, ◌<◌}
use native.Mathlib.Omega.{arith}
use native.Mathlib.Decide.{ℕ_discrete}
use lib.Dec.{eqb}
use lib.ListN.{length, get_or, set, take, length-set}
use lib.Seq.{get_or-set_same, get_or-set_other, take-suc, take_all}
use borrow.Author.Tests.{eq-eqb, ne_eqb}
use Rattle.eikonal.specs.Handing.{no_start}
use Rattle.eikonal.specs.declared.Start.{Start}
use Rattle.sides.specs.Clear.{begins_at, Cleared}

-- of two lists of starts, in either
begins-append : (c t : ℕ) (xs ys : List Start) → begins_at c t (xs ++ ys) ≡ begins_at c t xs || begins_at c t ys
unfolding begins_at
begins-append c t [] ys = refl
begins-append c t (x ∷ xs) ys = go (eqb x.cell c && eqb x.time t) (begins-append c t xs ys)
  where
    go : (p : Bool) → begins_at c t (xs ++ ys) ≡ begins_at c t xs || begins_at c t ys
        → p || begins_at c t (xs ++ ys) ≡ (p || begins_at c t xs) || begins_at c t ys
    go true e = refl
    go false e = e

-- ---- one start
module _ {ts us : List ℕ} (s : Start) (on : s.cell < length us) where
  -- at its cell's time
  pub cleared-here : (x : ℕ) → x ≡ 0 → get_or ts s.cell 0 ≡ s.time → Cleared (s ∷ []) ts us (set us s.cell x)
  unfolding begins_at
  cleared-here x z e = record { long = length-set us s.cell x; each = now }
    where
      now : (d : ℕ) → d < length us → get_or (set us s.cell x) d 0 ≡ cond ((eqb s.cell d && eqb s.time (get_or ts d 0)) || false) 0 (get_or us d 0)
      now d l = elim (ℕ_discrete d s.cell) [
        | yes q ↦ rw (q, eq-eqb s.cell s.cell refl, eq-eqb s.time (get_or ts s.cell 0) (sym e)) (get_or-set_same us s.cell x 0 on ∙ z)
        | no q ↦ rw (ne_eqb s.cell d (omega arith)) (get_or-set_other us s.cell d x 0 (omega arith))
      ]

  -- at another time
  pub cleared-not : get_or ts s.cell 0 ≢ s.time → Cleared (s ∷ []) ts us us
  unfolding begins_at
  cleared-not e = record { long = refl; each = now }
    where
      now : (d : ℕ) → d < length us → get_or us d 0 ≡ cond ((eqb s.cell d && eqb s.time (get_or ts d 0)) || false) 0 (get_or us d 0)
      now d l = elim (ℕ_discrete d s.cell) [
        | yes q ↦ rw (q, eq-eqb s.cell s.cell refl, ne_eqb s.time (get_or ts s.cell 0) (λ z. e (sym z)))
        | no q ↦ rw (ne_eqb s.cell d (omega arith))
      ]

-- ---- several starts
pub cleared-none : {ts us : List ℕ} → Cleared [] ts us us
unfolding begins_at
cleared-none = record { long = refl; each = λ c l. refl }

pub cleared_parts : {xs ys : List Start} {ts a b c : List ℕ} → Cleared xs ts a b → Cleared ys ts b c → Cleared (xs ++ ys) ts a c
cleared_parts {xs} {ys} {ts} {a} {b} {c} p q = record { long = q.long ∙ p.long; each = now }
  where
    both : (m n : Bool) (x : ℕ) → cond {A = ℕ} n 0 (cond m 0 x) ≡ cond (m || n) 0 x
    both true true x = refl
    both true false x = refl
    both false true x = refl
    both false false x = refl

    now : (d : ℕ) → d < length a → get_or c d 0 ≡ cond (begins_at d (get_or ts d 0) (xs ++ ys)) 0 (get_or a d 0)
    now d l =
        q.each d (omega (arith, p.long)) ∙ ap (cond (begins_at d (get_or ts d 0) ys) 0) (p.each d l)
        ∙ both (begins_at d (get_or ts d 0) xs) (begins_at d (get_or ts d 0) ys) (get_or a d 0)
        ∙ ap (λ (m : Bool). cond m 0 (get_or a d 0)) (sym (begins-append d (get_or ts d 0) xs ys))

-- the next start, after the first i
pub cleared-next : {ts a b c : List ℕ} (xs : List Start) (i : ℕ) (x : Start) → i < length xs → x ≡ get_or xs i no_start
    → Cleared (take i xs) ts a b → Cleared (x ∷ []) ts b c → Cleared (take (suc i) xs) ts a c
cleared-next {ts} {a} {b} {c} xs i x h e p q = rw (take-suc xs i no_start) (cleared_parts p (subst (λ y. Cleared (y ∷ []) ts b c) e q))

-- and in the end all of them
pub cleared-all : {ts a b : List ℕ} (xs : List Start) (i : ℕ) → length xs ≤ i → Cleared (take i xs) ts a b → Cleared xs ts a b
cleared-all {ts} {a} {b} xs i h p = subst (λ ys. Cleared ys ts a b) (take_all i xs h) p
