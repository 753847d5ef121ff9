-- Lists that are filled from the front: what stands in front of a place, and what is put behind it.
use mathlib.Core.Path.{◌≡◌, ap, ◌∙◌}
use mathlib.Core.List.{List, [], ◌∷◌, ◌++◌, append_assoc, append-nil}
use Prim.Native.Nat.{ℕ, suc, ◌+◌, ◌≤◌, ◌<◌}
use native.Mathlib.Omega.{arith}
use lib.ListN.{length, take, set}
use lib.Seq.{take-suc-set, take_all}

pub one-stored : (l : List ℕ) (i x : ℕ) → i < length l → take (i + 1) (set l i x) ≡ take i l ++ (x ∷ [])
one-stored l i x h = ap (λ u. take u (set l i x)) (let q : i + 1 ≡ suc i = omega arith in q) ∙ take-suc-set l i x h

pub one_more : (l : List ℕ) (i x : ℕ) (ys : List ℕ) → i < length l → take (i + 1) (set l i x) ++ ys ≡ take i l ++ (x ∷ ys)
one_more l i x ys h = ap (λ u. u ++ ys) (one-stored l i x h) ∙ append_assoc (take i l) (x ∷ []) ys

-- a list that is full
pub full : (l : List ℕ) (i : ℕ) → length l ≤ i → take i l ++ [] ≡ l
full l i h = append-nil (take i l) ∙ take_all i l h
