-- A board scanned cell by cell: where a stretch goes on and where it ends, and what it adds to the runs and their bytes.
use mathlib.Core.Path.{◌≡◌, refl, ap, ◌∙◌}
use mathlib.Core.Bool.{Bool, true, false, cond}
use mathlib.Core.List.{List, [], ◌∷◌, ◌++◌}
use Prim.Native.Nat.{ℕ, suc, ◌+◌, ◌-◌, ◌≤◌, ◌<◌}
use native.Mathlib.Omega.{arith}
use native.Mathlib.Numerals.{add-one}
use lib.Dec.{eqb}
use lib.ListN.{length, get_or, drop, drop_of_length-le, length-append}
use lib.Seq.{drop-cons}
use Rattle.std.proofs.lemmas.Bool.Decides.{nat_tests}
use borrow.Author.Tests.{eq-eqb, ne_eqb, eqb-true}
use Rattle.scenario.specs.declared.Run.{Run}
use Rattle.scenario.specs.Bytes.{bytes_of}
use Rattle.scenario.specs.Runs.{run, closed, runs_on, runs_of}
use Rattle.scenario.specs.File.{run_bytes}
use Rattle.scenario.proofs.Records.{bytes-append}

module _ (l : List ℕ) (g i a z : ℕ) where
  -- all cells are passed
  pub stretch_last : length l ≤ i → runs_on g a i z (drop i l) ≡ closed g a i z []
  unfolding runs_on
  stretch_last h = rw (drop_of_length-le l h)

  module _ (h : i < length l) where
    pub stretch_on : get_or l i 0 ≡ z → runs_on g a i z (drop i l) ≡ runs_on g a (i + 1) z (drop (i + 1) l)
    unfolding runs_on
    stretch_on e = rw (drop-cons l i 0 h, add-one i, eq-eqb (get_or l i 0) z e)

    pub stretch_turn : (get_or l i 0 ≡ z → ⊥)
        → runs_on g a i z (drop i l) ≡ closed g a i z (runs_on g i (i + 1) (get_or l i 0) (drop (i + 1) l))
    unfolding runs_on
    stretch_turn e = rw (drop-cons l i 0 h, add-one i, ne_eqb (get_or l i 0) z e)

-- ---- a stretch that ends
pub one_at_most : (p : Bool) → cond p 0 1 ≤ 1
one_at_most true = omega arith
one_at_most false = omega arith

closed-append : (g a i z : ℕ) (xs : List Run) → closed g a i z xs ≡ closed g a i z [] ++ xs
unfolding closed
closed-append g a i z xs = go (eqb z g)
  where
    go : (p : Bool) → cond p xs (run a (i - a) z ∷ xs) ≡ cond p [] (run a (i - a) z ∷ []) ++ xs
    go true = refl
    go false = refl

closed-count : (g a i z : ℕ) (xs : List Run) → length (closed g a i z xs) ≡ cond (eqb z g) 0 1 + length xs
unfolding closed
closed-count g a i z xs = go (eqb z g)
  where
    go : (p : Bool) → length (cond p xs (run a (i - a) z ∷ xs)) ≡ cond p 0 1 + length xs
    go true = omega arith
    go false = omega arith

-- what the runs from the end of a stretch on leave for it
module _ (l : List ℕ) (g i a z : ℕ) where
  module _ (h : i < length l) (e : get_or l i 0 ≡ z → ⊥) where
    turns : runs_on g a i z (drop i l) ≡ closed g a i z [] ++ runs_on g i (i + 1) (get_or l i 0) (drop (i + 1) l)
    turns = stretch_turn l g i a z h e ∙ closed-append g a i z _

    pub turn-length : length (runs_on g a i z (drop i l))
        ≡ length (closed g a i z []) + length (runs_on g i (i + 1) (get_or l i 0) (drop (i + 1) l))
    turn-length = ap length turns ∙ length-append (closed g a i z []) _

    pub turn-bytes : bytes_of run_bytes (runs_on g a i z (drop i l))
        ≡ bytes_of run_bytes (closed g a i z []) ++ bytes_of run_bytes (runs_on g i (i + 1) (get_or l i 0) (drop (i + 1) l))
    turn-bytes = ap (bytes_of run_bytes) turns ∙ bytes-append run_bytes (closed g a i z []) _

-- ---- how many there are
-- the runs that begin in cells behind one of slowness z
unfoldable pub begun : (ground z : ℕ) → List ℕ → ℕ
begun g z [] = 0
begun g z (s ∷ ss) = cond (eqb s z) 0 (cond (eqb s g) 0 1) + begun g s ss

length-runs_on : (g a i z : ℕ) (ss : List ℕ) → length (runs_on g a i z ss) ≡ cond (eqb z g) 0 1 + begun g z ss
unfolding runs_on begun
length-runs_on g a i z [] = closed-count g a i z []
length-runs_on g a i z (s ∷ ss) = go (eqb s z) refl (length-runs_on g a (suc i) z ss) (length-runs_on g i (suc i) s ss)
  where
    go : (p : Bool) → eqb s z ≡ p → length (runs_on g a (suc i) z ss) ≡ cond (eqb z g) 0 1 + begun g z ss
        → length (runs_on g i (suc i) s ss) ≡ cond (eqb s g) 0 1 + begun g s ss
        → length (cond p (runs_on g a (suc i) z ss) (closed g a i z (runs_on g i (suc i) s ss)))
        ≡ cond (eqb z g) 0 1 + (cond p 0 (cond (eqb s g) 0 1) + begun g s ss)
    go true e on new = omega (arith, on, ap (λ u. begun g u ss) (eqb-true s z e))
    go false e on new = omega (arith, closed-count g a i z (runs_on g i (suc i) s ss), new)

pub length-runs_of : (g : ℕ) (ss : List ℕ) → length (runs_of g ss) ≡ begun g g ss
unfolding runs_of
length-runs_of g ss = length-runs_on g 0 0 g ss ∙ rw (eq-eqb g g refl) (omega arith)

module _ (g z : ℕ) (l : List ℕ) (i : ℕ) where
  pub begun_none : length l ≤ i → begun g z (drop i l) ≡ 0
  unfolding begun
  begun_none h = rw (drop_of_length-le l h)

  pub begun_more : i < length l → begun g z (drop i l)
      ≡ cond (eqb (get_or l i 0) z) 0 (cond (eqb (get_or l i 0) g) 0 1) + begun g (get_or l i 0) (drop (i + 1) l)
  unfolding begun
  begun_more h = rw (drop-cons l i 0 h, add-one i)

pub ruleset counting = (length-runs_of, begun_none, begun_more, nat_tests)
