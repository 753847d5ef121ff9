-- The first start at fault: it is at fault, and none before it is; where none is, the starts rise.
use mathlib.Core.Path.{◌≡◌, refl, sym, ap, ◌∙◌}
use mathlib.Core.Bool.{Bool, true, false, ◌&&◌, cond}
use mathlib.Core.List.{List, [], ◌∷◌}
use Prim.Native.Nat.{ℕ, zero, suc, ◌≤◌, ◌<◌}
use native.Mathlib.Omega.{arith}
use lib.Dec.{ltb, leb}
use lib.ListN.{length}
use Rattle.eikonal.specs.declared.Start.{Start}
use Rattle.eikonal.specs.Refusals.{first_fault, on_board, cells_of}
use Rattle.eikonal.specs.Promise.{cell_at}
use Rattle.eikonal.specs.Inner.Good.{starts_rise}

-- the least cell that the i-th start may have
unfoldable pub least_at : (l : ℕ) → List Start → (i : ℕ) → ℕ
least_at l xs zero = l
least_at l xs (suc i) = suc (cell_at xs i)

-- of a list with one start more in front
least-next : (x : Start) (xs : List Start) (i : ℕ) → least_at (suc x.cell) xs i ≡ suc (cell_at (x ∷ xs) i)
unfolding least_at cells_of
least-next x xs zero = refl
least-next x xs (suc i) = refl

module _ (p : (least cell : ℕ) → Bool) where
  pub there : (l : ℕ) (xs : List Start) → first_fault p l xs < length xs
      → p (least_at l xs (first_fault p l xs)) (cell_at xs (first_fault p l xs)) ≡ false
  unfolding first_fault least_at cells_of
  there l [] h = absurd (omega arith)
  there l (x ∷ xs) h = go (p l x.cell) refl (there (suc x.cell) xs) h
    where
      k : ℕ
      k = first_fault p (suc x.cell) xs

      go : (q : Bool) → p l x.cell ≡ q → (k < length xs → p (least_at (suc x.cell) xs k) (cell_at xs k) ≡ false) → let i = cond q (suc k) 0 in
          i < length (x ∷ xs) → p (least_at l (x ∷ xs) i) (cell_at (x ∷ xs) i) ≡ false
      go true e f h = ap (λ u. p u (cell_at xs k)) (sym (least-next x xs k)) ∙ f (omega arith)
      go false e f h = e

  pub before : (l : ℕ) (xs : List Start) (i : ℕ) → i < first_fault p l xs → p (least_at l xs i) (cell_at xs i) ≡ true
  unfolding first_fault least_at cells_of
  before l [] i h = absurd (omega arith)
  before l (x ∷ xs) i h = go (p l x.cell) refl (before (suc x.cell) xs) i h
    where
      k : ℕ
      k = first_fault p (suc x.cell) xs

      go : (q : Bool) → p l x.cell ≡ q → ((i : ℕ) → i < k → p (least_at (suc x.cell) xs i) (cell_at xs i) ≡ true)
          → (i : ℕ) → i < cond q (suc k) 0 → p (least_at l (x ∷ xs) i) (cell_at (x ∷ xs) i) ≡ true
      go true e f zero h = e
      go true e f (suc i) h = ap (λ u. p u (cell_at xs i)) (sym (least-next x xs i)) ∙ f i (omega arith)
      go false e f i h = absurd (omega arith)

-- none is off the board, and each is above the one before
pub rises : (n l m : ℕ) (xs : List Start) → length xs ≤ first_fault (on_board n) m xs → length xs ≤ first_fault leb l xs → starts_rise n l xs ≡ true
unfolding first_fault starts_rise
rises n l m [] h k = refl
rises n l m (x ∷ xs) h k = go (leb l x.cell) (ltb x.cell n) (rises n (suc x.cell) (suc x.cell) xs) h k
  where
    i : ℕ
    i = first_fault (on_board n) (suc x.cell) xs

    j : ℕ
    j = first_fault leb (suc x.cell) xs

    go : (p q : Bool) → (length xs ≤ i → length xs ≤ j → starts_rise n (suc x.cell) xs ≡ true) → suc (length xs) ≤ cond q (suc i) 0
        → suc (length xs) ≤ cond p (suc j) 0 → (p && q) && starts_rise n (suc x.cell) xs ≡ true
    go true true f h k = f (omega arith) (omega arith)
    go true false f h k = absurd (omega arith)
    go false q f h k = absurd (omega arith)
