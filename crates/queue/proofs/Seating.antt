-- What the stores leave that put a cell with its key into a slot.
use mathlib.Core.Path.{◌≡◌, ap, sym, ◌∙◌}
use mathlib.Core.List.{List}
use Prim.Native.Nat.{ℕ, ◌+◌, ◌*◌, ◌/◌, ◌%◌, ◌<◌}
use native.Mathlib.Omega.{arith}
use lib.ListN.{length, get_or, set, length-set}
use lib.Seq.{get_or-set_same, get_or-set_other}
use Rattle.queue.specs.Heap.{cell, place}
use Rattle.queue.specs.Mending.{Room, Seated}
use Rattle.queue.proofs.Filling.{Stored, here, elsewhere, after_store}

-- a store that keeps a part of its entry keeps this part of each
keeps : (f : ℕ → ℕ) (w : List ℕ) (j y : ℕ) → j < length w → f y ≡ f (get_or w j 0) → (i : ℕ) → f (get_or (set w j y) i 0) ≡ f (get_or w i 0)
keeps f w j y l e i = each (after_store w j y i l)
  where
    each : Stored w j y i → f (get_or (set w j y) i 0) ≡ f (get_or w i 0)
    each (here q p) = ap f p ∙ e ∙ ap (λ u. f (get_or w u 0)) (sym q)
    each (elsewhere q p) = ap f p

there : (w : List ℕ) (j y i : ℕ) → j < length w → i ≡ j → get_or (set w j y) i 0 ≡ y
there w j y i l e = ap (λ u. get_or (set w j y) u 0) e ∙ get_or-set_same w j y 0 l

-- the key x goes to its entry, the cell to the lower half of the entry y, the slot to the upper half of the entry z
module _ (w : List ℕ) (top x at y by z : ℕ) {n slot c : ℕ} (l : slot < n) (m : c < n) (rm : Room n w) (t : top ≡ 2 * slot) (a : at ≡ 2 * slot + 1)
    (b : by ≡ 2 * c + 1) (low : y % 65536 ≡ c) (keeps_high : y / 65536 ≡ get_or (set w top x) at 0 / 65536) (high : z / 65536 ≡ slot)
    (keeps_low : z % 65536 ≡ get_or (set (set w top x) at y) by 0 % 65536) where
  abbrev one : List ℕ
  one = set w top x

  abbrev two : List ℕ
  two = set one at y

  len_one : length one ≡ length w
  len_one = length-set w top x

  len_two : length two ≡ length w
  len_two = length-set one at y ∙ len_one

  lows : (i : ℕ) → get_or (set two by z) i 0 % 65536 ≡ get_or two i 0 % 65536
  lows = keeps (λ u. u % 65536) two by z (omega (arith, len_two, rm.room)) keeps_low

  highs : (i : ℕ) → get_or two i 0 / 65536 ≡ get_or one i 0 / 65536
  highs = keeps (λ u. u / 65536) one at y (omega (arith, len_one, rm.room)) keeps_high

  pub seated : Seated w n slot c x (set two by z)
  unfolding cell place
  seated = record {
    long = length-set two by z ∙ len_two;
    key_there = get_or-set_other two by (2 * slot) z 0 (omega arith)
        ∙ get_or-set_other one at (2 * slot) y 0 (omega arith)
        ∙ there w top x (2 * slot) (omega (arith, rm.room)) (sym t);
    key_else = λ i q. get_or-set_other two by (2 * i) z 0 (omega arith)
        ∙ get_or-set_other one at (2 * i) y 0 (omega arith)
        ∙ get_or-set_other w top (2 * i) x 0 (omega (arith, q));
    cell_there = lows (2 * slot + 1) ∙ ap (λ u. u % 65536) (there one at y (2 * slot + 1) (omega (arith, len_one, rm.room)) (sym a)) ∙ low;
    cell_else = λ i q. lows (2 * i + 1)
        ∙ ap (λ u. u % 65536) (get_or-set_other one at (2 * i + 1) y 0 (omega (arith, q)) ∙ get_or-set_other w top (2 * i + 1) x 0 (omega arith));
    place_there = ap (λ u. u / 65536) (there two by z (2 * c + 1) (omega (arith, len_two, rm.room)) (sym b)) ∙ high;
    place_else = λ d q. ap (λ u. u / 65536) (get_or-set_other two by (2 * d + 1) z 0 (omega (arith, q)))
        ∙ highs (2 * d + 1)
        ∙ ap (λ u. u / 65536) (get_or-set_other w top (2 * d + 1) x 0 (omega arith));
    past = λ j p. get_or-set_other two by j z 0 (omega arith)
        ∙ get_or-set_other one at j y 0 (omega arith)
        ∙ get_or-set_other w top j x 0 (omega arith);
  }
