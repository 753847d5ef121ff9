-- The order of tiles, judged a part of the tile numbers at a time.
use mathlib.Core.Path.{◌≡◌, refl, sym, ap, ap₂, subst, ◌∙◌}
use mathlib.Core.Bool.{Bool, true, false, ◌&&◌, ◌||◌, and-false, or-true, or-false, or_assoc, and_comm}
use mathlib.Core.List.{List, [], ◌∷◌, ◌++◌}
use mathlib.Core.Logic.{◌≢◌}
use Prim.Native.Nat.{ℕ, zero, suc, ◌+◌, ◌*◌, ◌-◌, ◌≤◌, ◌<◌}
use native.Mathlib.Nat.{add-suc, add-zero}
use native.Mathlib.Numerals.{add-one}
use native.Mathlib.Omega.{arith}
use native.Mathlib.Decide.{ℕ_discrete}
use lib.Dec.{eqb}
use lib.ListN.{length, get_or, set, take, length-set}
use lib.Seq.{take-suc, get_or-set_same, get_or-set_other}
use borrow.Author.Tests.{eq-eqb, ne_eqb}
use Rattle.std.specs.List.{list_all}
use Rattle.std.proofs.lemmas.List.Folds.{list_all_more}
use Rattle.eikonal.specs.Tiles.{up, tile_count}
use Rattle.eikonal.specs.Refusals.{member, all_there, order_good}
use Rattle.eikonal.specs.Board.{board_of}
use Rattle.tile_orders.specs.Orders.{all_below, part_there, marked, Noted}

-- ---- each number below n passes
pub all_below-same : (n : ℕ) (f g : ℕ → Bool) → ((j : ℕ) → j < n → f j ≡ g j) → all_below n f ≡ all_below n g
unfolding all_below
all_below-same zero f g e = refl
all_below-same (suc n) f g e = ap₂ ◌&&◌ (e n (omega arith)) (all_below-same n f g (λ j h. e j (omega arith)))

-- where the first a pass, the next decide
pub all_below-on : (a b : ℕ) (f : ℕ → Bool) → all_below a f ≡ true → all_below (a + b) f ≡ all_below b (λ j. f (a + j))
unfolding all_below
all_below-on a zero f e = rw add-zero e
all_below-on a (suc b) f e = rw add-suc (ap (λ (t : Bool). f (a + b) && t) (all_below-on a b f e))

-- one that fails is not mended by later ones
pub all_below_fails : (m n : ℕ) (f : ℕ → Bool) → m ≤ n → all_below m f ≡ false → all_below n f ≡ false
unfolding all_below
all_below_fails m n f h e =
    let same : m + (n - m) ≡ n = omega arith in
    subst (λ (k : ℕ). all_below k f ≡ false) same (go (n - m))
  where
    go : (k : ℕ) → all_below (m + k) f ≡ false
    go zero = rw add-zero e
    go (suc k) = rw (add-suc, go k, and-false (f (m + k)))

-- the first n marks, gone through in order
pub all_below-marked : (n : ℕ) (ms : List ℕ) → n ≤ length ms → list_all (λ m. eqb m 1) (take n ms) ≡ all_below n (λ j. marked ms j)
unfolding all_below
all_below-marked zero ms h = refl
all_below-marked (suc n) ms h =
    ap (λ k. list_all (λ m. eqb m 1) (take k ms)) (sym (add-one n))
    ∙ list_all_more (λ m. eqb m 1) ms n 0 h
    ∙ and_comm (list_all (λ m. eqb m 1) (take n ms)) (marked ms n)
    ∙ ap (λ (t : Bool). marked ms n && t) (all_below-marked n ms (omega arith))

-- ---- every number below n is in the list
all_there-is : (n : ℕ) (xs : List ℕ) → all_there n xs ≡ all_below n (λ v. member v xs)
unfolding all_there all_below
all_there-is zero xs = refl
all_there-is (suc n) xs = ap (λ (t : Bool). member n xs && t) (all_there-is n xs)

-- where the first a are there, the next part decides
pub there-on : (a m : ℕ) (xs : List ℕ) → all_there a xs ≡ true → all_there (a + m) xs ≡ part_there a m xs
there-on a m xs e = all_there-is (a + m) xs ∙ all_below-on a m (λ v. member v xs) (sym (all_there-is a xs) ∙ e)

pub there_fails : (m n : ℕ) (xs : List ℕ) → m ≤ n → all_there m xs ≡ false → all_there n xs ≡ false
there_fails m n xs h e =
    all_there-is n xs ∙ all_below_fails m n (λ v. member v xs) h (sym (all_there-is m xs) ∙ e)

-- ---- the first i entries of the order
member-append : (v : ℕ) (xs ys : List ℕ) → member v (xs ++ ys) ≡ member v xs || member v ys
unfolding member
member-append v [] ys = refl
member-append v (x ∷ xs) ys = ap (λ (t : Bool). eqb x v || t) (member-append v xs ys) ∙ sym (or_assoc (eqb x v) (member v xs) (member v ys))

pub member-more : (v : ℕ) (xs : List ℕ) (i : ℕ) → i < length xs → member v (take (suc i) xs) ≡ member v (take i xs) || eqb (get_or xs i 0) v
unfolding member
member-more v xs i h = rw (take-suc xs i 0, member-append, or-false (eqb (get_or xs i 0) v))

-- ---- a number is noted
pub outside : (a x : ℕ) (ms : List ℕ) → ((j : ℕ) → j < 8192 → x ≢ a + j) → Noted a x ms ms
outside a x ms n = record { many = refl; marks = λ j h. rw (ne_eqb x (a + j) (n j h), or-false (marked ms j)) }

pub inside : (a x : ℕ) (ms : List ℕ) → a ≤ x → x - a < length ms → Noted a x ms (set ms (x - a) 1)
inside a x ms l h = record { many = length-set ms (x - a) 1; marks = mark }
  where
    mark : (j : ℕ) → j < 8192 → marked (set ms (x - a) 1) j ≡ marked ms j || eqb x (a + j)
    mark j k = elim (ℕ_discrete j (x - a)) [
      | yes q ↦
          let hit : x ≡ a + j = omega arith in
          let now : get_or (set ms (x - a) 1) j 0 ≡ 1 = rw q (get_or-set_same ms (x - a) 1 0 h) in
          rw (eq-eqb x (a + j) hit, or-true (marked ms j)) (eq-eqb _ _ now)
      | no q ↦
          let miss : x ≢ a + j = λ e. q (omega arith) in
          rw (ne_eqb x (a + j) miss, or-false (marked ms j), get_or-set_other ms (x - a) j 1 0 q)
    ]

-- ---- the tiles of a board: with n across and m down, the length is judged first
module _ (w h tw th : ℕ) (xs : List ℕ) (n m : ℕ) (across : n ≡ up w tw) (down : m ≡ up h th) where
  pub order-uneven : length xs ≢ n * m → false ≡ order_good (board_of w h 1 [] []) tw th xs
  unfolding order_good tile_count
  order-uneven d = rw (← across, ← down, ne_eqb (length xs) (n * m) d)

  pub order-even : length xs ≡ n * m → (q : Bool) → q ≡ all_there (n * m) xs → q ≡ order_good (board_of w h 1 [] []) tw th xs
  unfolding order_good tile_count
  order-even e q t = rw (← across, ← down, eq-eqb (length xs) (n * m) e) t
