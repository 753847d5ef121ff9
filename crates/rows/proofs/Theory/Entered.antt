-- Entries that become final one part after another, and how many differ from before.
use mathlib.Core.Path.{◌≡◌, refl, sym, ap, ◌∙◌}
use mathlib.Core.Bool.{true, false, cond, not}
use mathlib.Core.Logic.{◌⊎◌, inl, inr}
use mathlib.Core.List.{List, [], ◌∷◌, ◌++◌}
use Prim.Native.Nat.{ℕ, zero, suc, ◌+◌, ◌-◌, ◌≤◌, ◌<◌}
use native.Mathlib.Omega.{arith}
use native.Mathlib.Decide.{ℕ_discrete}
use lib.Dec.{eqb}
use lib.ListN.{length, get_or, set, take, length-set}
use borrow.Author.Tests.{eq-eqb, ne_eqb}
use borrow.Rule.Slice.PartMut.{mid_of, post_of, put_mid, mid_len, put_same, same_len_mid}
use Rattle.std.specs.Int.{from_bool}
use Rattle.eikonal.specs.Tiles.{altered}
use Rattle.eikonal.proofs.Altered.{altered-none}
use Rattle.eikonal.proofs.Levels.{order}
use Rattle.rows.specs.Rows.{Entered, Everywhere}
use Rattle.queue.proofs.Filling.{Stored, here, elsewhere, after_store}
use Rattle.queue.proofs.Parts.{put_before, put_within, put_after}

-- ---- two entries, as bare numbers
abbrev pub differ : (x y : ℕ) → ℕ
differ x y = cond (eqb x y) 0 1

-- as the test's number
pub differ_is : (x y : ℕ) → from_bool (not (eqb x y)) ≡ differ x y
differ_is x y = elim (eqb x y) as (λ b. from_bool (not b) ≡ cond b 0 1) [ true ↦ refl | false ↦ refl ]

differ-none : (x : ℕ) → differ x x ≡ 0
differ-none x = rw (eq-eqb x x refl)

pub differ-most : (x y : ℕ) → differ x y ≤ 1
differ-most x y = elim (ℕ_discrete x y) [
  | yes e ↦ rw (eq-eqb x y e) (omega arith)
  | no e ↦ rw (ne_eqb x y e) (omega arith)
]

-- of two steps one changes nothing
differ_chain : (x y z : ℕ) → (y ≡ x) ⊎ (z ≡ y) → differ x z ≡ differ x y + differ y z
differ_chain x y z (inl e) = rw e (omega (arith, differ-none x))
differ_chain x y z (inr e) = rw e (omega (arith, differ-none y))

-- ---- lists
pub altered-most : (xs ys : List ℕ) → altered xs ys ≤ length xs
unfolding altered
altered-most [] ys = omega arith
altered-most (x ∷ xs) [] = omega arith
altered-most (x ∷ xs) (y ∷ ys) = omega (arith, differ-most x y, altered-most xs ys)

altered-set : (xs : List ℕ) (i x : ℕ) → i < length xs → altered xs (set xs i x) ≡ differ (get_or xs i 0) x
unfolding altered
altered-set [] i x l = absurd (omega arith)
altered-set (y ∷ ys) zero x l = omega (arith, altered-none ys)
altered-set (y ∷ ys) (suc i) x l = omega (arith, differ-none y, altered-set ys i x (omega arith))

altered-append : (xs ys us vs : List ℕ) → length us ≡ length xs → altered (xs ++ ys) (us ++ vs) ≡ altered xs us + altered ys vs
unfolding altered
altered-append [] ys [] vs e = omega arith
altered-append [] ys (u ∷ us) vs e = absurd (omega arith)
altered-append (x ∷ xs) ys [] vs e = absurd (omega arith)
altered-append (x ∷ xs) ys (u ∷ us) vs e = omega (arith, altered-append xs ys us vs (omega arith))

altered_chain : (xs ys zs : List ℕ) → length ys ≡ length xs → length zs ≡ length xs
    → ((c : ℕ) → c < length xs → (get_or ys c 0 ≡ get_or xs c 0) ⊎ (get_or zs c 0 ≡ get_or ys c 0)) → altered xs zs ≡ altered xs ys + altered ys zs
unfolding altered
altered_chain [] [] zs l m h = refl
altered_chain [] (y ∷ ys) zs l m h = absurd (omega arith)
altered_chain (x ∷ xs) [] zs l m h = absurd (omega arith)
altered_chain (x ∷ xs) (y ∷ ys) [] l m h = absurd (omega arith)
altered_chain (x ∷ xs) (y ∷ ys) (z ∷ zs) l m h =
    omega (arith, differ_chain x y z (h 0 (omega arith)), altered_chain xs ys zs (omega arith) (omega arith) (λ c k. h (suc c) (omega arith)))

-- ---- a list whose entries become final
pub entered-none : (Asked : ℕ → Type 0) (f : ℕ → ℕ) (xs : List ℕ) → ((c : ℕ) → c < length xs → Asked c → ⊥) → Entered Asked f xs xs 0
entered-none Asked f xs none = record {
  long = refl;
  each = λ c l. inl refl;
  done = λ c l a. absurd (none c l a);
  counted = sym (altered-none xs);
}

-- one store
entered_store : (f : ℕ → ℕ) (xs : List ℕ) (i x : ℕ) → i < length xs → x ≡ f i → Entered (λ c. c ≡ i) f xs (set xs i x) (differ (get_or xs i 0) x)
entered_store f xs i x l e = record {
  long = length-set xs i x;
  each = λ c h. go c (after_store xs i x c l);
  done = λ c h p. at c p (after_store xs i x c l);
  counted = sym (altered-set xs i x l);
}
  where
    go : (c : ℕ) → Stored xs i x c → (get_or (set xs i x) c 0 ≡ get_or xs c 0) ⊎ (get_or (set xs i x) c 0 ≡ f c)
    go c (here p q) = inr (q ∙ e ∙ ap f (sym p))
    go c (elsewhere p q) = inl q

    at : (c : ℕ) → c ≡ i → Stored xs i x c → get_or (set xs i x) c 0 ≡ f c
    at c p (here r q) = q ∙ e ∙ ap f (sym p)
    at c p (elsewhere r q) = absurd (r p)

-- one writing after another: what is final stays as it is, so none is counted twice
module _ {D E : ℕ → Type 0} {f : ℕ → ℕ} {xs ys zs : List ℕ} {m k : ℕ} (a : Entered D f xs ys m) (b : Entered E f ys zs k) where
  then-each : (c : ℕ) → c < length xs → (get_or zs c 0 ≡ get_or xs c 0) ⊎ (get_or zs c 0 ≡ f c)
  then-each c l = go (a.each c l) (b.each c (omega (arith, a.long)))
    where
      go : (get_or ys c 0 ≡ get_or xs c 0) ⊎ (get_or ys c 0 ≡ f c) → (get_or zs c 0 ≡ get_or ys c 0) ⊎ (get_or zs c 0 ≡ f c)
          → (get_or zs c 0 ≡ get_or xs c 0) ⊎ (get_or zs c 0 ≡ f c)
      go (inl p) (inl q) = inl (q ∙ p)
      go (inr p) (inl q) = inr (q ∙ p)
      go p (inr q) = inr q

  then-done : (c : ℕ) → c < length xs → D c ⊎ E c → get_or zs c 0 ≡ f c
  then-done c l (inl d) = go (b.each c (omega (arith, a.long)))
    where
      go : (get_or zs c 0 ≡ get_or ys c 0) ⊎ (get_or zs c 0 ≡ f c) → get_or zs c 0 ≡ f c
      go (inl q) = q ∙ a.done c l d
      go (inr q) = q
  then-done c l (inr d) = b.done c (omega (arith, a.long)) d

  one-still : (c : ℕ) → c < length xs → (get_or ys c 0 ≡ get_or xs c 0) ⊎ (get_or zs c 0 ≡ get_or ys c 0)
  one-still c l = go (a.each c l) (b.each c (omega (arith, a.long)))
    where
      go : (get_or ys c 0 ≡ get_or xs c 0) ⊎ (get_or ys c 0 ≡ f c) → (get_or zs c 0 ≡ get_or ys c 0) ⊎ (get_or zs c 0 ≡ f c)
          → (get_or ys c 0 ≡ get_or xs c 0) ⊎ (get_or zs c 0 ≡ get_or ys c 0)
      go (inl p) q = inl p
      go (inr p) (inl q) = inr q
      go (inr p) (inr q) = inr (q ∙ sym p)

  pub entered-then : (Asked : ℕ → Type 0) → ((c : ℕ) → c < length xs → Asked c → D c ⊎ E c) → Entered Asked f xs zs (m + k)
  entered-then Asked split = record {
    long = b.long ∙ a.long;
    each = then-each;
    done = λ c l s. then-done c l (split c l s);
    counted = omega (arith, a.counted, b.counted, altered_chain xs ys zs a.long (b.long ∙ a.long) one-still);
  }

-- one store more, from the front
pub entered-next : {f : ℕ → ℕ} {xs ys : List ℕ} {m : ℕ} (i x : ℕ) → i < length ys → x ≡ f i → Entered (λ c. c < i) f xs ys m
    → Entered (λ c. c < i + 1) f xs (set ys i x) (m + differ (get_or ys i 0) x)
entered-next {f} {xs} {ys} i x l e a = entered-then a (entered_store f ys i x l e) (λ c. c < i + 1) (λ c h k. last c k (order c i))
  where
    last : (c : ℕ) → c < i + 1 → (c < i) ⊎ (i ≤ c) → (c < i) ⊎ (c ≡ i)
    last c k (inl h) = inl h
    last c k (inr h) = inr (omega arith)

-- fewer asked
pub entered_of : {D : ℕ → Type 0} {f : ℕ → ℕ} {xs ys : List ℕ} {m : ℕ} (Asked : ℕ → Type 0) → ((c : ℕ) → c < length xs → Asked c → D c)
    → Entered D f xs ys m → Entered Asked f xs ys m
entered_of Asked sub a = record { long = a.long; each = a.each; done = λ c l s. a.done c l (sub c l s); counted = a.counted }

pub entered-most : {D : ℕ → Type 0} {f : ℕ → ℕ} {xs ys : List ℕ} {m : ℕ} → Entered D f xs ys m → m ≤ length xs
entered-most {D} {f} {xs} {ys} a = omega (arith, a.counted, altered-most xs ys)

-- ---- A PART that was lent from a up to e, and comes back
module _ (xs ys : List ℕ) (a e : ℕ) (h : a ≤ e) (k : e ≤ length xs) (long : length ys ≡ length (mid_of a (e - a) xs)) where
  put_altered : altered xs (put_mid a (e - a) xs ys) ≡ altered (mid_of a (e - a) xs) ys
  put_altered =
      omega (
        arith,
        ap (λ (u : List ℕ). altered u (put_mid a (e - a) xs ys)) (put_same a (e - a) xs),
        altered-append (take a xs) (mid_of a (e - a) xs ++ post_of a (e - a) xs) (take a xs) (ys ++ post_of a (e - a) xs) refl,
        altered-append (mid_of a (e - a) xs) (post_of a (e - a) xs) ys (post_of a (e - a) xs) long,
        altered-none (take a xs),
        altered-none (post_of a (e - a) xs),
      )

pub entered-part : {f g : ℕ → ℕ} (xs ys : List ℕ) (a e : ℕ) {m : ℕ} → a ≤ e → e ≤ length xs → ((j : ℕ) → j < e - a → g j ≡ f (a + j))
    → Entered Everywhere g (mid_of a (e - a) xs) ys m → Entered (λ c. (a ≤ c) × (c < e)) f xs (put_mid a (e - a) xs ys) m
entered-part {f} xs ys a e h k same p = record {
  long = same_len_mid a (e - a) xs ys p.long;
  each = λ c l. go c (order c a) (order c e);
  done = λ c l s. within c s.0 s.1;
  counted = p.counted ∙ sym (put_altered xs ys a e h k p.long);
}
  where
    within : (c : ℕ) → a ≤ c → c < e → get_or (put_mid a (e - a) xs ys) c 0 ≡ f c
    within c l r =
        let j : c - a < e - a = omega arith in
        let s : a + (c - a) ≡ c = omega arith in
        ap (λ (u : ℕ). get_or (put_mid a (e - a) xs ys) u 0) (sym s)
        ∙ put_within xs ys a e h k p.long (c - a) j
        ∙ p.done (c - a) (omega (arith, mid_len a e xs k)) tt
        ∙ same (c - a) j
        ∙ ap f s

    go : (c : ℕ) → (c < a) ⊎ (a ≤ c) → (c < e) ⊎ (e ≤ c) → (get_or (put_mid a (e - a) xs ys) c 0 ≡ get_or xs c 0) ⊎ (get_or (put_mid a (e - a) xs ys) c 0 ≡ f c)
    go c (inl l) r = inl (put_before xs ys a e h k p.long c l)
    go c (inr l) (inl r) = inr (within c l r)
    go c (inr l) (inr r) = inl (put_after xs ys a e h k p.long c r)
