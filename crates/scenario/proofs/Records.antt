-- Records one after the other in bytes: what is written comes back, what is read can be written again, and what a loop over
-- them sees at each turn.
use mathlib.Core.Path.{◌≡◌, refl, sym, ap, ap₂, ◌∙◌}
use mathlib.Core.List.{List, [], ◌∷◌, ◌++◌, append_assoc}
use Prim.Native.Nat.{ℕ, zero, suc, ◌+◌, ◌*◌, ◌-◌, ◌≤◌, ◌<◌}
use native.Mathlib.Omega.{arith}
use lib.ListN.{length, get_or, take, drop, length-append, length-drop}
use lib.Seq.{take-add, drop-drop}
use Rattle.scenario.specs.Bytes.{records, bytes_of, Bytes}
use Rattle.scenario.proofs.Numbers.{bytes_drop}

abbrev pub All : {A : Type 0} → (A → Type 0) → List A → Type 0
All P [] = Unit {0}
All P (x ∷ xs) = P x × All P xs

module _ {A : Type 0} (k : ℕ) (f : List ℕ → A) where
  pub length-records : (n : ℕ) (bs : List ℕ) → length (records k f n bs) ≡ n
  unfolding records
  length-records zero bs = refl
  length-records (suc n) bs = ap suc (length-records n (drop k bs))

  pub record_at : (n i : ℕ) (bs : List ℕ) (d : A) → i < n → get_or (records k f n bs) i d ≡ f (drop (k * i) bs)
  unfolding records
  record_at zero i bs d l = absurd (omega arith)
  record_at (suc n) zero bs d l = ap (λ (m : ℕ). f (drop m bs)) (let e : 0 ≡ k * 0 = omega arith in e)
  record_at (suc n) (suc i) bs d l =
      let e : k + k * i ≡ k * suc i = omega arith in
      record_at n i (drop k bs) d (omega arith) ∙ ap f (drop-drop (k * i) k bs ∙ ap (λ (m : ℕ). drop m bs) e)

  -- records read in two parts
  pub records-append : (n m : ℕ) (bs : List ℕ) → records k f (n + m) bs ≡ records k f n bs ++ records k f m (drop (k * n) bs)
  unfolding records
  records-append zero m bs =
      let q : zero + m ≡ m = omega arith in
      let e : k * zero ≡ 0 = omega arith in
      rw (q, e)
  records-append (suc n) m bs =
      let q : suc n + m ≡ suc (n + m) = omega arith in
      let e : k + k * n ≡ k * suc n = omega arith in
      rw (q, records-append n m (drop k bs), drop-drop (k * n) k bs, e)

  -- the records from the i-th on, of n that begin at a base
  abbrev pub onward : (bs : List ℕ) (base n i : ℕ) → List A
  onward bs base n i = records k f (n - i) (drop (base + k * i) bs)

  pub onward-none : (bs : List ℕ) (base n i : ℕ) → n ≤ i → onward bs base n i ≡ []
  unfolding records
  onward-none bs base n i l = let q : n - i ≡ 0 = omega arith in rw q

  pub onward-more : (bs : List ℕ) (base n i : ℕ) → i < n → onward bs base n i ≡ f (drop (base + k * i) bs) ∷ onward bs base n (i + 1)
  unfolding records
  onward-more bs base n i l =
      let q : n - i ≡ suc (n - (i + 1)) = omega arith in
      let e : base + k * i + k ≡ base + k * (i + 1) = omega arith in
      rw (q, drop-drop, e)

  -- the same with the record that was read
  pub onward-next : (bs : List ℕ) (base n i : ℕ) (x : A) → i < n → x ≡ f (drop (base + k * i) bs) → onward bs base n i ≡ x ∷ onward bs base n (i + 1)
  onward-next bs base n i x l e = onward-more bs base n i l ∙ ap (λ u. u ∷ onward bs base n (i + 1)) (sym e)

  pub onward-all : (bs : List ℕ) (base n : ℕ) → onward bs base n 0 ≡ records k f n (drop base bs)
  onward-all bs base n =
      let q : n - 0 ≡ n = omega arith in
      let e : base + k * 0 ≡ base = omega arith in
      rw (q, e)

module _ {A : Type 0} (k : ℕ) (g : A → List ℕ) (long : (x : A) → length (g x) ≡ k) where
  pub length-bytes : (xs : List A) → length (bytes_of g xs) ≡ k * length xs
  unfolding bytes_of
  length-bytes [] = omega arith
  length-bytes (x ∷ xs) = omega (arith, length-append (g x) (bytes_of g xs), long x, length-bytes xs)

pub bytes-append : {A : Type 0} (g : A → List ℕ) (xs ys : List A) → bytes_of g (xs ++ ys) ≡ bytes_of g xs ++ bytes_of g ys
unfolding bytes_of
bytes-append g [] ys = refl
bytes-append g (x ∷ xs) ys = ap (λ u. g x ++ u) (bytes-append g xs ys) ∙ sym (append_assoc (g x) (bytes_of g xs) (bytes_of g ys))

module _ {A : Type 0} (k : ℕ) (f : List ℕ → A) (g : A → List ℕ) where
  -- what is written comes back
  pub read_back : (P : A → Type 0) → ((x : A) (bs : List ℕ) → P x → f (g x ++ bs) ≡ x) → ((x : A) (bs : List ℕ) → drop k (g x ++ bs) ≡ bs)
      → (xs : List A) (bs : List ℕ) → All P xs → records k f (length xs) (bytes_of g xs ++ bs) ≡ xs
  unfolding records bytes_of
  read_back P one next [] bs h = refl
  read_back P one next (x ∷ xs) bs h =
      rw (append_assoc (g x) (bytes_of g xs) bs, one x (bytes_of g xs ++ bs) h.0, next x (bytes_of g xs ++ bs))
      (ap (λ u. x ∷ u) (read_back P one next xs bs h.1))

  -- what is read is written as it stood
  pub write_back : ((bs : List ℕ) → Bytes bs → k ≤ length bs → g (f bs) ≡ take k bs)
      → (n : ℕ) (bs : List ℕ) → Bytes bs → k * n ≤ length bs → bytes_of g (records k f n bs) ≡ take (k * n) bs
  unfolding records bytes_of
  write_back one zero bs h l = let q : k * 0 ≡ 0 = omega arith in rw q
  write_back one (suc n) bs h l =
      let q : k * suc n ≡ k + k * n = omega arith in
      rw (q, take-add k (k * n) bs)
      (ap₂ ◌++◌ (one bs h (omega arith)) (write_back one n (drop k bs) (bytes_drop k bs h) (omega (arith, length-drop k bs))))
