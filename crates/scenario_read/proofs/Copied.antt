-- A list copied into the front of another, element by element: a file's starts, as records or as plain lists.
use mathlib.Core.Path.{◌≡◌, refl, sym, ap, ap₂, ◌∙◌}
use mathlib.Core.List.{List, [], ◌∷◌, ◌++◌, append_assoc, map, map-append}
use Prim.Native.Nat.{ℕ, zero, suc, ◌+◌, ◌<◌, ◌≤◌}
use native.Mathlib.Nat.{le_of_lt, le_trans}
use native.Mathlib.Omega.{arith}
use lib.ListN.{length, get_or, set, take, drop, length-map}
use lib.Seq.{take-suc, take_all, drop-cons, set_at, length-take-le, length_front}
use Rattle.eikonal.specs.Handing.{no_start}
use Rattle.eikonal.specs.declared.Start.{Start}
use Rattle.scenario.specs.declared.Head.{Head}
use Rattle.scenario.specs.File.{start_count, starts_in}
use Rattle.scenario.specs.Calls.{filled}
use Rattle.scenario.proofs.Answers.{filled_in}
use Rattle.scenario.specs.Inner.Walk.{Fits, starts_by, starts_whole}
use Rattle.scenario.proofs.Reading.{count-starts}

-- i elements of cs, and the rest of xs
abbrev pub copied : {A : Type 0} → List A → List A → ℕ → List A
copied cs xs i = take i cs ++ drop (length (take i cs)) xs

module _ {A : Type 0} where
  below-take : (i : ℕ) (cs : List A) → length (take i cs) ≤ length cs
  below-take zero cs = omega arith
  below-take (suc i) [] = omega arith
  below-take (suc i) (x ∷ cs) = omega (arith, below-take i cs)

  pub copied_long : (cs xs : List A) (i : ℕ) → length cs ≤ length xs → length (copied cs xs i) ≡ length xs
  copied_long cs xs i h = length_front xs (take i cs) (length (take i cs)) (sym (length-take-le (length (take i cs)) xs (le_trans (below-take i cs) h)))

  pub copied_more : (d : A) (cs xs : List A) (i : ℕ) {ys : List A} {x : A} → i < length cs → length cs ≤ length xs → ys ≡ copied cs xs i → x ≡ get_or cs i d
      → set ys i x ≡ copied cs xs (i + 1)
  copied_more d cs xs i hc hx e f =
      ap₂ (λ us u. set us i u) e f
      ∙ ap (λ (k : ℕ). set (take i cs ++ drop k xs) i (get_or cs i d)) long
      ∙ ap (λ (t : List A). set (take i cs ++ t) i (get_or cs i d)) (drop-cons xs i d (omega arith))
      ∙ set_at (take i cs) (get_or xs i d) (drop (suc i) xs) (get_or cs i d) i long
      ∙ sym (append_assoc (take i cs) (get_or cs i d ∷ []) (drop (suc i) xs))
      ∙ ap (λ (t : List A). t ++ drop (suc i) xs) (sym (take-suc cs i d hc))
      ∙ ap (λ (k : ℕ). take (suc i) cs ++ drop k xs) (sym (length-take-le (suc i) cs hc))
      ∙ ap (λ (k : ℕ). copied cs xs k) next
    where
      long : length (take i cs) ≡ i
      long = length-take-le i cs (le_of_lt hc)

      next : suc i ≡ i + 1
      next = omega arith

  pub copied_all : (cs xs : List A) (i : ℕ) → length cs ≤ i → copied cs xs i ≡ cs ++ drop (length cs) xs
  copied_all cs xs i h = ap (λ (t : List A). t ++ drop (length t) xs) (take_all i cs h)

-- ---- the starts of a file that is as long as its head says
module _ (x : Head) (f bs : List ℕ) (fits : Fits x f) (e : starts_whole bs ≡ starts_by x f) where
  pub whole : starts_whole bs ≡ starts_in f
  unfolding starts_in
  whole = e ∙ ap (λ y. starts_by y f) fits.head

  pub many : length (starts_whole bs) ≡ start_count f
  many = ap length whole ∙ count-starts f

-- one number of each start
module _ (g : Start → ℕ) (xs : List Start) (old : List ℕ) (room : length xs ≤ length old) where
  at-field : (ys : List Start) (i : ℕ) → i < length ys → g (get_or ys i no_start) ≡ get_or (map g ys) i 0
  at-field [] i h = absurd (omega arith)
  at-field (y ∷ ys) zero h = refl
  at-field (y ∷ ys) (suc i) h = at-field ys i (omega arith)

  pub field_more : (i : ℕ) {ys : List ℕ} {x : Start} → i < length xs → ys ≡ copied (map g xs) old i → x ≡ get_or xs i no_start
      → set ys i (g x) ≡ copied (map g xs) old (i + 1)
  field_more i h e q =
      copied_more 0 (map g xs) old i (rw length-map h) (rw length-map room) e (ap g q ∙ at-field xs i h)

  pub field_all : (i : ℕ) → length xs ≤ i → copied (map g xs) old i ≡ filled 0 (map g xs) old
  field_all i h = copied_all (map g xs) old i (rw length-map h) ∙ sym (filled_in 0 (map g xs) old refl)

-- and of records: the starts of a file, and the rest of those that were lent
pub fields_filled : (g : Start → ℕ) (f : List ℕ) (old : List Start) → map g (starts_in f ++ drop (start_count f) old)
    ≡ filled 0 (map g (starts_in f)) (map g old)
fields_filled g f old =
    map-append g (starts_in f) (drop (start_count f) old)
    ∙ ap (λ t. map g (starts_in f) ++ t) (map-drop (start_count f) old ∙ ap (λ k. drop k (map g old)) (sym (length-map (starts_in f) g ∙ count-starts f)))
    ∙ sym (filled_in 0 (map g (starts_in f)) (map g old) refl)
  where
    map-drop : (k : ℕ) (ys : List Start) → map g (drop k ys) ≡ drop k (map g ys)
    map-drop zero ys = refl
    map-drop (suc k) [] = refl
    map-drop (suc k) (y ∷ ys) = map-drop k ys
