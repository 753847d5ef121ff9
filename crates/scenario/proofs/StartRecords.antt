-- THE PROMISES of scenario files over start records: each statement of specs/StartRecords.antt with its proof.
use mathlib.Core.Path.{◌≡◌, refl, sym, ap, ap₂, ◌∙◌}
use mathlib.Core.List.{List, [], ◌∷◌, ◌++◌, map, map-append}
use Prim.Native.Nat.{ℕ, zero, suc}
use native.Mathlib.Omega.{arith}
use lib.ListN.{length, take, drop, length-map}
use Rattle.scenario.specs.Promise.{ReadThenWrite, WriteThenRead}
use Rattle.scenario.proofs.Composed.{read_then_write, write_then_read}
use Rattle.eikonal.specs.Refusals.{by_lists, by_records, cells_of, begins_of}
use Rattle.eikonal.specs.Promise.{SameHanded}
use Rattle.eikonal.specs.declared.Start.{Start}
use Rattle.eikonal.proofs.Ledger.{same-handed}
use Rattle.scenario.specs.StartRecords.{SameRead, SameWrite, RecordsReadThenWrite, RecordsWriteThenRead}

-- ---- a list of records and its two plain lists
field_take : (f : Start → ℕ) (q : ℕ) (ys : List Start) → map f (take q ys) ≡ take q (map f ys)
field_take f zero ys = refl
field_take f (suc q) [] = refl
field_take f (suc q) (y ∷ ys) = ap (λ (xs : List ℕ). f y ∷ xs) (field_take f q ys)

field_drop : (f : Start → ℕ) (q : ℕ) (ys : List Start) → map f (drop q ys) ≡ drop q (map f ys)
field_drop f zero ys = refl
field_drop f (suc q) [] = refl
field_drop f (suc q) (y ∷ ys) = field_drop f q ys

head-is : {x y : ℕ} {xs ys : List ℕ} → (x ∷ xs) ≡ (y ∷ ys) → x ≡ y
head-is {x} e = ap (λ (zs : List ℕ). first zs) e
  where
    first : List ℕ → ℕ
    first [] = x
    first (z ∷ zs) = z

tail-is : {x y : ℕ} {xs ys : List ℕ} → (x ∷ xs) ≡ (y ∷ ys) → xs ≡ ys
tail-is e = ap (λ (zs : List ℕ). rest zs) e
  where
    rest : List ℕ → List ℕ
    rest [] = []
    rest (z ∷ zs) = zs

-- records with the same cells and the same times are the same
same-records : (xs ys : List Start) → cells_of xs ≡ cells_of ys → begins_of xs ≡ begins_of ys → xs ≡ ys
unfolding cells_of begins_of
same-records [] [] c b = refl
same-records [] (y ∷ ys) c b = absurd (omega (arith, ap length c))
same-records (x ∷ xs) [] c b = absurd (omega (arith, ap length c))
same-records (x ∷ xs) (y ∷ ys) c b =
    ap₂ (λ (z : Start) (zs : List Start). z ∷ zs) (ap₂ (λ (k t : ℕ). record { cell = k; time = t }) (head-is c) (head-is b))
    (same-records xs ys (tail-is c) (tail-is b))

-- ---- the promises
pub same_read : SameRead
unfolding SameRead
same_read f slow s s' c c' b b' ys ys' x x' ec eb r r' =
    let x_is : x ≡ x' = r.answers ∙ sym (rw (← ec, ← eb) r'.answers) in (
      x_is,
      r.slow_holds ∙ rw x_is (sym r'.slow_holds),
      r.cells_hold ∙ rw (x_is, ← ec) (sym r'.cells_hold),
      r.begins_hold ∙ rw (x_is, ← eb) (sym r'.begins_hold),
    )

pub same_write : SameWrite
unfolding SameWrite SameHanded
same_write w h storeys t g slow c b out o o' ys y y' ec eb k k' =
    let p : by_lists w h storeys slow c b ≡ by_records w h storeys slow ys = rw (ec, eb) (same-handed w h storeys slow ys) in
    let y_is : y ≡ y' = k.answers ∙ sym (rw (← p) k'.answers) in
    (y_is, k.leaves ∙ rw (y_is, ← p) (sym k'.leaves))

pub records_read_then_write : RecordsReadThenWrite
unfolding RecordsReadThenWrite ReadThenWrite SameHanded cells_of begins_of
records_read_then_write f slow slow-now ys ys-now x out out-now y bytes r z k l =
    read_then_write f slow slow-now (cells_of ys) (cells_of ys-now) (begins_of ys) (begins_of ys-now) x out out-now y bytes r z
    (rw (← field_take (λ s. s.cell) x.starts ys-now, ← field_take (λ s. s.time) x.starts ys-now, same-handed) k) l

pub records_write_then_read : RecordsWriteThenRead
unfolding RecordsWriteThenRead WriteThenRead SameHanded cells_of begins_of
records_write_then_read w h storeys t g slow zs out out-now y s s-now ys ys-now x k z r ls lz =
    let long = length-map zs (λ s. s.cell) in
    let late = length-map zs (λ s. s.time) in
    let got = write_then_read w h storeys t g slow (cells_of zs) (begins_of zs) out out-now y s s-now
    (cells_of ys) (cells_of ys-now) (begins_of ys) (begins_of ys-now) x
    (rw (same-handed w h storeys slow zs) k) z r ls
    (omega (arith, long, length-map ys (λ s. s.cell))) (omega (arith, long, length-map ys (λ s. s.time))) in
    let same = same-records ys-now (zs ++ drop (length zs) ys) (whole (λ s. s.cell) long got.2) (whole (λ s. s.time) late got.3) in
    (rw (← long) got.0, got.1, same)
  where
    whole : (f : Start → ℕ) → length (map f zs) ≡ length zs → map f ys-now ≡ map f zs ++ drop (length (map f zs)) (map f ys)
        → map f ys-now ≡ map f (zs ++ drop (length zs) ys)
    whole f l e = e ∙ rw l (ap (λ (xs : List ℕ). map f zs ++ xs) (sym (field_drop f (length zs) ys))) ∙ sym (map-append f zs (drop (length zs) ys))
