-- Good runs are the maximal runs of the slownesses that they come to, and the maximal runs of a list come to that list.
use mathlib.Core.Path.{◌≡◌, refl, sym, ap, ap₂, ◌∙◌}
use mathlib.Core.Bool.{Bool, true, false, cond}
use mathlib.Core.List.{List, [], ◌∷◌, ◌++◌, append_assoc, append-nil}
use Prim.Native.Nat.{ℕ, zero, suc, ◌+◌, ◌-◌, ◌≤◌}
use native.Mathlib.Omega.{arith}
use native.Mathlib.Decide.{ℕ_discrete}
use lib.Dec.{eqb}
use lib.ListN.{length, replicate, length-append, length-replicate, replicate-append-replicate}
use borrow.Author.Tests.{eqb-true, eq-eqb, ne_eqb}
use Rattle.eikonal.proofs.Good.{and-true}
use Rattle.refusals.proofs.Pairs.{any_pair-append}
use Rattle.scenario.specs.declared.Run.{Run}
use Rattle.scenario.specs.Runs.{run, end, painted, run_good, runs_good, closed, runs_on, runs_of}
use Rattle.scenario.proofs.Slows.{Spares, spares_none, spares_rest, spares_more, Among}
use Rattle.scenario.proofs.GoodRuns.{Fits, good-fits, closed-ground, closed_run, slows_of}

-- ---- runs, painted and scanned again
-- the stretch goes on
same : (g a i z k : ℕ) (ss : List ℕ) → runs_on g a i z (replicate k z ++ ss) ≡ runs_on g a (i + k) z ss
unfolding runs_on
same g a i z zero ss = ap (λ u. runs_on g a u z ss) (let q : i ≡ i + 0 = omega arith in q)
same g a i z (suc k) ss =
    rw (eq-eqb z z refl) (same g a (suc i) z k ss ∙ ap (λ u. runs_on g a u z ss) (let q : suc i + k ≡ i + suc k = omega arith in q))

-- another begins
other : (g a i z s k : ℕ) (ss : List ℕ) → (s ≡ z → ⊥) → 1 ≤ k → runs_on g a i z (replicate k s ++ ss) ≡ closed g a i z (runs_on g i (i + k) s ss)
unfolding runs_on
other g a i z s zero ss h l = absurd (omega arith)
other g a i z s (suc k) ss h l =
    rw (ne_eqb s z h) (ap (closed g a i z) (same g i (suc i) s k ss ∙ ap (λ u. runs_on g i u s ss) (let q : suc i + k ≡ i + suc k = omega arith in q)))

-- ground, and then runs
gap : (g a i z k : ℕ) (ss : List ℕ) (xs : List Run) → ((b : ℕ) → runs_on g b (i + k) g ss ≡ xs) → (k ≡ 0 → runs_on g a i z ss ≡ closed g a i z xs)
    → runs_on g a i z (replicate k g ++ ss) ≡ closed g a i z xs
gap g a i z k ss xs on none = elim (ℕ_discrete z g) [
  | yes q ↦ rw q (same g a i g k ss ∙ on a ∙ sym (closed-ground g a i xs))
  | no q ↦ elim (ℕ_discrete k 0) [
    | yes r ↦ rw r (none r)
    | no r ↦ other g a i z g k ss (λ e. q (sym e)) (omega arith) ∙ ap (closed g a i z) (on i)
  ]
]

-- GOOD RUNS ARE THE MAXIMAL ONES of what they come to, whatever stretch stands before them
scanned : (n g a i z : ℕ) (xs : List Run) → runs_good n g i z xs ≡ true → runs_on g a i z (painted g i n xs) ≡ closed g a i z xs
unfolding runs_good painted end run
scanned n g a i z [] e =
    ap (runs_on g a i z) (sym (append-nil (replicate (n - i) g)))
    ∙ gap g a i z (n - i) [] [] (λ b. ended b) (λ _. none)
  where
    ended : (b : ℕ) → runs_on g b (i + (n - i)) g [] ≡ []
    ended b = unfold runs_on in closed-ground g b (i + (n - i)) []

    none : runs_on g a i z [] ≡ closed g a i z []
    none = unfold runs_on in refl
scanned n g a i z (x ∷ xs) e =
    let r = and-true (run_good n g i z x) _ e in
    let f = good-fits n g i z x r.0 in
    go f (scanned n g x.offset (x.offset + x.long) x.slow xs r.1)
  where
    rest : List ℕ
    rest = painted g (x.offset + x.long) n xs

    go : Fits n g i z x → runs_on g x.offset (x.offset + x.long) x.slow rest ≡ closed g x.offset (x.offset + x.long) x.slow xs
        → runs_on g a i z (replicate (x.offset - i) g ++ (replicate x.long x.slow ++ rest)) ≡ closed g a i z (x ∷ xs)
    go f on = gap g a i z (x.offset - i) (replicate x.long x.slow ++ rest) (x ∷ xs)
        (λ b. let q : i + (x.offset - i) ≡ x.offset = omega (arith, f.behind) in
        ap (λ u. runs_on g b u g (replicate x.long x.slow ++ rest)) q ∙ key b g f.other ∙ closed-ground g b x.offset (x ∷ xs))
        (λ k. let q : x.offset ≡ i = omega (arith, f.behind) in
        ap (λ u. runs_on g a u z (replicate x.long x.slow ++ rest)) (sym q) ∙ key a z (f.apart q) ∙ ap (λ u. closed g a u z (x ∷ xs)) q)
      where
        key : (b y : ℕ) → (x.slow ≡ y → ⊥) → runs_on g b x.offset y (replicate x.long x.slow ++ rest) ≡ closed g b x.offset y (x ∷ xs)
        key b y h =
            other g b x.offset y x.slow x.long rest h f.some
            ∙ ap (closed g b x.offset y) (on ∙ closed_run g x.offset (x.offset + x.long) x.slow xs f.other
            ∙ ap (λ u. run x.offset u x.slow ∷ xs) (let q : x.offset + x.long - x.offset ≡ x.long = omega arith in q))

pub good_maximal : (n g : ℕ) (xs : List Run) → runs_good n g 0 g xs ≡ true → runs_of g (painted g 0 n xs) ≡ xs
unfolding runs_of
good_maximal n g xs e = scanned n g 0 0 g xs e ∙ closed-ground g 0 0 xs

pub length-painted : (n g a z : ℕ) (xs : List Run) → runs_good n g a z xs ≡ true → a ≤ n → length (painted g a n xs) ≡ n - a
unfolding painted runs_good end
length-painted n g a z [] e l = length-replicate (n - a) g
length-painted n g a z (x ∷ xs) e l =
    let r = and-true (run_good n g a z x) _ e in
    let f = good-fits n g a z x r.0 in
    simp (length-append, length-replicate) (omega (arith, f.behind, f.within, length-painted n g (x.offset + x.long) x.slow xs r.1 f.within))

-- no slowness but the ground's and the runs'
module _ (p : (g h : ℕ) → Bool) where
  append_spares : (ss ts : List ℕ) → Spares p ss → Spares p ts → Spares p (ss ++ ts)
  append_spares ss ts e f = any_pair-append p ss ts ∙ rw (e, f)

  replicate_spares : (k z : ℕ) (ss : List ℕ) → Spares p (z ∷ ss) → Spares p (replicate k z)
  replicate_spares zero z ss e = spares_none p
  replicate_spares (suc k) z ss e = spares_more p z ss (replicate k z) e (replicate_spares k z ss e)

  painted_spares : (n g a : ℕ) (xs : List Run) → Spares p (g ∷ slows_of xs) → Spares p (painted g a n xs)
  unfolding painted
  painted_spares n g a [] e = replicate_spares (n - a) g [] e
  painted_spares n g a (x ∷ xs) e =
      let ss = slows_of xs in
      let rest = spares_rest p g (x.slow ∷ ss) e in
      append_spares (replicate (x.offset - a) g) _ (replicate_spares (x.offset - a) g (x.slow ∷ ss) e)
      (append_spares (replicate x.long x.slow) _ (replicate_spares x.long x.slow ss rest)
      (painted_spares n g (end x) xs (spares_more p g (x.slow ∷ ss) ss e (spares_rest p x.slow ss rest))))

pub painted-among : (n g : ℕ) (xs : List Run) → Among (g ∷ painted g 0 n xs) (g ∷ slows_of xs)
painted-among n g xs p e = spares_more p g (slows_of xs) (painted g 0 n xs) e (painted_spares p n g 0 xs e)

-- ---- slownesses, scanned and painted again
snoc : (k z : ℕ) (ss : List ℕ) → replicate (suc k) z ++ ss ≡ replicate k z ++ (z ∷ ss)
snoc zero z ss = refl
snoc (suc k) z ss = ap (λ u. z ∷ u) (snoc k z ss)

closed-painted : (n g b a i z : ℕ) (xs : List Run) (ss : List ℕ) → b ≤ a → a ≤ i → (z ≡ g → painted g b n xs ≡ replicate (i - b) g ++ ss)
    → ((z ≡ g → ⊥) → painted g i n xs ≡ ss) → painted g b n (closed g a i z xs) ≡ replicate (a - b) g ++ (replicate (i - a) z ++ ss)
unfolding painted run end
closed-painted n g b a i z xs ss l m ground new = elim (ℕ_discrete z g) [
  | yes q ↦
      let e : a - b + (i - a) ≡ i - b = omega arith in
      ap (λ u. painted g b n (closed g a i u xs)) q ∙ ap (painted g b n) (closed-ground g a i xs) ∙ ground q
      ∙ ap (λ u. replicate u g ++ ss) (sym e)
      ∙ ap (λ u. u ++ ss) (sym (replicate-append-replicate (a - b) (i - a) g)) ∙ append_assoc (replicate (a - b) g) (replicate (i - a) g) ss
      ∙ ap (λ u. replicate (a - b) g ++ (replicate (i - a) u ++ ss)) (sym q)
  | no q ↦
      let e : a + (i - a) ≡ i = omega arith in
      rw (closed_run g a i z xs q, e) (ap (λ u. replicate (a - b) g ++ (replicate (i - a) z ++ u)) (new q))
]

painted-on : (n g b a i z : ℕ) (ss : List ℕ) → b ≤ a → a ≤ i → i + length ss ≡ n
    → painted g b n (runs_on g a i z ss) ≡ replicate (a - b) g ++ (replicate (i - a) z ++ ss)
unfolding runs_on
painted-on n g b a i z [] l m e = closed-painted n g b a i z [] [] l m (λ _. some) (λ _. none)
  where
    some : painted g b n [] ≡ replicate (i - b) g ++ []
    some = unfold painted in let q : n - b ≡ i - b = omega arith in rw (q, append-nil (replicate (i - b) g))

    none : painted g i n [] ≡ []
    none = unfold painted in let q : n - i ≡ 0 = omega arith in rw q
painted-on n g b a i z (s ∷ ss) l m e =
    go (eqb s z) refl (painted-on n g b a (suc i) z ss) (painted-on n g b i (suc i) s ss) (painted-on n g i i (suc i) s ss)
  where
    one : suc i - i ≡ 1
    one = omega arith

    go : (p : Bool) → eqb s z ≡ p
        → (b ≤ a → a ≤ suc i → suc i + length ss ≡ n → painted g b n (runs_on g a (suc i) z ss) ≡ replicate (a - b) g ++ (replicate (suc i - a) z ++ ss))
        → (b ≤ i → i ≤ suc i → suc i + length ss ≡ n → painted g b n (runs_on g i (suc i) s ss) ≡ replicate (i - b) g ++ (replicate (suc i - i) s ++ ss))
        → (i ≤ i → i ≤ suc i → suc i + length ss ≡ n → painted g i n (runs_on g i (suc i) s ss) ≡ replicate (i - i) g ++ (replicate (suc i - i) s ++ ss))
        → painted g b n (cond p (runs_on g a (suc i) z ss) (closed g a i z (runs_on g i (suc i) s ss)))
        ≡ replicate (a - b) g ++ (replicate (i - a) z ++ (s ∷ ss))
    go true q on past new =
        let r : suc i - a ≡ suc (i - a) = omega arith in
        on l (omega arith) (omega arith)
        ∙ ap (λ u. replicate (a - b) g ++ u)
        (ap (λ u. replicate u z ++ ss) r ∙ snoc (i - a) z ss ∙ ap (λ u. replicate (i - a) z ++ (u ∷ ss)) (sym (eqb-true s z q)))
    go false q on past new =
        closed-painted n g b a i z (runs_on g i (suc i) s ss) (s ∷ ss) l m
        (λ _. past (omega arith) (omega arith) (omega arith) ∙ ap (λ u. replicate (i - b) g ++ (replicate u s ++ ss)) one)
        (λ _. new (omega arith) (omega arith) (omega arith) ∙ ap₂ (λ u v. replicate u g ++ (replicate v s ++ ss)) (let r : i - i ≡ 0 = omega arith in r) one)

-- THE MAXIMAL RUNS COME TO THE LIST
pub painted-runs : (g : ℕ) (ss : List ℕ) → painted g 0 (length ss) (runs_of g ss) ≡ ss
unfolding runs_of
painted-runs g ss = painted-on (length ss) g 0 0 0 g ss (omega arith) (omega arith) (omega arith)
