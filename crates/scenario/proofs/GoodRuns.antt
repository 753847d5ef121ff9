-- What the rules of runs say, as facts, and the maximal runs of a list of slownesses obey them.
use mathlib.Core.Path.{◌≡◌, refl, sym, ap, ap₂, ◌∙◌}
use mathlib.Core.Bool.{Bool, true, false, ◌&&◌, not, cond, true≢false}
use mathlib.Core.List.{List, [], ◌∷◌, map}
use mathlib.Core.Logic.{◌⊎◌, inl, inr, ⊎_elim}
use Prim.Native.Nat.{ℕ, suc, ◌+◌, ◌-◌, ◌≤◌, ◌<◌}
use native.Mathlib.Omega.{arith}
use native.Mathlib.Decide.{ℕ_discrete}
use lib.Dec.{leb, eqb}
use lib.ListN.{length}
use borrow.Author.Tests.{leb-true, le-leb, eqb-true, eqb-false, eq-eqb, ne_eqb, not-true}
use Rattle.eikonal.specs.Refusals.{steep}
use Rattle.eikonal.proofs.Good.{and-true}
use Rattle.scenario.specs.declared.Run.{Run}
use Rattle.scenario.specs.Runs.{run, end, run_good, runs_good, closed, runs_on, runs_of}
use Rattle.scenario.proofs.Records.{All}
use Rattle.scenario.proofs.Slows.{Spares, spares_none, spares_rest, spares_more, slow-fits, Among}

-- the rules of a run, where the one before ended at a and had slowness z
pub record Fits (n g a z : ℕ) (x : Run) : Type 0 where
  pub behind : a ≤ x.offset
  pub some : 1 ≤ x.long
  pub within : x.offset + x.long ≤ n
  pub other : x.slow ≡ g → ⊥
  pub apart : x.offset ≡ a → x.slow ≡ z → ⊥

and-false : (p q : Bool) → (p ≡ true → q ≡ true → ⊥) → p && q ≡ false
and-false true true h = absurd (h refl refl)
and-false true false h = refl
and-false false q h = refl

pub good-fits : (n g a z : ℕ) (x : Run) → run_good n g a z x ≡ true → Fits n g a z x
unfolding run_good end
good-fits n g a z x e =
    let r4 = and-true _ (not (eqb x.offset a && eqb x.slow z)) e in
    let r3 = and-true _ (not (eqb x.slow g)) r4.0 in
    let r2 = and-true _ (leb (x.offset + x.long) n) r3.0 in
    let r1 = and-true (leb a x.offset) (leb 1 x.long) r2.0 in
    record {
      behind = leb-true a x.offset r1.0;
      some = leb-true 1 x.long r1.1;
      within = leb-true (x.offset + x.long) n r2.1;
      other = eqb-false x.slow g (not-true _ r3.1);
      apart = λ p q. true≢false (sym (ap₂ ◌&&◌ (eq-eqb x.offset a p) (eq-eqb x.slow z q)) ∙ not-true _ r4.1);
    }

pub fits-good : (n g a z : ℕ) (x : Run) → Fits n g a z x → run_good n g a z x ≡ true
unfolding run_good end
fits-good n g a z x h =
    rw (le-leb a x.offset h.behind, le-leb 1 x.long h.some, le-leb (x.offset + x.long) n h.within, ne_eqb x.slow g h.other)
    (ap not (and-false (eqb x.offset a) (eqb x.slow z) (λ p q. h.apart (eqb-true _ _ p) (eqb-true _ _ q))))

-- ---- a stretch that ends is a run, or ground
pub closed-ground : (g a i : ℕ) (xs : List Run) → closed g a i g xs ≡ xs
unfolding closed
closed-ground g a i xs = rw (eq-eqb g g refl)

pub closed_run : (g a i z : ℕ) (xs : List Run) → (z ≡ g → ⊥) → closed g a i z xs ≡ run a (i - a) z ∷ xs
unfolding closed
closed_run g a i z xs h = rw (ne_eqb z g h)

-- the stretch of slowness z from a to i may follow a run that ended at b and had slowness y
record May (g b y a i z : ℕ) : Type 0 where
  low : b ≤ a
  high : a ≤ i
  ground : z ≡ g → (y ≡ g) ⊎ (b < i)
  some : (z ≡ g → ⊥) → a < i
  apart : (z ≡ g → ⊥) → a ≡ b → z ≡ y → ⊥

closed-good : (n g b y a i z : ℕ) (xs : List Run) → May g b y a i z → i ≤ n
    → (z ≡ g → runs_good n g b y xs ≡ true) → ((z ≡ g → ⊥) → runs_good n g i z xs ≡ true) → runs_good n g b y (closed g a i z xs) ≡ true
unfolding runs_good run end
closed-good n g b y a i z xs m l ground other = elim (ℕ_discrete z g) [
  | yes q ↦ rw (ap (λ u. closed g a i u xs) q ∙ closed-ground g a i xs) (ground q)
  | no q ↦
      let more = m.some q in
      let e : a + (i - a) ≡ i = omega (arith, m.high) in
      let fit : Fits n g b y (run a (i - a) z) = record { behind = m.low; some = omega arith; within = omega arith; other = q; apart = m.apart q } in
      rw (closed_run g a i z xs q, fits-good n g b y (run a (i - a) z) fit, e) (other q)
]

runs_on-good : (n g b y a i z : ℕ) (ss : List ℕ) → May g b y a i z → i + length ss ≡ n → runs_good n g b y (runs_on g a i z ss) ≡ true
unfolding runs_on runs_good
runs_on-good n g b y a i z [] m e = closed-good n g b y a i z [] m (omega arith) (λ _. refl) (λ _. refl)
runs_on-good n g b y a i z (s ∷ ss) m e =
    go (eqb s z) refl (runs_on-good n g b y a (suc i) z ss) (runs_on-good n g b y i (suc i) s ss) (runs_on-good n g i z i (suc i) s ss)
  where
    go : (p : Bool) → eqb s z ≡ p → (May g b y a (suc i) z → suc i + length ss ≡ n → runs_good n g b y (runs_on g a (suc i) z ss) ≡ true)
        → (May g b y i (suc i) s → suc i + length ss ≡ n → runs_good n g b y (runs_on g i (suc i) s ss) ≡ true)
        → (May g i z i (suc i) s → suc i + length ss ≡ n → runs_good n g i z (runs_on g i (suc i) s ss) ≡ true)
        → runs_good n g b y (cond p (runs_on g a (suc i) z ss) (closed g a i z (runs_on g i (suc i) s ss))) ≡ true
    go true q on past new =
        on (record {
          low = m.low;
          high = omega (arith, m.high);
          ground = λ h. ⊎_elim (λ k. inl k) (λ k. inr (omega arith)) (m.ground h);
          some = λ h. omega (arith, m.high);
          apart = m.apart;
        }) (omega arith)
    go false q on past new =
        let d = eqb-false s z q in
        closed-good n g b y a i z (runs_on g i (suc i) s ss) m (omega arith)
        (λ h. past (record {
          low = omega (arith, m.low, m.high);
          high = omega arith;
          ground = λ k. absurd (d (k ∙ sym h));
          some = λ _. omega arith;
          apart = λ _ k r. ⊎_elim (λ v. d (r ∙ v ∙ sym h)) (λ v. omega arith) (m.ground h);
        }) (omega arith))
        (λ h. new (record { low = omega arith; high = omega arith; ground = λ k. inr (omega arith); some = λ _. omega arith; apart = λ _ _. d }) (omega arith))

-- THE MAXIMAL RUNS OBEY THE RULES
pub runs_of-good : (g : ℕ) (ss : List ℕ) → runs_good (length ss) g 0 g (runs_of g ss) ≡ true
unfolding runs_of
runs_of-good g ss =
    runs_on-good (length ss) g 0 g 0 0 g ss
    (record { low = omega arith; high = omega arith; ground = λ _. inl refl; some = λ h. absurd (h refl); apart = λ h _ _. h refl }) (omega arith)

-- their slownesses are the ground's and the board's
abbrev pub slows_of : List Run → List ℕ
slows_of xs = map (λ x. x.slow) xs

module _ (p : (g h : ℕ) → Bool) where
  closed_spares : (g a i z : ℕ) (xs : List Run) (ss : List ℕ) → Spares p (z ∷ ss) → Spares p (slows_of xs) → Spares p (slows_of (closed g a i z xs))
  unfolding closed run
  closed_spares g a i z xs ss e f = go (eqb z g)
    where
      go : (q : Bool) → Spares p (slows_of (cond q xs (run a (i - a) z ∷ xs)))
      go true = f
      go false = spares_more p z ss (slows_of xs) e f

  runs_on_spares : (g a i z : ℕ) (ss : List ℕ) → Spares p (z ∷ ss) → Spares p (slows_of (runs_on g a i z ss))
  unfolding runs_on
  runs_on_spares g a i z [] e = closed_spares g a i z [] [] e (spares_none p)
  runs_on_spares g a i z (s ∷ ss) e =
      let rest = spares_rest p z (s ∷ ss) e in
      go (eqb s z) (runs_on_spares g a (suc i) z ss (spares_more p z (s ∷ ss) ss e (spares_rest p s ss rest)))
      (closed_spares g a i z (runs_on g i (suc i) s ss) (s ∷ ss) e (runs_on_spares g i (suc i) s ss rest))
    where
      go : (q : Bool) → Spares p (slows_of (runs_on g a (suc i) z ss)) → Spares p (slows_of (closed g a i z (runs_on g i (suc i) s ss)))
          → Spares p (slows_of (cond q (runs_on g a (suc i) z ss) (closed g a i z (runs_on g i (suc i) s ss))))
      go true h k = h
      go false h k = k

pub runs_of-among : (g : ℕ) (ss : List ℕ) → Among (g ∷ slows_of (runs_of g ss)) (g ∷ ss)
unfolding runs_of
runs_of-among g ss p e = spares_more p g ss (slows_of (runs_on g 0 0 g ss)) e (runs_on_spares p g 0 0 g ss e)

-- and there are no more than cells, but one
closed-count : (g a i z : ℕ) (xs : List Run) → length (closed g a i z xs) ≤ suc (length xs)
unfolding closed
closed-count g a i z xs = go (eqb z g)
  where
    go : (p : Bool) → length (cond p xs (run a (i - a) z ∷ xs)) ≤ suc (length xs)
    go true = omega arith
    go false = omega arith

runs_on-count : (g a i z : ℕ) (ss : List ℕ) → length (runs_on g a i z ss) ≤ suc (length ss)
unfolding runs_on
runs_on-count g a i z [] = closed-count g a i z []
runs_on-count g a i z (s ∷ ss) =
    let new = runs_on g i (suc i) s ss in
    go (eqb s z) (runs_on-count g a (suc i) z ss) (omega (arith, closed-count g a i z new, runs_on-count g i (suc i) s ss))
  where
    go : (p : Bool) → length (runs_on g a (suc i) z ss) ≤ suc (length ss) → length (closed g a i z (runs_on g i (suc i) s ss)) ≤ suc (suc (length ss))
        → length (cond p (runs_on g a (suc i) z ss) (closed g a i z (runs_on g i (suc i) s ss))) ≤ suc (suc (length ss))
    go true h k = omega arith
    go false h k = k

pub runs_of-count : (g : ℕ) (ss : List ℕ) → length (runs_of g ss) ≤ suc (length ss)
unfolding runs_of
runs_of-count g ss = runs_on-count g 0 0 g ss

pub ruleset counts = (runs_of-count)

-- the numbers of good runs fit their bytes
pub record Small (x : Run) : Type 0 where
  pub offset : x.offset < 4294967296
  pub long : x.long < 4294967296
  pub slow : x.slow < 4294967296

pub all_small : (n g a z : ℕ) (xs : List Run) → n < 4294967296 → runs_good n g a z xs ≡ true → Spares steep (slows_of xs) → All Small xs
unfolding runs_good end
all_small n g a z [] l e k = tt
all_small n g a z (x ∷ xs) l e k =
    let r = and-true (run_good n g a z x) _ e in
    let f = good-fits n g a z x r.0 in (
      record { offset = omega (arith, f.within); long = omega (arith, f.within); slow = slow-fits x.slow (slows_of xs) k },
      all_small n g (x.offset + x.long) x.slow xs l r.1 (spares_rest steep x.slow (slows_of xs) k),
    )
