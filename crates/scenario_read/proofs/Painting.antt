-- A list of slownesses, painted run by run.
use mathlib.Core.Path.{◌≡◌, refl, sym, ap, ◌∙◌}
use mathlib.Core.Bool.{true}
use mathlib.Core.List.{List, ◌∷◌, ◌++◌, append_assoc}
use Prim.Native.Nat.{ℕ, ◌+◌, ◌-◌, ◌≤◌, ◌<◌}
use native.Mathlib.Omega.{arith}
use lib.ListN.{length, take, drop, replicate}
use borrow.Rule.Slice.PartMut.{put_mid}
use Rattle.std.proofs.Common.{rules}
use Rattle.std.proofs.lemmas.Slice.{take-put_mid, overwrites}
use Rattle.eikonal.proofs.Good.{and-true}
use Rattle.scenario.specs.declared.Run.{Run}
use Rattle.scenario.specs.Runs.{end, painted, run_good, runs_good}
use Rattle.scenario.specs.File.{head_size, run_size, runs_end, run_in}
use Rattle.scenario.specs.Inner.Walk.{runs_onward}
use Rattle.scenario.proofs.Records.{onward-none}
use Rattle.scenario.proofs.GoodRuns.{Fits, good-fits}
use Rattle.scenario.proofs.RunWalk.{runs-next}

-- the entries from a to b written, and then those from b to e
pub two_parts : (l ys zs : List ℕ) (a b e : ℕ) → a ≤ b → e ≤ length l → length ys ≡ b - a → b + length zs ≡ e
    → take e (put_mid b (e - b) (put_mid a (b - a) l ys) zs) ≡ take a l ++ (ys ++ zs)
two_parts l ys zs a b e h k m n =
    take-put_mid b (e - b) (put_mid a (b - a) l ys) zs e (omega arith) (search (rules, overwrites))
    ∙ ap (λ u. u ++ zs) (take-put_mid a (b - a) l ys b (omega arith) (omega arith)) ∙ append_assoc (take a l) ys zs

-- painted up to a free cell, with the runs from the i-th on still to come; z is the slowness of the run before
pub record Painting (f : List ℕ) (count g n : ℕ) (slow : List ℕ) (free i : ℕ) : Type 0 where
  pub within : free ≤ n
  pub long : length slow ≡ n
  pub last : ℕ
  pub good : runs_good n g free last (runs_onward f count i) ≡ true
  pub done : take free slow ++ painted g free n (runs_onward f count i) ≡ painted g 0 n (runs_onward f count 0)

pub painting_none : (f : List ℕ) (count g n : ℕ) (slow : List ℕ) → length slow ≡ n → runs_good n g 0 g (runs_onward f count 0) ≡ true
    → Painting f count g n slow 0 0
painting_none f count g n slow l e = record { within = omega arith; long = l; last = g; good = e; done = refl }

module _ {f : List ℕ} {count g n : ℕ} {slow : List ℕ} {free i : ℕ} (p : Painting f count g n slow free i) where
  module _ (x : Run) (l : i < count) (e : x ≡ run_in (drop (runs_end i) f)) where
    next : runs_onward f count i ≡ x ∷ runs_onward f count (i + 1)
    next = runs-next f count i x l e

    both : (run_good n g free p.last x ≡ true) × (runs_good n g (x.offset + x.long) x.slow (runs_onward f count (i + 1)) ≡ true)
    unfolding runs_good end
    both = and-true (run_good n g free p.last x) _ (rw next at p.good)

    pub painting_fits : Fits n g free p.last x
    painting_fits = good-fits n g free p.last x both.0

    next-painted : replicate (x.offset - free) g ++ (replicate x.long x.slow ++ painted g (x.offset + x.long) n (runs_onward f count (i + 1)))
        ≡ painted g free n (runs_onward f count i)
    unfolding painted end
    next-painted = ap (painted g free n) (sym next)

    pub painting_more : (now : List ℕ) (edge : ℕ) → length now ≡ n → edge ≡ x.offset + x.long
        → take (x.offset + x.long) now ≡ take free slow ++ (replicate (x.offset - free) g ++ replicate x.long x.slow)
        → Painting f count g n now edge (i + 1)
    painting_more now edge h r q = rw r (record {
      within = painting_fits.within;
      long = h;
      last = x.slow;
      good = both.1;
      done =
          ap (λ u. u ++ painted g (x.offset + x.long) n (runs_onward f count (i + 1))) q ∙ append_assoc (take free slow) _ _
          ∙ ap (λ u. take free slow ++ u) (append_assoc (replicate (x.offset - free) g) _ _ ∙ next-painted) ∙ p.done;
    })

  pub painting_end : count ≤ i → (now : List ℕ) → now ≡ take free slow ++ replicate (n - free) g
      → now ≡ painted g 0 n (runs_onward f count 0)
  unfolding painted
  painting_end l now q =
      q
      ∙ ap (λ u. take free slow ++ painted g free n u) (sym (onward-none run_size run_in f head_size count i l)) ∙ p.done
