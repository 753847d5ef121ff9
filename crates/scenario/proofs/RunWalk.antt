-- A walk over the runs of a file: what the run in hand says of all from there on.
use mathlib.Core.Path.{◌≡◌, sym, ◌∙◌}
use mathlib.Core.Bool.{Bool, true, false, not}
use mathlib.Core.List.{List, [], ◌∷◌, map-append}
use Prim.Native.Nat.{ℕ, ◌+◌, ◌*◌, ◌≤◌, ◌<◌}
use lib.ListN.{drop}
use lib.Seq.{drop-drop}
use borrow.Author.Tests.{le-leb, lt-leb, not-true, not-false}
use Rattle.refusals.specs.Flaws.{with_pair, with_pairs}
use Rattle.refusals.specs.declared.board.Flaws.{Flaws}
use Rattle.refusals.proofs.Pairs.{with_no_pairs, with_pairs-more}
use Rattle.scenario.specs.declared.Run.{Run}
use Rattle.scenario.specs.Bytes.{records}
use Rattle.scenario.specs.Runs.{end, run_good, runs_good}
use Rattle.scenario.specs.File.{head_size, run_size, runs_end, run_in}
use Rattle.scenario.specs.Inner.Walk.{runs_onward, past, near}
use Rattle.scenario.proofs.Records.{records-append, onward-none, onward-next, onward-all}
use Rattle.scenario.proofs.GoodRuns.{slows_of}

-- all runs, from the first on
pub runs-all : (f : List ℕ) (count : ℕ) → records run_size run_in count (drop head_size f) ≡ runs_onward f count 0
runs-all f count = sym (onward-all run_size run_in f head_size count)

-- what the slownesses of the first n runs leave
abbrev pub after_runs : List ℕ → (n : ℕ) → Flaws → Flaws
after_runs f n k = with_pairs (slows_of (records run_size run_in n (drop head_size f))) k

pub after_none : (f : List ℕ) (k : Flaws) → after_runs f 0 k ≡ k
unfolding records
after_none f k = with_no_pairs k

pub after_more : (f : List ℕ) (i : ℕ) (x : Run) (k : Flaws) → x ≡ run_in (drop (runs_end i) f) → with_pair x.slow (after_runs f i k) ≡ after_runs f (i + 1) k
unfolding records
after_more f i x k e =
    let bs = drop head_size f in
    let rs = records run_size run_in i bs in
    rw (records-append run_size run_in i 1 bs, map-append (λ (y : Run). y.slow) rs _, drop-drop (run_size * i) head_size f, ← e)
    (with_pairs-more (slows_of rs) x.slow k)

-- none is left
module _ (f : List ℕ) (count i : ℕ) (l : count ≤ i) where
  none : runs_onward f count i ≡ []
  none = onward-none run_size run_in f head_size count i l

  pub good_none : (n g a z : ℕ) → runs_good n g a z (runs_onward f count i) ≡ true
  unfolding runs_good
  good_none n g a z = rw none

  pub past-none : (c : ℕ) → past c (runs_onward f count i) ≡ runs_onward f count i
  unfolding past
  past-none c = rw none

  pub near_none : (g c : ℕ) → near g c (runs_onward f count i) ≡ g
  unfolding near
  near_none g c = rw none

-- the run in hand
module _ (f : List ℕ) (count i : ℕ) (x : Run) (l : i < count) (e : x ≡ run_in (drop (runs_end i) f)) where
  pub runs-next : runs_onward f count i ≡ x ∷ runs_onward f count (i + 1)
  runs-next = onward-next run_size run_in f head_size count i x l e

  pub good-here : (n g a z : ℕ) (p : Bool) → p ≡ run_good n g a z x → not p ≡ true → runs_good n g a z (runs_onward f count i) ≡ false
  unfolding runs_good
  good-here n g a z p q h = rw (runs-next, sym q ∙ not-true p h)

  pub good-next : (n g a z : ℕ) (p : Bool) → p ≡ run_good n g a z x → not p ≡ false
      → runs_good n g a z (runs_onward f count i) ≡ runs_good n g (x.offset + x.long) x.slow (runs_onward f count (i + 1))
  unfolding runs_good end
  good-next n g a z p q h = rw (runs-next, sym q ∙ not-false p h)

  pub past-here : (c : ℕ) → c < x.offset + x.long → past c (runs_onward f count i) ≡ runs_onward f count i
  unfolding past end
  past-here c h = rw (runs-next, lt-leb (x.offset + x.long) c h)

  pub past_next : (c : ℕ) → x.offset + x.long ≤ c → past c (runs_onward f count i) ≡ past c (runs_onward f count (i + 1))
  unfolding past end
  past_next c h = rw (runs-next, le-leb (x.offset + x.long) c h)

  pub near_in : (g c : ℕ) → x.offset ≤ c → near g c (runs_onward f count i) ≡ x.slow
  unfolding near
  near_in g c h = rw (runs-next, le-leb x.offset c h)

  pub near_before : (g c : ℕ) → c < x.offset → near g c (runs_onward f count i) ≡ g
  unfolding near
  near_before g c h = rw (runs-next, lt-leb x.offset c h)

-- the steps of the walks, by their own names
pub ruleset passing = (past-here, past_next, past-none)

pub ruleset rules_kept = (good-here, good-next, good_none)
