-- Passes over lists are steps over states, and they come to the one solution.
use mathlib.Core.Path.{◌≡◌, refl, sym, ap, ◌∙◌, fun_ext}
use mathlib.Core.Bool.{cond}
use mathlib.Core.List.{List}
use mathlib.Core.Logic.{◌⊎◌, inl, inr}
use Prim.Native.Nat.{ℕ, zero, suc, ◌+◌, ◌≤◌, ◌<◌, min}
use native.Mathlib.Omega.{arith}
use native.Mathlib.Nat.{add-zero, add-suc, zero-add, suc-add}
use lib.Dec.{ltb}
use lib.ListN.{length, get_or, replicate, length-replicate, get_or-eq_default}
use lib.Seq.{ext_get_or}
use borrow.Author.Tests.{lt-ltb, le-ltb}
use Rattle.eikonal.specs.Board.{Board, never, size, met, time, one_pass, passes_of, all_never}
use Rattle.eikonal.specs.Inner.Good.{Good}
use Rattle.eikonal.proofs.Levels.{order, Agree, Under, Causal, worked}
use Rattle.eikonal.proofs.Lattices.{Look, Sound, step, step-causal, step-under, levels, worked_fixed, fixed_only}
use Rattle.eikonal.proofs.Rule.{lattice, met-is}

-- THE RULE of a board, on states: never off the board
unfoldable pub rule : Board → Look → (ℕ → ℕ) → ℕ → ℕ
rule b look f c = cond (ltb c (size b)) (met b c (look f c)) never

pub rule-on : (b : Board) (look : Look) (f : ℕ → ℕ) (c : ℕ) → c < size b → rule b look f c ≡ met b c (look f c)
unfolding rule
rule-on b look f c h = rw (lt-ltb c (size b) h)

pub rule-off : (b : Board) (look : Look) (f : ℕ → ℕ) (c : ℕ) → size b ≤ c → rule b look f c ≡ never
unfolding rule
rule-off b look f c h = rw (le-ltb c (size b) h)

-- ---- lists of times
pass_length : (n k : ℕ) (b : Board) (f : ℕ → ℕ → ℕ) → length (one_pass n k b f) ≡ n
unfolding one_pass
pass_length zero k b f = refl
pass_length (suc n) k b f = ap suc (pass_length n (suc k) b f)

pass_time : (n k c : ℕ) (b : Board) (f : ℕ → ℕ → ℕ) → c < n → time (one_pass n k b f) c ≡ met b (k + c) (f (k + c))
unfolding one_pass time
pass_time zero k c b f h = absurd (omega arith)
pass_time (suc n) k zero b f h = rw add-zero
pass_time (suc n) k (suc c) b f h = rw (add-suc, ← suc-add) (pass_time n (suc k) c b f (omega arith))

pub time-off : (ts : List ℕ) (c : ℕ) → length ts ≤ c → time ts c ≡ never
unfolding time
time-off ts c h = get_or-eq_default ts never h

module _ (b : Board) (look : Look) where
  pass_is : (ts : List ℕ) (c : ℕ) → time (one_pass (size b) 0 b (look (time ts))) c ≡ rule b look (time ts) c
  pass_is ts c = go (order c (size b))
    where
      go : (c < size b) ⊎ (size b ≤ c) → time (one_pass (size b) 0 b (look (time ts))) c ≡ rule b look (time ts) c
      go (inl h) = pass_time (size b) 0 c b (look (time ts)) h ∙ rw zero-add (sym (rule-on b look (time ts) c h))
      go (inr h) =
          time-off (one_pass (size b) 0 b (look (time ts))) c (rw pass_length h) ∙ sym (rule-off b look (time ts) c h)

  passes_are : (n i : ℕ) (ts : List ℕ) → time ts ≡ worked never (rule b look) i
      → time (passes_of n b (λ us. look (time us)) ts) ≡ worked never (rule b look) (n + i)
  unfolding passes_of worked
  passes_are zero i ts e = rw zero-add e
  passes_are (suc n) i ts e =
      rw (suc-add, ← add-suc)
      (passes_are n (suc i) (one_pass (size b) 0 b (look (time ts))) (fun_ext (pass_is ts) ∙ ap (rule b look) e))

  passes-length : (n : ℕ) (ts : List ℕ) → length ts ≡ size b → length (passes_of n b (λ us. look (time us)) ts) ≡ size b
  unfolding passes_of
  passes-length zero ts e = e
  passes-length (suc n) ts e = passes-length n (one_pass (size b) 0 b (look (time ts))) (pass_length (size b) 0 b (look (time ts)))

-- from all never on
pub never-time : (b : Board) (c : ℕ) → time (all_never b) c ≡ never
unfolding time all_never
never-time b c = go (size b) c
  where
    go : (n c : ℕ) → get_or (replicate n never) c never ≡ never
    go zero c = refl
    go (suc n) zero = refl
    go (suc n) (suc c) = go n c

-- as many passes as there are cells, as lists
unfoldable pub solved_by : Board → Look → List ℕ
solved_by b look = passes_of (size b) b (λ us. look (time us)) (all_never b)

pub solved-is : (b : Board) (look : Look) (c : ℕ) → time (solved_by b look) c ≡ worked never (rule b look) (size b) c
unfolding solved_by worked
solved-is b look c =
    ap (λ (f : ℕ → ℕ). f c) (rw add-zero at (passes_are b look (size b) 0 (all_never b) (fun_ext (never-time b))))

pub solved-length : (b : Board) (look : Look) → length (solved_by b look) ≡ size b
unfolding solved_by all_never
solved-length b look = passes-length b look (size b) (all_never b) (length-replicate (size b) never)

-- ---- THE ONE SOLUTION: passes are the steps of the board's lattice
module _ (b : Board) (look : Look) (g : Good b) where
  pub rule-is : rule b look ≡ step (lattice g) look
  unfolding rule step
  rule-is = fun_ext (λ f. fun_ext (λ c. ap (λ (x : ℕ). cond (ltb c (size b)) x never) (met-is g c (look f c))))

  module _ (sound : Sound look) where
    pub rule-causal : Causal never (rule b look)
    rule-causal = rw rule-is (step-causal (lattice g) look sound)

    pub solved_fixed : (c : ℕ) → time (solved_by b look) c ≡ rule b look (time (solved_by b look)) c
    solved_fixed c = rw (fun_ext (solved-is b look), rule-is) (worked_fixed (lattice g) look sound c)

    pub solved-only : (ts : List ℕ) → length ts ≡ size b → ((c : ℕ) → time ts c ≡ rule b look (time ts) c) → ts ≡ solved_by b look
    unfolding time
    solved-only ts l fixed =
        ext_get_or never ts (solved_by b look) (l ∙ sym (solved-length b look))
        (λ c h. fixed_only (lattice g) look sound (time ts) (time (solved_by b look)) (rw rule-is at fixed) (rw rule-is at solved_fixed) c)

-- what states come to, each as it is seen
module _ {b : Board} (good : Good b) (k l : Look) (f g : ℕ → ℕ) where
  pub rule-under : (c : ℕ) → Under never (k f c) (l g c) → min never (rule b k f c) ≤ rule b l g c
  rule-under c a = rw (rule-is b k good, rule-is b l good) (step-under (lattice good) k l f g c a)

  pub rule_levels : (t : ℕ) → t < never → ((c : ℕ) → f c ≡ rule b k f c) → ((c : ℕ) → g c ≡ rule b l g c)
      → ((u : ℕ) → u ≤ t → Agree u f g → (c : ℕ) → Agree u (k f c) (l g c)) → (u : ℕ) → u ≤ suc t → Agree u f g
  rule_levels t h p q = levels (lattice good) k l f g t h (rw (rule-is b k good) at p) (rw (rule-is b l good) at q)
