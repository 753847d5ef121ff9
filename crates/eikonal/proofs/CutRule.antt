-- What code cites: times in which every cell meets the rule cut at a bound are the march's, are the round's.
use mathlib.Core.Path.{◌≡◌, sym, ap, ◌∙◌}
use mathlib.Core.List.{List}
use mathlib.Core.Logic.{◌⊎◌, inl, inr}
use Prim.Native.Nat.{ℕ, suc, ◌≤◌, ◌<◌, min}
use native.Mathlib.Omega.{arith}
use lib.ListN.{length}
use lib.Seq.{ext_get_or}
use Rattle.eikonal.specs.Board.{Board, never, largest, size, met, time, cut, marched}
use Rattle.eikonal.specs.Tiles.{tiled, solved_in_tiles, round}
use Rattle.eikonal.specs.Inner.Good.{Good}
use Rattle.eikonal.specs.Inner.Clip.{clip}
use Rattle.eikonal.proofs.Levels.{order, Agree, Causal, one_fixed}
use Rattle.eikonal.proofs.Clip.{clip-never, clip-agree, clip-low, clip-same, clip-most, cut-time, cut-length}
use Rattle.eikonal.proofs.Lattices.{Look, Sound, plain, plain_sound}
use Rattle.eikonal.proofs.Passes.{rule, rule-on, rule-off, rule-causal, solved_by, solved-length, solved_fixed, time-off}
use Rattle.eikonal.proofs.Solution.{solved-plain}
use Rattle.eikonal.proofs.Ghosts.{tiled_sound}

module _ (b : Board) (look : Look) (sound : Sound look) (g : Good b) (m : ℕ) (low : m < never) where
  -- the rule, cut at the bound
  abbrev cut_rule : (ℕ → ℕ) → ℕ → ℕ
  cut_rule f c = clip m (rule b look f c)

  cut-causal : Causal never cut_rule
  cut-causal t f h k a c =
      clip-agree m (suc t) (rule b look f c) (rule b look h c) k (rule-causal b look g sound t f h k a c)

  -- the cut solution meets the cut rule
  pub cut-meets : (c : ℕ) → time (cut m (solved_by b look)) c ≡ clip m (rule b look (time (cut m (solved_by b look))) c)
  cut-meets c =
      cut-time m (solved_by b look) c low
      ∙ clip-same m (time (solved_by b look) c) (rule b look (time (cut m (solved_by b look))) c)
      (ap (min (suc m)) (solved_fixed b look g sound c)
      ∙ rule-causal b look g sound m (time (solved_by b look)) (time (cut m (solved_by b look))) low below c)
    where
      below : Agree m (time (solved_by b look)) (time (cut m (solved_by b look)))
      below e =
          sym (ap (min m) (cut-time m (solved_by b look) e low) ∙ clip-low m m (time (solved_by b look) e) (omega arith) (omega arith))

  -- and it alone does
  cut-by-rule : (ts : List ℕ) → length ts ≡ size b
      → ((c : ℕ) → c < size b → time ts c ≡ clip m (met b c (look (time ts) c))) → ts ≡ cut m (solved_by b look)
  unfolding time
  cut-by-rule ts l meets = ext_get_or never ts (cut m (solved_by b look)) same_length (λ c h. same c)
    where
      same_length : length ts ≡ length (cut m (solved_by b look))
      same_length = l ∙ sym (solved-length b look) ∙ sym (cut-length m (solved_by b look))

      fixed : (c : ℕ) → time ts c ≡ clip m (rule b look (time ts) c)
      fixed c = go (order c (size b))
        where
          go : (c < size b) ⊎ (size b ≤ c) → time ts c ≡ clip m (rule b look (time ts) c)
          go (inl h) = rw (rule-on b look (time ts) c h) (meets c h)
          go (inr h) = rw (rule-off b look (time ts) c h, clip-never m) (time-off ts c (omega arith))

      same : (c : ℕ) → time ts c ≡ time (cut m (solved_by b look)) c
      same c =
          omega (
            arith,
            one_fixed never cut_rule cut-causal (time ts) (time (cut m (solved_by b look))) (λ e. ap (min never) (fixed e)) (λ e. ap (min never) (cut-meets e))
                never (omega arith) c,
            fixed c,
            cut-meets c,
            clip-most m (rule b look (time ts) c) (omega arith),
            clip-most m (rule b look (time (cut m (solved_by b look))) c) (omega arith),
          )

-- A MARCH MEETS THE RULE up to its horizon, A ROUND THE TILED RULE up to its bound
module _ (b : Board) (g : Good b) where
  pub march_meets : (m : ℕ) → m ≤ largest → (c : ℕ) → c < size b → time (marched b m) c ≡ clip m (met b c (time (marched b m)))
  unfolding marched
  march_meets m k c on = rw (solved-plain b) (cut-meets b plain plain_sound g m (omega arith) c ∙ ap (clip m) (rule-on b plain _ c on))

  module _ (tw th m : ℕ) (k : m ≤ largest) (stored : List ℕ) where
    pub round-meets : (c : ℕ) → c < size b → time (round b tw th m stored) c ≡ clip m (met b c (tiled b tw th stored (time (round b tw th m stored)) c))
    unfolding round solved_in_tiles solved_by
    round-meets c on =
        let look = tiled b tw th stored in
        cut-meets b look (tiled_sound b tw th stored) g m (omega arith) c ∙ ap (clip m) (rule-on b look _ c on)

    -- and times that do are the round
    pub round-by-rule : (ts : List ℕ) → length ts ≡ size b
        → ((c : ℕ) → c < size b → time ts c ≡ clip m (met b c (tiled b tw th stored (time ts) c))) → ts ≡ round b tw th m stored
    unfolding round solved_in_tiles solved_by
    round-by-rule ts l meets = cut-by-rule b (tiled b tw th stored) (tiled_sound b tw th stored) g m (omega arith) ts l meets
