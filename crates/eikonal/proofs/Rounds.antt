-- A round over tiles solves a board that is seen in part as stored, and rounds come to the march: RoundIsSolution, RoundsLeast and FewRounds.
use mathlib.Core.Path.{◌≡◌, refl, sym, ap, ◌∙◌}
use mathlib.Core.Bool.{Bool, true, false, cond, true≢false}
use mathlib.Core.List.{List}
use mathlib.Core.Logic.{◌⊎◌, inl, inr}
use Prim.Native.Nat.{ℕ, zero, suc, ◌+◌, ◌*◌, ◌-◌, ◌≤◌, ◌<◌, min, max}
use native.Mathlib.Omega.{arith}
use native.Mathlib.Nat.{add-suc}
use lib.Dec.{eqb}
use lib.ListN.{length, length-replicate}
use lib.Seq.{ext_get_or}
use borrow.Author.Tests.{eqb-true}
use Rattle.eikonal.specs.Board.{Board, never, largest, size, slowness, time, solved, least_from, marched, reached, all_never}
use Rattle.eikonal.specs.Tiles.{tile_of, counts_as, tiled, MeetsInTiles, solved_in_tiles, round}
use Rattle.eikonal.specs.Tiles.{after_rounds, last_round, rounds, rounds_from, up}
use Rattle.eikonal.specs.Promise.{RoundIsSolution, RoundsLeast, FewRounds}
use Rattle.eikonal.specs.Inner.Good.{Good}
use Rattle.eikonal.specs.Inner.Clip.{clip}
use Rattle.eikonal.proofs.Levels.{order, lower, Agree, Under, worked, count, count_most, settles}
use Rattle.eikonal.proofs.Least.{Least, least, least_bound}
use Rattle.eikonal.proofs.Up.{up-enough}
use Rattle.eikonal.proofs.Clip.{clip-never, clip-agree, clip-under, clip-late, clip-low, clip-same, clip_again, clip-most}
use Rattle.eikonal.proofs.Clip.{cut-time, cut-length, reached-count}
use Rattle.eikonal.proofs.Altered.{altered-same}
use Rattle.eikonal.proofs.Good.{good}
use Rattle.eikonal.proofs.Lattices.{plain, plain_sound}
use Rattle.eikonal.proofs.Rule.{met_capped}
use Rattle.eikonal.proofs.Walls.{arrival_wall}
use Rattle.eikonal.proofs.Passes.{never-time, rule, rule-on, rule-off, rule-under, rule_levels, time-off}
use Rattle.eikonal.proofs.Passes.{solved_by, solved-is, solved-length, solved_fixed}
use Rattle.eikonal.proofs.Solution.{solved-plain, solved-long, marched-long, one_solution_by}
use Rattle.eikonal.proofs.LastRound.{is_last, last_says}
use Rattle.eikonal.proofs.Ghosts.{tiled_sound, stored, stored-agree, stored-late}

-- ---- ONE ROUND on a good board, beside the march
module _ (b : Board) (g : Good b) (tw th : ℕ) where
  -- the times that the tiles come to, before the bound
  abbrev tiles : List ℕ → ℕ → ℕ
  tiles ts = time (solved_by b (tiled b tw th ts))

  tiles_fixed : (ts : List ℕ) (c : ℕ) → tiles ts c ≡ rule b (tiled b tw th ts) (tiles ts) c
  tiles_fixed ts = solved_fixed b (tiled b tw th ts) g (tiled_sound b tw th ts)

  pub round-time : (m : ℕ) (ts : List ℕ) (c : ℕ) → m < never → time (round b tw th m ts) c ≡ clip m (tiles ts c)
  unfolding round solved_in_tiles solved_by
  round-time m ts c h = cut-time m (solved_by b (tiled b tw th ts)) c h

  round-length : (m : ℕ) (ts : List ℕ) → length (round b tw th m ts) ≡ size b
  unfolding round solved_in_tiles solved_by
  round-length m ts = cut-length m (solved_by b (tiled b tw th ts)) ∙ solved-length b (tiled b tw th ts)

  tiles-agree : (t : ℕ) (ts us : List ℕ) → t < never → Agree t (time ts) (time us) → Agree (suc t) (tiles ts) (tiles us)
  tiles-agree t ts us h a =
      rule_levels g (tiled b tw th ts) (tiled b tw th us) (tiles ts) (tiles us) t h (tiles_fixed ts) (tiles_fixed us) see (suc t) (omega arith)
    where
      pick : (p : Bool) (u e : ℕ) → u ≤ t → min u (tiles ts e) ≡ min u (tiles us e)
          → min u (cond p (tiles ts e) (counts_as b ts e)) ≡ min u (cond p (tiles us e) (counts_as b us e))
      pick true u e i k = k
      pick false u e i k = lower i (counts_as b ts e) (counts_as b us e) (stored-agree b t ts us (omega arith) a e)

      see : (u : ℕ) → u ≤ t → Agree u (tiles ts) (tiles us) → (c : ℕ) → Agree u (tiled b tw th ts (tiles ts) c) (tiled b tw th us (tiles us) c)
      see u i k c e = pick (eqb (tile_of b tw th c) (tile_of b tw th e)) u e i (k e)

  -- the whole board's times
  abbrev whole : ℕ → ℕ
  whole = time (solved b)

  whole_fixed : (c : ℕ) → whole c ≡ rule b plain whole c
  whole_fixed = rw (solved-plain b) (solved_fixed b plain g plain_sound)

  wall_never : (c : ℕ) → slowness b c ≡ 0 → whole c ≡ never
  wall_never c w = whole_fixed c ∙ go (order c (size b))
    where
      go : (c < size b) ⊎ (size b ≤ c) → rule b plain whole c ≡ never
      go (inl h) = rule-on b plain whole c h ∙ met_capped g c whole ∙ rw (g.walls_free c w, arrival_wall g c whole w)
      go (inr h) = rule-off b plain whole c h

  march_time : (h c : ℕ) → h < never → time (marched b h) c ≡ clip h (whole c)
  unfolding marched
  march_time h c k = cut-time h (solved b) c k

  -- the march's times count as they are
  pub march_counts : (h : ℕ) → h ≤ largest → (e : ℕ) → counts_as b (marched b h) e ≡ time (marched b h) e
  march_counts h l e = stored b (marched b h) e ∙ rw (march_time h e (omega arith)) (go (eqb (slowness b e) 0) refl)
    where
      go : (p : Bool) → eqb (slowness b e) 0 ≡ p → cond p never (clip largest (clip h (whole e))) ≡ clip h (whole e)
      go true k = rw (wall_never e (eqb-true (slowness b e) 0 k)) (sym (clip-never h))
      go false k = clip_again largest h (whole e) l

  -- tiles that see the march have the march's times
  march_tiles : (h : ℕ) → h ≤ largest → Agree (suc h) (tiles (marched b h)) whole
  march_tiles h l =
      rule_levels g (tiled b tw th (marched b h)) plain (tiles (marched b h)) whole h (omega arith) (tiles_fixed (marched b h)) whole_fixed see
      (suc h) (omega arith)
    where
      pick : (p : Bool) (u e : ℕ) → u ≤ h → min u (tiles (marched b h) e) ≡ min u (whole e)
          → min u (cond p (tiles (marched b h) e) (counts_as b (marched b h) e)) ≡ min u (whole e)
      pick true u e i k = k
      pick false u e i k = rw (march_counts h l e, march_time h e (omega arith)) (clip-low h u (whole e) (omega arith) (omega arith))

      see : (u : ℕ) → u ≤ h → Agree u (tiles (marched b h)) whole → (c : ℕ) → Agree u (tiled b tw th (marched b h) (tiles (marched b h)) c) whole
      see u i k c e = pick (eqb (tile_of b tw th c) (tile_of b tw th e)) u e i (k e)

  march_again : (h : ℕ) → h ≤ largest → (c : ℕ) → clip h (tiles (marched b h) c) ≡ time (marched b h) c
  march_again h l c = clip-same h (tiles (marched b h) c) (whole c) (march_tiles h l c) ∙ sym (march_time h c (omega arith))

  -- so a round to the horizon that is lent the march leaves it
  pub march_stays : (h : ℕ) → h ≤ largest → round b tw th h (marched b h) ≡ marched b h
  unfolding time
  march_stays h l =
      ext_get_or never (round b tw th h (marched b h)) (marched b h) (round-length h (marched b h) ∙ sym (marched-long b h))
      (λ c i. round-time h (marched b h) c (omega arith) ∙ march_again h l c)

  -- A ROUND AT THE HORIZON has one level more of the march than it was lent
  round-step : (h t : ℕ) (ts : List ℕ) → h ≤ largest → t < never → Agree t (time ts) (time (marched b h))
      → Agree (suc t) (time (round b tw th h ts)) (time (marched b h))
  round-step h t ts l k a c =
      ap (min (suc t)) (round-time h ts c (omega arith))
      ∙ clip-agree h (suc t) (tiles ts c) (tiles (marched b h) c) k (tiles-agree t ts (marched b h) k a c)
      ∙ ap (min (suc t)) (march_again h l c)

  -- NO ROUND goes below the march
  pub whole-tiles : (ts : List ℕ) → Under never whole (time ts) → Under never whole (tiles ts)
  unfolding worked
  whole-tiles ts a c = rw (solved-is b (tiled b tw th ts) c) (go (size b) c)
    where
      pick : (p : Bool) (x e : ℕ) → min never (whole e) ≤ x → min never (whole e) ≤ cond p x (counts_as b ts e)
      pick true x e k = k
      pick false x e k = stored-late b (whole e) ts e (a e)

      go : (j : ℕ) → Under never whole (worked never (rule b (tiled b tw th ts)) j)
      go zero c = omega arith
      go (suc j) c =
          omega (
            arith,
            whole_fixed c,
            rule-under g plain (tiled b tw th ts) whole (worked never (rule b (tiled b tw th ts)) j) c
                (λ e. pick (eqb (tile_of b tw th c) (tile_of b tw th e)) (worked never (rule b (tiled b tw th ts)) j e) e (go j e)),
          )

  -- ---- ROUNDS one after the other
  module _ (s h : ℕ) (low : 1 ≤ s) (high : h ≤ largest) where
    abbrev after : ℕ → List ℕ
    after k = after_rounds k b tw th s h

    pub after-whole : (k : ℕ) → Under never whole (time (after k))
    unfolding after_rounds
    after-whole zero c = rw (never-time b c) (omega arith)
    after-whole (suc k) c =
        rw (round-time (min (suc k * s) h) (after k) c (omega arith))
        (clip-late (min (suc k * s) h) (whole c) (tiles (after k) c) (whole-tiles (after k) (after-whole k) c))

    after_march : (k : ℕ) → Under never (time (marched b h)) (time (after k))
    unfolding after_rounds
    after_march zero c = rw (never-time b c) (omega arith)
    after_march (suc k) c =
        rw (round-time (min (suc k * s) h) (after k) c (omega arith), march_time h c (omega arith))
        (clip-under (min (suc k * s) h) h (whole c) (tiles (after k) c) (omega arith) (whole-tiles (after k) (after-whole k) c))

    pub after-length : (k : ℕ) → length (after k) ≡ size b
    unfolding after_rounds all_never
    after-length zero = length-replicate (size b) never
    after-length (suc k) = round-length (min (suc k * s) h) (after k)

    march_count : reached h (solved b) ≡ count (size b) never (time (marched b h))
    unfolding marched
    march_count = rw (solved-long b) at (reached-count h (solved b) (omega arith))

    -- a round at the horizon
    after-step : (k t : ℕ) → h ≤ suc k * s → t < never → Agree t (time (after k)) (time (marched b h))
        → Agree (suc t) (time (after (suc k))) (time (marched b h))
    unfolding after_rounds
    after-step k t i j a =
        let e : min (suc k * s) h ≡ h = omega arith in
        rw e (round-step h t (after k) high j a)

    march_most : (c : ℕ) → time (marched b h) c ≤ never
    march_most c = rw (march_time h c (omega arith)) (clip-most h (whole c) (omega arith))

    after-most : (k c : ℕ) → time (after k) c ≤ never
    unfolding after_rounds
    after-most zero c = rw (never-time b c) (omega arith)
    after-most (suc k) c =
        rw (round-time (min (suc k * s) h) (after k) c (omega arith)) (clip-most (min (suc k * s) h) (tiles (after k) c) (omega arith))

    -- a state that agrees with the march is the march
    is_march : (k : ℕ) → Agree never (time (after k)) (time (marched b h)) → after k ≡ marched b h
    unfolding time
    is_march k a = ext_get_or never (after k) (marched b h) (after-length k ∙ sym (marched-long b h)) (λ c i. omega (arith, a c, march_most c, after-most k c))

    -- WHERE A ROUND AT THE HORIZON ALTERS NOTHING the march's times are reached
    still_march : (k : ℕ) → h ≤ suc k * s → after k ≡ after (suc k) → after (suc k) ≡ marched b h
    still_march k i e = is_march (suc k) (go never (omega arith))
      where
        go : (t : ℕ) → t ≤ never → Agree t (time (after (suc k))) (time (marched b h))
        go zero j c = omega arith
        go (suc t) j c = after-step k t i j (rw e (go t (omega arith))) c

    -- AS MANY ROUNDS at the horizon as cells are reached come to the march
    soon_march : (k j : ℕ) → h ≤ suc k * s → reached h (solved b) ≤ j → after (k + j) ≡ marched b h
    soon_march k j i r = is_march (k + j) (settles (size b) never (time (marched b h)) (λ j. time (after (k + j))) off (λ j. after_march (k + j)) step never j
        (omega arith) (omega (arith, march_count)))
      where
        off : (c : ℕ) → size b ≤ c → never ≤ time (marched b h) c
        off c n = omega (arith, time-off (marched b h) c (rw (marched-long b h) n))

        step : (j t : ℕ) → t < never → Agree t (time (after (k + j))) (time (marched b h)) → Agree (suc t) (time (after (k + suc j))) (time (marched b h))
        step j t n a = rw add-suc (after-step (k + j) t (omega arith) n a)

    -- ---- the last round
    last_march : (k j : ℕ) → h ≤ suc k * s → reached h (solved b) ≤ j → last_round b tw th s h (suc (k + j)) ≡ true
    last_march k j i r =
        let more : after (suc (k + j)) ≡ marched b h = rw add-suc at (soon_march k (suc j) i (omega arith)) in
        is_last b tw th s h (k + j) (omega arith) (more ∙ sym (soon_march k j i r))

    -- it saw the march and left it
    pub march_last : (k : ℕ) → last_round b tw th s h (suc k) ≡ true → (after k ≡ marched b h) × (after (suc k) ≡ marched b h)
    march_last k e =
        let last = last_says b tw th s h k e in
        let same = altered-same (after k) (after (suc k)) (after-length k ∙ sym (after-length (suc k))) last.1 in
        let left = still_march k last.0 same in
        (same ∙ left, left)

    rounds_from-least : (f k : ℕ) → rounds_from f k b tw th s h ≡ least_from f k (λ k. last_round b tw th s h k)
    unfolding rounds_from least_from
    rounds_from-least zero k = refl
    rounds_from-least (suc f) k = ap (cond (last_round b tw th s h k) k) (rounds_from-least f (suc k))

    rounds-found : Least (λ k. last_round b tw th s h k) 1 (1 + (up h s + size b + 2)) (rounds b tw th s h)
    unfolding rounds
    rounds-found = rw (rounds_from-least (up h s + size b + 2) 1) (least (up h s + size b + 2) 1 (λ k. last_round b tw th s h k))

    pub rounds-low : 1 ≤ rounds b tw th s h
    rounds-low = rounds-found.low

    pub rounds-few : rounds b tw th s h ≤ max 1 (up h s) + reached h (solved b)
    rounds-few =
        let k : ℕ = max 1 (up h s) - 1 in
        let covers = up-enough h s low (suc k) (omega arith) in
        omega (arith, least_bound rounds-found (suc (k + reached h (solved b))) (omega arith) (last_march k (reached h (solved b)) covers (omega arith)))

    pub rounds-last : last_round b tw th s h (rounds b tw th s h) ≡ true
    rounds-last = rounds-found.hit (omega (arith, rounds-few, march_count, count_most (size b) never (time (marched b h))))

    pub rounds_march : after_rounds (rounds b tw th s h) b tw th s h ≡ marched b h
    rounds_march = go (rounds b tw th s h) rounds-found.low rounds-last
      where
        go : (k : ℕ) → 1 ≤ k → last_round b tw th s h k ≡ true → after k ≡ marched b h
        go zero i e = absurd (omega arith)
        go (suc k) i e = (march_last k e).1

    -- the first round that is a last one is the number of rounds
    pub rounds-is : (k : ℕ) → 1 ≤ k → last_round b tw th s h k ≡ true → ((j : ℕ) → 1 ≤ j → j < k → last_round b tw th s h j ≡ false) → rounds b tw th s h ≡ k
    rounds-is k l e none = go (order (rounds b tw th s h) k)
      where
        go : (rounds b tw th s h < k) ⊎ (k ≤ rounds b tw th s h) → rounds b tw th s h ≡ k
        go (inl i) = absurd (true≢false (sym rounds-last ∙ none (rounds b tw th s h) rounds-found.low i))
        go (inr i) = omega (arith, least_bound rounds-found k l e)

pub round_is_solution : RoundIsSolution
unfolding RoundIsSolution MeetsInTiles solved_in_tiles solved_by
round_is_solution b tw th ts e = one_solution_by b (tiled b tw th ts) (tiled_sound b tw th ts) (good b e)

pub rounds_least : RoundsLeast
unfolding RoundsLeast
rounds_least b tw th s h e w1 w2 t1 t2 low s2 high =
    let g = good b e in
    (rounds-low b g tw th s h low high, rounds-last b g tw th s h low high, (rounds-found b g tw th s h low high).first)

pub few_rounds : FewRounds
unfolding FewRounds
few_rounds b tw th s h e w1 w2 t1 t2 low s2 high = rounds-few b (good b e) tw th s h low high
