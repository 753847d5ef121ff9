-- From the front to rounds: what a drained front writes is the round, a round that takes cells alters some, and rounds before the least key alter nothing.
use mathlib.Core.Path.{◌≡◌, sym, ap, subst, ◌∙◌}
use mathlib.Core.Bool.{cond}
use mathlib.Core.Logic.{◌⊎◌, inl, inr, ⊎_elim, ◌≢◌}
use mathlib.Core.List.{List}
use Prim.Native.Nat.{ℕ, zero, suc, ◌+◌, ◌*◌, ◌-◌, ◌≤◌, ◌<◌, min}
use native.Mathlib.Omega.{arith}
use native.Mathlib.Decide.{ℕ_discrete}
use native.Mathlib.Nat.{zero-add, suc-add, mul-le-mul_right}
use lib.Dec.{eqb}
use lib.ListN.{length}
use Rattle.eikonal.specs.Board.{Board, never, largest, size, met, time}
use Rattle.eikonal.specs.Tiles.{tile_of, counts_as, tiled, round, altered, after_rounds}
use Rattle.eikonal.specs.Inner.Good.{Good}
use Rattle.eikonal.specs.Inner.Clip.{clip}
use Rattle.eikonal.proofs.Clip.{Clipped, kept, lost, clipped, clip_keeps, clip_loses, clip-never}
use Rattle.eikonal.proofs.Rule.{arrival-same, met_capped}
use Rattle.eikonal.proofs.Passes.{never-time}
use Rattle.eikonal.proofs.Altered.{altered-same}
use Rattle.eikonal.proofs.Rounds.{round-time, after-length}
use Rattle.eikonal.proofs.CutRule.{round-by-rule}
use Rattle.front.specs.Front.{ghosted, Tied, Settled, Upheld, Drift, Written}
use Rattle.front.specs.Board.{rule_by}
use Rattle.engine.specs.Run.{starts, Between, Leapt}
use Rattle.front.proofs.Theory.Front.{ended}
use Rattle.front.proofs.Theory.Drift.{total-none, unwritten}
use Rattle.front.proofs.Theory.Sight.{gives_lawful}

-- TIMES THAT MEET THE RULE in tiles up to the bound, cut there, are the round
pub met-round : {b : Board} → Good b → (tw th m : ℕ) (ts : List ℕ) (y : ℕ → ℕ) → m ≤ largest
    → ((c : ℕ) → c < size b → clip m (y c) ≡ clip m (min (starts b c) (rule_by b tw th ts c (λ e. clip m (y e)))))
    → (us : List ℕ) → length us ≡ size b → ((c : ℕ) → c < size b → time us c ≡ clip m (y c)) → us ≡ round b tw th m ts
met-round {b} good tw th m ts y i meets us l at =
    round-by-rule b good tw th m i ts us l (λ c h. at c h ∙ meets c h ∙ ap (clip m) (sym (seen c h)))
  where
    seen : (c : ℕ) → c < size b → met b c (tiled b tw th ts (time us) c) ≡ min (starts b c) (rule_by b tw th ts c (λ e. clip m (y e)))
    seen c h =
        met_capped good c (tiled b tw th ts (time us) c)
        ∙ ap (λ u. min (starts b c) (min never u))
        (arrival-same good c h (tiled b tw th ts (time us) c) (ghosted b tw th (λ d e. counts_as b ts e) (λ e. clip m (y e)) c)
        (λ e on n. ap (λ u. cond (eqb (tile_of b tw th c) (tile_of b tw th e)) u (counts_as b ts e)) (at e on)))

-- so is a drained front
drained_round : {b : Board} → Good b → (tw th m : ℕ) (ts : List ℕ) (y k : ℕ → ℕ) → m ≤ largest
    → Tied (size b) y k → Settled (size b) (rule_by b tw th ts) y k → Upheld (size b) (rule_by b tw th ts) (starts b) y
    → ((c : ℕ) → c < size b → m < k c)
    → (us : List ℕ) → length us ≡ size b → ((c : ℕ) → c < size b → time us c ≡ clip m (y c)) → us ≡ round b tw th m ts
drained_round {b} good tw th m ts y k i ti se up past =
    met-round good tw th m ts y i (ended (gives_lawful good tw th (λ d e. counts_as b ts e)) ti se up (omega arith) past)

-- a cell is noted, or it is none of those noted
data Listed (m : ℕ) (note : ℕ → ℕ) (c : ℕ) : Type 0 where
  here : (i : ℕ) → i < m → note i ≡ c → Listed m note c
  out : ((i : ℕ) → i < m → note i ≢ c) → Listed m note c

listed : (m : ℕ) (note : ℕ → ℕ) (c : ℕ) → Listed m note c
listed zero note c = out (λ i l. absurd (omega arith))
listed (suc m) note c = go (listed m note c)
  where
    go : Listed m note c → Listed (suc m) note c
    go (here i l e) = here i (omega arith) e
    go (out f) = elim (ℕ_discrete (note m) c) [
      | yes q ↦ here m (omega arith) q
      | no q ↦ out (λ i l. elim (ℕ_discrete i m) [ yes z ↦ (λ w. q (ap note (sym z) ∙ w)) | no z ↦ f i (omega arith) ])
    ]

module _ {n : ℕ} {stored y k now : ℕ → ℕ} {t m : ℕ} {note : ℕ → ℕ} (ti : Tied n y k) (dr : Drift n stored y k t m note) (wr : Written n stored y now m note)
  where
    -- what is written is the tentative times up to the bound
    written-clip : (m₀ bound : ℕ) → ((c : ℕ) → c < n → (stored c ≡ never) ⊎ (stored c ≤ m₀)) → m₀ ≤ bound → t ≤ bound → ((c : ℕ) → c < n → bound < k c)
        → (c : ℕ) → c < n → now c ≡ clip bound (y c)
    written-clip m₀ bound low i j past c l = go (listed m note c)
      where
        quiet : ((i : ℕ) → i < m → note i ≢ c) → k c ≡ never → (stored c ≡ never) ⊎ (stored c ≤ m₀) → stored c ≡ clip bound (y c)
        quiet o e (inl z) =
            let s : y c ≡ never = omega (arith, dr.low c l, dr.others c l o e, ti.small c l) in
            z ∙ sym (ap (clip bound) s ∙ clip-never bound)
        quiet o e (inr z) =
            let s : stored c ≡ y c = omega (arith, dr.low c l, dr.others c l o e) in
            s ∙ sym (clip_keeps bound (y c) (omega arith))

        go : Listed m note c → now c ≡ clip bound (y c)
        go (here i q e) =
            let s = dr.noted i q in
            subst (λ u. now u ≡ clip bound (y u)) e (wr.new i q ∙ sym (clip_keeps bound (y (note i)) (omega (arith, s.past))))
        go (out o) = elim (ℕ_discrete (k c) never) [
          | yes e ↦ wr.old c l o ∙ quiet o e (low c l)
          | no e ↦ wr.old c l o ∙ ⊎_elim
              (λ z. absurd (e z))
              (λ z. (⊎_elim (λ w. w) (λ w. absurd (omega (arith, past c l, dr.low c l))) (low c l)) ∙ sym (clip_loses bound (y c) (omega (arith, past c l))))
              (ti.tied c l)
        ]

    -- stored times only fall
    pub written_falls : (c : ℕ) → c < n → now c ≤ stored c
    written_falls c l = go (listed m note c)
      where
        go : Listed m note c → now c ≤ stored c
        go (here i q e) = subst (λ u. now u ≤ stored u) e (omega (arith, wr.new i q, (dr.noted i q).fell))
        go (out o) = omega (arith, wr.old c l o)

    -- a new round has nothing taken yet
    pub written-drift : (note' : ℕ → ℕ) → Drift n now y k 0 0 note'
    written-drift note' = record {
      low = λ c l. go_low c l (listed m note c);
      waits = λ c l p. go_waits c l p (listed m note c);
      floor = λ c l. omega arith;
      noted = λ i l. absurd (omega arith);
      others = λ c l o e. go_others c l e (listed m note c);
      count = sym (total-none n _ zero-at);
    }
      where
        go_low : (c : ℕ) → c < n → Listed m note c → y c ≤ now c
        go_low c l (here i q e) = subst (λ u. y u ≤ now u) e (omega (arith, wr.new i q))
        go_low c l (out o) = omega (arith, wr.old c l o, dr.low c l)

        go_waits : (c : ℕ) → c < n → k c < never → Listed m note c → y c < now c
        go_waits c l p (here i q e) = absurd (omega (arith, (dr.noted i q).key, ap k e))
        go_waits c l p (out o) = omega (arith, wr.old c l o, dr.waits c l p)

        go_others : (c : ℕ) → c < n → k c ≡ never → Listed m note c → now c ≤ y c
        go_others c l e (here i q z) = subst (λ u. now u ≤ y u) z (omega (arith, wr.new i q))
        go_others c l e (out o) = omega (arith, wr.old c l o, dr.others c l o e)

        zero-at : (c : ℕ) → c < n → min 1 (now c - y c) - min 1 (never - k c) ≡ 0
        zero-at c l = elim (ℕ_discrete (k c) never) [
          | yes q ↦ omega (arith, go_others c l q (listed m note c))
          | no q ↦ ⊎_elim (λ z. absurd (q z)) (λ z. omega (arith, ti.small c l)) (ti.tied c l)
        ]

-- a shorter leap is one too
pub leap_short : {least done s h far r : ℕ} → Leapt least done s h far → done ≤ r → r ≤ far → Leapt least done s h r
leap_short {s = s} lp up less = record { up = up; short = λ l. omega (arith, lp.short (omega arith), mul-le-mul_right s less) }

module _ {b : Board} (good : Good b) (tw th s h : ℕ) (stride : 1 ≤ s) (horizon : h ≤ largest) where
  abbrev bound_of : ℕ → ℕ
  bound_of j = min (j * s) h

  -- times after rounds are within the bound
  after-low : (j c : ℕ) → (time (after_rounds j b tw th s h) c ≡ never) ⊎ (time (after_rounds j b tw th s h) c ≤ bound_of j)
  unfolding after_rounds
  after-low zero c = inl (never-time b c)
  after-low (suc j) c =
      rw (round-time b good tw th (bound_of (suc j)) (after_rounds j b tw th s h) c (omega arith)) (either (clipped (bound_of (suc j)) _))
    where
      either : {t : ℕ} → Clipped (bound_of (suc j)) t → (clip (bound_of (suc j)) t ≡ never) ⊎ (clip (bound_of (suc j)) t ≤ bound_of (suc j))
      either (kept i p) = inr (omega arith)
      either (lost i p) = inl p

  module _ (j : ℕ) (ts us : List ℕ) (y k : ℕ → ℕ) (t m : ℕ) (note : ℕ → ℕ) (is : ts ≡ after_rounds j b tw th s h)
      (ti : Tied (size b) y k) (se : Settled (size b) (rule_by b tw th ts) y k) (up : Upheld (size b) (rule_by b tw th ts) (starts b) y)
      (dr : Drift (size b) (time ts) y k t m note) (i : t ≤ bound_of (suc j)) (past : (c : ℕ) → c < size b → bound_of (suc j) < k c)
      (l : length us ≡ size b) (wr : Written (size b) (time ts) y (time us) m note) where
    -- A ROUND WORKED OUT: what is written is what the tile run holds after one round more
    pub round-written : us ≡ after_rounds (suc j) b tw th s h
    unfolding after_rounds
    round-written =
        drained_round good tw th (bound_of (suc j)) ts y k (omega arith) ti se up past us l
        (written-clip ti dr wr (bound_of j) (bound_of (suc j)) (λ c _. rw is (after-low j c)) (omega arith) i past)
        ∙ ap (round b tw th (bound_of (suc j))) is

    -- it alters a cell just if a cell is noted
    pub round-altered : 1 ≤ m → altered (after_rounds j b tw th s h) (after_rounds (suc j) b tw th s h) ≢ 0
    round-altered some e =
        let same = altered-same (after_rounds j b tw th s h) (after_rounds (suc j) b tw th s h)
        (after-length b good tw th s h stride horizon j ∙ sym (after-length b good tw th s h stride horizon (suc j))) e in
        let one = dr.noted 0 some in
        omega (arith, one.fell, wr.new 0 some, ap (λ (xs : List ℕ). time xs (note 0)) (round-written ∙ sym same ∙ sym is))

  -- A ROUND BEFORE THE LEAST KEY alters nothing
  idle-round : (j : ℕ) (ts : List ℕ) (y k : ℕ → ℕ) → Between b tw th s h j ts y k → ((c : ℕ) → c < size b → bound_of (suc j) < k c)
      → after_rounds (suc j) b tw th s h ≡ after_rounds j b tw th s h
  idle-round j ts y k be past =
      sym (round-written j ts ts y k 0 0 (λ _. 0) be.is be.tied be.settled be.upheld (be.drift (λ _. 0)) (omega arith) past long
      (unwritten (size b) (time ts) y (λ _. 0)))
      ∙ be.is
    where
      long : length ts ≡ size b
      long = ap length be.is ∙ after-length b good tw th s h stride horizon j

  leap_one : (j : ℕ) (ts : List ℕ) (y k : ℕ → ℕ) → Between b tw th s h j ts y k → ((c : ℕ) → c < size b → bound_of (suc j) < k c)
      → Between b tw th s h (suc j) ts y k
  leap_one j ts y k be past = record {
    is = be.is ∙ sym (idle-round j ts y k be past);
    tied = be.tied;
    settled = be.settled;
    upheld = be.upheld;
    drift = be.drift;
  }

  -- A LEAP over i rounds, all before the least key
  pub leap : (i j : ℕ) (ts : List ℕ) (y k : ℕ → ℕ) → Between b tw th s h j ts y k → ((c : ℕ) → c < size b → bound_of (i + j) < k c)
      → Between b tw th s h (i + j) ts y k
  leap zero j ts y k be past = rw zero-add be
  leap (suc i) j ts y k be past =
      rw suc-add
      (leap_one (i + j) ts y k
      (leap i j ts y k be (λ c l. omega (arith, past c l, mul-le-mul_right {m = i + j} {n = suc i + j} s (omega arith))))
      (λ c l. rw (← suc-add i j) (past c l)))
