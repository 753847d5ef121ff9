-- One round of a tile run, from its drain, what it stores and what it announces.
use mathlib.Core.Path.{◌≡◌, refl, sym, ap, subst, ◌∙◌}
use mathlib.Core.Logic.{◌⊎◌, inl, inr, ◌≢◌}
use mathlib.Core.List.{List}
use Prim.Native.Nat.{ℕ, suc, ◌+◌, ◌*◌, ◌-◌, ◌≤◌, ◌<◌, min}
use mathlib.Core.Bool.{true, false, true≢false}
use native.Mathlib.Omega.{arith}
use native.Mathlib.Decide.{ℕ_discrete}
use native.Mathlib.Nat.{mul-le-mul_right}
use lib.Dec.{leb}
use borrow.Author.Tests.{leb-true, leb-false}
use lib.ListN.{length, get_or}
use lib.Seq.{ext_get_or}
use Rattle.eikonal.specs.Board.{Board, never, largest, size, slowness, arrival, time, solved, marched}
use Rattle.eikonal.specs.declared.Start.{Start}
use Rattle.eikonal.specs.Tiles.{tile_of, counts_as, altered, after_rounds, last_round, rounds}
use Rattle.eikonal.specs.Inner.Good.{Good}
use Rattle.eikonal.proofs.Good.{size-most}
use Rattle.eikonal.proofs.Levels.{order}
use Rattle.eikonal.proofs.Up.{up-most}
use Rattle.eikonal.proofs.Solution.{solved-long}
use Rattle.eikonal.proofs.LastRound.{not_yet, not_last, is_last}
use Rattle.eikonal.proofs.Rounds.{after-length, rounds-low, rounds-few, rounds-last, rounds_march, rounds-is}
use Rattle.front.specs.Front.{Settled, Upheld, Drift, Written}
use Rattle.front.specs.Seams.{border, near}
use Rattle.front.specs.Board.{land, rule_by, rule_at, tentative, noted, Work, keys, Ground}
use Rattle.front.specs.State.{ReadyAmong, Drained, Drifted, Announced}
use Rattle.engine.specs.Run.{starts, Between, whole, AtRound, OneRound, Leapt, Ran}
use Rattle.front.specs.declared.Shape.{Shape}
use Rattle.front.proofs.Theory.Sight.{gives_lawful}
use Rattle.front.proofs.Theory.Drift.{notes-fit}
use Rattle.front.proofs.Theory.Strips.{all-ready}
use Rattle.engine.proofs.Theory.Rounds.{written-drift, written_falls, round-written, round-altered, leap}
use Rattle.rows.proofs.Theory.Lists.{reached-most}
use Rattle.front.proofs.Theory.Commit.{none-new, all_new, upheld-new}
use Rattle.front.proofs.Theory.Announcing.{announced_held, announced_long, announced_rest, announced_upheld, announced_fresh, announced_settled}

module _ {b : Board} {tw th s h j m : ℕ} {ts : List ℕ} {v v1 v2 : Work} (us : List ℕ) (good : Good b) (tw1 : 1 ≤ tw) (th1 : 1 ≤ th) (stride : 1 ≤ s)
    (horizon : h ≤ largest)
    (be : Between b tw th s h j ts (tentative v.list (size b)) (keys v))
    (dr : Drained (size b) (min (suc j * s) h) m (rule_by b tw th ts) v v1)
    (long : length us ≡ size b)
    (wr : Written (size b) (time ts) (tentative v1.list (size b)) (time us) m (noted v1.list (size b)))
    (an : Announced (size b) (rule_by b tw th us) (time us) (noted v1.list (size b)) (λ c. near b tw th border c) m v1 v2) where
  drifted : Drifted (size b) (min (suc j * s) h) (time ts) (tentative v1.list (size b)) (keys v1) m (noted v1.list (size b))
  drifted = dr.drift (time ts) (be.drift (noted v.list (size b)))

  upheld1 : Upheld (size b) (rule_by b tw th ts) (starts b) (tentative v1.list (size b))
  upheld1 = dr.upheld (starts b) be.upheld

  falls : (e : ℕ) → e < size b → time us e ≤ time ts e
  falls = written_falls dr.held.tied drifted.drift wr

  new : (i : ℕ) → i < m → time us (noted v1.list (size b) i) ≤ largest
  new i l = omega (arith, wr.new i l, (drifted.drift.noted i l).past, drifted.low)

  on : (i : ℕ) → i < m → noted v1.list (size b) i < size b
  on i l = (drifted.drift.noted i l).on

  round_is : us ≡ after_rounds (suc j) b tw th s h
  round_is =
      round-written good tw th s h stride horizon j ts us (tentative v1.list (size b)) (keys v1) drifted.last m (noted v1.list (size b)) be.is
      dr.held.tied dr.settled upheld1 drifted.drift drifted.low dr.keys_past long wr

  round-busy : 1 ≤ m → altered (after_rounds j b tw th s h) (after_rounds (suc j) b tw th s h) ≢ 0
  round-busy =
      round-altered good tw th s h stride horizon j ts us (tentative v1.list (size b)) (keys v1) drifted.last m (noted v1.list (size b)) be.is
      dr.held.tied dr.settled upheld1 drifted.drift drifted.low dr.keys_past long wr

  round-idle : m ≡ 0 → after_rounds (suc j) b tw th s h ≡ after_rounds j b tw th s h
  unfolding time
  round-idle e = sym round_is ∙ ext_get_or never us ts (long ∙ sym ts_long) (λ c l. wr.old c (omega arith) (λ i k. absurd (omega arith))) ∙ be.is
    where
      ts_long : length ts ≡ size b
      ts_long = ap length be.is ∙ after-length b good tw th s h stride horizon j

  round-between : Between b tw th s h (suc j) us (tentative v2.list (size b)) (keys v2)
  round-between = record {
    is = round_is;
    tied = (announced_held dr.held an).tied;
    settled = all_new good tw th ts us m (noted v1.list (size b)) falls new wr.old (tentative v2.list (size b)) (keys v2)
        (announced_settled good tw th tw1 th1 ts us m (noted v1.list (size b)) falls new wr.old on (omega arith) dr.held an
        (none-new good tw th ts us m (noted v1.list (size b)) falls new wr.old (tentative v1.list (size b)) (keys v1) dr.settled));
    upheld = announced_upheld (gives_lawful good tw th (λ c e. counts_as b us e)) (starts b) an
        (upheld-new good tw th ts us m (noted v1.list (size b)) falls new wr.old (starts b) (tentative v1.list (size b)) upheld1);
    drift = λ note. announced_fresh (time us) note dr.held an (written-drift dr.held.tied drifted.drift wr note);
  }

pub drained_to : {n b b' m : ℕ} {L : ℕ → (ℕ → ℕ) → ℕ} {v v' : Work} → b ≡ b' → Drained n b m L v v' → Drained n b' m L v v'
drained_to {n} {b} {b'} {m} {L} {v} {v'} q dr = subst (λ u. Drained n u m L v v') q dr

-- ---- the same with a shape, as code has it
pub size-whole : (s : Shape) (slow : List ℕ) (xs : List Start) → s.cells ≡ s.width * s.height * s.storeys → s.cells ≡ size (whole s slow xs)
unfolding size
size-whole s slow xs e = e

-- new stored times are as many
pub ground-kept : {s : Shape} {slow ts us cols rows : List ℕ} → length us ≡ length ts → Ground s slow ts cols rows → Ground s slow us cols rows
ground-kept q gr = record {
  good = gr.good;
  cells = gr.cells;
  across = gr.across;
  down = gr.down;
  many = q ∙ gr.many;
  columns = gr.columns;
  lines = gr.lines;
}

module _ {s : Shape} {slow ts cols rows : List ℕ} {v : Work} {xs : List Start} {S H j : ℕ}
    (gr : Ground s slow ts cols rows) (at : AtRound s slow xs S H j ts v) where
  abbrev n : ℕ
  n = s.cells

  abbrev tw : ℕ
  tw = s.across

  abbrev th : ℕ
  th = s.down

  abbrev b : Board
  b = whole s slow xs

  size_is : n ≡ size b
  size_is = size-whole s slow xs gr.cells

  drift0 : (note : ℕ → ℕ) → Drift n (time ts) (tentative v.list n) (keys v) 0 0 note
  drift0 note = subst (λ q. Drift q (time ts) (tentative v.list n) (keys v) 0 0 note) (sym size_is) (at.between.drift note)

  -- the front between rounds is ready for a drain
  pub ready : ReadyAmong s slow ts 0 n v
  unfolding arrival slowness tile_of counts_as
  ready = all-ready gr (record {
    held = at.held;
    settled = subst (λ q. Settled q (rule_by b tw th ts) (tentative v.list n) (keys v)) (sym size_is) at.between.settled;
  })

  module _ {v1 : Work} {m : ℕ} (dr : Drained n (min (suc j * S) H) m (rule_at s slow ts) v v1) where
    -- the notes are cells, and fit
    drift1 : Drifted n (min (suc j * S) H) (time ts) (tentative v1.list n) (keys v1) m (noted v1.list n)
    drift1 = dr.drift (time ts) (drift0 (noted v.list n))

    pub taken-fit : m ≤ n
    taken-fit = notes-fit drift1.drift

    pub taken-on : (i : ℕ) → i < m → noted v1.list n i < n
    taken-on i l = (drift1.drift.noted i l).on

    module _ (good : Good b) (stride : 1 ≤ S) (horizon : H ≤ largest) (us : List ℕ) {v2 : Work} (long : length us ≡ length ts)
        (wr : Written n (time ts) (tentative v1.list n) (time us) m (noted v1.list n))
        (an : Announced n (rule_at s slow us) (time us) (noted v1.list n) (λ c. near (land s slow) tw th border c) m v1 v2) where
      between-at : Between b tw th S H j ts (tentative v.list (size b)) (keys v)
      between-at = subst (λ q. Between b tw th S H j ts (tentative v.list q) (keys v)) size_is at.between

      drained_at : Drained (size b) (min (suc j * S) H) m (rule_by b tw th ts) v v1
      unfolding arrival slowness tile_of counts_as
      drained_at = subst (λ q. Drained q (min (suc j * S) H) m (rule_by b tw th ts) v v1) size_is dr

      long-at : length us ≡ size b
      long-at = long ∙ gr.many ∙ size_is

      written_at : Written (size b) (time ts) (tentative v1.list (size b)) (time us) m (noted v1.list (size b))
      written_at = subst (λ q. Written q (time ts) (tentative v1.list q) (time us) m (noted v1.list q)) size_is wr

      announced_at : Announced (size b) (rule_by b tw th us) (time us) (noted v1.list (size b)) (λ c. near b tw th border c) m v1 v2
      unfolding arrival slowness tile_of counts_as near size
      announced_at = subst (λ q. Announced q (rule_by b tw th us) (time us) (noted v1.list q) (λ c. near b tw th border c) m v1 v2) size_is an

      pub one-round : OneRound s slow xs S H j m ts us v v2
      one-round = record {
        long = long;
        kept = announced_long an ∙ dr.long;
        past = λ i l. announced_rest an i (omega arith) ∙ dr.past i l;
        next = record {
          held = announced_held dr.held an;
          between = subst (λ q. Between b tw th S H (suc j) us (tentative v2.list q) (keys v2)) (sym size_is)
              (round-between us good gr.across gr.down stride horizon between-at drained_at long-at written_at announced_at);
        };
        idle = round-idle us good gr.across gr.down stride horizon between-at drained_at long-at written_at announced_at;
        busy = round-busy us good gr.across gr.down stride horizon between-at drained_at long-at written_at announced_at;
      }

-- ---- A RUN after `done` rounds, of which none was the last
pub record MidRun (s : Shape) (slow : List ℕ) (xs : List Start) (S H done : ℕ) (ts₀ ts : List ℕ) (v₀ v : Work) : Type 0 where
  pub long : length ts ≡ length ts₀
  pub kept : length v.list ≡ length v₀.list
  pub past : (i : ℕ) → 4 * s.cells ≤ i → get_or v.list i 0 ≡ get_or v₀.list i 0
  pub at : AtRound s slow xs S H done ts v
  pub more : (k : ℕ) → 1 ≤ k → k ≤ done → last_round (whole s slow xs) s.across s.down S H k ≡ false

module _ (s : Shape) (slow : List ℕ) (xs : List Start) (good : Good (whole s slow xs)) (S H : ℕ) (stride : 1 ≤ S) (stride-high : S ≤ largest)
    (horizon : H ≤ largest) where
  abbrev bd : Board
  bd = whole s slow xs

  abbrev across : ℕ
  across = s.across

  abbrev down : ℕ
  down = s.down

  abbrev pub total_rounds : ℕ
  total_rounds = rounds bd across down S H

  -- the rounds are fewer than a thousand million
  rounds-short : total_rounds ≤ 1000000000
  rounds-short =
      omega (
        arith,
        rounds-few bd good across down S H stride horizon,
        up-most H S stride,
        reached-most H (solved bd),
        solved-long bd,
        size-most good,
      )

  module _ {done : ℕ} {ts₀ ts : List ℕ} {v₀ v : Work} (md : MidRun s slow xs S H done ts₀ ts v₀ v) where
    -- there is a round more
    rounds-left : done < total_rounds
    rounds-left = go (order done total_rounds)
      where
        go : (done < total_rounds) ⊎ (total_rounds ≤ done) → done < total_rounds
        go (inl l) = l
        go (inr l) =
            absurd (true≢false (sym (rounds-last bd good across down S H stride horizon)
            ∙ md.more total_rounds (rounds-low bd good across down S H stride horizon) l))

    pub run_short : done < 1000000000
    run_short = omega (arith, rounds-short, rounds-left)

    -- the limit is reached
    pub run_stops : {limit : ℕ} → limit ≡ done → Ran s slow xs S H limit done ts₀ ts v₀.list v.list
    run_stops e = record { counted = omega (arith, rounds-left); holds = md.at.between.is; long = md.long; kept = md.kept; past = md.past }

    module _ {m : ℕ} {ts' : List ℕ} {v' : Work} (one : OneRound s slow xs S H done m ts ts' v v') where
      -- the last one: at the horizon, and it took no cell
      pub run_ends : m ≡ 0 → leb H (suc done * S) ≡ true → {limit : ℕ} → done < limit → Ran s slow xs S H limit (suc done) ts₀ ts' v₀.list v'.list
      run_ends e l below =
          let last = is_last bd across down S H done (leb-true H (suc done * S) l) (one.idle e) in
          let is = rounds-is bd good across down S H stride horizon (suc done) (omega arith) last (λ k a b. md.more k a (omega arith)) in
          record {
            counted = omega (arith, is);
            holds = one.next.between.is;
            long = one.long ∙ md.long;
            kept = one.kept ∙ md.kept;
            past = λ i k. one.past i k ∙ md.past i k;
          }

      -- not the last one, and a leap
      module _ {least r : ℕ} (le : (c : ℕ) → least ≤ keys v' c) (lp : Leapt least (suc done) S H r)
          (other : last_round bd across down S H (suc done) ≡ false) where
        leaps : Between bd across down S H r ts' (tentative v'.list s.cells) (keys v')
        leaps = go (order (suc done) r)
          where
            far : suc done < r → (c : ℕ) → c < size bd → min (r * S) H < keys v' c
            far h c l = omega (arith, lp.short h, le c)

            add : (r - suc done) + suc done ≡ r
            add = omega (arith, lp.up)

            go : (suc done < r) ⊎ (r ≤ suc done) → Between bd across down S H r ts' (tentative v'.list s.cells) (keys v')
            go (inl h) =
                subst (λ k. Between bd across down S H k ts' (tentative v'.list s.cells) (keys v')) add
                (leap good across down S H stride horizon (r - suc done) (suc done) ts' (tentative v'.list s.cells) (keys v') one.next.between
                (λ c l. subst (λ k. min (k * S) H < keys v' c) (sym add) (far h c l)))
            go (inr h) =
                let e : suc done ≡ r = omega (arith, lp.up) in
                subst (λ k. Between bd across down S H k ts' (tentative v'.list s.cells) (keys v')) e one.next.between

        pub run-goes_on : MidRun s slow xs S H r ts₀ ts' v₀ v'
        run-goes_on = record {
          long = one.long ∙ md.long;
          kept = one.kept ∙ md.kept;
          past = λ i k. one.past i k ∙ md.past i k;
          at = record { held = one.next.held; between = leaps };
          more = λ k a b. go k a b (order k (suc done));
        }
          where
            go : (k : ℕ) → 1 ≤ k → k ≤ r → (k < suc done) ⊎ (suc done ≤ k) → last_round bd across down S H k ≡ false
            go k a b (inl h) = md.more k a (omega arith)
            go k a b (inr h) = elim (ℕ_discrete k (suc done)) [
              | yes q ↦ subst (λ u. last_round bd across down S H u ≡ false) (sym q) other
              | no q ↦ not_yet bd across down S H k (omega (arith, lp.short (omega arith), mul-le-mul_right S b))
            ]

      -- not the last one: before the horizon, or it took cells
      pub run-early : leb H (suc done * S) ≡ false → last_round bd across down S H (suc done) ≡ false
      run-early l = not_yet bd across down S H (suc done) (leb-false H (suc done * S) l)

      pub run-busy : m ≢ 0 → last_round bd across down S H (suc done) ≡ false
      run-busy q = not_last bd across down S H done (one.busy (omega (arith, q)))

  pub run-begins : {ts : List ℕ} {v : Work} → AtRound s slow xs S H 0 ts v → MidRun s slow xs S H 0 ts ts v v
  run-begins at = record { long = refl; kept = refl; past = λ i l. refl; at = at; more = λ k a b. absurd (omega arith) }

  -- a limit that no board's rounds pass never binds: all rounds, and the march's times
  module _ {limit r : ℕ} {ts ts' v v' : List ℕ} (ran : Ran s slow xs S H limit r ts ts' v v') (beyond : 1000000000 ≤ limit) where
    pub run-counts : r ≡ total_rounds
    run-counts = omega (arith, ran.counted, rounds-short)

    pub run_marches : ts' ≡ marched bd H
    run_marches =
        ran.holds ∙ ap (λ (k : ℕ). after_rounds k bd across down S H) run-counts
        ∙ rounds_march bd good across down S H stride horizon
