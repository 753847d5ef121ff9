-- A march, a single round and a tile run on two boards, the second retouched late.
use mathlib.Core.Path.{◌≡◌, refl}
use mathlib.Core.Bool.{Bool, true, false, cond}
use mathlib.Core.List.{List}
use mathlib.Core.Logic.{◌⊎◌, inl, inr}
use Prim.Native.Nat.{ℕ, zero, suc, ◌*◌, ◌≤◌, min}
use native.Mathlib.Omega.{arith}
use lib.Dec.{eqb}
use borrow.Author.Tests.{eqb-true, eqb-false}
use Rattle.eikonal.specs.Board.{Board, never, largest, size, slowness, time, solved, marched}
use Rattle.eikonal.specs.Tiles.{tile_of, counts_as, tiled, solved_in_tiles, round, after_rounds}
use Rattle.eikonal.specs.Sides.{march_sides, round_sides, sides_after}
use Rattle.eikonal.specs.Ledger.{Sheet}
use Rattle.eikonal.specs.Inner.Good.{Good}
use Rattle.eikonal.specs.Inner.Clip.{clip}
use Rattle.eikonal.proofs.Levels.{lower, Agree, Under}
use Rattle.eikonal.proofs.Clip.{clip-agree, cut-time}
use Rattle.eikonal.proofs.Lattices.{plain, plain_sound}
use Rattle.eikonal.proofs.Passes.{never-time, solved_by}
use Rattle.eikonal.proofs.Ghosts.{tiled_sound, stored, stored-late}
use Rattle.eikonal.proofs.Rounds.{whole-tiles, after-whole}
use Rattle.late_ground.specs.LateGround.{Late, NoLower, retouched, Raised, DifferLate, SameEarly}
use Rattle.late_ground.specs.Promise.{march_sheet, run_sheet, round_sheet}
use Rattle.late_ground.proofs.TwoBoards.{AsWas, SeeAlike, level, sheets_agree, sheets_early, uncut, as_was}

-- times that agree below a level count alike there, where the first is not before it and its ground is no lower
late-ghost : (u x y s r : ℕ) → u ≤ never → min u x ≡ min u y → u ≤ cond (eqb s 0) never x → NoLower s r
    → min u (cond (eqb s 0) never x) ≡ min u (cond (eqb r 0) never y)
late-ghost u x y s r top a late low = go (eqb s 0) (eqb r 0) refl refl late low
  where
    go : (p q : Bool) → eqb s 0 ≡ p → eqb r 0 ≡ q → u ≤ cond p never x → NoLower s r → min u (cond p never x) ≡ min u (cond q never y)
    go p true d e l n = omega arith
    go true false d e l (inl z) = absurd (eqb-false r 0 e z)
    go true false d e l (inr n) = absurd (n.0 (eqb-true s 0 d))
    go false false d e l n = a

-- before the first round nothing is early
pub none-early : (n T : ℕ) (p q : Sheet) → ((c : ℕ) → time p.times c ≡ never) → ((c : ℕ) → time q.times c ≡ never) → SameEarly n T p q
none-early n T p q left right = record {
  same_times = λ c on e. absurd (e.1 (left c));
  same_sides = λ c on e. absurd (e.1 (left c));
  others_late = λ c on e. inr (right c);
}

module _ (b : Board) (ss : List ℕ) (gb : Good b) (gd : Good (retouched b ss)) (T : ℕ) (raised : Raised b ss) where
  abbrev second : Board
  second = retouched b ss

  -- ---- A MARCH
  module _ (h : ℕ) (far : h ≤ largest) (late : DifferLate b ss T (time (marched b h))) where
    was_solved : (c : ℕ) → AsWas b ss (level T h) (time (solved b)) c
    unfolding marched
    was_solved =
        as_was b ss gb gd raised T (level T h) (time (marched b h)) (time (solved b))
        (λ c l. uncut T h (time (solved b) c) far (rw (cut-time h (solved b) c (omega arith)) at l)) late

    pub march_early : SameEarly (size b) T (march_sheet b h) (march_sheet second h)
    unfolding marched march_sides solved solved_by
    march_early = sheets_early b ss gb gd plain plain plain_sound plain_sound T h far was_solved (λ v i f g a c. a) h (omega arith)

  -- ---- A ROUND over stored times that agree below the level
  module _ (tw th : ℕ) where
    ghost : (u : ℕ) (ts us : List ℕ) (c : ℕ) → u ≤ never → min u (time ts c) ≡ min u (time us c) → AsWas b ss u (counts_as b ts) c
        → min u (counts_as b ts c) ≡ min u (counts_as second us c)
    ghost u ts us c top a was = rw (stored b ts c, stored second us c) (go (rw (stored b ts c) at was))
      where
        x : ℕ
        x = clip largest (time ts c)

        y : ℕ
        y = clip largest (time us c)

        same : min u x ≡ min u y
        same = clip-agree largest u (time ts c) (time us c) top a

        pick : (p : Bool) → min u (cond p never x) ≡ min u (cond p never y)
        pick true = refl
        pick false = same

        go : (slowness b c ≡ slowness second c) ⊎ ((u ≤ cond (eqb (slowness b c) 0) never x) × NoLower (slowness b c) (slowness second c))
            → min u (cond (eqb (slowness b c) 0) never x) ≡ min u (cond (eqb (slowness second c) 0) never y)
        go (inl e) = rw e (pick (eqb (slowness second c) 0))
        go (inr (l, n)) = late-ghost u x y (slowness b c) (slowness second c) top same l n

    -- so both boards are seen alike
    see_ghosts : (u : ℕ) (ts us : List ℕ) → u ≤ never → Agree u (time ts) (time us) → ((c : ℕ) → AsWas b ss u (counts_as b ts) c)
        → SeeAlike u (tiled b tw th ts) (tiled second tw th us)
    unfolding tile_of
    see_ghosts u ts us top a was v i f g k c e = pick (eqb (tile_of b tw th c) (tile_of b tw th e))
      where
        pick : (p : Bool) → min v (cond p (f e) (counts_as b ts e)) ≡ min v (cond p (g e) (counts_as second us e))
        pick true = k e
        pick false = lower i _ _ (ghost u ts us e top (a e) (was e))

    module _ (h : ℕ) (far : h ≤ largest) (ts us : List ℕ) (a : Agree (level T h) (time ts) (time us))
        (stored-was : (c : ℕ) → AsWas b ss (level T h) (counts_as b ts) c)
        (tiles-was : (c : ℕ) → AsWas b ss (level T h) (time (solved_by b (tiled b tw th ts))) c)
        (m : ℕ) (low : m ≤ h) where
      see : SeeAlike (level T h) (tiled b tw th ts) (tiled second tw th us)
      see = see_ghosts (level T h) ts us (omega arith) a stored-was

      next_agree : Agree (level T h) (time (round b tw th m ts)) (time (round second tw th m us))
      unfolding round solved_in_tiles solved_by
      next_agree = sheets_agree b ss gb gd _ _ (tiled_sound b tw th ts) (tiled_sound second tw th us) T h far tiles-was see m low

      next-early : SameEarly (size b) T (round_sheet b tw th m ts) (round_sheet second tw th m us)
      unfolding round solved_in_tiles solved_by round_sides
      next-early = sheets_early b ss gb gd _ _ (tiled_sound b tw th ts) (tiled_sound second tw th us) T h far tiles-was see m low

    -- ---- A SINGLE ROUND
    pub round-early : (m : ℕ) → m ≤ largest → (ts : List ℕ) → DifferLate b ss T (counts_as b ts) → DifferLate b ss T (time (round b tw th m ts))
        → SameEarly (size b) T (round_sheet b tw th m ts) (round_sheet second tw th m ts)
    unfolding round solved_in_tiles solved_by
    round-early m far ts late-stored late =
        next-early m far ts ts (λ c. refl)
        (as_was b ss gb gd raised T (level T m) (counts_as b ts) (counts_as b ts) (λ c l. high (counts_as b ts c) l) late-stored)
        (as_was b ss gb gd raised T (level T m) (time (round b tw th m ts)) (time (solved_by b (tiled b tw th ts)))
        (λ c l. uncut T m _ far (rw (cut-time m (solved_by b (tiled b tw th ts)) c (omega arith)) at l)) late) m (omega arith)
      where
        high : (x : ℕ) → Late T x → level T m ≤ x
        high x (inl l) = omega arith
        high x (inr e) = omega arith

    -- ---- A TILE RUN: no round goes below the solution, so late cells stay late
    module _ (s h : ℕ) (some : 1 ≤ s) (far : h ≤ largest) (late : DifferLate b ss T (time (marched b h))) where
      abbrev held : (k : ℕ) → List ℕ
      held k = after_rounds k b tw th s h

      later : (f : ℕ → ℕ) → Under never (time (solved b)) f → (c : ℕ) → AsWas b ss (level T h) f c
      later f under c = go (was_solved h far late c)
        where
          go : AsWas b ss (level T h) (time (solved b)) c → AsWas b ss (level T h) f c
          go (inl e) = inl e
          go (inr (l, n)) = inr (omega (arith, under c), n)

      held-stored : (k c : ℕ) → AsWas b ss (level T h) (counts_as b (held k)) c
      held-stored k = later (counts_as b (held k)) (λ c. stored-late b (time (solved b) c) (held k) c (after-whole b gb tw th s h some far k c))

      held-tiles : (k c : ℕ) → AsWas b ss (level T h) (time (solved_by b (tiled b tw th (held k)))) c
      held-tiles k = later _ (whole-tiles b gb tw th (held k) (after-whole b gb tw th s h some far k))

      held-agree : (k : ℕ) → Agree (level T h) (time (held k)) (time (after_rounds k second tw th s h))
      unfolding after_rounds
      held-agree zero = λ c. rw (never-time b c, never-time second c)
      held-agree (suc k) = next_agree h far (held k) _ (held-agree k) (held-stored k) (held-tiles k) (min (suc k * s) h) (omega arith)

      pub run-early : (k : ℕ) → SameEarly (size b) T (run_sheet k b tw th s h) (run_sheet k second tw th s h)
      unfolding after_rounds sides_after
      run-early zero = none-early (size b) T _ _ (never-time b) (never-time second)
      run-early (suc k) = next-early h far (held k) _ (held-agree k) (held-stored k) (held-tiles k) (min (suc k * s) h) (omega arith)
