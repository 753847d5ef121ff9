-- Never, exactly: NeverPastHorizon and NeverUnjoined.
use mathlib.Core.Path.{◌≡◌, refl, ◌∙◌}
use mathlib.Core.Bool.{true}
use mathlib.Core.Logic.{◌⊎◌, inl, inr, ◌≢◌}
use Prim.Native.Nat.{ℕ, zero, suc, ◌≤◌, ◌<◌, min}
use native.Mathlib.Omega.{arith}
use Rattle.eikonal.specs.Axes.{Lattice, given_on, met_on}
use Rattle.eikonal.specs.Board.{Board, axes, never, size, slowness, start_time, time, solved, marched, Meets}
use Rattle.eikonal.specs.Promise.{board_good, NeverPastHorizon, NeverUnjoined, OneSolution, TimesBelow, Joined, begins, goes_on}
use Rattle.eikonal.specs.Inner.Clip.{clip}
use Rattle.eikonal.proofs.Levels.{order}
use Rattle.eikonal.proofs.Good.{good, start-most}
use Rattle.eikonal.proofs.Clip.{Clipped, kept, lost, clipped, cut-time}
use Rattle.eikonal.proofs.Local.{earlier-min}
use Rattle.eikonal.proofs.Lattices.{first_seen, Given, stays, comes, is-given}
use Rattle.eikonal.proofs.Rule.{lattice, met-is}
use Rattle.eikonal.proofs.Solution.{one_solution, times_below}
use Rattle.eikonal.proofs.Walls.{wall, passable}
use Rattle.eikonal.proofs.Grid.{seen-earliest, Nearest, near, nearest}

pub never-past-horizon : NeverPastHorizon
unfolding NeverPastHorizon marched
never-past-horizon b h c e k l = rw (cut-time h (solved b) c (omega arith)) (go (clipped h (time (solved b) c)))
  where
    go : Clipped h (time (solved b) c)
        → (clip h (time (solved b) c) ≡ never → h < time (solved b) c) × (h < time (solved b) c → clip h (time (solved b) c) ≡ never)
    go (kept i p) = (λ q. omega arith, λ q. absurd (omega arith))
    go (lost i p) = (λ q. i, λ q. p)

module _ (b : Board) (legal : board_good b ≡ true) where
  abbrev on_axes : Lattice
  on_axes = lattice (good b legal)

  abbrev given : (c : ℕ) → ℕ
  given c = given_on on_axes c (time (solved b))

  abbrev first : (c : ℕ) → ℕ
  first c = first_seen on_axes c (time (solved b))

  -- the solution of a cell is the earlier of its start and the rule
  solved-met : (c : ℕ) → c < size b → time (solved b) c ≡ min (start_time c b.starts) (given c)
  unfolding OneSolution Meets met_on
  solved-met c h = (one_solution b legal).0.1 c h ∙ met-is (good b legal) c (time (solved b)) ∙ earlier-min _ _

  joined_reached : {c : ℕ} → Joined b c → (c < size b) × (time (solved b) c < never)
  unfolding TimesBelow
  joined_reached (begins c h w s) = (h, omega (arith, solved-met c h, start-most (good b legal) c, s))
  joined_reached (goes_on c e h w n j) =
      let r = joined_reached j in (
        h,
        go (times_below b e legal r.0) r.1 (seen-earliest (size b) (time (solved b)) _ _ _ refl on_axes.spans c e n)
            (is-given on_axes c (time (solved b))),
      )
    where
      go : (time (solved b) e < 269369920) ⊎ (time (solved b) e ≡ never) → time (solved b) e < never
          → first c ≤ time (solved b) e → Given on_axes c (time (solved b)) → time (solved b) c < never
      go (inr p) q k a = absurd (omega arith)
      go (inl p) q k (stays (inl z) a) = absurd (omega (arith, passable (slowness b c) ((good b legal).pairs c) w))
      go (inl p) q k (stays (inr z) a) = absurd (omega arith)
      go (inl p) q k (comes i m l a) = omega (arith, solved-met c h, ((good b legal).pairs c).along_most, ((good b legal).pairs c).down_most)

  -- a cell that is reached has a start, or an earlier neighbour
  reached_joined : (t c : ℕ) → c < size b → time (solved b) c < t → t ≤ never → Joined b c
  reached_joined zero c h k l = absurd (omega arith)
  reached_joined (suc t) c h k l =
      go (order (given c) (start_time c b.starts)) (is-given on_axes c (time (solved b))) (λ e. reached_joined t e)
    where
      go : (given c < start_time c b.starts) ⊎ (start_time c b.starts ≤ given c) → Given on_axes c (time (solved b))
          → ((e : ℕ) → e < size b → time (solved b) e < t → t ≤ never → Joined b e) → Joined b c
      go (inr i) a next =
          let s : start_time c b.starts ≢ never = λ z. omega (arith, solved-met c h) in
          begins c h (λ w. s ((good b legal).walls_free c w)) s
      go (inl i) (stays z p) next = absurd (omega (arith, start-most (good b legal) c))
      go (inl i) (comes w m late p) next = by (nearest (size b) (time (solved b)) _ _ _ refl on_axes.spans c h (omega (arith, solved-met c h)))
        where
          by : Nearest (size b) (time (solved b)) (axes b) c (first c) → Joined b c
          by (near e on n f) = goes_on c e h (λ z. omega (arith, wall (slowness b c) z)) n (next e on (omega (arith, solved-met c h)) (omega arith))

pub never_unjoined : NeverUnjoined
unfolding NeverUnjoined
never_unjoined b c e h = (λ p j. omega (arith, (joined_reached b e j).1), λ n. go n (order (time (solved b) c) never))
  where
    go : (Joined b c → ⊥) → (time (solved b) c < never) ⊎ (never ≤ time (solved b) c) → time (solved b) c ≡ never
    go n (inl l) = absurd (n (reached_joined b e never c h l (omega arith)))
    go n (inr l) = omega (arith, solved-met b e c h, start-most (good b e) c)
