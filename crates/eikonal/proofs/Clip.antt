-- Times up to a bound, never elsewhere, as the cut of a list has them.
use mathlib.Core.Path.{◌≡◌, refl, ap}
use mathlib.Core.Bool.{Bool, true, false, cond}
use mathlib.Core.List.{List, [], ◌∷◌}
use Prim.Native.Nat.{ℕ, zero, suc, ◌+◌, ◌-◌, ◌≤◌, ◌<◌, min}
use native.Mathlib.Omega.{arith}
use lib.Dec.{leb}
use lib.ListN.{length}
use borrow.Author.Tests.{leb-true, leb-false, lt-leb}
use Rattle.eikonal.specs.Board.{never, time, cut, reached}
use Rattle.eikonal.specs.Inner.Clip.{clip}
use Rattle.eikonal.proofs.Levels.{count}

-- what a clipped time is
pub data Clipped (h t : ℕ) : Type 0 where
  kept : t ≤ h → clip h t ≡ t → Clipped h t
  lost : h < t → clip h t ≡ never → Clipped h t

pub clipped : (h t : ℕ) → Clipped h t
unfolding clip
clipped h t = go (leb t h) refl
  where
    go : (p : Bool) → leb t h ≡ p → Clipped h t
    go true e = kept (leb-true t h e) (rw e)
    go false e = lost (leb-false t h e) (rw e)

pub clip_keeps : (h t : ℕ) → t ≤ h → clip h t ≡ t
clip_keeps h t l = go (clipped h t)
  where
    go : Clipped h t → clip h t ≡ t
    go (kept i p) = p
    go (lost i p) = absurd (omega arith)

pub clip_loses : (h t : ℕ) → h < t → clip h t ≡ never
clip_loses h t l = go (clipped h t)
  where
    go : Clipped h t → clip h t ≡ never
    go (kept i p) = absurd (omega arith)
    go (lost i p) = p

pub clip-never : (h : ℕ) → clip h never ≡ never
clip-never h = go (clipped h never)
  where
    go : Clipped h never → clip h never ≡ never
    go (kept i p) = p
    go (lost i p) = p

-- a later bound keeps what an earlier one kept
pub clip_again : (k h x : ℕ) → h ≤ k → clip k (clip h x) ≡ clip h x
clip_again k h x l = go (clipped h x)
  where
    go : Clipped h x → clip k (clip h x) ≡ clip h x
    go (kept i p) = rw p (clip_keeps k x (omega arith))
    go (lost i p) = rw p (clip-never k)

pub clip-agree : (h t x y : ℕ) → t ≤ never → min t x ≡ min t y → min t (clip h x) ≡ min t (clip h y)
clip-agree h t x y k e = go (clipped h x) (clipped h y)
  where
    go : Clipped h x → Clipped h y → min t (clip h x) ≡ min t (clip h y)
    go (kept i p) (kept j q) = rw (p, q) e
    go (kept i p) (lost j q) = rw (p, q) (omega arith)
    go (lost i p) (kept j q) = rw (p, q) (omega arith)
    go (lost i p) (lost j q) = rw (p, q) refl

-- a later bound keeps no later times
pub clip-under : (h k x y : ℕ) → h ≤ k → min never x ≤ y → min never (clip k x) ≤ clip h y
clip-under h k x y l e = go (clipped k x) (clipped h y)
  where
    go : Clipped k x → Clipped h y → min never (clip k x) ≤ clip h y
    go (kept i p) (kept j q) = rw (p, q) e
    go (kept i p) (lost j q) = rw (p, q) (omega arith)
    go (lost i p) (kept j q) = rw (p, q) (omega arith)
    go (lost i p) (lost j q) = rw (p, q) (omega arith)

pub clip-late : (h x y : ℕ) → min never x ≤ y → min never x ≤ clip h y
clip-late h x y e = go (clipped h y)
  where
    go : Clipped h y → min never x ≤ clip h y
    go (kept i p) = rw p e
    go (lost i p) = rw p (omega arith)

-- below the bound a clipped time is the time
pub clip-low : (h t x : ℕ) → t ≤ suc h → t ≤ never → min t (clip h x) ≡ min t x
clip-low h t x k l = go (clipped h x)
  where
    go : Clipped h x → min t (clip h x) ≡ min t x
    go (kept i p) = rw p refl
    go (lost i p) = rw p (omega arith)

-- times that agree up to the bound are clipped alike
pub clip-same : (h x y : ℕ) → min (suc h) x ≡ min (suc h) y → clip h x ≡ clip h y
clip-same h x y e = go (clipped h x) (clipped h y)
  where
    go : Clipped h x → Clipped h y → clip h x ≡ clip h y
    go (kept i p) (kept j q) = rw (p, q) (omega arith)
    go (kept i p) (lost j q) = absurd (omega arith)
    go (lost i p) (kept j q) = absurd (omega arith)
    go (lost i p) (lost j q) = rw (p, q) refl

pub clip-most : (h x : ℕ) → h ≤ never → clip h x ≤ never
clip-most h x k = go (clipped h x)
  where
    go : Clipped h x → clip h x ≤ never
    go (kept i p) = omega arith
    go (lost i p) = omega arith

pub cut-time : (h : ℕ) (ts : List ℕ) (c : ℕ) → h < never → time (cut h ts) c ≡ clip h (time ts c)
unfolding cut time clip
cut-time h [] c k = rw (lt-leb never h k)
cut-time h (t ∷ ts) zero k = refl
cut-time h (t ∷ ts) (suc c) k = cut-time h ts c k

pub cut-length : (h : ℕ) (ts : List ℕ) → length (cut h ts) ≡ length ts
unfolding cut
cut-length h [] = refl
cut-length h (t ∷ ts) = ap suc (cut-length h ts)

-- the cells reached are the times that a cut keeps
pub reached-count : (h : ℕ) (ts : List ℕ) → h < never → reached h ts ≡ count (length ts) never (time (cut h ts))
unfolding reached count cut time
reached-count h [] k = refl
reached-count h (t ∷ ts) k = go (leb t h) refl (reached-count h ts k)
  where
    go : (p : Bool) → leb t h ≡ p → reached h ts ≡ count (length ts) never (time (cut h ts))
        → cond {A = ℕ} p 1 0 + reached h ts ≡ min 1 (never - cond p t never) + count (length ts) never (time (cut h ts))
    go true e r = omega (arith, leb-true t h e)
    go false e r = omega arith
