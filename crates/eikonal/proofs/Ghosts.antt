-- What the cells of a tile see: their own tile's times as they are met, ghosts as stored.
use mathlib.Core.Path.{◌≡◌, refl}
use mathlib.Core.Bool.{Bool, true, false, cond, ◌||◌}
use mathlib.Core.List.{List}
use Prim.Native.Nat.{ℕ, ◌≤◌, min}
use native.Mathlib.Omega.{arith}
use lib.Dec.{ltb, eqb}
use borrow.Author.Tests.{lt-ltb, le-ltb}
use Rattle.eikonal.specs.Board.{Board, never, largest, slowness, time}
use Rattle.eikonal.specs.Tiles.{tile_of, counts_as, tiled}
use Rattle.eikonal.specs.Inner.Clip.{clip}
use Rattle.eikonal.proofs.Levels.{Agree}
use Rattle.eikonal.proofs.Clip.{Clipped, kept, lost, clipped, clip-agree, clip-late}
use Rattle.eikonal.proofs.Lattices.{Sound}

pub tiled_sound : (b : Board) (tw th : ℕ) (ts : List ℕ) → Sound (tiled b tw th ts)
tiled_sound b tw th ts = record {
  agree = λ t f g a c e. go_agree t (eqb (tile_of b tw th c) (tile_of b tw th e)) (f e) (g e) (counts_as b ts e) (a e);
  under = λ f g a c e. go_under (eqb (tile_of b tw th c) (tile_of b tw th e)) (f e) (g e) (counts_as b ts e) (a e);
}
  where
    go_agree : (t : ℕ) (p : Bool) (x y z : ℕ) → min t x ≡ min t y → min t (cond p x z) ≡ min t (cond p y z)
    go_agree t true x y z h = h
    go_agree t false x y z h = refl

    go_under : (p : Bool) (x y z : ℕ) → min never x ≤ y → min never (cond p x z) ≤ cond p y z
    go_under true x y z h = h
    go_under false x y z h = omega arith

-- a stored time counts as never at a wall, else up to the largest
clip_late_test : (x : ℕ) → cond (ltb largest x) never x ≡ clip largest x
clip_late_test x = go (clipped largest x)
  where
    go : Clipped largest x → cond (ltb largest x) never x ≡ clip largest x
    go (kept i p) = rw (le-ltb largest x i, p)
    go (lost i p) = rw (lt-ltb largest x i, p)

pub stored : (b : Board) (ts : List ℕ) (e : ℕ) → counts_as b ts e ≡ cond (eqb (slowness b e) 0) never (clip largest (time ts e))
unfolding counts_as
stored b ts e = go (eqb (slowness b e) 0)
  where
    go : (p : Bool) → cond (p || ltb largest (time ts e)) never (time ts e) ≡ cond p never (clip largest (time ts e))
    go true = refl
    go false = clip_late_test (time ts e)

pub stored-agree : (b : Board) (t : ℕ) (ts us : List ℕ) → t ≤ never → Agree t (time ts) (time us) → (e : ℕ) → min t (counts_as b ts e)
    ≡ min t (counts_as b us e)
stored-agree b t ts us h a e = rw (stored b ts e, stored b us e) (go (eqb (slowness b e) 0))
  where
    go : (p : Bool) → min t (cond p never (clip largest (time ts e))) ≡ min t (cond p never (clip largest (time us e)))
    go true = refl
    go false = clip-agree largest t (time ts e) (time us e) h (a e)

pub stored-late : (b : Board) (x : ℕ) (ts : List ℕ) (e : ℕ) → min never x ≤ time ts e → min never x ≤ counts_as b ts e
stored-late b x ts e h = rw (stored b ts e) (go (eqb (slowness b e) 0))
  where
    go : (p : Bool) → min never x ≤ cond p never (clip largest (time ts e))
    go true = omega arith
    go false = clip-late largest x (time ts e) h
