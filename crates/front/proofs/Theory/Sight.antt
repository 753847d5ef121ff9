-- The engine's rule, what the local rule gives a cell that sees its own tile and ghosts, is lawful, and goes by neighbours alone.
use Rattle.std.proofs.Common.{◌≡◌, ℕ, suc, ◌<◌, ◌≤◌, min, Bool, true, false, cond, eqb, refl, ap, arith}
use Rattle.eikonal.specs.Board.{Board, never, size, slowness}
use Rattle.eikonal.specs.Tiles.{tile_of}
use Rattle.eikonal.specs.Promise.{Neighbour}
use Rattle.eikonal.specs.Inner.Good.{Good}
use Rattle.eikonal.proofs.Rule.{arrival-agree, arrival-under, arrival-same}
use Rattle.eikonal.proofs.Walls.{arrival_wall, arrival-late}
use Rattle.front.specs.Front.{ghosted, gives}
use Rattle.front.proofs.Theory.Front.{Lawful}

pick_by : (P : ℕ → ℕ → Type 0) (p : Bool) (x y u v : ℕ) → P x y → P u v → P (cond p x u) (cond p y v)
pick_by P true x y u v h k = h
pick_by P false x y u v h k = k

module _ {b : Board} (good : Good b) (tw th : ℕ) where
  -- in the tile's times and in the ghosts
  pub gives-mono : (g g' : ℕ → ℕ → ℕ) (c : ℕ) → c < size b → (f f' : ℕ → ℕ) → ((e : ℕ) → e < size b → f e ≤ f' e) → ((e : ℕ) → e < size b → g c e ≤ g' c e)
      → gives b tw th g c f ≤ gives b tw th g' c f'
  gives-mono g g' c l f f' h k =
      omega (
        arith,
        arrival-under good c l (ghosted b tw th g f c) (ghosted b tw th g' f' c)
            (λ e m n. pick_by (λ x y. min never x ≤ y) (eqb (tile_of b tw th c) (tile_of b tw th e)) (f e) (f' e) (g c e) (g' c e)
            (omega (arith, h e m)) (omega (arith, k e m))),
      )

  pub gives-causal : (g g' : ℕ → ℕ → ℕ) (t c : ℕ) → t < never → c < size b → (f f' : ℕ → ℕ) → ((e : ℕ) → e < size b → min t (f e) ≡ min t (f' e))
      → ((e : ℕ) → e < size b → min t (g c e) ≡ min t (g' c e)) → min (suc t) (gives b tw th g c f) ≡ min (suc t) (gives b tw th g' c f')
  gives-causal g g' t c i l f f' h k =
      omega (
        arith,
        arrival-agree good c l (ghosted b tw th g f c) (ghosted b tw th g' f' c) t i
            (λ e m n. pick_by (λ x y. min t x ≡ min t y) (eqb (tile_of b tw th c) (tile_of b tw th e)) (f e) (f' e) (g c e) (g' c e) (h e m) (k e m)),
      )

  pub gives_lawful : (g : ℕ → ℕ → ℕ) → Lawful (size b) (gives b tw th g)
  gives_lawful g = record {
    mono = λ c l f f' h. gives-mono g g c l f f' h (λ e m. omega arith);
    causal = λ t c i l f f' h. gives-causal g g t c i l f f' h (λ e m. refl);
  }

  -- what a cell is given rests on its neighbours
  pub gives_same : (g g' : ℕ → ℕ → ℕ) (c : ℕ) → c < size b → (f f' : ℕ → ℕ)
      → ((e : ℕ) → e < size b → Neighbour b c e → ghosted b tw th g f c e ≡ ghosted b tw th g' f' c e) → gives b tw th g c f ≡ gives b tw th g' c f'
  gives_same g g' c l f f' h = ap (min never) (arrival-same good c l (ghosted b tw th g f c) (ghosted b tw th g' f' c) h)

  pub gives_wall : (g : ℕ → ℕ → ℕ) (c : ℕ) (f : ℕ → ℕ) → slowness b c ≡ 0 → gives b tw th g c f ≡ never
  gives_wall g c f w = rw (arrival_wall good c (ghosted b tw th g f c) w)

  pub gives-late : (g : ℕ → ℕ → ℕ) (c : ℕ) (f : ℕ → ℕ) → 1 ≤ gives b tw th g c f
  gives-late g c f = omega (arith, arrival-late good c (ghosted b tw th g f c))
