-- Where one tile covers the board a round is a march, in times and sides, whatever times are stored, and so is what a tile run holds after each round.
use mathlib.Core.Path.{◌≡◌, sym, ap, ◌∙◌, fun_ext}
use mathlib.Core.List.{List}
use Prim.Native.Nat.{ℕ, suc, ◌*◌, ◌/◌, ◌≤◌, ◌<◌, min}
use native.Mathlib.Omega.{arith}
use native.Mathlib.Nat.{div-eq_of_lt}
use borrow.Author.Tests.{eq-eqb}
use Rattle.eikonal.specs.Axes.{place}
use Rattle.eikonal.specs.Board.{Board, largest, size, column_axis, row_axis, met, time, marched}
use Rattle.eikonal.specs.Tiles.{tile_of, tiled, round, after_rounds}
use Rattle.eikonal.specs.Sides.{march_sides, round_sides, sides_after}
use Rattle.eikonal.specs.Inner.Good.{Good}
use Rattle.eikonal.specs.Inner.Clip.{clip}
use Rattle.eikonal.proofs.Grid.{place-low}
use Rattle.eikonal.proofs.Rule.{rows-span, columns-span}
use Rattle.eikonal.proofs.Solution.{marched-long}
use Rattle.eikonal.proofs.CutRule.{march_meets, round-by-rule}
use Rattle.eikonal.proofs.Sides.{round_as_march}

module _ (b : Board) (g : Good b) (tw th : ℕ) (wide : b.wide ≤ tw) (high : b.high ≤ th) where
  one-tile : (c : ℕ) → tile_of b tw th c ≡ 0
  unfolding tile_of
  one-tile c =
      let row : place (row_axis b) c / th ≡ 0 = div-eq_of_lt (omega (arith, place-low (rows-span g) c)) in
      let col : place (column_axis b) c / tw ≡ 0 = div-eq_of_lt (omega (arith, place-low (columns-span g) c)) in
      rw (row, col) (omega arith)

  pub same-tile : (c e : ℕ) → tile_of b tw th c ≡ tile_of b tw th e
  same-tile c e = one-tile c ∙ sym (one-tile e)

  -- a cell sees no ghost
  no_ghost : (ts : List ℕ) (f : ℕ → ℕ) (c e : ℕ) → tiled b tw th ts f c e ≡ f e
  no_ghost ts f c e = rw (eq-eqb _ _ (same-tile c e))

  pub round_is_march : (m : ℕ) → m ≤ largest → (stored : List ℕ) → round b tw th m stored ≡ marched b m
  round_is_march m l ts = sym (round-by-rule b g tw th m l ts (marched b m) (marched-long b m) meets)
    where
      meets : (c : ℕ) → c < size b → time (marched b m) c ≡ clip m (met b c (tiled b tw th ts (time (marched b m)) c))
      meets c n = march_meets b g m l c n ∙ ap (λ (f : ℕ → ℕ). clip m (met b c f)) (sym (fun_ext (no_ghost ts (time (marched b m)) c)))

  pub round_sides_is_march : (m : ℕ) → m ≤ largest → (stored : List ℕ) → round_sides b tw th m stored ≡ march_sides b m
  round_sides_is_march m l ts = round_as_march b tw th m ts (round_is_march m l ts) (no_ghost ts (time (marched b m)))

  module _ (s h : ℕ) (far : h ≤ largest) (j : ℕ) where
    pub after_is : after_rounds (suc j) b tw th s h ≡ marched b (min (suc j * s) h)
    unfolding after_rounds
    after_is = round_is_march (min (suc j * s) h) (omega arith) (after_rounds j b tw th s h)

    pub after-sides-is : sides_after (suc j) b tw th s h ≡ march_sides b (min (suc j * s) h)
    unfolding sides_after
    after-sides-is = round_sides_is_march (min (suc j * s) h) (omega arith) (after_rounds j b tw th s h)
