-- Cells hear the stored times, one after the other: all but those whose neighbours are all of their own tile.
use Rattle.std.proofs.Common.{◌≡◌, ℕ, suc, ◌*◌, ◌<◌, ◌≤◌, List, [], ◌∷◌, ◌++◌, sym, subst, inl, inr, mul-le-mul_right, arith}
use native.Mathlib.Decide.{ℕ_discrete}
use Rattle.eikonal.specs.Board.{Board}
use Rattle.eikonal.specs.Promise.{Neighbour}
use Rattle.front.specs.Front.{Out}
use Rattle.front.specs.Seams.{inside, least_seam}
use Rattle.front.specs.Board.{land, rule_at, Work, Ground, Site}
use Rattle.front.specs.State.{Touched, Told, all, next, Inner, Woken}
use Rattle.front.specs.declared.Shape.{Shape}
use Rattle.front.proofs.Theory.Seams.{untold_border}
use Rattle.front.proofs.Theory.Reading.{rows_whole}
use Rattle.front.proofs.Theory.Relaxing.{near-out}

-- ---- one cell more hears of it
told-then : {n : ℕ} {L : ℕ → (ℕ → ℕ) → ℕ} {t e : ℕ} {es : List ℕ} {v u w : Work} → Told n L t es v u → Touched n L t e u w
    → Told n L t (es ++ (e ∷ [])) v w
told-then {e = e} {w = w} (all v) k = next e [] v w w k (all w)
told-then {e = e} {w = w} (next d es v a u h ts) k = next d (es ++ (e ∷ [])) v a w h (told-then ts k)

out-front : (c : ℕ) (es fs : List ℕ) → Out c (es ++ fs) → Out c es
out-front c [] fs o = tt
out-front c (e ∷ es) fs o = (o.0, out-front c es fs o.1)

out-back : (c : ℕ) (es fs : List ℕ) → Out c (es ++ fs) → Out c fs
out-back c [] fs o = o
out-back c (e ∷ es) fs o = out-back c es fs o.1

out_both : (c : ℕ) (es fs : List ℕ) → Out c es → Out c fs → Out c (es ++ fs)
out_both c [] fs o p = p
out_both c (e ∷ es) fs o p = (o.0, out_both c es fs o.1 p)

pub swapped : (b : Board) (c e : ℕ) → Neighbour b c e → Neighbour b e c
swapped b c e (inl p) = inr p
swapped b c e (inr p) = inl p

module _ {s : Shape} {slow ts cols rows : List ℕ} (gr : Ground s slow ts cols rows) where
  -- where all seams are inside, all neighbours are of the same tile
  pub seams_inside : {c row col : ℕ} (si : Site s.cells s.width c row col)
      → least_seam cols rows row col ≡ inside
      → Inner (land s slow) s.across s.down c
  seams_inside {c} si q e l nb =
      sym (untold_border gr.good s.across s.down gr.across gr.down c e
      (swapped (land s slow) c e nb) (near-out gr si q e l))

  -- ---- all but inner cells from lo on and below k have heard, and then the cell k is seen to
  module _ {lo k m : ℕ} {v u : Work} (q : m ≡ suc k) (low : lo ≤ k) (wo : Woken s slow ts lo k v u) where
    pub woken_touched : {w : Work} → Touched s.cells (rule_at s slow ts) 0 k u w → Woken s slow ts lo m v w
    woken_touched h = record {
      cells = wo.cells ++ (k ∷ []);
      told = told-then wo.told h;
      within = λ c o. out_both c wo.cells (k ∷ []) (wo.within c (λ i. o (i.0, omega arith))) ((λ z. o (omega arith, omega arith)), tt);
      inner = λ c i o. elim (ℕ_discrete c k) [
        | yes z ↦ absurd ((out-back c wo.cells (k ∷ []) o).0 z)
        | no z ↦ wo.inner c (i.0, omega arith) (out-front c wo.cells (k ∷ []) o)
      ];
    }

    pub woken_inner : Inner (land s slow) s.across s.down k → Woken s slow ts lo m v u
    woken_inner h = record {
      cells = wo.cells;
      told = wo.told;
      within = λ c o. wo.within c (λ i. o (i.0, omega arith));
      inner = λ c i o. elim (ℕ_discrete c k) [
        | yes z ↦ subst (λ d. Inner (land s slow) s.across s.down d) (sym z) h
        | no z ↦ wo.inner c (i.0, omega arith) o
      ];
    }

  -- before the first
  pub woken_none : (lo : ℕ) (v : Work) → Woken s slow ts lo lo v v
  woken_none lo v = record { cells = []; told = all v; within = λ c o. tt; inner = λ c i o. absurd (omega arith) }

  -- ---- the cells of a row are on the board, with all rows before it
  pub rows_fit : {row : ℕ} → row < s.height * s.storeys → suc row * s.width ≤ s.cells
  rows_fit {row} l = omega (arith, mul-le-mul_right s.width l, rows_whole gr)
