-- Pairs looked at in parts: two parts of a list, one entry more, and the refusal that a whole list leaves.
use mathlib.Core.Path.{◌≡◌, refl, sym, ap, ◌∙◌}
use mathlib.Core.Bool.{Bool, ◌||◌, or-false, or_assoc}
use mathlib.Core.List.{List, [], ◌∷◌, ◌++◌}
use Prim.Native.Nat.{ℕ}
use Rattle.std.specs.List.{fold}
use Rattle.eikonal.specs.Board.{along_row, down_column}
use Rattle.eikonal.specs.Refusals.{steep, half_wall, uneven, any_pair, pair_causes}
use Rattle.refusals.specs.declared.board.Flaws.{Flaws}
use Rattle.refusals.specs.Flaws.{flawless, with_pair, with_pairs, flaw_causes}

module _ (p : (g h : ℕ) → Bool) where
  pub any_pair-append : (ss ts : List ℕ) → any_pair p (ss ++ ts) ≡ any_pair p ss || any_pair p ts
  unfolding any_pair
  any_pair-append [] ts = refl
  any_pair-append (s ∷ ss) ts =
      let q = p (along_row s) (down_column s) in
      ap (λ (b : Bool). q || b) (any_pair-append ss ts) ∙ sym (or_assoc q (any_pair p ss) (any_pair p ts))

  any_pair-more : (b : Bool) (ss : List ℕ) (s : ℕ) → (b || any_pair p ss) || p (along_row s) (down_column s) ≡ b || any_pair p (ss ++ s ∷ [])
  unfolding any_pair
  any_pair-more b ss s =
      let q = p (along_row s) (down_column s) in
      or_assoc b (any_pair p ss) q ∙ rw (any_pair-append ss (s ∷ []), or-false q) refl

-- ---- what the pairs passed leave
pub with_no_pairs : (f : Flaws) → with_pairs [] f ≡ f
unfolding with_pairs any_pair
with_no_pairs f = rw (or-false f.steep, or-false f.half, or-false f.uneven) refl

pub with_pairs-more : (ss : List ℕ) (s : ℕ) (f : Flaws) → with_pair s (with_pairs ss f) ≡ with_pairs (ss ++ s ∷ []) f
unfolding with_pair with_pairs
with_pairs-more ss s f =
    rw (any_pair-more steep f.steep ss s, any_pair-more half_wall f.half ss s, any_pair-more uneven f.uneven ss s) refl

pub with_pairs-folded : (ss : List ℕ) (f : Flaws) → fold (λ k s. with_pair s k) f ss ≡ with_pairs ss f
unfolding with_pair with_pairs any_pair
with_pairs-folded [] f = sym (with_no_pairs f)
with_pairs-folded (s ∷ ss) f =
    let any = λ (p : (g h : ℕ) → Bool). any_pair p ss in
    let here = λ (p : (g h : ℕ) → Bool). p (along_row s) (down_column s) in
    with_pairs-folded ss (with_pair s f)
    ∙ rw (or_assoc f.steep (here steep) (any steep), or_assoc f.half (here half_wall) (any half_wall), or_assoc f.uneven (here uneven) (any uneven)) refl

-- the ground's pair, then all of a list
pub with_first : (s : ℕ) (ss : List ℕ) → with_pairs ss (with_pair s flawless) ≡ with_pairs (s ∷ ss) flawless
unfolding with_pair with_pairs any_pair
with_first s ss = refl

-- THE CAUSES of a whole list, behind others
with_others : (p : (g h : ℕ) → Bool) (gs ss : List ℕ) → any_pair p gs || any_pair p ss ≡ any_pair p (gs ++ ss)
with_others p gs ss = sym (any_pair-append p gs ss)

pub flaws_find : (w h s : ℕ) (gs ss : List ℕ) (f : Flaws) → f ≡ with_pairs gs flawless → flaw_causes w h s (with_pairs ss f) ≡ pair_causes w h s (gs ++ ss)
unfolding flaw_causes pair_causes with_pairs
flaws_find w h s gs ss f e = rw (e, with_others steep gs ss, with_others half_wall gs ss, with_others uneven gs ss)
