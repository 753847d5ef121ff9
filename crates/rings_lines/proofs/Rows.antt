-- The field of each cell, one behind the other.
use mathlib.Core.Path.{◌≡◌}
use mathlib.Core.Bool.{true}
use mathlib.Core.List.{List, [], ◌∷◌, ◌++◌}
use Prim.Native.Nat.{ℕ, ◌+◌, ◌≤◌, ◌<◌}
use native.Mathlib.Numerals.{add-one}
use lib.ListN.{length, get_or, drop, drop_of_length-le}
use lib.Seq.{drop-cons}
use borrow.Author.Tests.{eq-eqb, ne_eqb}
use Rattle.eikonal.specs.Board.{never}
use Rattle.scenario.specs.File.{ticks_good}
use Rattle.scenario.specs.Turns.{TurnSays}
use Rattle.scenario.specs.declared.TurnReply.{TurnReply}
use Rattle.scenario.proofs.Turns.{turn_said}
use Rattle.rings_lines.specs.Text.{decimal}
use Rattle.rings_lines.specs.Rings.{turn_text, behind, rows}

-- ---- a turn
module _ (t k : ℕ) (x : TurnReply) (good : ticks_good k ≡ true) (says : TurnSays t k x) where
  pub text_never : x.turn ≡ never → turn_text k t ≡ 45 ∷ []
  unfolding turn_text
  text_never e = rw (← turn_said t k x good says, eq-eqb x.turn never e)

  pub text_turn : (x.turn ≡ never → ⊥) → turn_text k t ≡ decimal x.turn
  unfolding turn_text
  text_turn n = rw (← turn_said t k x good says, ne_eqb x.turn never n)

-- ---- the fields from the i-th on
module _ (w k i : ℕ) (ts : List ℕ) where
  pub rows_none : length ts ≤ i → rows w k i (drop i ts) ≡ []
  unfolding rows
  rows_none h = rw (drop_of_length-le ts h)

  pub rows_more : i < length ts → rows w k i (drop i ts) ≡ (turn_text k (get_or ts i 0) ++ (behind w i ∷ [])) ++ rows w k (i + 1) (drop (i + 1) ts)
  unfolding rows
  rows_more h = rw (drop-cons ts i 0 h, add-one i)
