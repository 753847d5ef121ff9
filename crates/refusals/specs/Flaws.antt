-- Pairs looked at one after the other, so that the ground's, a list's and a file's are judged alike. No public promise rests on these.
use Rattle.std.specs.Prelude.{false, ◌||◌, List, [], ◌∷◌, ℕ}
use Rattle.eikonal.specs.Board.{along_row, down_column}
use Rattle.eikonal.specs.Order.{Cause, caused}
use Rattle.eikonal.specs.Refusals.{steep, half_wall, uneven, any_pair, ill_stacked}
use Rattle.refusals.specs.declared.board.Flaws.{Flaws}

abbrev pub flawless : Flaws
flawless = record { steep = false; half = false; uneven = false }

-- one pair more
unfoldable pub with_pair : (slow : ℕ) → Flaws → Flaws
with_pair s f =
    let g = along_row s in
    let h = down_column s in
    record { steep = f.steep || steep g h; half = f.half || half_wall g h; uneven = f.uneven || uneven g h }

-- all of a list
unfoldable pub with_pairs : (slow : List ℕ) → Flaws → Flaws
with_pairs ss f = record {
  steep = f.steep || any_pair steep ss;
  half = f.half || any_pair half_wall ss;
  uneven = f.uneven || any_pair uneven ss;
}

-- 5, 21, 23 by what was met
unfoldable pub flaw_causes : (wide high storeys : ℕ) → Flaws → List Cause
flaw_causes w h s f = caused 5 f.steep ∷ caused 21 f.half ∷ caused 23 (ill_stacked w h s f.uneven) ∷ []
