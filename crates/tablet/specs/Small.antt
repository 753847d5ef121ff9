-- Scenario files with sides to 32 and 1,024 cells at the most, which the tablet and `rings` take ("The scenario file" and "Turned down" of document 01).
use Rattle.std.specs.Prelude.{◌≡◌, Bool, true, ◌&&◌, not, List, ◌∷◌, ◌++◌, ℕ, ◌*◌, ◌≤◌, leb}
use Rattle.eikonal.specs.Board.{largest}
use Rattle.eikonal.specs.Order.{Cause, caused, first_of}
use Rattle.eikonal.specs.Refusals.{sides_good}
use Rattle.eikonal.specs.Order.{Refusal}
use Rattle.scenario.specs.File.{head_in, front_causes, rest_causes}
use Rattle.scenario.specs.declared.Head.{Head}

-- the horizon of both
abbrev pub horizon : ℕ
horizon = 6000000

unfoldable pub board_small : Head → Bool
board_small x = leb x.width 32 && leb x.height 32 && leb (x.width * x.height * x.storeys) 1024

-- WHY A SMALL FILE IS REFUSED: as a file, and by 15 directly behind 2
unfoldable pub small_causes : List ℕ → List Cause
small_causes f = front_causes f ++ caused 15 (not (board_small (head_in f))) ∷ rest_causes f

unfoldable pub small_refusal : List ℕ → Refusal
small_refusal f = first_of (small_causes f)

-- a stride and tiles that neither 10 nor 11 refuses: what the run inside requires
pub record Tiled (stride across down : ℕ) : Type 0 where
  pub least : 1 ≤ stride
  pub most : stride ≤ largest
  pub sides : sides_good across down ≡ true
