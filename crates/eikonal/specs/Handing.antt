-- A board as code is handed it: sides, storeys, a lent list of slownesses, and starts in one of two forms.
use Rattle.std.specs.Prelude.{Bool, List}
use Rattle.eikonal.specs.Board.{board_of}
use Rattle.eikonal.specs.Refusals.{handed}
use Rattle.eikonal.specs.Refusals as refusals
use Rattle.eikonal.specs.declared.Start.{Start}
use Rattle.eikonal.specs.declared.starts.Handed as code

-- what stands behind the end of a list of starts
abbrev pub no_start : Start
no_start = record { cell = 0; time = 0 }

-- the board that code was handed, by what its starts hold
abbrev pub handed_in : {S : Type 0} → (all : S → List Start) → (paired : S → Bool) → code.Handed S → refusals.Handed
handed_in a p h = handed (board_of h.width h.height h.storeys h.slow.now (a h.starts)) (p h.starts)
