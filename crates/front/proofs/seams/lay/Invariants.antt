-- The seams before i are laid.
use Rattle.std.proofs.Common.{◌≡◌, ℕ, ◌<◌, get_or}
use Rattle.front.specs.Seams.{seam}
use Rattle.front.proofs.seams.lay.Given as goal

abbrev pub invariant-loop-i : goal.invariant-loop-i
invariant-loop-i l = (j : ℕ) → j < l.i → get_or l.mark-items j 0 ≡ seam l.count l.side j
