-- A time up to a bound, never elsewhere, as the cut of a list has it. No public promise rests on this.
use Rattle.std.specs.Prelude.{cond, ℕ, leb}
use Rattle.eikonal.specs.Board.{never}

unfoldable pub clip : (bound t : ℕ) → ℕ
clip h t = cond (leb t h) t never
