-- Sides as code finds them: from a cell's time and the times that it sees, then from its start. No public promise rests on these.
use Rattle.std.specs.Prelude.{cond, ℕ, leb, eqb}
use Rattle.eikonal.specs.Board.{Board, start_time}
use Rattle.eikonal.specs.Sides.{sides_seen}

-- by a time, whatever the cell's start: none past the bound
unfoldable pub sides_by : Board → (bound c : ℕ) → (seen : ℕ → ℕ) → (t : ℕ) → ℕ
sides_by b m c f t = cond (leb t m) (sides_seen b c f t) 0

-- none where the time is the start's
unfoldable pub found : Board → (bound c : ℕ) → (seen : ℕ → ℕ) → (t : ℕ) → ℕ
found b m c f t = cond (eqb t (start_time c b.starts)) 0 (sides_by b m c f t)
