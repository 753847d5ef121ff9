-- A tile run as internal contracts speak of it. Only they cite these: they are definitions.
use Rattle.std.specs.Prelude.{List, ℕ}
use Rattle.front.specs.Board.{Work, Ground}
use Rattle.engine.specs.Run.{Amid, RoundsOn, Runs}
use Rattle.engine.specs.declared.tiling.Tiling.{Tiling}

-- its board is legal, with such times
abbrev pub GroundIn : Tiling → (times : List ℕ) → Type 0
GroundIn t ts = Ground t.shape t.slow.now ts t.cols.now t.rows.now

-- after j rounds, one round more, and all with a limit
abbrev pub AmidIn : Tiling → (j : ℕ) → (times : List ℕ) → Work → Type 0
AmidIn t = Amid t.shape t.slow.now t.stride t.horizon

abbrev pub RoundsOnIn : Tiling → (j m : ℕ) → (times times' : List ℕ) → (work work' : Work) → Type 0
RoundsOnIn t = RoundsOn t.shape t.slow.now t.stride t.horizon

abbrev pub RunsIn : Tiling → (limit r : ℕ) → (times times' : List ℕ) → (work : Work) → (work' : List ℕ) → Type 0
RunsIn t = Runs t.shape t.slow.now t.stride t.horizon
