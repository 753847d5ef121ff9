-- A scene as internal contracts speak of it. Only they cite these: they are definitions.
use Rattle.std.specs.Prelude.{ℕ, List, Bool}
use Rattle.eikonal.specs.Board.{Board}
use Rattle.front.specs.Seams.{near}
use Rattle.front.specs.Board as board
use Rattle.front.specs.Board.{land, rule_at, Work}
use Rattle.front.specs.State.{ReadyAmong, SomeReady, Woken}
use Rattle.front.specs.declared.Site.{Site}
use Rattle.front.specs.declared.Step.{Step}
use Rattle.front.specs.declared.scene.Scene.{Scene}

-- its board without the starts
abbrev pub land_of : Scene → Board
land_of s = land s.shape s.slow.now

-- what the local rule gives a cell of it
abbrev pub rule_of : Scene → (c : ℕ) → (f : ℕ → ℕ) → ℕ
rule_of s = rule_at s.shape s.slow.now s.times.now

-- a cell's neighbours across seams of the given kind
abbrev pub near_of : Scene → (kind c : ℕ) → List ℕ
near_of s = near (land_of s) s.shape.across s.shape.down

-- a cell of it, at its row and its column
abbrev pub IsSite : Scene → Site → Type 0
IsSite s p = board.Site s.shape.cells s.shape.width p.cell p.row p.col

-- a step from there along an axis
abbrev pub IsStep : Scene → Site → Step → (before behind : Bool) → Type 0
IsStep s p d = board.Step s.shape.cells s.shape.width p.cell p.row p.col d.cells d.rows d.cols

-- a neighbour of the cell c across a seam that is not the edge is on the board
abbrev pub SeesOver : Scene → (work : List ℕ) → (c less more seam : ℕ) → Type 0
SeesOver s work = board.Sees s.shape.cells s.slow.now s.times.now work

-- the cells from lo on and below hi, or some cells, are ready for a drain, and no other is pending
abbrev pub ReadyIn : Scene → (lo hi : ℕ) → Work → Type 0
ReadyIn s = ReadyAmong s.shape s.slow.now s.times.now

abbrev pub SomeReadyIn : Scene → Work → Type 0
SomeReadyIn s = SomeReady s.shape s.slow.now s.times.now

-- the cells from lo on and below hi heard the stored times, all but inner ones
abbrev pub WokenIn : Scene → (lo hi : ℕ) → (v v' : Work) → Type 0
WokenIn s = Woken s.shape s.slow.now s.times.now
