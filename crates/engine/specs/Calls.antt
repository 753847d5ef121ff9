-- The job of a call, from starts that are placed. Only internal contracts cite these.
use Rattle.std.specs.Prelude.{◌≡◌, true, List, [], ◌++◌, ℕ, ◌*◌, ◌≤◌, ◌<◌, length, get_or, drop, replicate}
use Rattle.eikonal.specs.Board.{Board, largest, time, marched}
use Rattle.eikonal.specs.Tiles.{tiled, round}
use Rattle.eikonal.specs.Refusals.{order_good}
use Rattle.eikonal.specs.Ledger.{Sheet, entered, counted}
use Rattle.eikonal.specs.Inner.Good.{Good}
use Rattle.eikonal.specs.Inner.Sides.{sides_by}
use Rattle.eikonal.specs.declared.Start.{Start}
use Rattle.eikonal.specs.declared.Job.{Job}
use Rattle.eikonal.specs.declared.Job.TheVariants.{March, Round, Run}
use Rattle.front.specs.Board.{land}
use Rattle.front.specs.State.{Standing}
use Rattle.front.specs.declared.Shape.{Shape}
use Rattle.engine.specs.Run.{whole}

-- ---- THE JOB, from starts that stand in the work list
-- a legal board with its starts, and lists with room for it
pub record Fit (s : Shape) (slow : List ℕ) (xs : List Start) (times sides work : List ℕ) : Type 0 where
  pub good : Good (whole s slow xs)
  pub size : s.cells ≡ s.width * s.height * s.storeys
  pub across_low : 1 ≤ s.across
  pub across_high : s.across ≤ 256
  pub down_low : 1 ≤ s.down
  pub down_high : s.down ≤ 256
  pub many : length times ≡ s.cells
  pub sided : length sides ≡ s.cells
  pub room : 4 * s.cells ≤ length work

-- some starts stand in the work list that make it one
pub record SomeStanding (s : Shape) (slow times sides work : List ℕ) : Type 0 where
  pub starts : List Start
  pub fit : Fit s slow starts times sides work
  pub stands : Standing s.cells starts work

-- up to which time it goes, and what a cell c sees of e when it is done
abbrev pub bound_of : Job → ℕ
bound_of (March z) = z
bound_of (Round tw th m) = m
bound_of (Run tw th d z) = z

abbrev pub sees : Board → Job → (times : List ℕ) → (c e : ℕ) → ℕ
sees b (March z) ts c e = time (marched b z) e
sees b (Round tw th m) ts c e = tiled b tw th ts (λ d. time (round b tw th m ts) d) c e
sees b (Run tw th d z) ts c e = time (marched b z) e

-- an accepted call has gone through, but for its starts' sides: its count, the times that it enters, each cell's sides by its time, whatever its start,
-- the work list wiped
pub record Through (b : Board) (j : Job) (times : List ℕ) (n count : ℕ) (now : Sheet) (work work' : List ℕ) : Type 0 where
  pub counts : count ≡ counted b j times
  pub enters : now.times ≡ (entered b j times).times
  pub timed : length now.times ≡ n
  pub sided : length now.sides ≡ n
  pub sides : (c : ℕ) → c < n → get_or now.sides c 0 ≡ sides_by b (bound_of j) c (λ e. sees b j times c e) (time now.times c)
  pub wipes : work' ≡ replicate (4 * n) 0 ++ drop (4 * n) work

-- WHATEVER STARTS are placed, the job is done
abbrev pub Goes : Job → Shape → (slow : List ℕ) → (count : ℕ) → (times sides : List ℕ) → (now : Sheet) → (work work' : List ℕ) → Type 0
Goes j s ss r ts us p v v' =
    (xs : List Start) → Fit s ss xs ts us v → Standing s.cells xs v → Through (whole s ss xs) j ts s.cells r p v v'

-- what the job asks of its numbers, for tiles of that shape
unfoldable pub Doable : Job → Shape → (order : List ℕ) → Type 0
Doable (March z) s xs = (s.width ≤ s.across) × (s.height ≤ s.down) × (z ≤ largest)
Doable (Round tw th m) s xs =
    (s.across ≡ tw) × (s.down ≡ th) × (m ≤ largest) × (order_good (land s []) s.across s.down xs ≡ true)
Doable (Run tw th d z) s xs = (s.across ≡ tw) × (s.down ≡ th) × (1 ≤ d) × (d ≤ largest) × (z ≤ largest)

-- the shape of a board and of the job's tiles
abbrev pub shape_with : (width height storeys across down : ℕ) → Shape
shape_with w h s tw th = record { width = w; height = h; storeys = s; across = tw; down = th; cells = w * h * s }

abbrev pub shaped : (width height storeys : ℕ) → Job → Shape
shaped w h s (March z) = shape_with w h s 256 256
shaped w h s (Round tw th m) = shape_with w h s tw th
shaped w h s (Run tw th d z) = shape_with w h s tw th
