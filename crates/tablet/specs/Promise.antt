-- What is promised of the tablet's call: the order of its causes, and its rounds where one tile covers the board. Each statement is a type;
-- proofs/Promises.antt has their proofs.
use Rattle.std.specs.Prelude.{◌≡◌, List, ℕ, ◌*◌, ◌≤◌, length}
use Rattle.eikonal.specs.Board.{solved, marched}
use Rattle.eikonal.specs.Order.{InOrder}
use Rattle.one_tile.specs.Rounds.{strides, exact_rounds}
use Rattle.scenario.specs.File.{held}
use Rattle.tablet.specs.Small.{horizon, small_causes}
use Rattle.tablet.specs.Tablet.{tablet_causes, tablet_refusal, TabletSays}

-- THE CAUSES of a small file, and those of the call, follow the one order
unfoldable pub SmallInOrder : Type 0
SmallInOrder = (f : List ℕ) → InOrder (small_causes f)

unfoldable pub TabletInOrder : Type 0
TabletInOrder = (f : List ℕ) (s tw th out : ℕ) → InOrder (tablet_causes f s tw th out)

-- a call that is accepted counts the rounds exactly: by the board's times, and by those whose bytes it writes
unfoldable pub OneTileTabletCounts : Type 0
OneTileTabletCounts =
    (f : List ℕ) (s tw th : ℕ) (out out-now : List ℕ) (x : ℕ) →
    TabletSays f s tw th out out-now x → (tablet_refusal f s tw th (length out)).number ≡ 0 →
    (held f).wide ≤ tw → (held f).high ≤ th →
    (x ≡ exact_rounds s horizon (solved (held f)) * 256) × (x ≡ exact_rounds s horizon (marched (held f) horizon) * 256)

-- for strides to 810,815 they are K, whatever the file holds: known before the call
unfoldable pub OneTileTabletBeforehand : Type 0
OneTileTabletBeforehand =
    (f : List ℕ) (s tw th : ℕ) (out out-now : List ℕ) (x : ℕ) →
    TabletSays f s tw th out out-now x → (tablet_refusal f s tw th (length out)).number ≡ 0 →
    (held f).wide ≤ tw → (held f).high ≤ th → s ≤ 810815 → x ≡ strides s horizon * 256
