-- THE TABLET'S CALL ("The scenario file" of document 01): what it answers, and what it leaves in the output.
use Rattle.std.specs.Prelude.{◌≡◌, not, cond, List, [], ◌∷◌, ◌++◌, ℕ, ◌*◌, ltb, eqb, length}
use Rattle.eikonal.specs.Board.{size, largest, marched}
use Rattle.eikonal.specs.Tiles.{rounds}
use Rattle.eikonal.specs.Order.{Cause, caused, first_of}
use Rattle.eikonal.specs.Refusals.{within, sides_good}
use Rattle.eikonal.specs.Order.{Refusal}
use Rattle.scenario.specs.Bytes.{four_bytes, bytes_of}
use Rattle.scenario.specs.File.{held}
use Rattle.scenario.specs.Calls.{filled}
use Rattle.tablet.specs.Small.{horizon, small_causes}

-- WHY THE CALL IS REFUSED: by its file; then 10, the stride; 11, the tiles' sides; 14, an output under 4 N bytes
unfoldable pub tablet_causes : (file : List ℕ) → (stride across down out : ℕ) → List Cause
tablet_causes f s tw th n =
    small_causes f
    ++ caused 10 (not (within 1 largest s)) ∷ caused 11 (not (sides_good tw th)) ∷ caused 14 (ltb n (4 * size (held f))) ∷ []

unfoldable pub tablet_refusal : (file : List ℕ) → (stride across down out : ℕ) → Refusal
tablet_refusal f s tw th n = first_of (tablet_causes f s tw th n)

-- a refusal's bare number, or the rounds × 256
unfoldable pub tablet_answer : (file : List ℕ) → (stride across down : ℕ) → Refusal → ℕ
tablet_answer f s tw th k = cond (eqb k.number 0) (rounds (held f) tw th s horizon * 256) k.number

-- N times of 4 bytes each
unfoldable pub times_bytes : List ℕ → List ℕ
times_bytes f = bytes_of four_bytes (marched (held f) horizon)

pub record TabletSays (f : List ℕ) (stride across down : ℕ) (out out-now : List ℕ) (x : ℕ) : Type 0 where
  pub answers : x ≡ tablet_answer f stride across down (tablet_refusal f stride across down (length out))
  pub leaves : out-now ≡ filled (tablet_refusal f stride across down (length out)).number (times_bytes f) out
