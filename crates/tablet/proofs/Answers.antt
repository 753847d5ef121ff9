-- What the tablet's call answers and leaves.
use mathlib.Core.Path.{◌≡◌, refl, ap}
use mathlib.Core.List.{List, [], ◌∷◌, ◌++◌}
use mathlib.Core.Logic.{◌≢◌}
use Prim.Native.Nat.{ℕ, ◌*◌, ◌≤◌}
use lib.Dec.{leb}
use lib.ListN.{length, drop}
use borrow.Author.Tests.{eq-eqb, ne_eqb, leb-true, ltb-false, not-false}
use Rattle.eikonal.specs.Board.{size, largest}
use Rattle.eikonal.specs.Tiles.{rounds}
use Rattle.eikonal.specs.Order.{caused}
use Rattle.eikonal.specs.Order.{Refusal}
use Rattle.eikonal.proofs.Causes.{NoneMet, none-met, unrefused, met_parts, number_is}
use Rattle.eikonal.proofs.Good.{and-true}
use Rattle.scenario.specs.File.{held}
use Rattle.scenario.proofs.Answers.{kept, part-entered}
use Rattle.tablet.specs.Small.{horizon, small_causes, small_refusal, Tiled}
use Rattle.tablet.specs.Tablet.{tablet_causes, tablet_refusal, tablet_answer, times_bytes, TabletSays}

pub record Taken (f : List ℕ) (s tw th n : ℕ) : Type 0 where
  pub accepted : (small_refusal f).number ≡ 0
  pub tiles : Tiled s tw th
  pub room : 4 * size (held f) ≤ n

pub taken : (f : List ℕ) (s tw th n : ℕ) → (tablet_refusal f s tw th n).number ≡ 0 → Taken f s tw th n
unfolding NoneMet tablet_refusal tablet_causes small_refusal
taken f s tw th n e =
    let m = met_parts (small_causes f) (caused 10 _ ∷ caused 11 _ ∷ caused 14 _ ∷ []) (none-met (tablet_causes f s tw th n) e) in
    let k = m.1 in
    let stride = and-true (leb 1 s) (leb s largest) (not-false _ k.0) in
    record {
      accepted = number_is (unrefused (small_causes f) m.0);
      tiles = record { least = leb-true 1 s stride.0; most = leb-true s largest stride.1; sides = not-false _ k.1.0 };
      room = ltb-false n (4 * size (held f)) k.1.1.0;
    }

module _ (f : List ℕ) (s tw th : ℕ) (out : List ℕ) (k : Refusal) (e : k ≡ tablet_refusal f s tw th (length out)) where
  pub says_refused : k.number ≢ 0 → TabletSays f s tw th out out k.number
  unfolding tablet_answer
  says_refused n = record {
    answers = rw (← e, ne_eqb k.number 0 n) refl;
    leaves = rw (← e) (kept k.number (times_bytes f) out n);
  }

  pub says-done : (r n : ℕ) (part : List ℕ) → k.number ≡ 0 → r ≡ rounds (held f) tw th s horizon → part ≡ times_bytes f
      → length (times_bytes f) ≡ n → TabletSays f s tw th out (part ++ drop n out) (r * 256)
  unfolding tablet_answer
  says-done r n part z q p l = record {
    answers = rw (← e, eq-eqb k.number 0 z) (ap (λ u. u * 256) q);
    leaves = rw (← e, z) (part-entered n part (times_bytes f) out p l);
  }
