-- Files with sides to 32 and 1,024 cells at the most: what one that is not refused has, and the board that it holds.
use mathlib.Core.Path.{◌≡◌, ap, ◌∙◌}
use mathlib.Core.Bool.{true, not, ◌&&◌}
use mathlib.Core.List.{List, [], ◌∷◌}
use Prim.Native.Nat.{ℕ, ◌*◌, ◌≤◌}
use native.Mathlib.Omega.{arith}
use lib.Dec.{ltb, leb}
use borrow.Author.Tests.{leb-true, not-false}
use Rattle.eikonal.specs.Board.{board_of, size, largest}
use Rattle.eikonal.specs.Order.{caused, or_else, first_of}
use Rattle.eikonal.specs.Refusals.{within, sides_good, handed, handed_refusal}
use Rattle.eikonal.specs.declared.Start.{Start}
use Rattle.eikonal.proofs.Causes.{NoneMet, none-met, unrefused, met-append, met_parts, number_is, first-append}
use Rattle.eikonal.proofs.Good.{and-true, sound}
use Rattle.scenario.specs.File.{head_in, starts_in, start_count, held, front_causes, rest_causes, file_causes, file_refusal}
use Rattle.scenario.proofs.Causes.{board-taken, Accepted, accepted, rise-count}
use Rattle.scenario.proofs.Reading.{count-starts}
use Rattle.scenario.specs.declared.Head.{Head}
use Rattle.scenario.specs.Inner.Walk.{Fits, starts_by}
use Rattle.scenario.proofs.Composed.{held-given}
use Rattle.tablet.specs.Small.{board_small, small_causes, small_refusal}
use Rattle.tablet.specs.Tablet.{tablet_causes, tablet_refusal}

-- ---- a file that nothing refuses
pub record Small (f : List ℕ) : Type 0 where
  pub taken : Accepted f
  pub wide : (head_in f).width ≤ 32
  pub high : (head_in f).height ≤ 32
  pub few : (head_in f).width * (head_in f).height * (head_in f).storeys ≤ 1024

pub small : (f : List ℕ) → (small_refusal f).number ≡ 0 → Small f
unfolding NoneMet small_refusal small_causes board_small file_refusal file_causes
small f e =
    let x = head_in f in
    let n = met_parts (front_causes f) (caused 15 _ ∷ rest_causes f) (none-met (small_causes f) e) in
    let s = and-true (leb x.width 32 && leb x.height 32) (leb (x.width * x.height * x.storeys) 1024) (not-false _ n.1.0) in
    let t = and-true (leb x.width 32) (leb x.height 32) s.0 in
    record {
      taken = accepted f (number_is (unrefused (file_causes f) (met-append (front_causes f) (rest_causes f) n.0 n.1.1)));
      wide = leb-true x.width 32 t.0;
      high = leb-true x.height 32 t.1;
      few = leb-true (x.width * x.height * x.storeys) 1024 s.1;
    }

pub cells-few : (f : List ℕ) → Small f → size (held f) ≤ 1024
unfolding size held
cells-few f s = s.few

-- starts rise, so they are no more than the cells
pub starts-few : (f : List ℕ) → Small f → start_count f ≤ 1024
unfolding held
starts-few f s =
    omega (arith, rise-count (size (held f)) 0 (starts_in f) (sound (held f) s.taken.starts).rise (omega arith), count-starts f, cells-few f s)

-- ---- its board, as it is handed on
pub board_is : (f : List ℕ) (x : Head) (slow : List ℕ) (starts : List Start) → Fits x f → slow ≡ (held f).slow → starts ≡ starts_by x f
    → handed (board_of x.width x.height x.storeys slow starts) true ≡ handed (held f) true
unfolding held starts_in
board_is f x slow starts fits s t =
    let e = fits.head in
    let all = t ∙ ap (λ y. starts_by y f) e in
    λ i. handed (board_of (e i).width (e i).height (e i).storeys (s i) (all i)) true

pub board_good : (f : List ℕ) → Accepted f → (handed_refusal (handed (held f) true)).number ≡ 0
board_good f a = board-taken (held-given f a)

-- ---- why a file or a call is refused, in the parts in which code looks for it
pub small_by_parts : (f : List ℕ) → small_refusal f
    ≡ or_else (first_of (front_causes f)) (or_else (first_of (caused 15 (not (board_small (head_in f))) ∷ [])) (first_of (rest_causes f)))
unfolding small_refusal small_causes
small_by_parts f =
    first-append (front_causes f) (caused 15 _ ∷ rest_causes f) ∙ ap (or_else (first_of (front_causes f))) (first-append (caused 15 _ ∷ []) (rest_causes f))

pub tablet_by_parts : (f : List ℕ) (s tw th n : ℕ) → let x = head_in f in tablet_refusal f s tw th n
    ≡ or_else (small_refusal f) (first_of (caused 10 (not (within 1 largest s)) ∷ caused 11 (not (sides_good tw th))
    ∷ caused 14 (ltb n (4 * (x.width * x.height * x.storeys))) ∷ []))
unfolding tablet_refusal tablet_causes small_refusal held size
tablet_by_parts f s tw th n = first-append (small_causes f) (caused 10 _ ∷ caused 11 _ ∷ caused 14 _ ∷ [])
