-- The lines as a whole: what is answered, and what the lent list holds.
use mathlib.Core.Path.{◌≡◌, refl, sym, ap, ◌∙◌}
use mathlib.Core.List.{List, ◌++◌}
use mathlib.Core.Logic.{◌≢◌}
use Prim.Native.Nat.{ℕ, ◌+◌, ◌≤◌}
use native.Mathlib.Omega.{arith}
use lib.ListN.{length, drop}
use lib.Seq.{sets-eq, length-sets, length-take-le}
use borrow.Author.Tests.{le-ltb, eq-eqb, ne_eqb}
use Rattle.eikonal.specs.Order.{Refusal}
use Rattle.eikonal.proofs.Causes.{NoneMet, none-met, unrefused, number_is}
use Rattle.tablet.specs.Small.{small_causes, small_refusal}
use Rattle.rings_lines.specs.Put.{Put}
use Rattle.rings_lines.specs.Rings.{refused_line, rings_causes, rings_refusal, board_lines, lines, room, RingsSays}

pub small-file : (f : List ℕ) → (rings_refusal f).number ≡ 0 → (small_refusal f).number ≡ 0
unfolding NoneMet rings_refusal rings_causes small_refusal
small-file f e = number_is (unrefused (small_causes f) (none-met (rings_causes f) e).1)

-- ---- the lines, from what code has at hand
pub lines-board : (f : List ℕ) → (rings_refusal f).number ≡ 0 → board_lines f ≡ lines f
unfolding lines
lines-board f e = rw (eq-eqb (rings_refusal f).number 0 e) refl

pub lines-refused : (f : List ℕ) (k : Refusal) → k ≡ rings_refusal f → k.number ≢ 0 → refused_line k.number ≡ lines f
unfolding lines
lines-refused f k e n = rw (← e, ne_eqb k.number 0 n) refl

-- ---- the answer
pub says-lines : (f : List ℕ) {out now xs : List ℕ} {r : ℕ} → room ≤ length out → xs ≡ lines f → Put out 0 xs now r → r ≤ length out → RingsSays f out now r
says-lines f {out} {now} {xs} {r} h e p m =
    let fits : 0 + length xs ≤ length out = omega (arith, p.place) in
    let none : 0 + length xs ≡ length xs = omega arith in
    let within : r ≤ length now = omega (arith, ap length p.bytes, length-sets out 0 xs) in
    let long = le-ltb (length out) room h in
    record {
      answers = rw long (p.place ∙ none ∙ ap length e);
      leaves = rw long (p.bytes ∙ sets-eq xs out 0 fits ∙ ap (λ u. xs ++ drop u out) none ∙ ap (λ u. u ++ drop (length u) out) e);
      within = within;
      counts = sym (length-take-le r now within);
    }
