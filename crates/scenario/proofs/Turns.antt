-- Turns: when they close, and what the call answers.
use mathlib.Core.Path.{◌≡◌, refl, sym, ap, ◌∙◌}
use mathlib.Core.Bool.{true}
use Prim.Native.Nat.{ℕ, ◌+◌, ◌*◌, ◌-◌, ◌≤◌, ◌<◌}
use native.Mathlib.Omega.{arith}
use borrow.Author.Tests.{lt-ltb, le-ltb, ne_eqb}
use Rattle.std.specs.Prelude.{Result, Ok, Err, IsErrAnd}
use Rattle.std.specs.Int.{div_ceil}
use Rattle.std.proofs.lemmas.Grind.{div_ceil_times}
use Rattle.eikonal.specs.Board.{never, largest}
use Rattle.eikonal.specs.Order.{first_of}
use Rattle.eikonal.specs.Tiles.{up}
use Rattle.eikonal.specs.Told.{number_of, refusal_of}
use Rattle.eikonal.specs.declared.refused.Refusal as code
use Rattle.eikonal.proofs.Up.{up_covers, up_close, up_is}
use Rattle.eikonal.proofs.Outcomes.{numbered}
use Rattle.scenario.specs.File.{ticks_good}
use Rattle.scenario.specs.Turns.{turn_of, to_go, turn_refusal, turn_reply, turn_told, turn_answer, TurnSays}
use Rattle.scenario.specs.Promise.{TurnCloses, OneTurn}
use Rattle.scenario.specs.declared.TurnReply.{TurnReply}
use Rattle.scenario.proofs.Causes.{some-ticks}

-- ---- a time that is not never
in_time : (t k : ℕ) → t ≤ largest → (turn_of t k ≡ up t k) × (to_go t k ≡ up t k * k - t)
unfolding turn_of to_go
in_time t k h = let e = le-ltb largest t h in (rw e, rw e)

pub turn_closes : TurnCloses
unfolding TurnCloses
turn_closes t k l h =
    let e = in_time t k h in
    rw (e.0, e.1) (omega (arith, up_covers t k l), omega (arith, up_covers t k l, up_close t k l))

pub one_turn : OneTurn
unfolding OneTurn
one_turn t k n g h c l =
    let e = in_time t k h in
    let n-is : n ≡ up t k = up_is t k n (omega arith) (omega arith) in
    (n-is ∙ sym e.0, rw (e.1, ← n-is) (omega arith))

-- ---- what the call answers
-- by the refusal that was found
pub says_refused : (t k : ℕ) (r : code.Refusal) (x : Result (ℕ × ℕ) code.Refusal) → IsErrAnd x (λ y. y ≡ r) → refusal_of r ≡ turn_refusal k
    → TurnSays t k (turn_told x)
unfolding TurnSays turn_answer
says_refused t k r (Ok p) h e = absurd h
says_refused t k r (Err y) h e =
    let answer : turn_reply (number_of y.cause) 0 0 ≡ turn_answer (refusal_of y) t k = rw (ne_eqb (number_of y.cause) 0 (numbered y.cause)) refl in
    answer ∙ ap (λ u. turn_answer u t k) (ap refusal_of h ∙ e)

module _ (t k : ℕ) (good : ticks_good k ≡ true) where
  says : (n g : ℕ) → (n ≡ turn_of t k) × (g ≡ to_go t k) → TurnSays t k (turn_reply 0 n g)
  unfolding TurnSays turn_refusal first_of turn_answer
  says n g both = rw (good, ← both.0, ← both.1) refl

  pub says_never : largest < t → TurnSays t k (turn_reply 0 never 0)
  unfolding turn_of to_go
  says_never h = let late = lt-ltb largest t h in says never 0 (rw late refl, rw late refl)

  pub ceil_closes : (n : ℕ) → n ≡ div_ceil t k → (t ≤ n * k) × (n * k < t + k)
  ceil_closes n e = rw e (div_ceil_times t k (some-ticks k good).0)

  pub says_turn : (n : ℕ) → n ≡ div_ceil t k → t ≤ largest → TurnSays t k (turn_reply 0 n (n * k - t))
  unfolding OneTurn
  says_turn n e h =
      let c = ceil_closes n e in
      says n (n * k - t) (one_turn t k n (n * k - t) h (omega (arith, c.0)) (omega (arith, c.0, c.1)))

module _ (t k : ℕ) (x : TurnReply) where
  pub turn_said : ticks_good k ≡ true → TurnSays t k x → x.turn ≡ turn_of t k
  unfolding TurnSays turn_refusal first_of turn_answer turn_reply
  turn_said good e = ap (λ u. u.turn) e ∙ rw good
