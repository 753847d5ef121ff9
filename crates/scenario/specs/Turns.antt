-- TURNS: tokens go down when a turn closes (Card 3 of document 02).
use Rattle.std.specs.Prelude.{◌≡◌, not, cond, [], ◌∷◌, ℕ, ◌*◌, ◌-◌, ltb, eqb, Result, Ok, Err}
use Rattle.eikonal.specs.Board.{never, largest}
use Rattle.eikonal.specs.Order.{caused, first_of}
use Rattle.eikonal.specs.Tiles.{up}
use Rattle.eikonal.specs.Order.{Refusal}
use Rattle.eikonal.specs.Told.{number_of}
use Rattle.eikonal.specs.declared.refused.Refusal as found
use Rattle.scenario.specs.File.{ticks_good}
use Rattle.scenario.specs.declared.TurnReply.{TurnReply}

-- the time divided by the ticks, rounded up; never for never, which a time above 300,000,000 counts as
unfoldable pub turn_of : (time ticks : ℕ) → ℕ
turn_of t k = cond (ltb largest t) never (up t k)

-- the ticks still to go until that turn closes; never has none
unfoldable pub to_go : (time ticks : ℕ) → ℕ
to_go t k = cond (ltb largest t) 0 (turn_of t k * k - t)

-- ticks that are not 1 to 65,535 are 3, and nothing else is refused
unfoldable pub turn_refusal : (ticks : ℕ) → Refusal
turn_refusal k = first_of (caused 3 (not (ticks_good k)) ∷ [])

unfoldable pub turn_reply : (number turn to_go : ℕ) → TurnReply
turn_reply n t g = record { number = n; turn = t; to_go = g }

-- what an outcome says, a turn and its ticks to go or a refusal
abbrev pub turn_told : Result (ℕ × ℕ) found.Refusal → TurnReply
turn_told (Ok p) = turn_reply 0 p.0 p.1
turn_told (Err r) = turn_reply (number_of r.cause) 0 0

-- number 0, the turn and the ticks to go; or a refusal's number and zeros
unfoldable pub turn_answer : Refusal → (time ticks : ℕ) → TurnReply
turn_answer r t k = cond (eqb r.number 0) (turn_reply 0 (turn_of t k) (to_go t k)) (turn_reply r.number 0 0)

-- THE CALL answers so, whatever the time and the ticks are
unfoldable pub TurnSays : (time ticks : ℕ) → TurnReply → Type 0
TurnSays t k x = x ≡ turn_answer (turn_refusal k) t k
