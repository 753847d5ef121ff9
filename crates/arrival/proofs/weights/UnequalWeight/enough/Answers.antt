-- The first axis alone is enough, or the last.
use Rattle.std.proofs.Common.{arith, ◌≡◌, ◌+◌, ◌-◌}
use native.Mathlib.Decide.{dec_le}
use Rattle.arrival.proofs.weights.UnequalWeight.enough.Goals as goal

pub returns : goal.returns
returns c =
    let w = c.args.self in (
      omega arith,
      elim (dec_le (w.x - w.apart) w.y) [
        | yes l ↦ (let e : w.apart + c.min.result ≡ w.x = omega arith in rw (← e) (omega arith))
        | no l ↦ (let e : c.min.result ≡ w.y = omega arith in rw (← e) (omega arith))
      ],
    )
