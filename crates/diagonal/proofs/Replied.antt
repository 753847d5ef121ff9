-- The reply that an outcome gives: a refusal, or a count.
use mathlib.Core.Path.{◌≡◌, sym, ap, ◌∙◌}
use Prim.Native.Nat.{ℕ}
use Rattle.std.specs.Prelude.{Result, Ok, Err, IfOk}
use Rattle.eikonal.specs.Order.{Refusal}
use Rattle.eikonal.specs.Ledger.{answer, answered}
use Rattle.eikonal.specs.Told.{told, reply_of}
use Rattle.eikonal.specs.declared.refused.Refusal as code
use Rattle.eikonal.proofs.Answers.{answered-zero, answered-refused}
use Rattle.eikonal.proofs.Causes.{number_is}
use Rattle.eikonal.proofs.Outcomes.{numbered}

pub replied : (k : Refusal) (n : ℕ) (x : Result ℕ code.Refusal) → told x ≡ k → IfOk x (λ d. d ≡ n) → reply_of x ≡ answered k n
replied k n (Ok d) e h = rw h (sym (answered-zero k n (sym (number_is e))))
replied k n (Err r) e h = ap (λ (a : Refusal). answer a 0) e ∙ sym (answered-refused k n (λ z. numbered r.cause (number_is e ∙ z)))
