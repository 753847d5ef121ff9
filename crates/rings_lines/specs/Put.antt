-- Bytes put into a lent list from a place on, with the place behind them answered. No public promise rests on this.
use Rattle.std.specs.Prelude.{◌≡◌, List, ℕ, ◌+◌, length}
use Rattle.std.proofs.lemmas.List.Edits.{sets}

pub record Put (out : List ℕ) (at : ℕ) (xs : List ℕ) (now : List ℕ) (next : ℕ) : Type 0 where
  pub place : next ≡ at + length xs
  pub bytes : now ≡ sets out at xs
