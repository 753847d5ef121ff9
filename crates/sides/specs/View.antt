-- What the pass reads of a board, as internal contracts speak of it. Only they cite these: they are definitions.
use Rattle.std.specs.Prelude.{List, ℕ}
use Rattle.sides.specs.Pass.{Legal, flat_at, stack_at, found_at}
use Rattle.sides.specs.declared.View.{View}

-- it is of some legal board, which has so many sides
abbrev pub LegalIn : View → (sides : List ℕ) → Type 0
LegalIn v = Legal v.shape v.own.now v.far.now v.off.now v.cols.now v.rows.now

-- a cell's sides on its storey, its side between storeys, and all of them
abbrev pub flat_in : View → (bound c : ℕ) → ℕ
flat_in v = flat_at v.shape v.own.now v.far.now

abbrev pub stack_in : View → (bound c : ℕ) → ℕ
stack_in v = stack_at v.shape v.own.now v.far.now

abbrev pub found_in : View → (bound c : ℕ) → ℕ
found_in v = found_at v.shape v.own.now v.far.now
