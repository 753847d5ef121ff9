-- Numbers as text. A byte is a number: 48 is `0`.
use Rattle.std.specs.Prelude.{◌≡◌, cond, List, [], ◌∷◌, ◌++◌, ℕ, zero, suc, ◌+◌, ◌*◌, ◌-◌, ◌/◌, ◌%◌, ◌<◌, ltb}

-- decimal digits with no zero in front, so many at most
unfoldable pub digits : (most : ℕ) → ℕ → List ℕ
digits zero x = []
digits (suc k) x = cond (ltb x 10) ((48 + x) ∷ []) (digits k (x / 10) ++ ((48 + x % 10) ∷ []))

-- a number of 32 bits has 10 at most
unfoldable pub decimal : ℕ → List ℕ
decimal x = digits 10 x

-- the number that digits stand for, behind one that was read
unfoldable pub value : (read : ℕ) → List ℕ → ℕ
value n [] = n
value n (d ∷ ds) = value (10 * n + (d - 48)) ds

-- A NUMBER of 32 bits is what its text stands for; proofs/Decimal.antt has the proof
unfoldable pub DecimalIs : Type 0
DecimalIs = (x : ℕ) → x < 4294967296 → value 0 (decimal x) ≡ x
