-- Numbers and records as bytes, little-endian ("The scenario file" of document 01). A byte is a number.
use Rattle.std.specs.Prelude.{List, [], ◌∷◌, ◌++◌, ℕ, zero, suc, ◌+◌, ◌*◌, ◌/◌, ◌%◌, ◌<◌, get_or, drop}

-- the number of 2, or of 4, bytes that a list begins with
unfoldable pub two : List ℕ → ℕ
two bs = get_or bs 0 0 + 256 * get_or bs 1 0

unfoldable pub four : List ℕ → ℕ
four bs = two bs + 65536 * two (drop 2 bs)

-- and the bytes of a number
unfoldable pub two_bytes : ℕ → List ℕ
two_bytes x = x % 256 ∷ x / 256 % 256 ∷ []

unfoldable pub four_bytes : ℕ → List ℕ
four_bytes x = two_bytes x ++ two_bytes (x / 65536)

-- records of so many bytes each: the first n that a list begins with, and their bytes
unfoldable pub records : {A : Type 0} → (size : ℕ) → (List ℕ → A) → (n : ℕ) → List ℕ → List A
records k f zero bs = []
records k f (suc n) bs = f bs ∷ records k f n (drop k bs)

unfoldable pub bytes_of : {A : Type 0} → (A → List ℕ) → List A → List ℕ
bytes_of f [] = []
bytes_of f (x ∷ xs) = f x ++ bytes_of f xs

-- what the type of a byte slice says of its entries
unfoldable pub Bytes : List ℕ → Type 0
Bytes bs = (i : ℕ) → get_or bs i 0 < 256
