-- Numbers in bytes: each comes back from its bytes, and bytes come back from their number.
use mathlib.Core.Path.{◌≡◌, ap₂}
use mathlib.Core.List.{List, [], ◌∷◌, ◌++◌}
use Prim.Native.Nat.{ℕ, ◌+◌, ◌*◌, ◌/◌, ◌%◌, ◌≤◌, ◌<◌}
use native.Mathlib.Omega.{arith}
use lib.ListN.{length, take, drop}
use lib.Seq.{get_or-drop}
use Rattle.scenario.specs.Bytes.{two, four, two_bytes, four_bytes, Bytes}

pub bytes_drop : (n : ℕ) (bs : List ℕ) → Bytes bs → Bytes (drop n bs)
unfolding Bytes
bytes_drop n bs h i = rw get_or-drop (h (n + i))

-- a number comes back from its bytes
pub two-front : (x : ℕ) (bs : List ℕ) → x < 65536 → two (two_bytes x ++ bs) ≡ x
unfolding two two_bytes
two-front x bs h = omega arith

pub four-front : (x : ℕ) (bs : List ℕ) → x < 4294967296 → four (four_bytes x ++ bs) ≡ x
unfolding four two two_bytes four_bytes
four-front x bs h = omega arith

-- bytes come back from their number
back : (a b x : ℕ) → a < 256 → b < 256 → x % 65536 ≡ a + 256 * b → two_bytes x ≡ a ∷ b ∷ []
unfolding two_bytes
back a b x ha hb e = ap₂ (λ u v. u ∷ v ∷ []) (let q : x % 256 ≡ a = omega arith in q) (let q : x / 256 % 256 ≡ b = omega arith in q)

pub two_back : (bs : List ℕ) → Bytes bs → 2 ≤ length bs → two_bytes (two bs) ≡ take 2 bs
unfolding two Bytes
two_back [] h l = absurd (omega arith)
two_back (a ∷ []) h l = absurd (omega arith)
two_back (a ∷ b ∷ bs) h l = back a b (a + 256 * b) (h 0) (h 1) (omega (arith, h 0, h 1))

pub four-back : (bs : List ℕ) → Bytes bs → 4 ≤ length bs → four_bytes (four bs) ≡ take 4 bs
unfolding four_bytes four two Bytes
four-back [] h l = absurd (omega arith)
four-back (a ∷ []) h l = absurd (omega arith)
four-back (a ∷ b ∷ []) h l = absurd (omega arith)
four-back (a ∷ b ∷ c ∷ []) h l = absurd (omega arith)
four-back (a ∷ b ∷ c ∷ d ∷ bs) h l =
    ap₂ ◌++◌ (back a b (a + 256 * b + 65536 * (c + 256 * d)) (h 0) (h 1) (omega (arith, h 0, h 1)))
    (back c d ((a + 256 * b + 65536 * (c + 256 * d)) / 65536) (h 2) (h 3) (omega (arith, h 0, h 1, h 2, h 3)))
