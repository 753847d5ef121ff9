-- The decimal text of a number stands for it.
use mathlib.Core.Path.{◌≡◌, refl, ◌∙◌}
use mathlib.Core.Bool.{Bool, true, false, cond}
use mathlib.Core.List.{List, [], ◌∷◌, ◌++◌}
use Prim.Native.Nat.{ℕ, zero, suc, ◌+◌, ◌*◌, ◌-◌, ◌/◌, ◌%◌, ◌^◌, ◌<◌}
use native.Mathlib.Nat.{pow-suc, div-lt_iff_lt-mul}
use native.Mathlib.Omega.{arith}
use lib.Dec.{ltb}
use Rattle.rings_lines.specs.Text.{digits, decimal, value, DecimalIs}

value-last : (n : ℕ) (ds : List ℕ) (d : ℕ) → value n (ds ++ (d ∷ [])) ≡ 10 * value n ds + (d - 48)
unfolding value
value-last n [] d = refl
value-last n (e ∷ ds) d = value-last (10 * n + (e - 48)) ds d

one-or-more : (p : Bool) (x : ℕ) (ds : List ℕ) → value 0 ds ≡ x / 10 → value 0 (cond p ((48 + x) ∷ []) (ds ++ ((48 + x % 10) ∷ []))) ≡ x
unfolding value
one-or-more true x ds e = omega arith
one-or-more false x ds e = value-last 0 ds (48 + x % 10) ∙ omega arith

value-digits : (k x : ℕ) → x < 10 ^ k → value 0 (digits k x) ≡ x
unfolding digits value
value-digits zero x h = omega arith
value-digits (suc k) x h =
    let small : x < 10 ^ k * 10 = omega (arith, pow-suc 10 k) in
    let pos : 0 < 10 = omega arith in
    one-or-more (ltb x 10) x (digits k (x / 10)) (value-digits k (x / 10) ((div-lt_iff_lt-mul {k = 10} {x = x} {y = 10 ^ k} pos).1 small))

pub decimal-is : DecimalIs
unfolding DecimalIs decimal
decimal-is x h = value-digits 10 x (omega arith)
