-- Bytes put one behind the other.
use mathlib.Core.Path.{◌≡◌, refl, sym, ap, ◌∙◌}
use mathlib.Core.List.{List, [], ◌∷◌, ◌++◌}
use Prim.Native.Nat.{ℕ, suc, ◌+◌}
use native.Mathlib.Nat.{add-zero}
use native.Mathlib.Omega.{arith}
use lib.ListN.{length, set, length-append}
use lib.Seq.{sets}
use Rattle.rings_lines.specs.Put.{Put}

sets_append : (xs ys l : List ℕ) (i : ℕ) → sets l i (xs ++ ys) ≡ sets (sets l i xs) (i + length xs) ys
sets_append [] ys l i = rw (add-zero i)
sets_append (x ∷ xs) ys l i =
    let q : suc i + length xs ≡ i + suc (length xs) = omega arith in
    sets_append xs ys (set l i x) (suc i) ∙ ap (λ u. sets (sets (set l i x) (suc i) xs) u ys) q

module _ {out mid : List ℕ} {at next : ℕ} {xs : List ℕ} (p : Put out at xs mid next) where
  -- more bytes behind them
  pub put_more : {now : List ℕ} {end : ℕ} {ys : List ℕ} → Put mid next ys now end → Put out at (xs ++ ys) now end
  put_more {ys = ys} q = record {
    place = q.place ∙ omega (arith, p.place, length-append xs ys);
    bytes = q.bytes ∙ (λ i. sets (p.bytes i) (p.place i) ys) ∙ sym (sets_append xs ys out at);
  }

  -- one byte more
  pub put_byte : (d : ℕ) → Put out at (xs ++ (d ∷ [])) (set mid next d) (next + 1)
  put_byte d = put_more (record { place = refl; bytes = refl })

  -- the same bytes under another name
  pub put_is : {ys : List ℕ} → xs ≡ ys → Put out at ys mid next
  put_is e = record { place = p.place ∙ ap (λ u. at + length u) e; bytes = p.bytes ∙ ap (sets out at) e }
