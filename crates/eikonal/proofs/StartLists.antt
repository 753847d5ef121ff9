-- Starts as plain lists of cells and times: entries at their places, two parts, and the first i entries of both lists.
use mathlib.Core.Path.{◌≡◌, refl, ap}
use mathlib.Core.List.{List, [], ◌∷◌, ◌++◌}
use Prim.Native.Nat.{ℕ, zero, suc, ◌<◌, ◌≤◌, min}
use native.Mathlib.Omega.{arith}
use lib.ListN.{length, get_or, take}
use Rattle.eikonal.specs.Refusals.{starts_of}
use Rattle.eikonal.specs.Handing.{no_start}
use Rattle.eikonal.specs.declared.Start.{Start}

-- as many as the shorter list has, each of the entries at its place
pub starts_of_many : (cs ts : List ℕ) → length (starts_of cs ts) ≡ min (length cs) (length ts)
unfolding starts_of
starts_of_many [] ts = omega arith
starts_of_many (c ∷ cs) [] = omega arith
starts_of_many (c ∷ cs) (t ∷ ts) = omega (arith, starts_of_many cs ts)

pub starts_of_at : (i : ℕ) (cs ts : List ℕ) → i < length (starts_of cs ts)
    → record { cell = get_or cs i 0; time = get_or ts i 0 } ≡ get_or (starts_of cs ts) i no_start
unfolding starts_of
starts_of_at i [] ts h = absurd (omega arith)
starts_of_at i (c ∷ cs) [] h = absurd (omega arith)
starts_of_at zero (c ∷ cs) (t ∷ ts) h = refl
starts_of_at (suc i) (c ∷ cs) (t ∷ ts) h = starts_of_at i cs ts (omega arith)

pub starts_of-append : (cs ts ds us : List ℕ) → length cs ≡ length ts → starts_of (cs ++ ds) (ts ++ us) ≡ starts_of cs ts ++ starts_of ds us
unfolding starts_of
starts_of-append [] [] ds us e = refl
starts_of-append [] (t ∷ ts) ds us e = absurd (omega arith)
starts_of-append (c ∷ cs) [] ds us e = absurd (omega arith)
starts_of-append (c ∷ cs) (t ∷ ts) ds us e =
    ap (λ (xs : List Start). record { cell = c; time = t } ∷ xs) (starts_of-append cs ts ds us (omega arith))

-- the shorter list ends the starts
pub starts_of-take : (i : ℕ) (cs ts : List ℕ) → min (length cs) (length ts) ≤ i → starts_of (take i cs) (take i ts) ≡ starts_of cs ts
unfolding starts_of
starts_of-take zero [] ts h = refl
starts_of-take (suc i) [] ts h = refl
starts_of-take zero (c ∷ cs) [] h = refl
starts_of-take (suc i) (c ∷ cs) [] h = refl
starts_of-take zero (c ∷ cs) (t ∷ ts) h = absurd (omega arith)
starts_of-take (suc i) (c ∷ cs) (t ∷ ts) h =
    ap (λ (xs : List Start). record { cell = c; time = t } ∷ xs) (starts_of-take i cs ts (omega arith))

pub starts_of-length : (i : ℕ) (cs ts : List ℕ) → length (starts_of (take i cs) (take i ts)) ≤ i
unfolding starts_of
starts_of-length zero [] ts = omega arith
starts_of-length zero (c ∷ cs) ts = omega arith
starts_of-length (suc i) [] ts = omega arith
starts_of-length (suc i) (c ∷ cs) [] = omega arith
starts_of-length (suc i) (c ∷ cs) (t ∷ ts) = omega (arith, starts_of-length i cs ts)
