-- The least of the keys in slots that follow one another: of at most two, then of two such halves.
use mathlib.Core.Path.{◌≡◌, sym, ap}
use mathlib.Core.Logic.{◌⊎◌, inl, inr, ⊎_elim}
use mathlib.Core.List.{List}
use Prim.Native.Nat.{ℕ, ◌+◌, ◌≤◌, ◌<◌, min}
use native.Mathlib.Omega.{arith}
use native.Mathlib.Decide.{ℕ_discrete, dec_lt}
use Rattle.queue.specs.Heap.{key}
use Rattle.queue.specs.Mending.{Chosen}

-- of the slots a and b the slot r has the lesser key, z
pub record Lesser (w : List ℕ) (a b r z : ℕ) : Type 0 where
  pub from : a ≤ r
  pub to : r ≤ b
  pub at : key w r ≡ z
  pub first : z ≤ key w a
  pub second : z ≤ key w b

-- the two keys decide
pub by-keys : {w : List ℕ} {a b r x y z : ℕ} → ((r ≡ a) × (x ≤ y)) ⊎ ((r ≡ b) × (y < x)) →
    x ≡ key w a → y ≡ key w b → z ≡ min x y → a ≤ b → Lesser w a b r z
by-keys {w} {a} {b} {r} {x} {y} {z} s p q e l = record { from = has.0; to = has.1; at = has.2; first = omega arith; second = omega arith }
  where
    has : (a ≤ r) × (r ≤ b) × (key w r ≡ z)
    has = ⊎_elim (λ t. omega (arith, ap (key w) t.0)) (λ t. omega (arith, ap (key w) t.0)) s

-- the two keys decide on a number that is added
pub by_sum : {w : List ℕ} {a b l x y z : ℕ} → ((l ≡ 0) × (x ≤ y)) ⊎ ((l ≡ 1) × (y < x)) →
    x ≡ key w a → y ≡ key w b → z ≡ min x y → b ≡ a + 1 → Lesser w a b (a + l) z
by_sum (inl t) p q e n = by-keys (inl (omega arith, t.1)) p q e (omega arith)
by_sum (inr t) p q e n = by-keys (inr (omega arith, t.1)) p q e (omega arith)

module _ {w : List ℕ} where
  -- of at most two slots, which are all from a to b
  of_both : {a b r z : ℕ} → Lesser w a b r z → b ≤ a + 1 → (j : ℕ) → a ≤ j → j ≤ b → z ≤ key w j
  of_both {a} {b} h n j p q = elim (ℕ_discrete j a) [
    | yes e ↦ omega (arith, ap (key w) e)
    | no e ↦ (let t : j ≡ b = omega (arith, e) in omega (arith, ap (key w) t))
  ]

  -- of two such halves
  pub of_halves : {a b c d e f r x y z : ℕ} → Lesser w a b e x → Lesser w c d f y → Lesser w e f r z → b ≤ a + 1 → c ≤ b + 1 → d ≤ c + 1 →
      (z ≡ key w r) × Chosen w a d r
  of_halves {a} {b} left right best m n o = (
    sym best.at,
    record {
      from = omega arith;
      to = omega arith;
      least = λ j p q. elim (dec_lt b j) [
        | yes l ↦ omega (arith, of_both right o j (omega arith) q)
        | no l ↦ omega (arith, of_both left m j p (omega arith))
      ];
    },
  )

  pub up_to : {f k last r : ℕ} → Chosen w f k r → k ≡ last → Chosen w f last r
  up_to h e = rw e at h
