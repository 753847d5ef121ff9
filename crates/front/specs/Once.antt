-- A legal board's facts have one proof at most: so a struct may keep them.
use Rattle.std.specs.Prelude.{◌≡◌, ℕ, ◌≤◌, ◌⊎◌, List}
use Rattle.std.specs.Coded.{×_prop, le_prop}
use Rattle.std.proofs.Common.{inl, inr, ap, arith}
use native.Mathlib.Nat.{ℕ_set}
use Rattle.eikonal.specs.Board.{Board}
use Rattle.eikonal.specs.Inner.Good.{Known, Pair, Good}
use Rattle.front.specs.Board.{Marked, Ground}
use Rattle.front.specs.declared.Shape.{Shape}

-- two facts that cannot both be
either_prop : {A B : Type 0} → IsProp A → IsProp B → (A → B → ⊥) → IsProp (A ⊎ B)
either_prop p q apart (inl a) (inl b) = ap inl (p a b)
either_prop p q apart (inl a) (inr b) = absurd (apart a b)
either_prop p q apart (inr a) (inl b) = absurd (apart b a)
either_prop p q apart (inr a) (inr b) = ap inr (q a b)

Known-prop : (t : ℕ) → IsProp (Known 1000000 t)
Known-prop t = either_prop (ℕ_set _ _) le_prop (λ a b. omega (arith, a, b))

Pair-prop : (g h : ℕ) → IsProp (Pair g h)
Pair-prop g h a b =
    let whole : IsProp (((g ≡ 0) × (h ≡ 0)) ⊎ ((1 ≤ g) × (1 ≤ h))) =
    either_prop (×_prop (ℕ_set g 0) (ℕ_set h 0)) (×_prop le_prop le_prop) (λ p q. omega (arith, p.0, q.0)) in
    λ i. record {
      along_most = le_prop a.along_most b.along_most i;
      down_most = le_prop a.down_most b.down_most i;
      whole = whole a.whole b.whole i;
    }

Good-prop : (b : Board) → IsProp (Good b)
Good-prop b x y = λ i. record {
  wide_low = le_prop x.wide_low y.wide_low i;
  wide_high = le_prop x.wide_high y.wide_high i;
  high_low = le_prop x.high_low y.high_low i;
  high_high = le_prop x.high_high y.high_high i;
  storeys_low = le_prop x.storeys_low y.storeys_low i;
  storeys_high = le_prop x.storeys_high y.storeys_high i;
  few = le_prop x.few y.few i;
  slow_length = ℕ_set _ _ x.slow_length y.slow_length i;
  pairs = λ c. Pair-prop _ _ (x.pairs c) (y.pairs c) i;
  level = λ h c. ℕ_set _ _ (x.level h c) (y.level h c) i;
  starts_known = λ c. Known-prop _ (x.starts_known c) (y.starts_known c) i;
  walls_free = λ c h. ℕ_set _ _ (x.walls_free c h) (y.walls_free c h) i;
}

Marked-prop : (count side many : ℕ) (marks : List ℕ) → IsProp (Marked count side many marks)
Marked-prop count side many marks x y = λ i. record {
  at = λ j h. ℕ_set _ _ (x.at j h) (y.at j h) i;
  last = ℕ_set _ _ x.last y.last i;
  over = ℕ_set _ _ x.over y.over i;
}

pub Ground-prop : (s : Shape) (slow stored cols rows : List ℕ) → IsProp (Ground s slow stored cols rows)
Ground-prop s slow stored cols rows x y = λ i. record {
  good = Good-prop _ x.good y.good i;
  cells = ℕ_set _ _ x.cells y.cells i;
  across = le_prop x.across y.across i;
  down = le_prop x.down y.down i;
  many = ℕ_set _ _ x.many y.many i;
  columns = Marked-prop _ _ _ _ x.columns y.columns i;
  lines = Marked-prop _ _ _ _ x.lines y.lines i;
}
