-- Slownesses that are none of 5, 21 and 23, and lists that have none but those of a list of such.
use mathlib.Core.Path.{◌≡◌, refl, sym, ◌∙◌}
use mathlib.Core.Bool.{Bool, false}
use mathlib.Core.List.{List, [], ◌∷◌}
use Prim.Native.Nat.{ℕ, ◌≤◌, ◌<◌}
use native.Mathlib.Omega.{arith}
use lib.Dec.{ltb}
use borrow.Author.Tests.{ltb-false}
use Rattle.eikonal.specs.Board.{along_row, down_column}
use Rattle.eikonal.specs.Refusals.{steep, half_wall, uneven, any_pair, pair_causes}
use Rattle.refusals.specs.Flaws.{flawless, with_pair, with_pairs}
use Rattle.eikonal.proofs.Causes.{NoneMet}
use Rattle.eikonal.proofs.Good.{or-false, housed, houses}
use Rattle.refusals.proofs.Pairs.{with_no_pairs, with_first}

-- a test spares a list: no entry meets it
module _ (p : (g h : ℕ) → Bool) where
  abbrev pub Spares : List ℕ → Type 0
  Spares ss = any_pair p ss ≡ false

  pub spares_none : Spares []
  unfolding any_pair
  spares_none = refl

  pub spares_first : (s : ℕ) (ss : List ℕ) → Spares (s ∷ ss) → p (along_row s) (down_column s) ≡ false
  unfolding any_pair
  spares_first s ss e = (or-false (p (along_row s) (down_column s)) (any_pair p ss) e).0

  pub spares_rest : (s : ℕ) (ss : List ℕ) → Spares (s ∷ ss) → Spares ss
  unfolding any_pair
  spares_rest s ss e = (or-false (p (along_row s) (down_column s)) (any_pair p ss) e).1

  pub spares_more : (s : ℕ) (rs ss : List ℕ) → Spares (s ∷ rs) → Spares ss → Spares (s ∷ ss)
  unfolding any_pair
  spares_more s rs ss e f = rw (spares_first s rs e) f

-- a slowness that is not steep fits its four bytes
pub slow-fits : (s : ℕ) (ss : List ℕ) → Spares steep (s ∷ ss) → s < 4294967296
unfolding steep along_row down_column
slow-fits s ss e =
    let r = or-false (ltb 4095 (along_row s)) (ltb 4095 (down_column s)) (spares_first steep s ss e) in
    let g : along_row s ≤ 4095 = ltb-false 4095 (along_row s) r.0 in
    let h : down_column s ≤ 4095 = ltb-false 4095 (down_column s) r.1 in
    omega arith

-- every entry of the first list is one of the second: a test that spares the second spares the first
abbrev pub Among : (ts ss : List ℕ) → Type 0
Among ts ss = (p : (g h : ℕ) → Bool) → Spares p ss → Spares p ts

module _ (w h s : ℕ) where
  abbrev pub Good : List ℕ → Type 0
  Good ss = NoneMet (pair_causes w h s ss)

  pub good-among : (ts ss : List ℕ) → Among ts ss → Good ss → Good ts
  good-among ts ss a e =
      let k = housed w h s ss e in
      houses w h s ts (record {
        gentle = a steep k.gentle;
        whole = a half_wall k.whole;
        low = k.low;
        high = k.high;
        few = k.few;
        level = λ l. a uneven (k.level l);
      })

  -- THE GROUND AND A BOARD'S CELLS, each good and both
  pub ground_alone : (g : ℕ) (ss : List ℕ) → Good (g ∷ ss) → Good (g ∷ [])
  ground_alone g ss e = good-among (g ∷ []) (g ∷ ss) (λ p r. spares_more p g ss [] r (spares_none p)) e

  pub cells_alone : (g : ℕ) (ss : List ℕ) → Good (g ∷ ss) → Good ss
  cells_alone g ss e = good-among ss (g ∷ ss) (λ p. spares_rest p g ss) e

  pub with_ground : (g : ℕ) (ss : List ℕ) → Good (g ∷ []) → Good ss → Good (g ∷ ss)
  with_ground g ss e f =
      let r = housed w h s (g ∷ []) e in
      let k = housed w h s ss f in
      houses w h s (g ∷ ss) (record {
        gentle = spares_more steep g [] ss r.gentle k.gentle;
        whole = spares_more half_wall g [] ss r.whole k.whole;
        low = k.low;
        high = k.high;
        few = k.few;
        level = λ l. spares_more uneven g [] ss (r.level l) (k.level l);
      })

-- the ground's pair alone, as it is looked at
pub ground_pair : (g : ℕ) → with_pair g flawless ≡ with_pairs (g ∷ []) flawless
ground_pair g = sym (with_no_pairs (with_pair g flawless)) ∙ with_first g []
