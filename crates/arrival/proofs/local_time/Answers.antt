-- Of the times that count, none comes near never, so that the limit never cuts nothing.
use Rattle.std.proofs.Common.{arith, ◌≡◌, refl, sym, ◌∙◌, Bool, true, false, cond, ℕ, ◌+◌, min, ltb, eqb}
use mathlib.Core.Logic.{inl, inr}
use mathlib.Core.Bool.{◌&&◌, not}
use borrow.Author.Tests.{ltb-false, eqb-true, ne_eqb, not-false}
use Rattle.eikonal.specs.Board.{never, largest, earlier, local_of, local}
use Rattle.eikonal.specs.Entry.{seen, local_causes, local_refusal}
use Rattle.eikonal.specs.Inner.Good.{Known, Pair}
use Rattle.eikonal.proofs.Causes.{NoneMet, none-met}
use Rattle.eikonal.proofs.Good.{to_pair}
use Rattle.eikonal.proofs.Local.{local-is}
use Rattle.eikonal.proofs.Solution.{earlier_known, local_known}
use Rattle.eikonal.proofs.Walls.{unequal}
use Rattle.eikonal.proofs.FirstPass.{alike}
use Rattle.arrival.proofs.local_time.Goals as goal

-- a pair that is not refused
spared : (g h o n : ℕ) → (local_refusal g h o n).number ≡ 0 → Pair g h
unfolding local_refusal local_causes NoneMet
spared g h o n e = let r = none-met (local_causes g h o n) e in to_pair g h r.0 r.1.0

-- and has no time over or under if its numbers differ
flat : (g h o n : ℕ) → (local_refusal g h o n).number ≡ 0 → (g ≡ h → ⊥) → earlier (seen o) (seen n) ≡ never
unfolding local_refusal local_causes NoneMet
flat g h o n e d =
    let z = earlier (seen o) (seen n) in
    let p : not (eqb g h) && not (eqb z never) ≡ false = (none-met (local_causes g h o n) e).1.1.0 in
    eqb-true z never (not-false _ (rw (ne_eqb g h d) at p))

seen-known : (t : ℕ) → Known largest (seen t)
unfolding seen
seen-known t = go (ltb largest t) refl
  where
    go : (p : Bool) → ltb largest t ≡ p → Known largest (cond p never t)
    go true e = inl refl
    go false e = inr (ltb-false largest t e)

axis-known : (x y : ℕ) → Known largest (earlier (seen x) (seen y))
axis-known x y = earlier_known largest _ _ (seen-known x) (seen-known y)

uncut : (g h l r u d o n : ℕ) → Pair g h → let t = local g h (seen l) (seen r) (seen u) (seen d) (seen o) (seen n) in min never t ≡ t
uncut g h l r u d o n p =
    rw (local-is g h (seen l) (seen r) (seen u) (seen d) (seen o) (seen n))
    (go (local_known largest g h _ _ _ p (axis-known l r) (axis-known u d) (axis-known o n)))
  where
    go : {t : ℕ} → Known (largest + 4095) t → min never t ≡ t
    go (inl e) = omega arith
    go (inr k) = omega arith

-- the time of three axes
is-local : (g h l r u d o n a b z x : ℕ) → (local_refusal g h o n).number ≡ 0
    → a ≡ earlier (seen l) (seen r) → b ≡ earlier (seen u) (seen d) → z ≡ earlier (seen o) (seen n)
    → x ≡ min never (local_of g h a b z) → x ≡ local g h (seen l) (seen r) (seen u) (seen d) (seen o) (seen n)
is-local g h l r u d o n a b z x e p q s t =
    t ∙ rw (p, q, s, ← local-is g h (seen l) (seen r) (seen u) (seen d) (seen o) (seen n)) (uncut g h l r u d o n (spared g h o n e))

pub of_unequal-requires : goal.of_unequal-requires
of_unequal-requires c = unequal (spared _ _ _ _ c.requires) c.if-g-h.true

pub returns-then-g-h : goal.returns-then-g-h
returns-then-g-h c =
    is-local _ _ _ _ _ _ _ _ _ _ _ _ c.requires c.axis-across.ensures c.axis-down.ensures (sym (flat _ _ _ _ c.requires c.if-g-h.true))
    c.of_unequal.ensures

-- equal numbers, with no time over or under
pub of_equal-requires : goal.of_equal-requires
of_equal-requires c = (spared _ _ _ _ c.requires).along_most

pub returns-then-storey : goal.returns-then-storey
returns-then-storey c =
    is-local _ _ _ _ _ _ _ _ _ _ _ _ c.requires c.axis-across.ensures c.axis-down.ensures (sym c.if-storey.true ∙ c.axis-storey.ensures)
    (alike _ _ _ _ _ _ _ c.if-g-h.false c.of_equal.ensures)

pub of_three-requires : goal.of_three-requires
of_three-requires c = (spared _ _ _ _ c.requires).along_most

pub returns : goal.returns
returns c =
    is-local _ _ _ _ _ _ _ _ _ _ _ _ c.requires c.axis-across.ensures c.axis-down.ensures c.axis-storey.ensures
    (alike _ _ _ _ _ _ _ c.if-g-h.false c.of_three.ensures)
