-- Sides found by the cells' times, and then cleared where a start is its cell's time, are those that a call enters.
use mathlib.Core.Path.{◌≡◌, refl, sym, ◌∙◌}
use mathlib.Core.Bool.{Bool, true, false, cond, ◌&&◌, ◌||◌, or-false}
use mathlib.Core.Logic.{◌⊎◌, inl, inr}
use mathlib.Core.List.{List, [], ◌∷◌}
use Prim.Native.Nat.{ℕ, suc, ◌≤◌, ◌<◌}
use native.Mathlib.Omega.{arith}
use native.Mathlib.Decide.{ℕ_discrete}
use lib.Dec.{ltb, leb, eqb}
use lib.ListN.{length, get_or}
use lib.Seq.{ext_get_or}
use borrow.Author.Tests.{eq-eqb, ne_eqb, eqb-true, leb-true, lt-leb}
use Rattle.eikonal.specs.Board.{Board, never, largest, size, start_time, time}
use Rattle.eikonal.specs.Sides.{march_sides, round_sides}
use Rattle.eikonal.specs.Ledger.{entered}
use Rattle.eikonal.specs.Inner.Clip.{clip}
use Rattle.eikonal.specs.Inner.Good.{Good}
use Rattle.eikonal.specs.Inner.Good.{starts_rise}
use Rattle.eikonal.specs.Inner.Sides.{sides_by, found}
use Rattle.eikonal.specs.declared.Job.{Job}
use Rattle.eikonal.specs.declared.Job.TheVariants.{March, Round, Run}
use Rattle.eikonal.specs.declared.Start.{Start}
use Rattle.eikonal.proofs.Levels.{order}
use Rattle.eikonal.proofs.Good.{and-true}
use Rattle.eikonal.proofs.Clip.{Clipped, kept, lost, clipped}
use Rattle.eikonal.proofs.Sides.{sides-length, march_sides-at, round_sides-at}
use Rattle.front.proofs.Theory.Reading.{time-at}
use Rattle.sides.specs.Clear.{begins_at, Cleared}
use Rattle.engine.specs.Calls.{bound_of, sees}

-- ---- none past the bound, so that a time cut there has those of the time
module _ (b : Board) (m c : ℕ) (f : ℕ → ℕ) where
  sides-past : (t : ℕ) → m < t → sides_by b m c f t ≡ 0
  unfolding sides_by
  sides-past t l = rw (lt-leb t m l)

  pub sides-clip : m < never → (t : ℕ) → sides_by b m c f (clip m t) ≡ sides_by b m c f t
  sides-clip low t = go (clipped m t)
    where
      go : Clipped m t → sides_by b m c f (clip m t) ≡ sides_by b m c f t
      go (kept i p) = rw p
      go (lost i p) = rw p (sides-past never low ∙ sym (sides-past t i))

-- ---- of starts whose cells rise, a cell has one at most
module _ (n c t : ℕ) where
  -- none is at a cell below their first
  none_below : (l : ℕ) (xs : List Start) → starts_rise n l xs ≡ true → c < l → begins_at c t xs ≡ false
  unfolding begins_at starts_rise
  none_below l [] e h = refl
  none_below l (x ∷ xs) e h =
      let r = and-true (leb l x.cell && ltb x.cell n) (starts_rise n (suc x.cell) xs) e in
      let low = leb-true l x.cell (and-true (leb l x.cell) (ltb x.cell n) r.0).0 in
      rw (ne_eqb x.cell c (omega arith), none_below (suc x.cell) xs r.1 (omega arith))

  -- IT BEGINS at a time just if that is its start's
  begins : t < never → (l : ℕ) (xs : List Start) → starts_rise n l xs ≡ true → begins_at c t xs ≡ eqb t (start_time c xs)
  unfolding begins_at starts_rise start_time
  begins low l [] e = sym (ne_eqb t never (omega arith))
  begins low l (x ∷ xs) e =
      let r = and-true (leb l x.cell && ltb x.cell n) (starts_rise n (suc x.cell) xs) e in
      go (eqb x.cell c) refl (none_below (suc x.cell) xs r.1) (begins low (suc x.cell) xs r.1)
    where
      turned : eqb x.time t ≡ eqb t x.time
      turned = elim (ℕ_discrete t x.time) [
        | yes q ↦ eq-eqb x.time t (sym q) ∙ sym (eq-eqb t x.time q)
        | no q ↦ ne_eqb x.time t (λ z. q (sym z)) ∙ sym (ne_eqb t x.time q)
      ]

      go : (p : Bool) → eqb x.cell c ≡ p → (c < suc x.cell → begins_at c t xs ≡ false) → begins_at c t xs ≡ eqb t (start_time c xs)
          → (p && eqb x.time t) || begins_at c t xs ≡ eqb t (cond p x.time (start_time c xs))
      go true q a k = rw (a (omega (arith, eqb-true x.cell c q)), or-false (eqb x.time t)) turned
      go false q a k = k

-- so what is found by the start is what is left after clearing
cleared : (b : Board) (n m c : ℕ) (f : ℕ → ℕ) (t : ℕ) → m < never → starts_rise n 0 b.starts ≡ true
    → cond (begins_at c t b.starts) 0 (sides_by b m c f t) ≡ found b m c f t
unfolding found
cleared b n m c f t low ri = go (order t never)
  where
    pick : (p q : Bool) → ◌≡◌ {A = ℕ} (cond p 0 0) (cond q 0 0)
    pick true true = refl
    pick true false = refl
    pick false true = refl
    pick false false = refl

    go : (t < never) ⊎ (never ≤ t)
        → cond (begins_at c t b.starts) 0 (sides_by b m c f t) ≡ cond (eqb t (start_time c b.starts)) 0 (sides_by b m c f t)
    go (inl l) = rw (begins n c t l 0 b.starts ri)
    go (inr l) = rw (sides-past b m c f t (omega arith)) (pick (begins_at c t b.starts) (eqb t (start_time c b.starts)))

-- ---- WHAT A CALL ENTERS, cell by cell
module _ {b : Board} (good : Good b) (ts : List ℕ) where
  entered-long : (j : Job) → length (entered b j ts).sides ≡ size b
  unfolding entered march_sides round_sides
  entered-long (March z) = sides-length (size b) 0 b z _
  entered-long (Round tw th m) = sides-length (size b) 0 b m _
  entered-long (Run tw th d z) = sides-length (size b) 0 b z _

  entered_at : (j : Job) → bound_of j ≤ largest → (c : ℕ) → c < size b
      → get_or (entered b j ts).sides c 0 ≡ found b (bound_of j) c (λ e. sees b j ts c e) (time (entered b j ts).times c)
  unfolding entered
  entered_at (March z) l c on = march_sides-at good z l c on
  entered_at (Round tw th m) l c on = round_sides-at good tw th m l ts c on
  entered_at (Run tw th d z) l c on = march_sides-at good z l c on

  pub cleared-sides : (j : Job) → bound_of j ≤ largest → starts_rise (size b) 0 b.starts ≡ true
      → {us ss ss' : List ℕ} → us ≡ (entered b j ts).times → length us ≡ size b → length ss ≡ size b
      → ((c : ℕ) → c < size b → get_or ss c 0 ≡ sides_by b (bound_of j) c (λ e. sees b j ts c e) (time us c))
      → Cleared b.starts us ss ss' → ss' ≡ (entered b j ts).sides
  cleared-sides j low ri {us} {ss} {ss'} is lu ls by cl =
      ext_get_or 0 ss' (entered b j ts).sides (cl.long ∙ ls ∙ sym (entered-long j)) same
    where
      same : (c : ℕ) → c < length ss' → get_or ss' c 0 ≡ get_or (entered b j ts).sides c 0
      same c l =
          let on : c < size b = omega (arith, cl.long) in
          cl.each c (omega arith) ∙ rw (← time-at us c (omega arith), by c on)
          (cleared b (size b) (bound_of j) c (λ e. sees b j ts c e) (time us c) (omega arith) ri ∙ rw is (sym (entered_at j low c on)))
