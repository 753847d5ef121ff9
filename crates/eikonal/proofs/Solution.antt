-- OneSolution and TimesBelow of Promise.antt.
use mathlib.Core.Path.{◌≡◌, refl, sym, ◌∙◌}
use mathlib.Core.Bool.{Bool, true, false, cond}
use mathlib.Core.List.{List, [], ◌∷◌}
use mathlib.Core.Logic.{◌⊎◌, inl, inr}
use Prim.Native.Nat.{ℕ, zero, suc, ◌+◌, ◌*◌, ◌-◌, ◌≤◌, ◌<◌, max}
use native.Mathlib.Omega.{arith}
use lib.Dec.{ltb, eqb}
use lib.ListN.{length}
use Rattle.eikonal.specs.Axes.{Axis, place, sight, sights, earliest, given_on}
use Rattle.eikonal.specs.Board.{Board, axes, never, size, local_of, start_time, arrival, met, time, solved, marched, Meets, earlier}
use Rattle.eikonal.specs.Promise.{OneSolution, TimesBelow}
use Rattle.eikonal.specs.Inner.Good.{Good, Known, Pair}
use Rattle.eikonal.proofs.Levels.{order, worked}
use Rattle.eikonal.proofs.Good.{good, size-most}
use Rattle.eikonal.proofs.Local.{Answers, stays, comes, local-answers, earlier-min}
use Rattle.eikonal.proofs.Lattices.{Look, Sound, plain, plain_sound, Given, is-given, first_seen}
use Rattle.eikonal.proofs.Rule.{lattice, arrival-is}
use Rattle.eikonal.proofs.Passes.{rule, rule-on, rule-off, time-off, solved_by, solved-is, solved-length, solved_fixed, solved-only}
use Rattle.eikonal.proofs.Clip.{cut-length}

-- however its cells see each other, just one set of times meets a board's rule: meeting it is being fixed
module _ (b : Board) (look : Look) (sound : Sound look) (g : Good b) where
  abbrev MeetsBy : List ℕ → Type 0
  MeetsBy ts = (length ts ≡ size b) × ((c : ℕ) → c < size b → time ts c ≡ met b c (look (time ts) c))

  meets_fixed : (ts : List ℕ) → MeetsBy ts → (c : ℕ) → time ts c ≡ rule b look (time ts) c
  meets_fixed ts m c = go (order c (size b))
    where
      go : (c < size b) ⊎ (size b ≤ c) → time ts c ≡ rule b look (time ts) c
      go (inl h) = m.1 c h ∙ sym (rule-on b look (time ts) c h)
      go (inr h) = time-off ts c (omega (arith, m.0)) ∙ sym (rule-off b look (time ts) c h)

  pub one_solution_by : MeetsBy (solved_by b look) × ((ts : List ℕ) → MeetsBy ts → ts ≡ solved_by b look)
  one_solution_by = (
    (solved-length b look, λ c h. solved_fixed b look g sound c ∙ rule-on b look (time (solved_by b look)) c h),
    λ ts m. solved-only b look g sound ts m.0 (meets_fixed ts m),
  )

pub solved-plain : (b : Board) → solved b ≡ solved_by b plain
unfolding solved solved_by
solved-plain b = refl

pub solved-long : (b : Board) → length (solved b) ≡ size b
solved-long b = rw (solved-plain b) (solved-length b plain)

pub marched-long : (b : Board) (h : ℕ) → length (marched b h) ≡ size b
unfolding marched
marched-long b h = cut-length h (solved b) ∙ solved-long b

pub one_solution : OneSolution
unfolding OneSolution Meets
one_solution b e = rw (solved-plain b) (one_solution_by b plain plain_sound (good b e))

-- ---- times grow by at most 4095 with each pass
cond_known : (p : Bool) (m x y : ℕ) → Known m x → Known m y → Known m (cond p x y)
cond_known true m x y h k = h
cond_known false m x y h k = k

pub earlier_known : (m x y : ℕ) → Known m x → Known m y → Known m (earlier x y)
unfolding earlier
earlier_known m x y = cond_known (ltb x y) m x y

pub local_known : (m g h a b z : ℕ) → Pair g h → Known m a → Known m b → Known m z → Known (m + 4095) (local_of g h a b z)
local_known m g h a b z p = go (local-answers g h a b z)
  where
    far : max g h ≤ 4095
    far = omega (arith, p.along_most, p.down_most)

    go : Answers g h a b z → Known m a → Known m b → Known m z → Known (m + 4095) (local_of g h a b z)
    go (stays w e) i j k = inl e
    go (comes o n r) (inr i) j k = inr (omega (arith, r.high, far))
    go (comes o n r) (inl i) (inr j) k = inr (omega (arith, r.high, far))
    go (comes o n r) (inl i) (inl j) (inr k) = inr (omega (arith, r.high, far))
    go (comes o n r) (inl i) (inl j) (inl k) = absurd (n (omega arith))

known_up : (m n t : ℕ) → m ≤ n → Known m t → Known n t
known_up m n t h (inl e) = inl e
known_up m n t h (inr k) = inr (omega arith)

-- what a cell sees, and what the rule gives it from that
sight_known : (m : ℕ) (a : Axis) (c : ℕ) (f : ℕ → ℕ) → ((e : ℕ) → Known m (f e)) → Known m (sight a c f)
unfolding sight
sight_known m a c f k =
    earlier_known m _ _ (cond_known (eqb (place a c) 0) m never _ (inl refl) (k (c - a.unit)))
    (cond_known (eqb (suc (place a c)) a.count) m never _ (inl refl) (k (c + a.unit)))

sights_known : (m : ℕ) (xs : List Axis) (c : ℕ) (f : ℕ → ℕ) → ((e : ℕ) → Known m (f e)) → (i : ℕ) → Known m (sights xs c f i)
sights_known m [] c f k i = inl refl
sights_known m (a ∷ xs) c f k zero = sight_known m a c f k
sights_known m (a ∷ xs) c f k (suc i) = sights_known m xs c f k i

earliest_known : (m : ℕ) (ws : List ℕ) (f : ℕ → ℕ) → ((i : ℕ) → Known m (f i)) → Known m (earliest ws f)
unfolding earliest
earliest_known m [] f k = k 0
earliest_known m (w ∷ ws) f k = rw (← earlier-min) (earlier_known m _ _ (k 0) (earliest_known m ws (λ i. f (suc i)) (λ i. k (suc i))))

arrival_known : {b : Board} → Good b → (m c : ℕ) (f : ℕ → ℕ) → ((e : ℕ) → Known m (f e)) → Known (m + 4095) (arrival b c f)
arrival_known {b} g m c f k =
    rw (arrival-is g c f) (go (is-given (lattice g) c f) (earliest_known m _ _ (sights_known m (axes b) c f k)))
  where
    go : Given (lattice g) c f → Known m (first_seen (lattice g) c f) → Known (m + 4095) (given_on (lattice g) c f)
    go (Given.stays z e) i = inl e
    go (Given.comes p n l h) (inl i) = absurd (n i)
    go (Given.comes p n l h) (inr i) = inr (omega (arith, (g.pairs c).along_most, (g.pairs c).down_most))

met_known : {b : Board} → Good b → (m c : ℕ) (f : ℕ → ℕ) → 995905 ≤ m → ((e : ℕ) → Known m (f e)) → Known (m + 4095) (met b c f)
unfolding met
met_known {b} g m c f h k =
    earlier_known (m + 4095) _ _ (known_up 1000000 (m + 4095) (start_time c b.starts) (omega arith) (g.starts_known c)) (arrival_known g m c f k)

rule_known : {b : Board} → Good b → (look : Look) (m c : ℕ) (f : ℕ → ℕ) → 995905 ≤ m → ((e : ℕ) → Known m (look f c e)) → Known (m + 4095) (rule b look f c)
unfolding rule
rule_known {b} g look m c f h k = cond_known (ltb c (size b)) (m + 4095) _ _ (met_known g m c (look f c) h k) (inl refl)

worked_known : {b : Board} → Good b → (j c : ℕ) → Known (995905 + j * 4095) (worked never (rule b plain) j c)
unfolding worked
worked_known g zero c = inl refl
worked_known {b} g (suc j) c =
    known_up _ (995905 + suc j * 4095) (rule b plain (worked never (rule b plain) j) c) (omega arith)
    (rule_known g plain (995905 + j * 4095) c (worked never (rule b plain) j) (omega arith) (worked_known g j))

-- a start is at most 1,000,000, and each further cell adds at most 4,095
pub solved_known : {b : Board} → Good b → (c : ℕ) → Known (995905 + size b * 4095) (time (solved b) c)
solved_known {b} g c = rw (← solved-is b plain c, ← solved-plain b) at (worked_known g (size b) c)

pub times_below : TimesBelow
unfolding TimesBelow
times_below b c e h = go (solved_known (good b e) c) (size-most (good b e))
  where
    go : Known (995905 + size b * 4095) (time (solved b) c) → size b ≤ 65536 → (time (solved b) c < 269369920) ⊎ (time (solved b) c ≡ never)
    go (inl e) n = inr e
    go (inr k) n = inl (omega arith)
