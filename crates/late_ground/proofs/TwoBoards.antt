-- Two boards, the second retouched late: below T their states agree, level by level, and so do the sheets cut from them.
use mathlib.Core.Path.{◌≡◌, refl, sym, ap, ◌∙◌}
use mathlib.Core.Bool.{Bool, true, false, cond}
use mathlib.Core.List.{List}
use mathlib.Core.Logic.{◌⊎◌, inl, inr, ◌≢◌}
use Prim.Native.Nat.{ℕ, zero, suc, ◌*◌, ◌≤◌, ◌<◌, min}
use native.Mathlib.Omega.{arith}
use native.Mathlib.Nat.{mul-le-mul_left}
use lib.Dec.{leb, eqb}
use lib.ListN.{get_or, get_or-eq_default}
use borrow.Author.Tests.{eqb-true, eqb-false}
use Rattle.eikonal.specs.Axes.{Quicker, NoSlower}
use Rattle.eikonal.specs.Board.{Board, never, largest, size, slowness, start_time, arrival, met, time, cut}
use Rattle.eikonal.specs.Sides.{sides_seen, sides_from}
use Rattle.eikonal.specs.Ledger.{Sheet, sheet}
use Rattle.eikonal.specs.Promise.{QuickerNoLater}
use Rattle.eikonal.specs.Inner.Good.{Good, Known}
use Rattle.eikonal.specs.Inner.Clip.{clip}
use Rattle.eikonal.specs.Inner.Sides.{sides_by, found}
use Rattle.eikonal.proofs.Levels.{order, lower, Agree}
use Rattle.eikonal.proofs.Local.{earlier-min, earlier-agree}
use Rattle.eikonal.proofs.Clip.{Clipped, kept, lost, clipped, clip-agree, cut-time}
use Rattle.eikonal.proofs.Lattices.{Look, Sound}
use Rattle.eikonal.proofs.Rule.{row_of, column_of, weights, lattice, arrival-is, arrival-agree}
use Rattle.eikonal.proofs.Walls.{passable, wall}
use Rattle.eikonal.proofs.Passes.{rule, rule-on, rule-off, solved_by, solved_fixed}
use Rattle.eikonal.proofs.CutRule.{cut-meets}
use Rattle.eikonal.proofs.Sides.{seen-agree, sides-found}
use Rattle.eikonal.proofs.Promises.{quicker_no_later}
use Rattle.late_ground.specs.LateGround.{Late, Early, NoLower, retouched, Raised, DifferLate, SameEarly}

-- ---- ONE CELL. A slowness that is no lower makes its cell no quicker; by `omega`, so that a statement that allows a lower one fails at numbers
quicker : (g h x y : ℕ) → g ≤ x → h ≤ y → (y * (g * h) ≤ h * (x * y)) × (x * (g * h) ≤ g * (x * y))
quicker g h x y p q =
    let i = mul-le-mul_left (y * h) p in
    let j = mul-le-mul_left (x * g) q in
    (omega (arith, i), omega (arith, j))

module _ (b : Board) (ss : List ℕ) (gb : Good b) where
  abbrev second : Board
  second = retouched b ss

  no_slower : (c : ℕ) → NoLower (slowness b c) (slowness second c) → NoSlower (weights b c) (weights second c)
  unfolding Quicker
  no_slower c (inl z) = inl (wall (slowness second c) z)
  no_slower c (inr (n, p, q)) =
      let r = quicker (row_of b c) (column_of b c) (row_of second c) (column_of second c) (omega (arith, p)) (omega (arith, q)) in
      inr (passable (slowness b c) (gb.pairs c) n, (r.0, (r.1, r.1)))

  -- so its answer is no earlier
  no_earlier : Good second → (c : ℕ) (f : ℕ → ℕ) → NoLower (slowness b c) (slowness second c) → min never (arrival b c f) ≤ arrival second c f
  unfolding QuickerNoLater
  no_earlier gd c f h = rw (arrival-is gb c f, arrival-is gd c f) (quicker_no_later (lattice gb) (lattice gd) c f refl (no_slower c h))

  -- one that is the same leaves it as it was
  alike : (c : ℕ) (f : ℕ → ℕ) → slowness b c ≡ slowness second c → arrival b c f ≡ arrival second c f
  unfolding arrival
  alike c f e = rw e

-- ---- STATES, each as its cells see it. A cell is as it was, or not before the level and no lower
abbrev pub AsWas : Board → (slow : List ℕ) → (level : ℕ) → (times : ℕ → ℕ) → (c : ℕ) → Type 0
AsWas b ss u f c =
    (slowness b c ≡ slowness (retouched b ss) c) ⊎ ((u ≤ f c) × NoLower (slowness b c) (slowness (retouched b ss) c))

-- up to a level both boards' cells see alike what is alike
abbrev pub SeeAlike : (level : ℕ) → (k l : Look) → Type 0
SeeAlike u k l = (v : ℕ) → v ≤ u → (f g : ℕ → ℕ) → Agree v f g → (c : ℕ) → Agree v (k f c) (l g c)

-- an answer a that is not before the level, an answer x that is no earlier than a, and one that agrees with x
late-answer : (u a x y : ℕ) → u ≤ never → u ≤ a → min never a ≤ x → min u x ≡ min u y → min u a ≡ min u y
late-answer u a x y n h l e = omega arith

module _ (b : Board) (ss : List ℕ) (gb : Good b) (gd : Good (retouched b ss)) (k l : Look) (level : ℕ) (top : level ≤ never)
    (f g : ℕ → ℕ) (first : (c : ℕ) → f c ≡ rule b k f c) (other : (c : ℕ) → g c ≡ rule (retouched b ss) l g c)
    (was : (c : ℕ) → AsWas b ss level f c) (see : SeeAlike level k l) where
  -- what a cell is given: by the same rule where its ground is the same, else neither answer is before the level
  given : (u c : ℕ) → u < level → c < size b → Agree u (k f c) (l g c)
      → min (suc u) (arrival b c (k f c)) ≡ min (suc u) (arrival (retouched b ss) c (l g c))
  unfolding size met
  given u c i on a = go (was c)
    where
      go : AsWas b ss level f c → min (suc u) (arrival b c (k f c)) ≡ min (suc u) (arrival (retouched b ss) c (l g c))
      go (inl e) = rw (← alike b ss gb c (l g c) e) (arrival-agree gb c on (k f c) (l g c) u (omega arith) (λ x h n. a x))
      go (inr (late, low)) =
          let is = first c ∙ rule-on b k f c on ∙ earlier-min _ _ in
          late-answer (suc u) _ _ _ (omega arith) (omega (arith, is)) (no_earlier b ss gb gd c (k f c) low)
          (arrival-agree gd c on (k f c) (l g c) u (omega arith) (λ x h n. a x))

  pub states_agree : (u : ℕ) → u ≤ level → Agree u f g
  unfolding size met
  states_agree zero i c = omega arith
  states_agree (suc u) i c = go (order c (size b)) (states_agree u (omega arith))
    where
      go : (c < size b) ⊎ (size b ≤ c) → Agree u f g → min (suc u) (f c) ≡ min (suc u) (g c)
      go (inl on) a =
          rw (first c ∙ rule-on b k f c on, other c ∙ rule-on (retouched b ss) l g c on)
          (earlier-agree (suc u) _ _ _ _ refl (given u c i on (see u (omega arith) f g a c)))
      go (inr off) a = rw (first c ∙ rule-off b k f c off, other c ∙ rule-off (retouched b ss) l g c off)

-- ---- SHEETS: the states that boards come to, cut at a bound, and the sides found from them
abbrev pub sheet_by : Board → Look → (bound : ℕ) → Sheet
sheet_by b k m = let ts = cut m (solved_by b k) in sheet ts (sides_from (size b) 0 b m (λ c. λ e. k (λ x. time ts x) c e))

-- sides by a cell's time
sheet-sides : (b : Board) (g : Good b) (k : Look) → Sound k → (m : ℕ) → m ≤ largest → (c : ℕ) → c < size b
    → let ts = cut m (solved_by b k) in get_or (sheet_by b k m).sides c 0 ≡ found b m c (k (time ts) c) (time ts c)
sheet-sides b g k sound m low c on =
    sides-found b m low _ c _ on (cut-meets b k sound g m (omega arith) c ∙ ap (clip m) (rule-on b k _ c on))

-- they rest on what is seen before it, so not on the ground
found_alike : (b : Board) (ss : List ℕ) → Good b → (m c t : ℕ) → c < size b → (f g : ℕ → ℕ) → Agree t f g
    → found (retouched b ss) m c g t ≡ found b m c f t
unfolding found sides_by sides_seen
found_alike b ss gb m c t on f g a =
    ap (λ (x : ℕ). cond (eqb t (start_time c b.starts)) 0 (cond (leb t m) x 0)) (sym (seen-agree gb c on t f g (λ e h n. a e)))

-- times cut at a bound are not past it
up_to : (m h : ℕ) (ts : List ℕ) (c : ℕ) → m ≤ h → h ≤ largest → Known h (time (cut m ts) c)
up_to m h ts c i l = rw (cut-time m ts c (omega arith)) (go (clipped m (time ts c)))
  where
    go : Clipped m (time ts c) → Known h (clip m (time ts c))
    go (kept j e) = inr (omega arith)
    go (lost j e) = inl e

-- THE LEVEL below which two sheets agree: T, or just past the horizon where that is lower, since no time of theirs is past it
abbrev pub level : (T horizon : ℕ) → ℕ
level T h = min T (suc h)

before-level : (T h x : ℕ) → Known h x → Early T x → x < level T h
before-level T h x (inl z) e = absurd (e.1 z)
before-level T h x (inr i) e = omega (arith, e.0)

still-late : (T h x y : ℕ) → h ≤ largest → Known h y → Late T x → min (level T h) x ≡ min (level T h) y → Late T y
still-late T h x y l (inl z) e a = inr z
still-late T h x y l (inr i) (inl e) a = inl (omega arith)
still-late T h x y l (inr i) (inr e) a = inl (omega arith)

module _ (b : Board) (ss : List ℕ) (gb : Good b) (gd : Good (retouched b ss)) (k l : Look) (sound : Sound k) (other : Sound l) (T h : ℕ) (far : h ≤ largest)
    (was : (c : ℕ) → AsWas b ss (level T h) (time (solved_by b k)) c) (see : SeeAlike (level T h) k l) (m : ℕ) (low : m ≤ h) where
  abbrev left : Sheet
  left = sheet_by b k m

  abbrev right : Sheet
  right = sheet_by (retouched b ss) l m

  pub sheets_agree : Agree (level T h) (time left.times) (time right.times)
  sheets_agree c =
      rw (cut-time m (solved_by b k) c (omega arith), cut-time m (solved_by (retouched b ss) l) c (omega arith))
      (clip-agree m (level T h) _ _ (omega arith)
      (states_agree b ss gb gd k l (level T h) (omega arith) _ _ (solved_fixed b k gb sound) (solved_fixed (retouched b ss) l gd other) was see
      (level T h) (omega arith) c))

  same-time : (c : ℕ) → time left.times c < level T h → time right.times c ≡ time left.times c
  same-time c early = omega (arith, sheets_agree c)

  same-side : (c : ℕ) → c < size b → time left.times c < level T h → get_or right.sides c 0 ≡ get_or left.sides c 0
  unfolding size
  same-side c on early =
      let seen : Agree (time left.times c) (k (time left.times) c) (l (time right.times) c) =
      λ e. lower (omega arith) _ _ (see (level T h) (omega arith) _ _ sheets_agree c e) in
      sheet-sides (retouched b ss) gd l other m (omega arith) c on
      ∙ ap (found (retouched b ss) m c (l (time right.times) c)) (same-time c early)
      ∙ found_alike b ss gb m c (time left.times c) on _ _ seen
      ∙ sym (sheet-sides b gb k sound m (omega arith) c on)

  pub sheets_early : SameEarly (size b) T left right
  sheets_early =
      let before : (c : ℕ) → Early T (time left.times c) → time left.times c < level T h =
      λ c e. before-level T h _ (up_to m h (solved_by b k) c low far) e in
      record {
        same_times = λ c on e. same-time c (before c e);
        same_sides = λ c on e. same-side c on (before c e);
        others_late = λ c on e. still-late T h _ _ far (up_to m h (solved_by (retouched b ss) l) c low far) e (sheets_agree c);
      }

-- ---- A CELL THAT DIFFERS is not before the level: by times cut at the horizon, and by stored times as they count
pub uncut : (T h x : ℕ) → h ≤ largest → Late T (clip h x) → level T h ≤ x
uncut T h x low late = go (clipped h x) late
  where
    go : Clipped h x → Late T (clip h x) → level T h ≤ x
    go (lost i e) l = omega arith
    go (kept i e) (inl l) = omega arith
    go (kept i e) (inr l) = absurd (omega arith)

-- off the board both are walls
off-board : {b : Board} → Good b → (c : ℕ) → size b ≤ c → slowness b c ≡ 0
unfolding slowness
off-board {b} g c h = get_or-eq_default b.slow 0 (omega (arith, g.slow_length))

module _ (b : Board) (ss : List ℕ) (gb : Good b) (gd : Good (retouched b ss)) (raised : Raised b ss) (T u : ℕ) (f g : ℕ → ℕ)
    (high : (c : ℕ) → Late T (f c) → u ≤ g c) (late : DifferLate b ss T f) where
  -- by `omega`, so that a premise that comes a tick too early fails at numbers
  not-before : (c : ℕ) → c < size b → slowness b c ≢ slowness (retouched b ss) c → u ≤ g c
  not-before c on n = elim (late c on n) [
    | inl l ↦ high c (inl (omega (arith, l)))
    | inr e ↦ high c (inr (omega (arith, e)))
  ]

  pub as_was : (c : ℕ) → AsWas b ss u g c
  unfolding size
  as_was c = go (order c (size b)) (eqb (slowness b c) (slowness (retouched b ss) c)) refl
    where
      go : (c < size b) ⊎ (size b ≤ c) → (p : Bool) → eqb (slowness b c) (slowness (retouched b ss) c) ≡ p → AsWas b ss u g c
      go i true e = inl (eqb-true _ _ e)
      go (inl on) false e = inr (not-before c on (eqb-false _ _ e), raised c on)
      go (inr off) false e = inl (off-board gb c off ∙ sym (off-board gd c off))
