-- On a lattice of any number of axes the rule is causal and monotone, and goes by a cell's neighbours alone; so exactly one set of times fits.
use mathlib.Core.Path.{◌≡◌, refl, sym, ap, ap₂, ◌∙◌, fun_ext}
use mathlib.Core.Bool.{cond}
use mathlib.Core.List.{List, [], ◌∷◌}
use mathlib.Core.Logic.{◌⊎◌, inl, inr, ◌≢◌}
use Prim.Native.Nat.{ℕ, zero, suc, ◌+◌, ◌≤◌, ◌<◌, min}
use native.Mathlib.Omega.{arith}
use lib.Dec.{ltb}
use borrow.Author.Tests.{lt-ltb, le-ltb}
use Rattle.eikonal.specs.Axes.{never, earlier, Axis, sight, sights, Next, Near, Spans, AllSpan, none, also, earliest, Lattice, given_on, met_on}
use Rattle.eikonal.specs.Promise.{EarlierNoLater, OneSet, Fits}
use Rattle.eikonal.proofs.Levels.{order, Agree, Under, Causal, Monotone, worked, count_most, one_fixed, reached-limit}
use Rattle.eikonal.proofs.Axes.{axes-under, axes-agree, axes-late, axes-step, AnswersAxes, axes-answers}
use Rattle.eikonal.proofs.Local.{earlier-min, earlier-agree, earlier-under}
use Rattle.eikonal.proofs.Grid.{before-by, behind-by, near-here, near-there}

-- a relation of times that the earlier of two keeps
abbrev pub Kept : (ℕ → ℕ → Type 0) → Type 0
Kept P = (P never never) × ((a b x y : ℕ) → P a x → P b y → P (earlier a b) (earlier x y))

module _ (P : ℕ → ℕ → Type 0) (kept : Kept P) where
  sight-by : {n : ℕ} {a : Axis} → Spans n a → (c : ℕ) → c < n → (f g : ℕ → ℕ) → ((e : ℕ) → e < n → Next a c e ⊎ Next a e c → P (f e) (g e))
      → P (sight a c f) (sight a c g)
  unfolding sight
  sight-by sp c on f g h = kept.1 _ _ _ _ (before-by sp P kept.0 c on f g h) (behind-by sp P kept.0 c on f g h)

  -- what holds of a cell's neighbours holds of what it sees along each axis
  pub sights-by : {n : ℕ} (xs : List Axis) → AllSpan n xs → (c : ℕ) → c < n → (f g : ℕ → ℕ) → ((e : ℕ) → e < n → Near xs c e → P (f e) (g e))
      → (i : ℕ) → P (sights xs c f i) (sights xs c g i)
  sights-by [] none c on f g h i = kept.0
  sights-by (a ∷ xs) (also s sp) c on f g h zero = sight-by s c on f g (λ e l k. h e l (near-here k))
  sights-by (a ∷ xs) (also s sp) c on f g h (suc i) = sights-by xs sp c on f g (λ e l k. h e l (near-there k)) i

module _ (l : Lattice) (c : ℕ) (on : c < l.cells) (f g : ℕ → ℕ) where
  -- CAUSAL
  pub given-agree : (t : ℕ) → t < never → ((e : ℕ) → e < l.cells → Near l.axes c e → min t (f e) ≡ min t (g e))
      → min (suc t) (given_on l c f) ≡ min (suc t) (given_on l c g)
  unfolding given_on
  given-agree t h a =
      axes-agree _ _ _ _ (l.weights c).enough _ _ t h (sights-by (λ x y. min t x ≡ min t y) (refl, earlier-agree t) l.axes l.spans c on f g a)

  -- MONOTONE
  pub given-under : ((e : ℕ) → e < l.cells → Near l.axes c e → min never (f e) ≤ g e) → min never (given_on l c f) ≤ given_on l c g
  unfolding given_on
  given-under a =
      axes-under _ _ _ _ (l.weights c).enough _ _
      (sights-by (λ x y. min never x ≤ y) (omega arith, earlier-under never) l.axes l.spans c on f g a)

  -- and by the neighbours alone
  pub given-same : ((e : ℕ) → e < l.cells → Near l.axes c e → f e ≡ g e) → given_on l c f ≡ given_on l c g
  unfolding given_on
  given-same a =
      let same = fun_ext (sights-by (λ x y. x ≡ y) (refl, λ a b x y p q. ap₂ earlier p q) l.axes l.spans c on f g a) in
      rw same

pub earlier_no_later : EarlierNoLater
unfolding EarlierNoLater
earlier_no_later l c f g on a = given-under l c on f g a

-- ---- what a cell is given: never, or a time past the earliest that it sees, by a straight step at the most
abbrev pub first_seen : (l : Lattice) → (c : ℕ) → (seen : ℕ → ℕ) → ℕ
first_seen l c f = earliest (l.weights c).others (sights l.axes c f)

pub data Given (l : Lattice) (c : ℕ) (f : ℕ → ℕ) : Type 0 where
  stays : ((l.weights c).due ≡ 0) ⊎ (first_seen l c f ≡ never) → given_on l c f ≡ never → Given l c f
  comes : 1 ≤ (l.weights c).due → first_seen l c f ≢ never → first_seen l c f < given_on l c f
      → given_on l c f ≤ first_seen l c f + (l.weights c).far → Given l c f

pub is-given : (l : Lattice) (c : ℕ) (f : ℕ → ℕ) → Given l c f
unfolding given_on
is-given l c f = go (axes-answers _ _ _ _ (l.weights c).enough (sights l.axes c f))
  where
    go : AnswersAxes _ _ _ _ (l.weights c).enough (sights l.axes c f) → Given l c f
    go (AnswersAxes.stays z e) = stays z e
    go (AnswersAxes.comes p n m) =
        comes p n (axes-late _ _ _ _ _ p (m.found (axes-step _ _ _ _ (l.weights c).enough (sights l.axes c f)))) m.high

-- where every time is never, so is all that is seen
all_quiet : (ws : List ℕ) (f : ℕ → ℕ) → ((i : ℕ) → f i ≡ never) → earliest ws f ≡ never
unfolding earliest
all_quiet [] f h = h 0
all_quiet (w ∷ ws) f h = omega (arith, h 0, all_quiet ws (λ i. f (suc i)) (λ i. h (suc i)))

pub nothing_seen : (l : Lattice) (c : ℕ) → c < l.cells → first_seen l c (λ e. never) ≡ never
nothing_seen l c on =
    let quiet : Kept (λ x y. x ≡ never) = (refl, λ a b x y p q. rw (earlier-min a b) (omega arith)) in
    all_quiet (l.weights c).others _ (sights-by (λ x y. x ≡ never) quiet l.axes l.spans c on (λ e. never) (λ e. never) (λ e h n. refl))

-- ---- STATES: what the cells see of one, and what the rule makes of it, never off the lattice
abbrev pub Look : Type 0
Look = (ℕ → ℕ) → (c e : ℕ) → ℕ

-- what is seen rests on the state level by level
pub record Sound (look : Look) : Type 0 where
  pub agree : (t : ℕ) (f g : ℕ → ℕ) → Agree t f g → (c : ℕ) → Agree t (look f c) (look g c)
  pub under : (f g : ℕ → ℕ) → Under never f g → (c : ℕ) → Under never (look f c) (look g c)

-- each cell sees the state as it is
abbrev pub plain : Look
plain f c e = f e

pub plain_sound : Sound plain
plain_sound = record { agree = λ t f g a c. a; under = λ f g a c. a }

unfoldable pub step : Lattice → Look → (ℕ → ℕ) → ℕ → ℕ
step l look f c = cond (ltb c l.cells) (met_on l c (look f c)) never

pub step-on : (l : Lattice) (look : Look) (f : ℕ → ℕ) (c : ℕ) → c < l.cells → step l look f c ≡ met_on l c (look f c)
unfolding step
step-on l look f c h = rw (lt-ltb c l.cells h)

pub step-off : (l : Lattice) (look : Look) (f : ℕ → ℕ) (c : ℕ) → l.cells ≤ c → step l look f c ≡ never
unfolding step
step-off l look f c h = rw (le-ltb c l.cells h)

-- two states of one lattice, each as it is seen
module _ (l : Lattice) (k m : Look) (f g : ℕ → ℕ) (c : ℕ) where
  pub step-agree : (t : ℕ) → t < never → Agree t (k f c) (m g c) → min (suc t) (step l k f c) ≡ min (suc t) (step l m g c)
  unfolding met_on
  step-agree t h a = go (order c l.cells)
    where
      go : (c < l.cells) ⊎ (l.cells ≤ c) → min (suc t) (step l k f c) ≡ min (suc t) (step l m g c)
      go (inl on) =
          rw (step-on l k f c on, step-on l m g c on)
          (earlier-agree (suc t) _ _ _ _ refl (given-agree l c on (k f c) (m g c) t h (λ e i n. a e)))
      go (inr off) = rw (step-off l k f c off, step-off l m g c off)

  pub step-under : Under never (k f c) (m g c) → min never (step l k f c) ≤ step l m g c
  unfolding met_on
  step-under a = go (order c l.cells)
    where
      go : (c < l.cells) ⊎ (l.cells ≤ c) → min never (step l k f c) ≤ step l m g c
      go (inl on) =
          rw (step-on l k f c on, step-on l m g c on)
          (earlier-under never _ _ _ _ (omega arith) (given-under l c on (k f c) (m g c) (λ e i n. a e)))
      go (inr off) = rw (step-off l k f c off, step-off l m g c off) (omega arith)

-- two states that meet the rule, each as it sees, agree as far as what is seen does
pub levels : (l : Lattice) (k m : Look) (f g : ℕ → ℕ) (t : ℕ) → t < never → ((c : ℕ) → f c ≡ step l k f c) → ((c : ℕ) → g c ≡ step l m g c)
    → ((u : ℕ) → u ≤ t → Agree u f g → (c : ℕ) → Agree u (k f c) (m g c)) → (u : ℕ) → u ≤ suc t → Agree u f g
levels l k m f g t h p q see zero i c = omega arith
levels l k m f g t h p q see (suc u) i c =
    ap (min (suc u)) (p c)
    ∙ step-agree l k m f g c u (omega arith) (see u (omega arith) (levels l k m f g t h p q see u (omega arith)) c)
    ∙ sym (ap (min (suc u)) (q c))

-- ---- ONE STATE IS FIXED, and as many steps as there are cells come to it
module _ (l : Lattice) (look : Look) (sound : Sound look) where
  pub step-causal : Causal never (step l look)
  step-causal t f g h a c = step-agree l look look f g c t h (sound.agree t f g a c)

  step_monotone : Monotone never (step l look)
  step_monotone f g a c = step-under l look look f g c (sound.under f g a c)

  step-most : (f : ℕ → ℕ) (c : ℕ) → step l look f c ≤ never
  unfolding met_on
  step-most f c = go (order c l.cells)
    where
      go : (c < l.cells) ⊎ (l.cells ≤ c) → step l look f c ≤ never
      go (inl on) = rw (step-on l look f c on, earlier-min) (omega (arith, l.begins_most c))
      go (inr off) = rw (step-off l look f c off) (omega arith)

  worked-off : (j c : ℕ) → l.cells ≤ c → never ≤ worked never (step l look) j c
  unfolding worked
  worked-off zero c h = omega arith
  worked-off (suc j) c h = omega (arith, step-off l look (worked never (step l look) j) c h)

  worked-most : (j c : ℕ) → worked never (step l look) j c ≤ never
  unfolding worked
  worked-most zero c = omega arith
  worked-most (suc j) c = step-most (worked never (step l look) j) c

  -- after n steps, and after any more, the state is the limit's
  worked-out : (j : ℕ) → l.cells ≤ j → Agree never (worked never (step l look) j) (worked never (step l look) l.cells)
  worked-out j h c =
      reached-limit never (step l look) step-causal step_monotone l.cells j (worked-off never)
      (omega (arith, count_most l.cells never (worked never (step l look) never))) c
      ∙ sym (reached-limit never (step l look) step-causal step_monotone l.cells l.cells (worked-off never)
      (count_most l.cells never (worked never (step l look) never)) c)

  pub worked_fixed : (c : ℕ) → worked never (step l look) l.cells c ≡ step l look (worked never (step l look) l.cells) c
  unfolding worked
  worked_fixed c =
      omega (arith, worked-out (suc l.cells) (omega arith) c, worked-most l.cells c, worked-most (suc l.cells) c)

  pub fixed_only : (f g : ℕ → ℕ) → ((c : ℕ) → f c ≡ step l look f c) → ((c : ℕ) → g c ≡ step l look g c) → (c : ℕ) → f c ≡ g c
  fixed_only f g p q c =
      omega (
        arith,
        one_fixed never (step l look) step-causal f g (λ c. ap (min never) (p c)) (λ c. ap (min never) (q c)) never (omega arith) c,
        p c,
        q c,
        step-most f c,
        step-most g c,
      )

-- a set of times fits just if it is fixed
pub one_set : OneSet
unfolding OneSet
one_set l = record {
  times = worked never (step l plain) l.cells;
  fits = record {
    on = λ c h. worked_fixed l plain plain_sound c ∙ step-on l plain _ c h;
    off = λ c h. worked_fixed l plain plain_sound c ∙ step-off l plain _ c h;
  };
  only = λ f k. fixed_only l plain plain_sound f _ (fixed k) (worked_fixed l plain plain_sound);
}
  where
    fixed : {f : ℕ → ℕ} → Fits l f → (c : ℕ) → f c ≡ step l plain f c
    fixed {f} k c = go (order c l.cells)
      where
        go : (c < l.cells) ⊎ (l.cells ≤ c) → f c ≡ step l plain f c
        go (inl h) = k.on c h ∙ sym (step-on l plain f c h)
        go (inr h) = k.off c h ∙ sym (step-off l plain f c h)
