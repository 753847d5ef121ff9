-- A rule for some cells alone, those from lo on and below hi: where only they hear, what is so of the rule is so of it.
use Rattle.std.proofs.Common.{◌≡◌, ℕ, suc, ◌<◌, ◌≤◌, min, Bool, true, false, cond, ◌&&◌, ltb, leb, ◌⊎◌, List, sym, refl, ◌∙◌, subst, inl, inr, ⊎_elim}
use Rattle.std.proofs.Common.{arith, le-ltb, lt-ltb, le-leb}
use borrow.Author.Tests.{lt-leb}
use Rattle.eikonal.specs.Board.{never}
use Rattle.eikonal.proofs.Levels.{order}
use Rattle.front.specs.Front.{Among, NotAmong, among, Out, Drop}
use Rattle.front.specs.Board.{tentative, Work, keys}
use Rattle.front.specs.State.{Touched, stays, drops, Told, all, next}
use Rattle.front.proofs.Theory.Front.{Lawful}

-- a cell is one of them or none
pub which : (lo hi c : ℕ) → Among lo hi c ⊎ NotAmong lo hi c
which lo hi c = go (order c lo) (order c hi)
  where
    go : (c < lo) ⊎ (lo ≤ c) → (c < hi) ⊎ (hi ≤ c) → Among lo hi c ⊎ NotAmong lo hi c
    go (inl a) q = inr (λ i. omega arith)
    go (inr a) (inl b) = inl (a, b)
    go (inr a) (inr b) = inr (λ i. omega arith)

module _ (lo hi : ℕ) (L : ℕ → (ℕ → ℕ) → ℕ) where
  pub among_in : (c : ℕ) → Among lo hi c → (f : ℕ → ℕ) → among lo hi L c f ≡ L c f
  unfolding among
  among_in c i f = rw (le-leb lo c i.0, lt-ltb c hi i.1)

  pub among-out : (c : ℕ) → NotAmong lo hi c → (f : ℕ → ℕ) → among lo hi L c f ≡ never
  unfolding among
  among-out c o f = go (order c lo) (order c hi)
    where
      late : (p : Bool) → cond (p && false) (L c f) never ≡ never
      late true = refl
      late false = refl

      go : (c < lo) ⊎ (lo ≤ c) → (c < hi) ⊎ (hi ≤ c) → cond (leb lo c && ltb c hi) (L c f) never ≡ never
      go (inl a) q = rw (lt-leb lo c a)
      go (inr a) (inl b) = absurd (o (a, b))
      go (inr a) (inr b) = rw (le-ltb c hi b) (late (leb lo c))

  -- two rules' values that are alike among them are alike
  alike : (P : ℕ → ℕ → Type 0) → P never never → (c : ℕ) (f g : ℕ → ℕ) → P (L c f) (L c g) → P (among lo hi L c f) (among lo hi L c g)
  alike P none c f g some = ⊎_elim
      (λ i. rw (among_in c i f, among_in c i g) some)
      (λ o. rw (among-out c o f, among-out c o g) none)
      (which lo hi c)

  pub among_lawful : {n : ℕ} → Lawful n L → Lawful n (among lo hi L)
  among_lawful law = record {
    mono = λ c l f g h. alike (λ x y. x ≤ y) (omega arith) c f g (law.mono c l f g h);
    causal = λ t c i l f g h. alike (λ x y. min (suc t) x ≡ min (suc t) y) refl c f g (law.causal t c i l f g h);
  }

  pub among_same : (c : ℕ) (f g : ℕ → ℕ) → L c f ≡ L c g → among lo hi L c f ≡ among lo hi L c g
  among_same = alike (λ x y. x ≡ y) refl

  -- none but them hear
  module _ {n t : ℕ} where
    touched_among : {e : ℕ} {v u : Work} → Among lo hi e → Touched n L t e v u → Touched n (among lo hi L) t e v u
    touched_among {e} {v} i (stays q h) = stays q (λ l. rw (among_in e i (tentative v.list n)) (h l))
    touched_among {e} {v} {u} i (drops d) = drops (record {
      late = d.late;
      drop = subst (λ x. Drop n e x (tentative v.list n) (keys v) (tentative u.list n) (keys u)) (sym (among_in e i (tentative v.list n))) d.drop;
      long = d.long;
      heap = d.heap;
      rest = d.rest;
    })

    -- one that is no cell does not hear
    touched_none : {e : ℕ} {v u : Work} → n ≤ e → Touched n L t e v u → Touched n (among lo hi L) t e v u
    touched_none l (stays q h) = stays q (λ k. absurd (omega arith))
    touched_none l (drops d) = absurd (omega (arith, d.drop.cell))

    pub told-among : {es : List ℕ} {v v' : Work} → ((d : ℕ) → d < n → NotAmong lo hi d → Out d es) → Told n L t es v v'
        → Told n (among lo hi L) t es v v'
    told-among o (all v) = all v
    told-among o (next e es v u v' h ts) = next e es v u v' (go (order e n)) (told-among (λ d l q. (o d l q).1) ts)
      where
        go : (e < n) ⊎ (n ≤ e) → Touched n (among lo hi L) t e v u
        go (inl l) = ⊎_elim (λ i. touched_among i h) (λ q. absurd ((o e l q).0 refl)) (which lo hi e)
        go (inr l) = touched_none l h

    -- and no other cell's key changes
    pub told-within : {es : List ℕ} {v v' : Work} → Told n L t es v v' → (d : ℕ) → d < n → Out d es → keys v' d ≡ keys v d
    told-within (all v) d l o = refl
    told-within (next e es v u v' h ts) d l o = told-within ts d l o.1 ∙ one h
      where
        one : Touched n L t e v u → keys u d ≡ keys v d
        one (stays q z) = rw q
        one (drops x) = x.drop.keys d l o.0
