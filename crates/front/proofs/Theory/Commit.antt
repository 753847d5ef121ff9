-- The commit of a round: stored times fall to the tentative times of the noted cells, and cells of other tiles hear of them one noted cell after the other.
-- Code reads all new stored times at once; the invariant brings them in one by one: a ghost exchange, ghost by ghost.
use Rattle.std.proofs.Common.{◌≡◌, ℕ, zero, suc, ◌<◌, ◌≤◌, min, Bool, true, false, cond, ◌||◌, eqb, ltb, ◌≢◌, List, sym, refl, ap, ◌∙◌, subst, arith}
use Rattle.std.proofs.Common.{ltb-false, ltb-true, le-ltb, eq-eqb, ne_eqb}
use native.Mathlib.Decide.{ℕ_discrete}
use Rattle.eikonal.specs.Board.{Board, never, largest, size, slowness, time}
use Rattle.eikonal.specs.Tiles.{tile_of, counts_as}
use Rattle.eikonal.specs.Promise.{Neighbour}
use Rattle.eikonal.specs.Inner.Good.{Good}
use Rattle.front.specs.Front.{ghosted, gives, heard, Settled, Midway, Upheld}
use Rattle.front.proofs.Theory.Sight.{gives-mono, gives-causal, gives_same}
use Rattle.front.specs.Board.{rule_by}

-- what a stored time counts as
unfoldable ghost_of : Board → (e t : ℕ) → ℕ
ghost_of b e t = cond (eqb (slowness b e) 0 || ltb largest t) never t

ghost-is : (b : Board) (ts : List ℕ) (e : ℕ) → counts_as b ts e ≡ ghost_of b e (time ts e)
unfolding counts_as ghost_of
ghost-is b ts e = refl

-- a stored time that falls: its ghost falls, and agrees up to the new time
ghost_falls : (b : Board) (e t u : ℕ) → t ≤ u → ghost_of b e t ≤ ghost_of b e u
unfolding ghost_of
ghost_falls b e t u l = go (eqb (slowness b e) 0) (ltb largest t) refl (ltb largest u) refl
  where
    go : (p q : Bool) → ltb largest t ≡ q → (r : Bool) → ltb largest u ≡ r → cond (p || q) never t ≤ cond (p || r) never u
    go true q f r h = omega arith
    go false true f true h = omega arith
    go false true f false h = absurd (omega (arith, ltb-true largest t f, ltb-false largest u h))
    go false false f true h = omega (arith, ltb-false largest t f)
    go false false f false h = l

ghost_agrees : (b : Board) (e t u : ℕ) → t ≤ u → t ≤ largest → min t (ghost_of b e u) ≡ min t (ghost_of b e t)
unfolding ghost_of
ghost_agrees b e t u l m = rw (le-ltb largest t m) (go (eqb (slowness b e) 0) (ltb largest u))
  where
    go : (p q : Bool) → min t (cond (p || q) never u) ≡ min t (cond (p || false) never t)
    go true q = refl
    go false true = omega arith
    go false false = omega arith

-- d does not see c as a ghost
abbrev pub NoGhost : Board → (tw th c d : ℕ) → Type 0
NoGhost b tw th c d = Neighbour b d c → tile_of b tw th d ≡ tile_of b tw th c

-- ---- stored times of which the first i noted ones are new
unfoldable pub part_new : Board → (ts us : List ℕ) → (note : ℕ → ℕ) → (i d e : ℕ) → ℕ
part_new b ts us note zero d e = counts_as b ts e
part_new b ts us note (suc i) d e = cond (eqb e (note i)) (counts_as b us e) (part_new b ts us note i d e)

module _ (b : Board) (ts us : List ℕ) (note : ℕ → ℕ) where
  data Part (i d e : ℕ) : Type 0 where
    fresh : part_new b ts us note i d e ≡ counts_as b us e → Part i d e
    stale : part_new b ts us note i d e ≡ counts_as b ts e → ((j : ℕ) → j < i → note j ≢ e) → Part i d e

  part : (i d e : ℕ) → Part i d e
  unfolding part_new
  part zero d e = stale refl (λ j l. absurd (omega arith))
  part (suc i) d e = elim (ℕ_discrete e (note i)) [
    | yes q ↦ fresh (rw (eq-eqb e (note i) q))
    | no q ↦ go q (part i d e)
  ]
    where
      go : e ≢ note i → Part i d e → Part (suc i) d e
      go q (fresh p) = fresh (rw (ne_eqb e (note i) q) p)
      go q (stale p f) = stale (rw (ne_eqb e (note i) q) p) (λ j l. elim (ℕ_discrete j i) [ yes z ↦ (λ w. q (sym w ∙ ap note z)) | no z ↦ f j (omega arith) ])

module _ {b : Board} (good : Good b) (tw th : ℕ) where
  -- ONE NOTED CELL: its ghost falls to t. Cells that are apart from it keep what they have, the others keep it up to t
  announced : (g g' : ℕ → ℕ → ℕ) (c t : ℕ) (y k : ℕ → ℕ) → t < never → ((d e : ℕ) → e ≢ c → g' d e ≡ g d e)
      → ((d : ℕ) → min t (g d c) ≡ min t (g' d c)) → Settled (size b) (gives b tw th g) y k → Midway (size b) (gives b tw th g') t (NoGhost b tw th c) y k
  announced g g' c t y k i same low se = record {
    weak = λ d l. omega (arith, se d l, gives-causal good tw th g g' t d i l (heard y k) (heard y k) (λ e m. refl) (λ e m. agree d e));
    settled = λ d l a. subst (λ u. y d ≤ u) (gives_same good tw th g g' d l (heard y k) (heard y k) (λ e m n. alike d e n a)) (se d l);
  }
    where
      agree : (d e : ℕ) → min t (g d e) ≡ min t (g' d e)
      agree d e = elim (ℕ_discrete e c) [
        | yes q ↦ subst (λ u. min t (g d u) ≡ min t (g' d u)) (sym q) (low d)
        | no q ↦ ap (min t) (sym (same d e q))
      ]

      own : (d e : ℕ) → tile_of b tw th d ≡ tile_of b tw th e → ghosted b tw th g (heard y k) d e ≡ ghosted b tw th g' (heard y k) d e
      own d e q = rw (eq-eqb (tile_of b tw th d) (tile_of b tw th e) q)

      alike : (d e : ℕ) → Neighbour b d e → NoGhost b tw th c d → ghosted b tw th g (heard y k) d e ≡ ghosted b tw th g' (heard y k) d e
      alike d e n a = elim (ℕ_discrete e c) [
        | yes q ↦ own d e (a (subst (λ u. Neighbour b d u) q n) ∙ ap (tile_of b tw th) (sym q))
        | no q ↦ ap (cond (eqb (tile_of b tw th d) (tile_of b tw th e)) (heard y k e)) (sym (same d e q))
      ]

  -- ---- all noted cells in turn
  module _ (ts us : List ℕ) (m : ℕ) (note : ℕ → ℕ)
      (falls : (e : ℕ) → e < size b → time us e ≤ time ts e)
      (new : (i : ℕ) → i < m → time us (note i) ≤ largest)
      (old : (c : ℕ) → c < size b → ((i : ℕ) → i < m → note i ≢ c) → time us c ≡ time ts c) where
    -- none is earlier than the new one
    part_falls : (i d e : ℕ) → e < size b → counts_as b us e ≤ part_new b ts us note i d e
    part_falls i d e l = go (part b ts us note i d e)
      where
        go : Part b ts us note i d e → counts_as b us e ≤ part_new b ts us note i d e
        go (fresh p) = omega arith
        go (stale p f) = omega (arith, ghost_falls b e (time us e) (time ts e) (falls e l), ghost-is b us e, ghost-is b ts e)

    -- so the rule with all new times gives no later ones
    pub new_under : (i c : ℕ) → c < size b → (f : ℕ → ℕ) → rule_by b tw th us c f ≤ gives b tw th (part_new b ts us note i) c f
    new_under i c l f = gives-mono good tw th (λ d e. counts_as b us e) (part_new b ts us note i) c l f f (λ e m. omega arith) (λ e m. part_falls i c e m)

    -- the next noted cell is announced
    pub announce_next : (i : ℕ) → i < m → note i < size b → (y k : ℕ → ℕ) → Settled (size b) (gives b tw th (part_new b ts us note i)) y k
        → Midway (size b) (gives b tw th (part_new b ts us note (suc i))) (time us (note i)) (NoGhost b tw th (note i)) y k
    unfolding part_new
    announce_next i l on y k se =
        announced (part_new b ts us note i) (part_new b ts us note (suc i)) (note i) (time us (note i)) y k (omega (arith, new i l))
        (λ d e q. rw (ne_eqb e (note i) q)) low se
      where
        now_new : (d : ℕ) → part_new b ts us note (suc i) d (note i) ≡ counts_as b us (note i)
        now_new d = rw (eq-eqb (note i) (note i) refl)

        low : (d : ℕ) → min (time us (note i)) (part_new b ts us note i d (note i)) ≡ min (time us (note i)) (part_new b ts us note (suc i) d (note i))
        low d = rw (now_new d) (go (part b ts us note i d (note i)))
          where
            go : Part b ts us note i d (note i) → min (time us (note i)) (part_new b ts us note i d (note i)) ≡ min (time us (note i)) (counts_as b us (note i))
            go (fresh p) = ap (min (time us (note i))) p
            go (stale p f) =
                ap (min (time us (note i))) (p ∙ ghost-is b ts (note i))
                ∙ ghost_agrees b (note i) (time us (note i)) (time ts (note i)) (falls (note i) on) (new i l)
                ∙ ap (min (time us (note i))) (sym (ghost-is b us (note i)))

    -- at the end all are
    pub all_new : (y k : ℕ → ℕ) → Settled (size b) (gives b tw th (part_new b ts us note m)) y k → Settled (size b) (rule_by b tw th us) y k
    all_new y k se c l =
        subst (λ u. y c ≤ u)
        (gives_same good tw th (part_new b ts us note m) (λ d e. counts_as b us e) c l (heard y k) (heard y k)
        (λ e on n. ap (cond (eqb (tile_of b tw th c) (tile_of b tw th e)) (heard y k e)) (same e on (part b ts us note m c e))))
        (se c l)
      where
        same : (e : ℕ) → e < size b → Part b ts us note m c e → part_new b ts us note m c e ≡ counts_as b us e
        same e on (fresh p) = p
        same e on (stale p f) = p ∙ ghost-is b ts e ∙ ap (ghost_of b e) (sym (old e on f)) ∙ sym (ghost-is b us e)

    -- at the beginning none is
    pub none-new : (y k : ℕ → ℕ) → Settled (size b) (rule_by b tw th ts) y k → Settled (size b) (gives b tw th (part_new b ts us note 0)) y k
    unfolding part_new
    none-new y k se = se

    pub upheld-new : (start y : ℕ → ℕ) → Upheld (size b) (rule_by b tw th ts) start y → Upheld (size b) (rule_by b tw th us) start y
    unfolding part_new
    upheld-new start y up = record { started = up.started; upper = λ c l. omega (arith, up.upper c l, new_under 0 c l y) }
