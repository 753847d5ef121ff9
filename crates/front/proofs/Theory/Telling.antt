-- What telling several cells in turn keeps.
use Rattle.std.proofs.Common.{◌≡◌, ℕ, ◌*◌, ◌<◌, ◌≤◌, ◌≢◌, ◌⊎◌, List, ◌∷◌, length, get_or, sym, refl, ◌∙◌, subst, inl, inr, le_trans, le_of_lt, arith}
use Rattle.eikonal.specs.Board.{never}
use Rattle.eikonal.proofs.Levels.{order}
use Rattle.front.specs.Front.{Out, Midway, Upheld, Drift, weight}
use Rattle.front.specs.Board.{tentative, Work, keys}
use Rattle.front.specs.State.{Held, Touched, stays, drops, Told, all, next}
use Rattle.front.proofs.Theory.Front.{Lawful, drop-tied, drop-weight, skipped, stayed, lowered, rises, upheld}
use Rattle.front.proofs.Theory.Drift.{drift_dropped}

module _ {n : ℕ} {L : ℕ → (ℕ → ℕ) → ℕ} {t : ℕ} where
  -- ---- one cell
  pub touched_held : {e : ℕ} {v v' : Work} → Held n v → Touched n L t e v v' → Held n v'
  touched_held he (stays q h) = subst (λ u. Held n u) (sym q) he
  touched_held he (drops d) = record { room = rw d.long he.room; heap = d.heap; tied = drop-tied he.tied d.drop }

  pub touched_long : {e : ℕ} {v v' : Work} → Touched n L t e v v' → length v'.list ≡ length v.list
  touched_long (stays q h) = rw q
  touched_long (drops d) = d.long

  touched_rest : {e : ℕ} {v v' : Work} → Touched n L t e v v' → (j : ℕ) → 3 * n ≤ j → get_or v'.list j 0 ≡ get_or v.list j 0
  touched_rest (stays q h) j l = rw q
  touched_rest (drops d) j l = d.rest j l

  touched_weight : {e : ℕ} {v v' : Work} → Touched n L t e v v' → weight n (tentative v'.list n) (keys v') ≤ weight n (tentative v.list n) (keys v)
  touched_weight {v = v} (stays q h) = subst (λ u. weight n (tentative u.list n) (keys u) ≤ weight n (tentative v.list n) (keys v)) (sym q) (omega arith)
  touched_weight (drops d) = omega (arith, drop-weight d.drop)

  -- ---- all of them
  pub told-held : {es : List ℕ} {v v' : Work} → Held n v → Told n L t es v v' → Held n v'
  told-held he (all v) = he
  told-held he (next e es v u v' h ts) = told-held (touched_held he h) ts

  pub told-long : {es : List ℕ} {v v' : Work} → Told n L t es v v' → length v'.list ≡ length v.list
  told-long (all v) = refl
  told-long (next e es v u v' h ts) = told-long ts ∙ touched_long h

  pub told-rest : {es : List ℕ} {v v' : Work} → Told n L t es v v' → (j : ℕ) → 3 * n ≤ j → get_or v'.list j 0 ≡ get_or v.list j 0
  told-rest (all v) j l = refl
  told-rest (next e es v u v' h ts) j l = told-rest ts j l ∙ touched_rest h j l

  pub told-weight : {es : List ℕ} {v v' : Work} → Told n L t es v v' → weight n (tentative v'.list n) (keys v') ≤ weight n (tentative v.list n) (keys v)
  told-weight (all v) = omega arith
  told-weight (next e es v u v' h ts) = le_trans (told-weight ts) (touched_weight h)

  module _ (law : Lawful n L) (start : ℕ → ℕ) where
    pub told-upheld : {es : List ℕ} {v v' : Work} → Told n L t es v v' → Upheld n L start (tentative v.list n) → Upheld n L start (tentative v'.list n)
    told-upheld (all v) up = up
    told-upheld (next e es v u v' k ts) up = told-upheld ts (one k)
      where
        one : Touched n L t e v u → Upheld n L start (tentative u.list n)
        one (stays q z) = subst (λ w. Upheld n L start (tentative w.list n)) (sym q) up
        one (drops d) = upheld law d.drop up

  -- by a rule M that gives no earlier times: cells that are told are settled
  module _ {M : ℕ → (ℕ → ℕ) → ℕ} (law : Lawful n M) (under : (e : ℕ) → e < n → (f : ℕ → ℕ) → L e f ≤ M e f) where
    touched_midway : (Clear Clear' : ℕ → Type 0) {e : ℕ} {v v' : Work} → ((d : ℕ) → Clear' d → d ≢ e → Clear d) → Held n v → Touched n L t e v v'
        → Midway n M t Clear (tentative v.list n) (keys v) → Midway n M t Clear' (tentative v'.list n) (keys v')
    touched_midway Clear Clear' {e} {v} cl he (stays q h) mid =
        subst (λ u. Midway n M t Clear' (tentative u.list n) (keys u)) (sym q) (passed (order e n))
      where
        passed : (e < n) ⊎ (n ≤ e) → Midway n M t Clear' (tentative v.list n) (keys v)
        passed (inl l) = go (h l)
          where
            go : (tentative v.list n e ≤ t) ⊎ (tentative v.list n e ≤ L e (tentative v.list n)) → Midway n M t Clear' (tentative v.list n) (keys v)
            go (inl i) = skipped law cl mid (λ _. i)
            go (inr i) = stayed law cl mid (λ k. le_trans i (under e k (tentative v.list n)))
        passed (inr l) = skipped law cl mid (λ k. absurd (omega arith))
    touched_midway Clear Clear' {e} {v} cl he (drops d) mid =
        lowered law cl he.tied d.drop (under e d.drop.cell (tentative v.list n)) mid

    pub told_midway : (Clear : ℕ → Type 0) {es : List ℕ} {v v' : Work} → Held n v → Told n L t es v v'
        → Midway n M t (λ d. Out d es × Clear d) (tentative v.list n) (keys v) → Midway n M t Clear (tentative v'.list n) (keys v')
    told_midway Clear he (all v) mid = record { weak = mid.weak; settled = λ d l c. mid.settled d l (tt, c) }
    told_midway Clear he (next e es v u v' k ts) mid =
        told_midway Clear (touched_held he k) ts
        (touched_midway (λ d. Out d (e ∷ es) × Clear d) (λ d. Out d es × Clear d) (λ d o q. ((q, o.0), o.1)) he k mid)

  -- the round so far, in a drain: what is lowered is later than t, and stays later
  module _ (law : Lawful n L) (i : t < never) where
    pub told-drift : (stored : ℕ → ℕ) (m : ℕ) (note : ℕ → ℕ) (Clear : ℕ → Type 0) {es : List ℕ} {v v' : Work} → Held n v → Told n L t es v v'
        → Midway n L t (λ d. Out d es × Clear d) (tentative v.list n) (keys v)
        → Drift n stored (tentative v.list n) (keys v) t m note → Drift n stored (tentative v'.list n) (keys v') t m note
    told-drift stored m note Clear he (all v) mid dr = dr
    told-drift stored m note Clear he (next e es v u v' k ts) mid dr =
        told-drift stored m note Clear (touched_held he k) ts
        (touched_midway law (λ a b f. omega arith) (λ d. Out d (e ∷ es) × Clear d) (λ d. Out d es × Clear d) (λ d o q. ((q, o.0), o.1)) he k mid)
        (one k)
      where
        one : Touched n L t e v u → Drift n stored (tentative u.list n) (keys u) t m note
        one (stays q z) = subst (λ w. Drift n stored (tentative w.list n) (keys w) t m note) (sym q) dr
        one (drops d) =
            drift_dropped he.tied dr e (L e (tentative v.list n)) (tentative u.list n) (keys u) d.drop d.late
            (le_of_lt (rises law he.tied mid i dr.floor d.drop.cell d.late))

  -- and at a commit, where nothing is taken yet
  pub told_fresh : (stored : ℕ → ℕ) (note : ℕ → ℕ) {es : List ℕ} {v v' : Work} → Held n v → Told n L t es v v'
      → Drift n stored (tentative v.list n) (keys v) 0 0 note → Drift n stored (tentative v'.list n) (keys v') 0 0 note
  told_fresh stored note he (all v) dr = dr
  told_fresh stored note he (next e es v u v' k ts) dr = told_fresh stored note (touched_held he k) ts (one k)
    where
      one : Touched n L t e v u → Drift n stored (tentative u.list n) (keys u) 0 0 note
      one (stays q z) = subst (λ w. Drift n stored (tentative w.list n) (keys w) 0 0 note) (sym q) dr
      one (drops d) =
          drift_dropped he.tied dr e (L e (tentative v.list n)) (tentative u.list n) (keys u) d.drop (omega (arith, d.drop.low)) (omega arith)
