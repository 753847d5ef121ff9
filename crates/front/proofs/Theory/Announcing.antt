-- The end of a round: what storing and announcing leave of the front.
use Rattle.std.proofs.Common.{◌≡◌, ℕ, suc, ◌+◌, ◌*◌, ◌<◌, ◌≤◌, ◌≢◌, List, length, get_or, set, sym, refl, ap, ◌∙◌, subst, add-one, arith}
use Rattle.std.proofs.Common.{get_or-set_other, get_or-set_same}
use native.Mathlib.Decide.{ℕ_discrete}
use Rattle.eikonal.specs.Board.{Board, never, largest, size, time}
use Rattle.eikonal.specs.Inner.Good.{Good}
use Rattle.front.specs.Front.{gives, Settled, Upheld, Drift, Written}
use Rattle.front.specs.Seams.{border, near}
use Rattle.front.specs.Board.{rule_by, tentative, Work, keys}
use Rattle.front.specs.State.{Held, Told, Announced, nobody, also}
use Rattle.front.proofs.Theory.Front.{Lawful}
use Rattle.front.proofs.Theory.Sight.{gives_lawful}
use Rattle.front.proofs.Theory.Seams.{untold_border}
use Rattle.front.proofs.Theory.Commit.{part_new, new_under, announce_next}
use Rattle.front.proofs.Theory.Telling.{told-held, told-long, told-rest, told-upheld, told_midway, told_fresh}

-- ---- one more stored time
pub one-stored : {n : ℕ} {stored : ℕ → ℕ} (us : List ℕ) {y note : ℕ → ℕ} {i : ℕ} → length us ≡ n → note i < n → Written n stored y (time us) i note
    → Written n stored y (time (set us (note i) (y (note i)))) (suc i) note
unfolding time
one-stored us {y} {note} {i} l on wr = record {
  new = λ j h. elim (ℕ_discrete (note j) (note i)) [
    | yes q ↦ subst (λ u. get_or (set us (note i) (y (note i))) u never ≡ y u) (sym q) (get_or-set_same us (note i) (y (note i)) never (omega arith))
    | no q ↦ get_or-set_other us (note i) (note j) (y (note i)) never q ∙ wr.new j (below j h q)
  ];
  old = λ c m o. get_or-set_other us (note i) c (y (note i)) never (λ q. o i (omega arith) (sym q)) ∙ wr.old c m (λ j h. o j (omega arith));
}
  where
    below : (j : ℕ) → j < suc i → note j ≢ note i → j < i
    below j h q = elim (ℕ_discrete j i) [ yes z ↦ absurd (q (ap note z)) | no z ↦ omega arith ]

module _ {n : ℕ} {L : ℕ → (ℕ → ℕ) → ℕ} {stored note : ℕ → ℕ} {es : ℕ → List ℕ} where
  pub announced_held : {i : ℕ} {v v' : Work} → Held n v → Announced n L stored note es i v v' → Held n v'
  announced_held he (nobody v) = he
  announced_held he (also i v u v' an ts) = told-held (announced_held he an) ts

  pub announced_long : {i : ℕ} {v v' : Work} → Announced n L stored note es i v v' → length v'.list ≡ length v.list
  announced_long (nobody v) = refl
  announced_long (also i v u v' an ts) = told-long ts ∙ announced_long an

  pub announced_rest : {i : ℕ} {v v' : Work} → Announced n L stored note es i v v' → (j : ℕ) → 3 * n ≤ j → get_or v'.list j 0 ≡ get_or v.list j 0
  announced_rest (nobody v) j l = refl
  announced_rest (also i v u v' an ts) j l = told-rest ts j l ∙ announced_rest an j l

  pub announced_upheld : Lawful n L → (start : ℕ → ℕ) {i : ℕ} {v v' : Work} → Announced n L stored note es i v v'
      → Upheld n L start (tentative v.list n) → Upheld n L start (tentative v'.list n)
  announced_upheld law start (nobody v) up = up
  announced_upheld law start (also i v u v' an ts) up = told-upheld law start ts (announced_upheld law start an up)

  pub announced_fresh : (times note' : ℕ → ℕ) {i : ℕ} {v v' : Work} → Held n v → Announced n L stored note es i v v'
      → Drift n times (tentative v.list n) (keys v) 0 0 note' → Drift n times (tentative v'.list n) (keys v') 0 0 note'
  announced_fresh times note' he (nobody v) dr = dr
  announced_fresh times note' he (also i v u v' an ts) dr =
      told_fresh times note' (announced_held he an) ts (announced_fresh times note' he an dr)

-- one noted cell more, as code reads it
pub announced_more : {n : ℕ} {L : ℕ → (ℕ → ℕ) → ℕ} {stored note : ℕ → ℕ} {es : ℕ → List ℕ} {i c t : ℕ} {v u v' : Work}
    → Announced n L stored note es i v u → c ≡ note i → t ≡ stored c → Told n L t (es c) u v' → Announced n L stored note es (i + 1) v v'
announced_more {n} {L} {stored} {es = es} {i} {c} {v = v} {u} {v'} an q r ts =
    rw (add-one i) (also i v u v' an (subst (λ e. Told n L (stored e) (es e) u v') q (subst (λ s. Told n L s (es c) u v') r ts)))

-- ---- ALL THAT IS NOTED IS ANNOUNCED: the front is settled by the new stored times
module _ {b : Board} (good : Good b) (tw th : ℕ) (tw1 : 1 ≤ tw) (th1 : 1 ≤ th) (ts us : List ℕ) (m : ℕ) (note : ℕ → ℕ)
    (falls : (e : ℕ) → e < size b → time us e ≤ time ts e)
    (new : (i : ℕ) → i < m → time us (note i) ≤ largest)
    (old : (c : ℕ) → c < size b → ((i : ℕ) → i < m → note i ≢ c) → time us c ≡ time ts c)
    (on : (i : ℕ) → i < m → note i < size b) where
  -- one noted cell more
  one_announced : {i : ℕ} → i < m → {u v' : Work} → Held (size b) u
      → Told (size b) (rule_by b tw th us) (time us (note i)) (near b tw th border (note i)) u v'
      → Settled (size b) (gives b tw th (part_new b ts us note i)) (tentative u.list (size b)) (keys u)
      → Settled (size b) (gives b tw th (part_new b ts us note (suc i))) (tentative v'.list (size b)) (keys v')
  one_announced {i} l {u} he tells se c h =
      let mid = announce_next good tw th ts us m note falls new old i l (on i l) (tentative u.list (size b)) (keys u) se in
      (told_midway (gives_lawful good tw th (part_new b ts us note (suc i))) (new_under good tw th ts us m note falls new old (suc i)) (λ d. Unit {0}) he tells
      (record { weak = mid.weak; settled = λ d k o. mid.settled d k (λ n. untold_border good tw th tw1 th1 (note i) d n o.0) })
      ).settled c h tt

  pub announced_settled : {i : ℕ} {v v' : Work} → i ≤ m → Held (size b) v
      → Announced (size b) (rule_by b tw th us) (time us) note (λ c. near b tw th border c) i v v'
      → Settled (size b) (gives b tw th (part_new b ts us note 0)) (tentative v.list (size b)) (keys v)
      → Settled (size b) (gives b tw th (part_new b ts us note i)) (tentative v'.list (size b)) (keys v')
  announced_settled l he (nobody v) se = se
  announced_settled l he (also i v u v' an tells) se =
      one_announced l (announced_held he an) tells (announced_settled (omega arith) he an se)
