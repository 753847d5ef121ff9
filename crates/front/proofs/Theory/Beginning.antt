-- A round's beginning: every cell has its start's time, is pending with it once it is gathered, and is not heard yet.
use Rattle.std.proofs.Common.{◌≡◌, ℕ, ◌+◌, ◌*◌, ◌<◌, ◌≤◌, true, false, List, sym, ◌∙◌, inl, inr, ⊎_elim, arith}
use Rattle.eikonal.specs.Axes.{given_on}
use Rattle.eikonal.specs.Board.{Board, never, size, start_time, arrival}
use Rattle.eikonal.specs.declared.Start.{Start}
use Rattle.eikonal.specs.Refusals.{late}
use Rattle.eikonal.specs.Inner.Good.{starts_rise}
use Rattle.eikonal.specs.Promise.{Neighbour}
use Rattle.eikonal.specs.Inner.Good.{Good}
use Rattle.eikonal.proofs.Lattices.{Given, stays, comes, is-given, nothing_seen}
use Rattle.eikonal.proofs.Rule.{lattice, arrival-is, arrival-same}
use Rattle.front.specs.Front.{Among, heard, Upheld, Drift}
use Rattle.front.specs.Board.{tentative, Work, keys}
use Rattle.front.specs.State.{Held, Placed, Seeded, Empty, Standing, Begun, Gathered}
use Rattle.front.proofs.Theory.Drift.{total-none}
use Rattle.front.proofs.Theory.Among.{which}
use Rattle.front.proofs.Theory.Seeding.{soonest-is, seeded_soonest}

-- emptied and seeded, the work list is begun
pub begun : (n : ℕ) (xs : List Start) (v u v' : List ℕ) → starts_rise n 0 xs ≡ true → late xs ≡ false → Empty n v u → Seeded n xs u v' → Begun n xs v v'
begun n xs v u v' ri ea em se = record {
  stands = record { placed = se.placed; times = λ c l. seeded_soonest em se c l ∙ soonest-is n 0 xs ri ea c };
  long = se.long ∙ em.long;
  rest = λ j l. se.rest j l ∙ em.rest j l;
}

-- ---- cells from lo on and below hi are gathered: they alone are pending, and nothing of them is heard yet
module _ {n lo hi : ℕ} {v : List ℕ} {v' : Work} (pl : Placed n v) (ga : Gathered n lo hi v v') where
  same_times : (c : ℕ) → tentative v'.list n c ≡ tentative v n c
  same_times c = ga.rest (2 * n + c) (omega arith)

  pub times-small : (c : ℕ) → c < n → tentative v'.list n c ≤ never
  times-small c l = omega (arith, same_times c, pl.small c l)

  even : (c : ℕ) → Among lo hi c → keys v' c ≡ tentative v'.list n c
  even c i = ga.even c i ∙ sym (same_times c)

  pub gathered_held : Held n v'
  gathered_held = record {
    room = omega (arith, ga.long, pl.room);
    heap = ga.heap;
    tied = record {
      small = times-small;
      tied = λ c l. ⊎_elim (λ i. inr (even c i)) (λ o. inl (ga.others c o)) (which lo hi c);
    };
  }

  pub gathered_silent : (c : ℕ) → c < n → Among lo hi c → heard (tentative v'.list n) (keys v') c ≡ never
  gathered_silent c l i = omega (arith, even c i, times-small c l)

  pub gathered_within : (c : ℕ) → keys v' c < never → Among lo hi c
  gathered_within c h = ⊎_elim (λ i. i) (λ o. absurd (omega (arith, ga.others c o))) (which lo hi c)

  pub gathered_upheld : (L : ℕ → (ℕ → ℕ) → ℕ) → Upheld n L (tentative v n) (tentative v'.list n)
  gathered_upheld L = record { started = λ c l. omega (arith, same_times c); upper = λ c l. omega (arith, same_times c) }

-- ---- all starts stand and are gathered
module _ {n : ℕ} {xs : List Start} {v : List ℕ} {v' : Work} (be : Standing n xs v) (ga : Gathered n 0 n v v') where
  pub standing_upheld : (L : ℕ → (ℕ → ℕ) → ℕ) → Upheld n L (λ c. start_time c xs) (tentative v'.list n)
  standing_upheld L =
      let up = gathered_upheld be.placed ga L in
      record { started = λ c l. omega (arith, up.started c l, be.times c l); upper = λ c l. omega (arith, up.upper c l, be.times c l) }

  -- with stored times that are all never, nothing is taken yet
  pub standing_drift : (stored : ℕ → ℕ) → ((c : ℕ) → c < n → stored c ≡ never) → (note : ℕ → ℕ)
      → Drift n stored (tentative v'.list n) (keys v') 0 0 note
  standing_drift stored nv note = record {
    low = λ c l. omega (arith, nv c l, times-small be.placed ga c l);
    waits = λ c l h. omega (arith, nv c l, all c l);
    floor = λ c l. omega arith;
    noted = λ i l. absurd (omega arith);
    others = λ c l o e. omega (arith, nv c l, all c l);
    count = sym (total-none n _ (λ c l. rw (nv c l, all c l) (omega arith)));
  }
    where
      all : (c : ℕ) → c < n → keys v' c ≡ tentative v'.list n c
      all c l = even be.placed ga c (omega arith, l)

-- ---- a cell that sees no time is given none
pub arrival_quiet : {b : Board} → Good b → (c : ℕ) → c < size b → (f : ℕ → ℕ) → ((e : ℕ) → e < size b → Neighbour b c e → f e ≡ never)
    → arrival b c f ≡ never
arrival_quiet {b} good c on f h =
    arrival-same good c on f (λ e. never) h ∙ arrival-is good c (λ e. never) ∙ go (is-given (lattice good) c (λ e. never))
  where
    go : Given (lattice good) c (λ e. never) → given_on (lattice good) c (λ e. never) ≡ never
    go (stays z e) = e
    go (comes p n l m) = absurd (n (nothing_seen (lattice good) c on))
