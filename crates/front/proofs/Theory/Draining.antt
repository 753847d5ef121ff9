-- One cell taken, and a whole drain: what they leave of the front and of the round so far.
use Rattle.std.proofs.Common.{◌≡◌, ℕ, suc, ◌+◌, ◌-◌, ◌*◌, ◌<◌, ◌≤◌, min, ◌≢◌, List, length, get_or, set, sym, refl, ap, ◌∙◌, subst, inl, ⊎_elim}
use Rattle.std.proofs.Common.{arith, length-set, get_or-set_other, get_or-set_same, ne_eqb}
use mathlib.Core.Path.{fun_ext}
use native.Mathlib.Decide.{ℕ_discrete}
use Rattle.eikonal.specs.Board.{never, size}
use Rattle.eikonal.specs.Tiles.{tile_of, counts_as}
use Rattle.eikonal.specs.Promise.{Neighbour}
use Rattle.queue.specs.Heap as queue
use Rattle.queue.specs.Heap.{key, cell, Put, Least}
use Rattle.queue.proofs.Heap.{heap-past, keys_past, keys-small, first-least}
use Rattle.front.specs.Front.{Among, NotAmong, among, ghosted, Out, Settled, Midway, Upheld, Drift, weight}
use Rattle.front.specs.Seams.{inside, near}
use Rattle.front.specs.Board.{land, rule_at, tentative, noted, Work, at, keys, Ground}
use Rattle.front.specs.State.{Held, Popped, Took, Drifting, Drifted, Ready, ReadyAmong, Drained}
use Rattle.front.specs.declared.Shape.{Shape}
use Rattle.front.proofs.Theory.Front.{Lawful, popped, total_lt}
use Rattle.front.proofs.Theory.Among.{which, among_lawful, among_same, told-among, told-within}
use Rattle.front.proofs.Theory.Drift.{drift-taken, room-left, fresh}
use Rattle.front.proofs.Theory.Sight.{gives_same, gives_lawful}
use Rattle.front.proofs.Theory.Seams.{untold_inside}
use Rattle.front.proofs.Theory.Same.{midway_same, upheld-same, drift-same}
use Rattle.front.proofs.Theory.Reading.{cells-size}
use Rattle.front.proofs.Theory.Telling.{told-held, told-long, told-rest, told-weight, told-upheld, told_midway, told-drift}

-- the cell in the first slot is removed from the queue, and then noted
pub is-popped : {n m c r : ℕ} {v : Work} {u : List ℕ} → Held n v → Least v.list v.size n c → m < n
    → Put v.list v.size n (cell v.list 0) never u r → Popped n m c v (at (set u (3 * n + m) c) r)
is-popped {n} {m} {c} {r} {v} {u} he le l put = record {
  on = le.on;
  pending = le.pending;
  least = λ d i. le.least d;
  long = length-set u (3 * n + m) c ∙ put.long;
  heap = heap-past u r n (3 * n + m) c (omega arith) put.heap;
  gone = kept c ∙ ap (queue.keys u r) le.first ∙ put.new;
  keep = λ d i q. kept d ∙ put.others d (λ e. q (e ∙ sym le.first));
  times = λ d i. other (2 * n + d) (omega arith) (omega arith);
  note = get_or-set_same u (3 * n + m) c 0 (omega (arith, he.room, put.long));
  notes = λ i j. other (3 * n + i) (omega arith) (omega arith);
  past = λ j i. other j (omega arith) (omega arith);
}
  where
    kept : (d : ℕ) → queue.keys (set u (3 * n + m) c) r d ≡ queue.keys u r d
    kept = keys_past u r n (3 * n + m) c (omega arith) put.heap

    other : (j : ℕ) → 2 * n ≤ j → j ≢ 3 * n + m → get_or (set u (3 * n + m) c) j 0 ≡ get_or v.list j 0
    other j i q = get_or-set_other u (3 * n + m) j c 0 q ∙ put.past j i

module _ {n m c : ℕ} {v u : Work} (he : Held n v) (po : Popped n m c v u) where
  key-is : keys v c ≡ tentative v.list n c
  key-is = ⊎_elim (λ q. absurd (omega (arith, po.pending))) (λ q. q) (he.tied.tied c po.on)

  pub popped-held : Held n u
  popped-held = record {
    room = rw po.long he.room;
    heap = po.heap;
    tied = record {
      small = λ d l. rw (po.times d l) (he.tied.small d l);
      tied = λ d l. elim (ℕ_discrete d c) [
        | yes q ↦ inl (ap (keys u) q ∙ po.gone)
        | no q ↦ rw (po.times d l, po.keep d l q) (he.tied.tied d l)
      ];
    };
  }

  -- one pending cell less
  popped-weight : weight n (tentative u.list n) (keys u) < weight n (tentative v.list n) (keys v)
  popped-weight =
      total_lt n c _ _ po.on (omega (arith, po.times c po.on, po.gone, po.pending))
      (λ d l. elim (ℕ_discrete d c) [
        | yes q ↦ subst (λ e. 2 * tentative u.list n e + min 1 (never - keys u e) ≤ 2 * tentative v.list n e + min 1 (never - keys v e)) (sym q)
            (omega (arith, po.times c po.on, po.gone))
        | no q ↦ omega (arith, po.times d l, po.keep d l q)
      ])

  module _ {L : ℕ → (ℕ → ℕ) → ℕ} (law : Lawful n L) where
    popped_midway : {Clear : ℕ → Type 0} → Settled n L (tentative v.list n) (keys v)
        → ((d : ℕ) → d < n → Clear d → (f g : ℕ → ℕ) → ((e : ℕ) → e < n → e ≢ c → f e ≡ g e) → L d f ≡ L d g)
        → Midway n L (keys v c) Clear (tentative u.list n) (keys u)
    popped_midway {Clear} se far =
        midway_same law po.times
        (subst (λ t. Midway n L t Clear (tentative v.list n) (keys u)) (sym key-is)
        (popped law he.tied se po.on po.pending po.gone po.keep far))

    popped-upheld : {start : ℕ → ℕ} → Upheld n L start (tentative v.list n) → Upheld n L start (tentative u.list n)
    popped-upheld = upheld-same law po.times

  popped-drift : {stored : ℕ → ℕ} {t : ℕ} → Drift n stored (tentative v.list n) (keys v) t m (noted v.list n)
      → Drift n stored (tentative u.list n) (keys u) (keys v c) (suc m) (noted u.list n)
  popped-drift {stored} dr =
      drift-same po.times
      (subst (λ s. Drift n stored (tentative v.list n) (keys u) s (suc m) (noted u.list n)) (sym key-is)
      (drift-taken he.tied dr c (keys u) (noted u.list n) po.on po.pending po.least po.gone po.keep po.note po.notes))

-- ---- ONE CELL TAKEN, by a rule L, and the cells es hear of it. Those that do not, do not see it
abbrev Blind : (n : ℕ) → (L : ℕ → (ℕ → ℕ) → ℕ) → (c : ℕ) → List ℕ → Type 0
Blind n L c es = (d : ℕ) → d < n → Out d es → (f g : ℕ → ℕ) → ((e : ℕ) → e < n → e ≢ c → f e ≡ g e) → L d f ≡ L d g

module _ {n m : ℕ} {L : ℕ → (ℕ → ℕ) → ℕ} {es : ℕ → List ℕ} {v v' : Work} (he : Held n v) (tk : Took n m L es v v') where
  middle-held : Held n tk.middle
  middle-held = popped-held he tk.popped

  took_held : Held n v'
  took_held = told-held middle-held tk.told

  took_long : length v'.list ≡ length v.list
  took_long = told-long tk.told ∙ tk.popped.long

  took_past : (j : ℕ) → 4 * n ≤ j → get_or v'.list j 0 ≡ get_or v.list j 0
  took_past j l = told-rest tk.told j (omega arith) ∙ tk.popped.past j l

  pub took_weight : weight n (tentative v'.list n) (keys v') < weight n (tentative v.list n) (keys v)
  took_weight = omega (arith, told-weight tk.told, popped-weight he tk.popped)

  module _ (law : Lawful n L) where
    took_upheld : (start : ℕ → ℕ) → Upheld n L start (tentative v.list n) → Upheld n L start (tentative v'.list n)
    took_upheld start up = told-upheld law start tk.told (popped-upheld he tk.popped law up)

    module _ (far : Blind n L tk.cell (es tk.cell)) (se : Settled n L (tentative v.list n) (keys v)) where
      midway : Midway n L (keys v tk.cell) (λ d. Out d (es tk.cell) × Unit {0}) (tentative tk.middle.list n) (keys tk.middle)
      midway = popped_midway he tk.popped law se (λ d l o. far d l o.0)

      took_settled : Settled n L (tentative v'.list n) (keys v')
      took_settled c l = (told_midway law (λ e k f. omega arith) (λ d. Unit {0}) middle-held tk.told midway).settled c l tt

      took_drift : {stored : ℕ → ℕ} {t : ℕ} → Drift n stored (tentative v.list n) (keys v) t m (noted v.list n)
          → Drift n stored (tentative v'.list n) (keys v') (keys v tk.cell) (suc m) (noted v'.list n)
      took_drift {stored} dr =
          subst (λ w. Drift n stored (tentative v'.list n) (keys v') (keys v tk.cell) (suc m) w) notes
          (told-drift law tk.popped.pending stored (suc m) (noted tk.middle.list n) (λ d. Unit {0}) middle-held tk.told midway
          (popped-drift he tk.popped dr))
        where
          notes : noted tk.middle.list n ≡ noted v'.list n
          notes = fun_ext (λ i. sym (told-rest tk.told (3 * n + i) (omega arith)))

-- ---- A DRAIN after m cells
pub record MidDrain (n : ℕ) (L : ℕ → (ℕ → ℕ) → ℕ) (bound m : ℕ) (v₀ v : Work) : Type 0 where
  pub held : Held n v
  pub long : length v.list ≡ length v₀.list
  pub past : (j : ℕ) → 4 * n ≤ j → get_or v.list j 0 ≡ get_or v₀.list j 0
  pub settled : Settled n L (tentative v.list n) (keys v)
  pub upheld : (start : ℕ → ℕ) → Upheld n L start (tentative v₀.list n) → Upheld n L start (tentative v.list n)
  pub drifting : Drifting n (tentative v.list n) (keys v) m (noted v.list n)
  pub drift : (stored : ℕ → ℕ) → Drift n stored (tentative v₀.list n) (keys v₀) 0 0 (noted v₀.list n)
      → Drifted n bound stored (tentative v.list n) (keys v) m (noted v.list n)

module _ {n bound : ℕ} {L : ℕ → (ℕ → ℕ) → ℕ} where
  drain_begins : {v : Work} → Ready n L v → MidDrain n L bound 0 v v
  drain_begins {v} re = record {
    held = re.held;
    long = refl;
    past = λ j l. refl;
    settled = re.settled;
    upheld = λ start up. up;
    drifting = record { stored = _; last = 0; drift = fresh (tentative v.list n) (keys v) (noted v.list n) };
    drift = λ stored dr. record { last = 0; low = omega arith; drift = dr };
  }

  -- there is room for the next note
  pub drain_room : {m : ℕ} {v₀ v : Work} → MidDrain n L bound m v₀ v → 0 < v.size → m < n
  drain_room md l =
      let le = first-least md.held.heap l in
      room-left md.held.tied md.drifting.drift _ le.on le.pending (λ d i. le.least d)

  drain_goes_on : {m : ℕ} {es : ℕ → List ℕ} {v₀ v v' : Work} → Lawful n L → ((c : ℕ) → c < n → Blind n L c (es c)) → MidDrain n L bound m v₀ v
      → 0 < v.size → key v.list 0 ≤ bound → Took n m L es v v' → MidDrain n L bound (suc m) v₀ v'
  drain_goes_on {es = es} {v = v} law blinds md some low tk = record {
    held = took_held md.held tk;
    long = took_long md.held tk ∙ md.long;
    past = λ j l. took_past md.held tk j l ∙ md.past j l;
    settled = took_settled md.held tk law far md.settled;
    upheld = λ start up. took_upheld md.held tk law start (md.upheld start up);
    drifting = record {
      stored = md.drifting.stored;
      last = _;
      drift = took_drift md.held tk law far md.settled md.drifting.drift;
    };
    drift = λ stored dr. record { last = _; low = early; drift = took_drift md.held tk law far md.settled (md.drift stored dr).drift };
  }
    where
      far : Blind n L tk.cell (es tk.cell)
      far = blinds tk.cell tk.popped.on

      early : keys v tk.cell ≤ bound
      early =
          let le = first-least md.held.heap some in
          omega (arith, tk.popped.least (cell v.list 0) le.on, le.top)

  pub drain_ends : {m : ℕ} {v₀ v : Work} → MidDrain n L bound m v₀ v → ((c : ℕ) → bound < keys v c) → Drained n bound m L v₀ v
  drain_ends md high = record {
    held = md.held;
    long = md.long;
    past = md.past;
    settled = md.settled;
    keys_past = λ d l. high d;
    upheld = md.upheld;
    drift = md.drift;
  }

-- the same of the cells from lo on and below hi: they alone are pending
pub record MidAmong (s : Shape) (slow ts : List ℕ) (lo hi bound m : ℕ) (v₀ v : Work) : Type 0 where
  pub mid : MidDrain s.cells (among lo hi (rule_at s slow ts)) bound m v₀ v
  pub within : (c : ℕ) → c < s.cells → keys v c < never → Among lo hi c

-- ---- on a board: a cell that does not hear of c within the tile does not see c as it is
module _ {s : Shape} {slow ts cols rows : List ℕ} (gr : Ground s slow ts cols rows) where
  pub lawful : Lawful s.cells (rule_at s slow ts)
  lawful =
      subst (λ n. Lawful n (rule_at s slow ts)) (sym (cells-size gr)) (gives_lawful gr.good s.across s.down (λ d e. counts_as (land s slow) ts e))

  abbrev tile : ℕ → ℕ
  tile = tile_of (land s slow) s.across s.down

  abbrev ghost : (d e : ℕ) → ℕ
  ghost d e = counts_as (land s slow) ts e

  blind : {c : ℕ} → c < s.cells → Blind s.cells (rule_at s slow ts) c (near (land s slow) s.across s.down inside c)
  blind {c} l d m o f g same = gives_same gr.good s.across s.down ghost ghost d (rw (← cells-size gr) m) f g alike
    where
      other : (e : ℕ) → Neighbour (land s slow) d e → e ≡ c → tile d ≢ tile e
      other e n q z =
          untold_inside gr.good s.across s.down gr.across gr.down c d
          (subst (λ w. Neighbour (land s slow) d w) q n) o (z ∙ ap tile q)

      alike : (e : ℕ) → e < size (land s slow) → Neighbour (land s slow) d e
          → ghosted (land s slow) s.across s.down ghost f d e ≡ ghosted (land s slow) s.across s.down ghost g d e
      alike e on n = elim (ℕ_discrete e c) [
        | yes q ↦ rw (ne_eqb (tile d) (tile e) (other e n q))
        | no q ↦ rw (same e (rw (cells-size gr) on) q)
      ]

  module _ {lo hi bound : ℕ} {v₀ : Work} (re : ReadyAmong s slow ts lo hi v₀) where
    pub among-begins : MidAmong s slow ts lo hi bound 0 v₀ v₀
    among-begins = record { mid = drain_begins re.ready; within = re.within }

    module _ {m : ℕ} {v v' : Work} (ma : MidAmong s slow ts lo hi bound m v₀ v)
        (tk : Took s.cells m (rule_at s slow ts) (near (land s slow) s.across s.down inside) v v') where
      -- none but them hears of the cell that is taken
      hear : (d : ℕ) → d < s.cells → NotAmong lo hi d → Out d (near (land s slow) s.across s.down inside tk.cell)
      hear d = re.apart tk.cell d (ma.within tk.cell tk.popped.on tk.popped.pending)

      pub among-goes_on : 0 < v.size → key v.list 0 ≤ bound → MidAmong s slow ts lo hi bound (suc m) v₀ v'
      among-goes_on some low = record {
        mid = drain_goes_on {es = near (land s slow) s.across s.down inside} (among_lawful lo hi (rule_at s slow ts) lawful)
            (λ c l d m o f g same. among_same lo hi (rule_at s slow ts) d f g (blind l d m o f g same)) ma.mid some low
            (record { cell = tk.cell; middle = tk.middle; popped = tk.popped; told = told-among lo hi (rule_at s slow ts) hear tk.told });
        within = λ d l h. ⊎_elim (λ i. i) (λ o. absurd (omega (arith, still d l o, h))) (which lo hi d);
      }
        where
          taken : Among lo hi tk.cell
          taken = ma.within tk.cell tk.popped.on tk.popped.pending

          still : (d : ℕ) → d < s.cells → NotAmong lo hi d → keys v' d ≡ never
          still d l o =
              let kept = told-within lo hi (rule_at s slow ts) tk.told d l (hear d l o)
              ∙ tk.popped.keep d l (λ q. o (omega (arith, q, taken), omega (arith, q, taken))) in
              elim (ℕ_discrete (keys v d) never) [
                | yes q ↦ kept ∙ q
                | no q ↦ absurd (o (ma.within d l (omega (arith, q, keys-small ma.mid.held.heap d))))
              ]
