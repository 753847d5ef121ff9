-- Laws of a heap with a hole: it is made where a slot is given up, it moves by a cell's change of slot, it is filled.
use mathlib.Core.Path.{◌≡◌, refl, sym, ap, ◌∙◌}
use mathlib.Core.Logic.{◌≢◌}
use mathlib.Core.List.{List}
use Prim.Native.Nat.{ℕ, ◌≤◌, ◌<◌}
use native.Mathlib.Omega.{arith}
use native.Mathlib.Decide.{ℕ_discrete}
use Rattle.queue.specs.Heap.{never, key, cell, place, Heap}
use Rattle.queue.specs.Mending.{above, Seated, Hole, Below, Over, Sits, Moved, Rested}

pub above_within : {m : ℕ} (i : ℕ) → 1 ≤ i → i < m → above i < m
above_within i p l = omega arith

-- a cell's slot, of another number of slots, with another hole
pub sits-among : {w : List ℕ} {m M h k d y : ℕ} (s : Sits w m h d y) → s.slot < M → s.slot ≢ k → Sits w M k d y
sits-among s l ne = record { slot = s.slot; within = l; off = ne; holds = s.holds; at = s.at }

-- the order of a slot and the one above it, where one of the two may have got the key x
order-then : {w w' : List ℕ} {n h c x : ℕ} → Seated w n h c x w' → (i : ℕ) → 1 ≤ i → (i ≡ h → key w (above i) ≤ x) → (above i ≡ h → x ≤ key w i) →
    (i ≢ h → above i ≢ h → key w (above i) ≤ key w i) → key w' (above i) ≤ key w' i
order-then {w} {w'} {n} {h} st i p upper lower else = elim (ℕ_discrete i h) [
  | yes e ↦ omega (arith, ap (key w') e, st.key_there, st.key_else (above i) (omega arith), upper e)
  | no z ↦ elim (ℕ_discrete (above i) h) [
    | yes e ↦ omega (arith, ap (key w') e, st.key_there, st.key_else i z, lower e)
    | no e ↦ omega (arith, st.key_else i z, st.key_else (above i) e, else z e)
  ]
]

-- ---- a slot is given up
pub hollow : {w : List ℕ} {m n : ℕ} → Heap w m n → (M h c : ℕ) → h < M → M ≤ n →
    ((i : ℕ) → i < M → i ≢ h → i < m) → ((i : ℕ) → i < M → i ≢ h → cell w i ≢ c) → Hole w M n h c
hollow {w} hp M h c l b old apart = record {
  fits = b;
  on = l;
  cells = λ i a q. hp.cells i (old i a q);
  places = λ i a q. hp.places i (old i a q);
  apart = apart;
  due = λ i a q. hp.due i (old i a q);
  order = λ i p a q r. hp.order i p (old i a q);
  bridge = λ i p a e q.
      let f = old i a (omega arith) in
      omega (arith, hp.order h q (omega arith), hp.order i p f, ap (key w) e);
}

-- ---- the way of the hole
pub not-moved : {w : List ℕ} {m n h c : ℕ} → Hole w m n h c → Moved w m n h c w h
not-moved o = record { long = refl; hole = o; there = λ s. s; back = λ s. s; past = λ j l. refl }

moved_on : {w v u : List ℕ} {m n h c i q : ℕ} → Moved w m n h c v i → Moved v m n i c u q → Moved w m n h c u q
moved_on a b = record {
  long = b.long ∙ a.long;
  hole = b.hole;
  there = λ s. b.there (a.there s);
  back = λ s. a.back (b.back s);
  past = λ j l. b.past j l ∙ a.past j l;
}

pub rested_on : {w v u : List ℕ} {m n h c x i q : ℕ} → Moved w m n h c v i → Rested v m n i c x u q → Rested w m n h c x u q
rested_on a b = record { moved = moved_on a b.moved; below = b.below; over = b.over }

-- a cell goes from slot q to the hole, which is then q
module _ {v w w' : List ℕ} {m n k h c d y : ℕ} (q : ℕ) (before : Moved v m n k c w h) (seat : Seated w n h d y w') (cd : d ≡ cell w q) (ky : y ≡ key w q)
    (l : q < m) (ne : q ≢ h) where
  o : Hole w m n h c
  o = before.hole

  st : Seated w n h (cell w q) (key w q) w'
  st = rw (cd, ky) at seat

  -- what a slot has now some slot had before
  from : (i : ℕ) → i < m → i ≢ q → Sits w m h (cell w' i) (key w' i)
  from i a r = elim (ℕ_discrete i h) [
    | yes e ↦ record {
      slot = q;
      within = l;
      off = ne;
      holds = sym (ap (cell w') e ∙ st.cell_there);
      at = sym (ap (key w') e ∙ st.key_there);
    }
    | no e ↦ record { slot = i; within = a; off = e; holds = sym (st.cell_else i e); at = sym (st.key_else i e) }
  ]

  moved_back : {d y : ℕ} → Sits w' m q d y → Sits w m h d y
  moved_back s =
      let f = from s.slot s.within s.off in
      record { slot = f.slot; within = f.within; off = f.off; holds = f.holds ∙ s.holds; at = f.at ∙ s.at }

  moved-there : {d y : ℕ} → Sits w m h d y → Sits w' m q d y
  moved-there s = elim (ℕ_discrete s.slot q) [
    | yes e ↦ record {
      slot = h;
      within = o.on;
      off = λ r. ne (sym r);
      holds = st.cell_there ∙ ap (cell w) (sym e) ∙ s.holds;
      at = st.key_there ∙ ap (key w) (sym e) ∙ s.at;
    }
    | no e ↦ record {
      slot = s.slot;
      within = s.within;
      off = e;
      holds = st.cell_else s.slot s.off ∙ s.holds;
      at = st.key_else s.slot s.off ∙ s.at;
    }
  ]

  places : (i : ℕ) → i < m → i ≢ q → place w' (cell w' i) ≡ i
  places i a r = elim (ℕ_discrete i h) [
    | yes e ↦ ap (place w') (ap (cell w') e ∙ st.cell_there) ∙ st.place_there ∙ sym e
    | no e ↦ ap (place w') (st.cell_else i e)
        ∙ st.place_else (cell w i) (λ t. r (sym (o.places i a e) ∙ ap (place w) t ∙ o.places q l ne))
        ∙ o.places i a e
  ]

  moved : ((i : ℕ) → 1 ≤ i → i < m → i ≢ q → above i ≢ q → key w' (above i) ≤ key w' i) →
      ((i : ℕ) → 1 ≤ i → i < m → above i ≡ q → 1 ≤ q → key w' (above q) ≤ key w' i) → Moved v m n k c w' q
  moved order bridge = moved_on before (record {
    long = st.long;
    hole = record {
      fits = o.fits;
      on = l;
      cells = λ i a r. (let s = from i a r in rw s.holds at (o.cells s.slot s.within s.off));
      places = places;
      apart = λ i a r e. (let s = from i a r in o.apart s.slot s.within s.off (s.holds ∙ e));
      due = λ i a r. (let s = from i a r in rw s.at at (o.due s.slot s.within s.off));
      order = order;
      bridge = bridge;
    };
    there = moved-there;
    back = moved_back;
    past = st.past;
  })

  -- the hole rises
  module _ (p : 1 ≤ h) (up : above h ≡ q) where
    under : (i : ℕ) → 1 ≤ i → i < m → above i ≡ q → key w q ≤ key w' i
    under i r a e = elim (ℕ_discrete i h) [
      | yes t ↦ omega (arith, ap (key w') t, st.key_there)
      | no t ↦ omega (arith, st.key_else i t, o.order i r a t (omega arith), ap (key w) e)
    ]

    pub risen : {x : ℕ} → x ≤ key w q → Moved v m n k c w' q × Below w' m q x
    risen g = (
      moved
          (λ i r a s t. order-then st i r (λ e. absurd (t (ap above e ∙ up))) (λ e. omega (arith, o.bridge i r a e p, ap (key w) up)) (o.order i r a))
          (λ i r a e b. omega (arith, st.key_else (above q) (omega arith), o.order q b l ne (omega arith), under i r a e)),
      λ i r a e. omega (arith, under i r a e),
    )

  -- the hole sinks
  module _ (p : 1 ≤ q) (down : above q ≡ h) (low : (i : ℕ) → 1 ≤ i → i < m → above i ≡ h → key w q ≤ key w i) where
    pub sunk : Moved v m n k c w' q
    sunk = moved
        (λ i r a s t. order-then st i r (λ e. omega (arith, ap (λ u. key w (above u)) e, o.bridge q p l down (omega arith))) (low i r a) (o.order i r a))
        (λ i r a e b. (
        let z : i ≢ h = omega arith in
        omega (arith, ap (key w') down, st.key_there, st.key_else i z, o.order i r a z (omega arith), ap (key w) e)
        ))

-- ---- the hole is filled
module _ {w w' : List ℕ} {m n h c x : ℕ} (o : Hole w m n h c) (st : Seated w n h c x w') where
  pub filled : n ≤ 65536 → c < n → x < never → Below w m h x → Over w h x → Heap w' m n
  filled few cn xn below over = record {
    few = few;
    fits = o.fits;
    cells = λ i a. elim (ℕ_discrete i h) [
      | yes e ↦ omega (arith, ap (cell w') e, st.cell_there)
      | no e ↦ omega (arith, st.cell_else i e, o.cells i a e)
    ];
    places = λ i a. elim (ℕ_discrete i h) [
      | yes e ↦ ap (place w') (ap (cell w') e ∙ st.cell_there) ∙ st.place_there ∙ sym e
      | no e ↦ ap (place w') (st.cell_else i e) ∙ st.place_else (cell w i) (o.apart i a e) ∙ o.places i a e
    ];
    due = λ i a. elim (ℕ_discrete i h) [
      | yes e ↦ omega (arith, ap (key w') e, st.key_there)
      | no e ↦ omega (arith, st.key_else i e, o.due i a e)
    ];
    order = λ i r a. order-then st i r (λ e. omega (arith, ap (λ u. key w (above u)) e, over (omega arith))) (below i r a) (o.order i r a);
  }

  -- every slot is in use again: none is m
  pub filled-there : {d y : ℕ} → Sits w m h d y → Sits w' m m d y
  filled-there s = record {
    slot = s.slot;
    within = s.within;
    off = omega (arith, s.within);
    holds = st.cell_else s.slot s.off ∙ s.holds;
    at = st.key_else s.slot s.off ∙ s.at;
  }

  pub filled-back : {d y : ℕ} → d ≢ c → Sits w' m m d y → Sits w m h d y
  filled-back ne s =
      let z : s.slot ≢ h = λ e. ne (sym s.holds ∙ ap (cell w') e ∙ st.cell_there) in
      record {
        slot = s.slot;
        within = s.within;
        off = z;
        holds = sym (st.cell_else s.slot z) ∙ s.holds;
        at = sym (st.key_else s.slot z) ∙ s.at;
      }
