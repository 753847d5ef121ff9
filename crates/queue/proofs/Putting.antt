-- A change of a cell's key: a slot of the heap is given up, its hole moves to where the key fits, and the cell is seated there.
use mathlib.Core.Path.{◌≡◌, refl, sym, ap, ◌∙◌}
use mathlib.Core.Logic.{◌⊎◌, inl, inr, ◌≢◌}
use mathlib.Core.List.{List}
use Prim.Native.Nat.{ℕ, ◌+◌, ◌*◌, ◌≤◌, ◌<◌}
use native.Mathlib.Omega.{arith}
use native.Mathlib.Decide.{ℕ_discrete}
use lib.ListN.{get_or}
use Rattle.queue.specs.Heap.{never, key, cell, place, keys, Heap, Put}
use Rattle.queue.specs.Mending.{Seated, Stale, Found, Hole, Below, Sits, Rested}
use Rattle.queue.proofs.Pigeons.{pigeonhole}
use Rattle.queue.proofs.Mending.{sits-among, hollow, filled, filled-there, filled-back}
use Rattle.queue.proofs.Heap.{key-found, key-at, one-slot, not_found, keys_none, keys-small, keys-same, heap_empty, keys_empty}

-- ---- a slot is given up
-- the slot h is given up for the cell c, whose key falls to x
pub record Opened (w : List ℕ) (m M n h c x : ℕ) : Type 0 where
  pub hole : Hole w M n h c
  pub below : Below w M h x
  pub low : x < never
  pub old : (i : ℕ) → i < M → i ≢ h → i < m
  pub keep : (i : ℕ) → i < m → cell w i ≢ c → (i < M) × (i ≢ h)

module _ {w : List ℕ} {m n c x : ℕ} (hp : Heap w m n) (cn : c < n) (fall : x < keys w m c) where
  open_old : {h : ℕ} → h < m → cell w h ≡ c → Opened w m m n h c x
  open_old {h} l e = record {
    hole = hollow hp m h c l hp.fits (λ i a q. a) (λ i a q t. q (one-slot hp i h a l (t ∙ sym e)));
    below = λ i r a t. omega (arith, hp.order i r a, ap (key w) t, key-at hp h c l e);
    low = omega (arith, keys-small hp c);
    old = λ i a q. a;
    keep = λ i a z. (a, λ t. z (ap (cell w) t ∙ e));
  }

  -- there is a slot more, since a cell of n is not in m
  open_new : Stale w m c → Opened w m (m + 1) n m c x
  open_new z =
      let apart = not_found hp c z in
      record {
        hole = hollow hp (m + 1) m c (omega arith) (omega (arith, pigeonhole n m c (cell w) cn hp.cells apart (one-slot hp)))
            (λ i a q. omega (arith, q)) (λ i a q. apart i (omega (arith, q)));
        below = λ i r a t. absurd (omega arith);
        low = omega (arith, keys-small hp c);
        old = λ i a q. omega (arith, q);
        keep = λ i a y. (omega arith, omega arith);
      }

  -- of a cell that may be pending
  pub opened : {M h : ℕ} → Found w m c h → ((h < m) × (M ≡ m)) ⊎ ((m ≤ h) × (M ≡ m + 1)) → Opened w m M n h c x
  opened (inl a) (inl b) = rw b.1 (open_old a.0 a.2)
  opened (inl a) (inr b) = absurd (omega arith)
  opened (inr a) (inl b) = absurd (omega arith)
  opened (inr a) (inr b) = rw (a.0, b.1) (open_new a.1)

  -- of a cell that is not pending
  pub opened_new : keys w m c ≡ never → Opened w m (m + 1) n m c x
  opened_new e = open_new (λ l t. omega (arith, key-found w m c l t, hp.due (place w c) l))

-- the first slot is given up, and the last one's cell is to be seated
pub first-hole : {w : List ℕ} {m M n c : ℕ} → Heap w m n → M + 1 ≡ m → 1 ≤ M → c ≡ cell w M → Hole w M n 0 c
first-hole {w} {m} {M} {n} {c} hp e l last =
    hollow hp M 0 c l (omega (arith, hp.fits)) (λ i a q. omega arith)
    (λ i a q t. omega (arith, one-slot hp i M (omega arith) (omega arith) (t ∙ last)))

-- ---- the cell c was seated with x
module _ {w w' v : List ℕ} {m M n h c x r : ℕ} (hp : Heap w m n) (rs : Rested w M n h c x w' r) (st : Seated w' n r c x v) (cn : c < n) (xn : x < never) where
  heap-then : Heap v M n
  heap-then = filled rs.moved.hole st hp.few cn xn rs.below rs.over

  key-then : keys v M c ≡ x
  key-then = key-at heap-then r c rs.moved.hole.on st.cell_there ∙ st.key_there

  there : {d y : ℕ} → Sits w M h d y → Sits v M M d y
  there s = filled-there rs.moved.hole st (rs.moved.there s)

  back : {d y : ℕ} → d ≢ c → Sits v M M d y → Sits w M h d y
  back ne s = rs.moved.back (filled-back rs.moved.hole st ne s)

  past-then : (j : ℕ) → 2 * n ≤ j → get_or v j 0 ≡ get_or w j 0
  past-then j l = st.past j l ∙ rs.moved.past j l

  pub put_opened : {k : ℕ} → k ≡ M → Opened w m M n h c x → Put w m n c x v k
  put_opened e o = rw e (record {
    long = st.long ∙ rs.moved.long;
    heap = heap-then;
    new = key-then;
    others = λ d ne. keys-same hp heap-then d
        (λ y s. (let k = o.keep s.slot s.within (λ t. ne (sym s.holds ∙ t)) in there (sits-among s k.0 k.1)))
        (λ y s. (let t = back ne s in let l = o.old t.slot t.within t.off in sits-among t l (omega arith)));
    past = past-then;
  })

  -- the last slot's cell took the place of the first
  pub put_remove : {k : ℕ} → k ≡ M → M + 1 ≡ m → 1 ≤ M → h ≡ 0 → c ≡ cell w M → x ≡ key w M → Put w m n (cell w 0) never v k
  put_remove e size some hole last at = rw e (record {
    long = st.long ∙ rs.moved.long;
    heap = heap-then;
    new = keys_none heap-then (cell w 0) (λ y s. (
        let t = back (λ q. omega (arith, one-slot hp 0 M (omega arith) (omega arith) (q ∙ last))) s in
        t.off (one-slot hp t.slot 0 (omega (arith, t.within)) (omega arith) t.holds ∙ sym hole)
        ));
    others = λ d ne. elim (ℕ_discrete d c) [
      | yes q ↦ ap (keys v M) q ∙ key-then ∙ at ∙ sym (key-at hp M d (omega arith) (sym (q ∙ last)))
      | no q ↦ keys-same hp heap-then d
          (λ y s. (
          let z : s.slot ≢ M = λ t. q (sym s.holds ∙ ap (cell w) t ∙ sym last) in
          there (sits-among s (omega (arith, s.within, z)) (λ t. ne (sym s.holds ∙ ap (cell w) (t ∙ hole))))
          ))
          (λ y s. (let t = back q s in sits-among t (omega (arith, t.within)) (omega (arith, t.within))))
    ];
    past = past-then;
  })

-- the only slot was given up
pub put_none : {w : List ℕ} {m k n : ℕ} → Heap w m n → k + 1 ≡ m → k ≡ 0 → Put w m n (cell w 0) never w k
put_none {w} {m} {k} {n} hp e z = rw z (record {
  long = refl;
  heap = heap_empty w n hp.few;
  new = keys_empty w (cell w 0);
  others = λ d ne. keys-same hp (heap_empty w n hp.few) d
      (λ y s. (let t : s.slot ≡ 0 = omega (arith, s.within) in absurd (ne (sym s.holds ∙ ap (cell w) t))))
      (λ y s. absurd (omega (arith, s.within)));
  past = λ j l. refl;
})
