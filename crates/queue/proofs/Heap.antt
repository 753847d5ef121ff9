-- Laws of a heap in a list: the keys of cells, the first slot; and what callers cite: an empty heap needs no store, stores past a heap keep it.
use mathlib.Core.Path.{◌≡◌, refl, sym, ap, ◌∙◌}
use mathlib.Core.Logic.{◌≢◌}
use mathlib.Core.List.{List}
use Prim.Native.Nat.{ℕ, zero, suc, ◌+◌, ◌*◌, ◌/◌, ◌%◌, ◌≤◌, ◌<◌}
use native.Mathlib.Omega.{arith}
use native.Mathlib.Decide.{ℕ_discrete, dec_lt}
use lib.ListN.{get_or, set}
use lib.Seq.{get_or-set_other}
use borrow.Author.Tests.{lt-ltb, le-ltb, eq-eqb, ne_eqb}
use Rattle.queue.specs.Heap.{never, key, cell, place, keys, Heap, Least}
use Rattle.queue.specs.Mending.{above, Stale, Sits}
use Rattle.queue.proofs.Mending.{above_within}

-- ---- keys
module _ (w : List ℕ) (m d : ℕ) where
  pub key-found : place w d < m → cell w (place w d) ≡ d → keys w m d ≡ key w (place w d)
  unfolding keys
  key-found l e = rw (lt-ltb (place w d) m l, eq-eqb (cell w (place w d)) d e)

  pub key_stale : Stale w m d → keys w m d ≡ never
  unfolding keys
  key_stale z = elim (dec_lt (place w d) m) [
    | yes l ↦ rw (lt-ltb (place w d) m l, ne_eqb (cell w (place w d)) d (z l))
    | no l ↦ rw (le-ltb (place w d) m (omega arith))
  ]

-- a cell is in a slot with its key, or in none
data Sought (w : List ℕ) (m d : ℕ) : Type 0 where
  sits : Sits w m m d (keys w m d) → Sought w m d
  nowhere : ((i : ℕ) → i < m → cell w i ≢ d) → keys w m d ≡ never → Sought w m d

module _ {w : List ℕ} {m n : ℕ} (hp : Heap w m n) where
  pub key-at : (i d : ℕ) → i < m → cell w i ≡ d → keys w m d ≡ key w i
  key-at i d l e =
      let p : place w d ≡ i = ap (place w) (sym e) ∙ hp.places i l in
      key-found w m d (omega arith) (ap (cell w) p ∙ e) ∙ ap (key w) p

  pub one-slot : (i j : ℕ) → i < m → j < m → cell w i ≡ cell w j → i ≡ j
  one-slot i j a b e = sym (hp.places i a) ∙ ap (place w) e ∙ hp.places j b

  -- a cell that its slot does not hold is in none
  pub not_found : (d : ℕ) → Stale w m d → (i : ℕ) → i < m → cell w i ≢ d
  not_found d z i l e = let p : place w d ≡ i = ap (place w) (sym e) ∙ hp.places i l in z (omega arith) (ap (cell w) p ∙ e)

  sought : (d : ℕ) → Sought w m d
  sought d = elim (dec_lt (place w d) m) [
    | yes l ↦ elim (ℕ_discrete (cell w (place w d)) d) [
      | yes e ↦ sits (record { slot = place w d; within = l; off = omega arith; holds = e; at = sym (key-found w m d l e) })
      | no e ↦ none (λ a. e)
    ]
    | no l ↦ none (λ a. absurd (l a))
  ]
    where
      none : Stale w m d → Sought w m d
      none z = nowhere (not_found d z) (key_stale w m d z)

  pub keys_none : (d : ℕ) → ((y : ℕ) → Sits w m m d y → ⊥) → keys w m d ≡ never
  keys_none d z = elim (sought d) [ sits s ↦ absurd (z (keys w m d) s) | nowhere t e ↦ e ]

  pub keys-small : (d : ℕ) → keys w m d ≤ never
  keys-small d = elim (sought d) [ sits s ↦ omega (arith, hp.due s.slot s.within, s.at) | nowhere t e ↦ omega arith ]

  -- ---- the first slot
  root_least : (f i : ℕ) → i ≤ f → i < m → key w 0 ≤ key w i
  root_least zero i a b = let e : i ≡ 0 = omega arith in omega (arith, ap (key w) e)
  root_least (suc f) i a b = elim (ℕ_discrete i 0) [
    | yes e ↦ omega (arith, ap (key w) e)
    | no e ↦ omega (arith, root_least f (above i) (omega arith) (above_within i (omega arith) b), hp.order i (omega arith) b)
  ]

  pub top_least : 0 < m → (d : ℕ) → key w 0 ≤ keys w m d
  top_least l d = elim (sought d) [
    | sits s ↦ omega (arith, root_least s.slot s.slot (omega arith) s.within, s.at)
    | nowhere t e ↦ omega (arith, hp.due 0 l)
  ]

  pub first-least : 0 < m → Least w m n (cell w 0)
  first-least l =
      let e = key-at 0 (cell w 0) l refl in
      record { on = hp.cells 0 l; first = refl; top = e; pending = omega (arith, hp.due 0 l); least = λ d. omega (arith, top_least l d) }

-- a key stays where the cell sits with the same keys as before
pub keys-same : {w v : List ℕ} {m M n : ℕ} → Heap w m n → Heap v M n → (d : ℕ) →
    ((y : ℕ) → Sits w m m d y → Sits v M M d y) → ((y : ℕ) → Sits v M M d y → Sits w m m d y) → keys v M d ≡ keys w m d
keys-same {w} {v} {m} {M} hp hv d there back = elim (sought hp d) [
  | sits s ↦ (let t = there (keys w m d) s in key-at hv t.slot d t.within t.holds ∙ t.at)
  | nowhere z e ↦ keys_none hv d (λ y s. (let t = back y s in z t.slot t.within t.holds)) ∙ sym e
]

-- ---- an empty heap
pub heap_empty : (w : List ℕ) (n : ℕ) → n ≤ 65536 → Heap w 0 n
heap_empty w n few = record {
  few = few;
  fits = omega arith;
  cells = λ i l. absurd (omega arith);
  places = λ i l. absurd (omega arith);
  due = λ i l. absurd (omega arith);
  order = λ i p l. absurd (omega arith);
}

pub keys_empty : (w : List ℕ) (c : ℕ) → keys w 0 c ≡ never
keys_empty w c = key_stale w 0 c (λ l. absurd (omega arith))

-- ---- stores past a heap
-- a heap is what its list holds below 2n
module _ (w w' : List ℕ) (m n : ℕ) (h : (j : ℕ) → j < 2 * n → get_or w' j 0 ≡ get_or w j 0) where
  same-cell : (i : ℕ) → i < n → cell w' i ≡ cell w i
  unfolding cell
  same-cell i l = ap (λ x. x % 65536) (h (2 * i + 1) (omega arith))

  same_place : (c : ℕ) → c < n → place w' c ≡ place w c
  unfolding place
  same_place c l = ap (λ x. x / 65536) (h (2 * c + 1) (omega arith))

  heap_keeps : Heap w m n → Heap w' m n
  heap_keeps hp = record {
    few = hp.few;
    fits = hp.fits;
    cells = λ i l. omega (arith, same-cell i (omega (arith, hp.fits)), hp.cells i l);
    places = λ i l. ap (place w') (same-cell i (omega (arith, hp.fits))) ∙ same_place (cell w i) (hp.cells i l) ∙ hp.places i l;
    due = λ i l. omega (arith, h (2 * i) (omega (arith, hp.fits)), hp.due i l);
    order = λ i p l. omega (arith, h (2 * i) (omega (arith, hp.fits)), h (2 * above i) (omega (arith, hp.fits, above_within i p l)), hp.order i p l);
  }

  sits-kept : m ≤ n → {d y : ℕ} → Sits w m m d y → Sits w' m m d y
  sits-kept l s = record {
    slot = s.slot;
    within = s.within;
    off = s.off;
    holds = same-cell s.slot (omega (arith, s.within)) ∙ s.holds;
    at = h (2 * s.slot) (omega (arith, s.within)) ∙ s.at;
  }

keys-keep : (w w' : List ℕ) (m n : ℕ) → ((j : ℕ) → j < 2 * n → get_or w' j 0 ≡ get_or w j 0) → Heap w m n → (d : ℕ) → keys w' m d ≡ keys w m d
keys-keep w w' m n h hp d =
    keys-same hp (heap_keeps w w' m n h hp) d (λ y. sits-kept w w' m n h hp.fits) (λ y. sits-kept w' w m n (λ j l. sym (h j l)) hp.fits)

module _ (w : List ℕ) (m n i x : ℕ) (l : 2 * n ≤ i) (hp : Heap w m n) where
  kept : (j : ℕ) → j < 2 * n → get_or (set w i x) j 0 ≡ get_or w j 0
  kept j b = get_or-set_other w i j x 0 (omega arith)

  pub heap-past : Heap (set w i x) m n
  heap-past = heap_keeps w (set w i x) m n kept hp

  pub keys_past : (d : ℕ) → keys (set w i x) m d ≡ keys w m d
  keys_past = keys-keep w (set w i x) m n kept hp
