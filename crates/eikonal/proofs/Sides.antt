-- Sides: what they rest on, how code finds them, and those of a tile run's last round.
use mathlib.Core.Path.{◌≡◌, refl, sym, ap, ◌∙◌, fun_ext}
use mathlib.Core.Bool.{Bool, true, false, cond, ◌&&◌}
use mathlib.Core.List.{List}
use mathlib.Core.Logic.{◌⊎◌, inl, inr, ◌≢◌}
use Prim.Native.Nat.{ℕ, zero, suc, ◌+◌, ◌*◌, ◌≤◌, ◌<◌, min}
use native.Mathlib.Omega.{arith}
use native.Mathlib.Nat.{add-zero, add-suc, zero-add, suc-add}
use lib.Dec.{ltb, leb, eqb}
use lib.ListN.{length, get_or}
use borrow.Author.Tests.{lt-ltb, le-ltb, le-leb, lt-leb, eq-eqb, ne_eqb}
use Rattle.eikonal.specs.Axes.{Axis, before, behind, Next, Spans}
use Rattle.eikonal.specs.Board.{Board, never, largest, size, start_time, arrival, met, time, marched}
use Rattle.eikonal.specs.Tiles.{tile_of, counts_as, tiled, round, last_round, rounds}
use Rattle.eikonal.specs.Sides.{side, sides_of, sides_seen, cell_sides, sides_from, march_sides, round_sides, sides_after}
use Rattle.eikonal.specs.Promise.{Neighbour, RunIsMarch}
use Rattle.eikonal.specs.Inner.Good.{Good}
use Rattle.eikonal.specs.Inner.Clip.{clip}
use Rattle.eikonal.specs.Inner.Sides.{sides_by, found}
use Rattle.eikonal.proofs.Levels.{order, lower}
use Rattle.eikonal.proofs.Local.{earlier-min}
use Rattle.eikonal.proofs.Good.{good}
use Rattle.eikonal.proofs.Grid.{before-by, behind-by, near-here, near-there}
use Rattle.eikonal.proofs.Rule.{columns-span, rows-span, storeys-span}
use Rattle.eikonal.proofs.Clip.{Clipped, kept, lost, clipped}
use Rattle.eikonal.proofs.LastRound.{last_says}
use Rattle.eikonal.proofs.Rounds.{march_counts, march_stays, march_last, rounds-low, rounds-last, rounds_march}
use Rattle.eikonal.proofs.CutRule.{march_meets, round-meets}

-- ---- THE BYTE: none by an answer at 0, and three parts of at most 2
pub side-none : (x y : ℕ) → side x y 0 ≡ 0
unfolding side
side-none x y = rw (le-ltb x 0 (omega arith), le-ltb y 0 (omega arith))

pub sides-none : (l r u d o n : ℕ) → sides_of l r u d o n 0 ≡ 0
unfolding sides_of
sides-none l r u d o n = rw (side-none l r, side-none u d, side-none o n)

pub side-most : (x y t : ℕ) → side x y t ≤ 2
unfolding side
side-most x y t = go (ltb x t && leb x y) (ltb y t)
  where
    go : (p q : Bool) → cond {A = ℕ} p 1 (cond q 2 0) ≤ 2
    go true q = omega arith
    go false true = omega arith
    go false false = omega arith

pub sides-most : (l r u d o n t : ℕ) → sides_of l r u d o n t ≤ 42
unfolding sides_of
sides-most l r u d o n t = omega (arith, side-most l r t, side-most u d t, side-most o n t)

-- ---- THEY REST on what is seen below the answer
side-agree : (t x y v w : ℕ) → min t x ≡ min t v → min t y ≡ min t w → side x y t ≡ side v w t
unfolding side
side-agree t x y v w p q = go (order x t) (order y t) (order y x)
  where
    go : (x < t) ⊎ (t ≤ x) → (y < t) ⊎ (t ≤ y) → (y < x) ⊎ (x ≤ y)
        → ◌≡◌ {A = ℕ} (cond (ltb x t && leb x y) 1 (cond (ltb y t) 2 0)) (cond (ltb v t && leb v w) 1 (cond (ltb w t) 2 0))
    go (inl i) j (inr k) = rw (lt-ltb x t i, le-leb x y k, lt-ltb v t (omega arith), le-leb v w (omega arith))
    go (inl i) j (inl k) =
        rw (lt-ltb x t i, lt-leb x y k, lt-ltb v t (omega arith), lt-leb v w (omega arith), lt-ltb y t (omega arith), lt-ltb w t (omega arith))
    go (inr i) (inl j) k = rw (le-ltb x t i, le-ltb v t (omega arith), lt-ltb y t j, lt-ltb w t (omega arith))
    go (inr i) (inr j) k = rw (le-ltb x t i, le-ltb v t (omega arith), le-ltb y t j, le-ltb w t (omega arith))

module _ {b : Board} (good : Good b) (c : ℕ) (on : c < size b) where
  -- at the neighbours on the board
  pub seen-agree : (t : ℕ) (f g : ℕ → ℕ) → ((e : ℕ) → e < size b → Neighbour b c e → min t (f e) ≡ min t (g e)) → sides_seen b c f t ≡ sides_seen b c g t
  unfolding sides_seen sides_of
  seen-agree t f g h =
      let x = along (columns-span good) (λ e k. near-here k) in
      let y = along (rows-span good) (λ e k. near-there (near-here k)) in
      let z = along (storeys-span good) (λ e k. near-there (near-there (near-here k))) in
      cc (side-agree t _ _ _ _ x.0 x.1, side-agree t _ _ _ _ y.0 y.1, side-agree t _ _ _ _ z.1 z.0)
    where
      along : {a : Axis} → Spans (size b) a → ((e : ℕ) → Next a c e ⊎ Next a e c → Neighbour b c e)
          → (min t (before a c f) ≡ min t (before a c g)) × (min t (behind a c f) ≡ min t (behind a c g))
      along sp near = (
        before-by sp (λ x y. min t x ≡ min t y) refl c on f g (λ e l k. h e l (near e k)),
        behind-by sp (λ x y. min t x ≡ min t y) refl c on f g (λ e l k. h e l (near e k)),
      )

  pub sides-same : (f g : ℕ → ℕ) → ((e : ℕ) → e < size b → Neighbour b c e → f e ≡ g e) → (t : ℕ) → sides_seen b c f t ≡ sides_seen b c g t
  sides-same f g h t = seen-agree t f g (λ e l n. ap (min t) (h e l n))

  -- up to the bound
  pub sides-agree : (m : ℕ) (f g : ℕ → ℕ) → ((e : ℕ) → e < size b → Neighbour b c e → min (suc m) (f e) ≡ min (suc m) (g e))
      → (t : ℕ) → sides_by b m c f t ≡ sides_by b m c g t
  unfolding sides_by
  sides-agree m f g h t = go (order m t)
    where
      go : (m < t) ⊎ (t ≤ m) → cond (leb t m) (sides_seen b c f t) 0 ≡ cond (leb t m) (sides_seen b c g t) 0
      go (inl k) = rw (lt-leb t m k)
      go (inr k) = rw (seen-agree t f g (λ e l n. lower (omega arith) (f e) (g e) (h e l n)))

-- ---- AS CODE FINDS THEM: by the cell's time, cut at the bound
module _ (b : Board) (m c : ℕ) (f : ℕ → ℕ) (low : m < never) where
  abbrev begins : ℕ
  begins = start_time c b.starts

  found-past : found b m c f never ≡ 0
  unfolding found sides_by
  found-past = go (eqb never begins)
    where
      go : (p : Bool) → ◌≡◌ {A = ℕ} (cond p 0 (cond (leb never m) (sides_seen b c f never) 0)) 0
      go true = refl
      go false = rw (lt-leb never m low)

  found-start : found b m c f begins ≡ 0
  unfolding found
  found-start = rw (eq-eqb begins begins refl)

  found-kept : (t : ℕ) → t ≢ begins → t ≤ m → found b m c f t ≡ sides_seen b c f t
  unfolding found sides_by
  found-kept t n l = rw (ne_eqb t begins n, le-leb t m l)

  pub by-time : cell_sides b m c f ≡ found b m c f (clip m (met b c f))
  unfolding cell_sides met
  by-time = rw earlier-min (go (order (arrival b c f) begins) (clipped m (min begins (arrival b c f))))
    where
      go : (arrival b c f < begins) ⊎ (begins ≤ arrival b c f) → Clipped m (min begins (arrival b c f))
          → cond (ltb (arrival b c f) begins && leb (arrival b c f) m) (sides_seen b c f (arrival b c f)) 0
          ≡ found b m c f (clip m (min begins (arrival b c f)))
      go (inl i) (kept j p) =
          let e : min begins (arrival b c f) ≡ arrival b c f = omega arith in
          rw (p, e, lt-ltb (arrival b c f) begins i, le-leb (arrival b c f) m (omega arith))
          (sym (found-kept (arrival b c f) (λ z. omega arith) (omega arith)))
      go (inl i) (lost j p) = rw (p, lt-leb (arrival b c f) m (omega arith), lt-ltb (arrival b c f) begins i) (sym found-past)
      go (inr i) (kept j p) =
          let e : min begins (arrival b c f) ≡ begins = omega arith in
          rw (p, e, le-ltb (arrival b c f) begins i) (sym found-start)
      go (inr i) (lost j p) = rw (p, le-ltb (arrival b c f) begins i) (sym found-past)

-- ---- LISTS of sides
pub sides-length : (n c : ℕ) (b : Board) (m : ℕ) (f : ℕ → ℕ → ℕ) → length (sides_from n c b m f) ≡ n
unfolding sides_from
sides-length zero c b m f = refl
sides-length (suc n) c b m f = ap suc (sides-length n (suc c) b m f)

pub sides-at : (n c : ℕ) (b : Board) (m : ℕ) (f : ℕ → ℕ → ℕ) (i : ℕ) → i < n → get_or (sides_from n c b m f) i 0 ≡ cell_sides b m (c + i) (f (c + i))
unfolding sides_from
sides-at zero c b m f i l = absurd (omega arith)
sides-at (suc n) c b m f zero l = rw add-zero
sides-at (suc n) c b m f (suc i) l = rw (add-suc, ← suc-add) (sides-at n (suc c) b m f i (omega arith))

-- of a whole board, by the cells' times
pub sides-found : (b : Board) (m : ℕ) → m ≤ largest → (f : ℕ → ℕ → ℕ) (c t : ℕ) → c < size b → t ≡ clip m (met b c (f c))
    → get_or (sides_from (size b) 0 b m f) c 0 ≡ found b m c (f c) t
sides-found b m l f c t on e = sides-at (size b) 0 b m f c on ∙ rw (zero-add c, e) (by-time b m c (f c) (omega arith))

-- a round that leaves the march, each cell of which saw the march's times, has the march's sides
pub round_as_march : (b : Board) (tw th m : ℕ) (ts : List ℕ) → round b tw th m ts ≡ marched b m
    → ((c e : ℕ) → tiled b tw th ts (λ e. time (marched b m) e) c e ≡ time (marched b m) e) → round_sides b tw th m ts ≡ march_sides b m
unfolding round_sides march_sides
round_as_march b tw th m ts left saw = rw left (ap (sides_from (size b) 0 b m) (fun_ext (λ c. fun_ext (λ e. saw c e))))

-- ---- OF A MARCH AND OF A ROUND
module _ {b : Board} (good : Good b) where
  pub march_sides-at : (h : ℕ) → h ≤ largest → (c : ℕ) → c < size b
      → get_or (march_sides b h) c 0 ≡ found b h c (λ e. time (marched b h) e) (time (marched b h) c)
  unfolding march_sides
  march_sides-at h l c on = sides-found b h l _ c (time (marched b h) c) on (march_meets b good h l c on)

  module _ (tw th : ℕ) where
    pub round_sides-at : (m : ℕ) → m ≤ largest → (ts : List ℕ) (c : ℕ) → c < size b
        → get_or (round_sides b tw th m ts) c 0
        ≡ found b m c (tiled b tw th ts (λ e. time (round b tw th m ts) e) c) (time (round b tw th m ts) c)
    unfolding round_sides
    round_sides-at m l ts c on = sides-found b m l _ c (time (round b tw th m ts) c) on (round-meets b good tw th m l ts c on)

    -- a round that is lent the march is such a one, and so is the last of a tile run
    march_round_sides : (h : ℕ) → h ≤ largest → round_sides b tw th h (marched b h) ≡ march_sides b h
    march_round_sides h l =
        round_as_march b tw th h (marched b h) (march_stays b good tw th h l) (λ c e. pick (eqb (tile_of b tw th c) (tile_of b tw th e)) e)
      where
        pick : (p : Bool) (e : ℕ) → cond p (time (marched b h) e) (counts_as b (marched b h) e) ≡ time (marched b h) e
        pick true e = refl
        pick false e = march_counts b good tw th h l e

    pub run-sides : (s h : ℕ) → 1 ≤ s → h ≤ largest → sides_after (rounds b tw th s h) b tw th s h ≡ march_sides b h
    unfolding sides_after
    run-sides s h low l = go (rounds b tw th s h) (rounds-low b good tw th s h low l) (rounds-last b good tw th s h low l)
      where
        go : (k : ℕ) → 1 ≤ k → last_round b tw th s h k ≡ true → sides_after k b tw th s h ≡ march_sides b h
        go zero i e = absurd (omega arith)
        go (suc k) i e =
            let last = last_says b tw th s h k e in
            let bound : min (suc k * s) h ≡ h = omega arith in
            rw (bound, (march_last b good tw th s h low l k e).0) (march_round_sides h l)

-- THE THIRD CONDITION's weight
pub run_is_march : RunIsMarch
unfolding RunIsMarch
run_is_march b tw th s h e w1 w2 t1 t2 low s2 high =
    let g = good b e in
    (rounds-last b g tw th s h low high, rounds_march b g tw th s h low high, run-sides g tw th s h low high)
