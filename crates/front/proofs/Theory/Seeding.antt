-- The beginning of a round: the work list emptied, starts placed in it one after the other, and then gathered in the queue.
use Rattle.std.proofs.Common.{◌≡◌, ℕ, zero, suc, ◌+◌, ◌*◌, ◌<◌, ◌≤◌, min, Bool, true, false, cond, ◌&&◌, eqb, ltb, leb, ◌≢◌, List, [], ◌∷◌, ◌++◌}
use Rattle.std.proofs.Common.{length, get_or, take, set, sym, refl, ◌∙◌, subst, inr, arith, length-set, get_or-set_other, take-suc}
use Rattle.std.proofs.Common.{get_or-set_same, ltb-false, ltb-true, eq-eqb, ne_eqb, eqb-true, leb-true}
use native.Mathlib.Decide.{ℕ_discrete}
use lib.Seq.{take_all}
use Rattle.eikonal.specs.Board.{never, start_time}
use Rattle.eikonal.specs.declared.Start.{Start}
use Rattle.eikonal.specs.Refusals.{late}
use Rattle.eikonal.specs.Handing.{no_start}
use Rattle.eikonal.specs.Inner.Good.{starts_rise}
use Rattle.eikonal.proofs.Good.{and-true, or-false}
use Rattle.queue.specs.Lists.{Filled}
use Rattle.queue.specs.Heap.{Put}
use Rattle.queue.proofs.Heap.{heap_empty, keys_empty}
use Rattle.front.specs.Board.{tentative, Work, at}
use Rattle.front.specs.State.{soonest, Placed, Seeded, Empty, Gathered}

-- ---- the soonest of a list of starts
soonest-small : (c : ℕ) (xs : List Start) → soonest c xs ≤ never
unfolding soonest
soonest-small c [] = omega arith
soonest-small c (x ∷ xs) = omega (arith, soonest-small c xs)

soonest-append : (c : ℕ) (xs ys : List Start) → soonest c (xs ++ ys) ≡ min (soonest c xs) (soonest c ys)
unfolding soonest
soonest-append c [] ys = omega (arith, soonest-small c ys)
soonest-append c (x ∷ xs) ys = omega (arith, soonest-append c xs ys)

-- none of the starts is at a cell below their first
none_below : (n l : ℕ) (xs : List Start) → starts_rise n l xs ≡ true → (c : ℕ) → c < l → soonest c xs ≡ never
unfolding soonest starts_rise
none_below n l [] e c h = refl
none_below n l (x ∷ xs) e c h =
    let r = and-true (leb l x.cell && ltb x.cell n) (starts_rise n (suc x.cell) xs) e in
    let low = leb-true l x.cell (and-true (leb l x.cell) (ltb x.cell n) r.0).0 in
    rw (ne_eqb x.cell c (omega arith), none_below n (suc x.cell) xs r.1 c (omega arith)) (omega arith)

-- of accepted starts, whose cells rise, a cell has one at most
pub soonest-is : (n l : ℕ) (xs : List Start) → starts_rise n l xs ≡ true → late xs ≡ false → (c : ℕ) → soonest c xs ≡ start_time c xs
unfolding soonest starts_rise late start_time
soonest-is n l [] e f c = refl
soonest-is n l (x ∷ xs) e f c =
    let r = and-true (leb l x.cell && ltb x.cell n) (starts_rise n (suc x.cell) xs) e in
    let g = or-false (ltb 1000000 x.time) (late xs) f in
    go (eqb x.cell c) refl (ltb-false 1000000 x.time g.0) (none_below n (suc x.cell) xs r.1 c) (soonest-is n (suc x.cell) xs r.1 g.1 c)
  where
    go : (p : Bool) → eqb x.cell c ≡ p → x.time ≤ 1000000 → (c < suc x.cell → soonest c xs ≡ never) → soonest c xs ≡ start_time c xs
        → min (cond p x.time never) (soonest c xs) ≡ cond p x.time (start_time c xs)
    go true q h a k = rw (a (omega (arith, eqb-true x.cell c q))) (omega arith)
    go false q h a k = rw k (omega (arith, k, soonest-small c xs))

-- the cells of accepted starts are on the board
pub starts-on : (n l : ℕ) (xs : List Start) → starts_rise n l xs ≡ true → (i : ℕ) → i < length xs → (get_or xs i no_start).cell < n
unfolding starts_rise
starts-on n l [] e i h = absurd (omega arith)
starts-on n l (x ∷ xs) e zero h =
    let r = and-true (leb l x.cell && ltb x.cell n) (starts_rise n (suc x.cell) xs) e in
    ltb-true x.cell n (and-true (leb l x.cell) (ltb x.cell n) r.0).1
starts-on n l (x ∷ xs) e (suc i) h =
    let r = and-true (leb l x.cell && ltb x.cell n) (starts_rise n (suc x.cell) xs) e in
    starts-on n (suc x.cell) xs r.1 i (omega arith)

-- ---- the work list emptied
pub emptied : {n : ℕ} {v v' : List ℕ} → 4 * n ≤ length v → Filled (2 * n) (3 * n) never v v' → Empty n v v'
emptied {n} {v} {v'} h b = record {
  placed = record { room = omega (arith, b.long); small = λ c l. omega (arith, never_now c l) };
  long = b.long;
  rest = λ j l. b.outside j (inr l);
  times = never_now;
}
  where
    never_now : (c : ℕ) → c < n → tentative v' n c ≡ never
    never_now c l = b.inside (2 * n + c) (omega arith) (omega arith)

-- ---- ONE START PLACED: its cell's time is the earlier of both
pub placed_one : {n : ℕ} {v : List ℕ} → Placed n v → (s : Start) → s.cell < n
    → Seeded n (s ∷ []) v (set v (2 * n + s.cell) (min (tentative v n s.cell) s.time))
unfolding soonest
placed_one {n} {v} pl s l = record {
  placed = record { room = rw length-set pl.room; small = λ d m. omega (arith, now d m, pl.small d m) };
  long = length-set v (2 * n + s.cell) (min (tentative v n s.cell) s.time);
  rest = λ j m. get_or-set_other v (2 * n + s.cell) j (min (tentative v n s.cell) s.time) 0 (omega arith);
  times = now;
}
  where
    x : ℕ
    x = min (tentative v n s.cell) s.time

    here : tentative (set v (2 * n + s.cell) x) n s.cell ≡ x
    here = get_or-set_same v (2 * n + s.cell) x 0 (omega (arith, pl.room))

    there : (d : ℕ) → d < n → d ≢ s.cell → tentative (set v (2 * n + s.cell) x) n d ≡ tentative v n d
    there d m q = get_or-set_other v (2 * n + s.cell) (2 * n + d) x 0 (omega arith)

    now : (d : ℕ) → d < n → tentative (set v (2 * n + s.cell) x) n d ≡ min (tentative v n d) (min (cond (eqb s.cell d) s.time never) never)
    now d m = elim (ℕ_discrete d s.cell) [
      | yes q ↦ rw (q, here, eq-eqb s.cell s.cell refl) (omega (arith, pl.small s.cell l))
      | no q ↦ rw (there d m q, ne_eqb s.cell d (omega arith)) (omega (arith, pl.small d m))
    ]

-- ---- several starts placed
pub seeded_none : {n : ℕ} {v : List ℕ} → Placed n v → Seeded n [] v v
unfolding soonest
seeded_none pl = record { placed = pl; long = refl; rest = λ j l. refl; times = λ c l. omega (arith, pl.small c l) }

-- starts after starts
pub seeded_parts : {n : ℕ} {xs ys : List Start} {v u v' : List ℕ} → Seeded n xs v u → Seeded n ys u v' → Seeded n (xs ++ ys) v v'
seeded_parts {n} {xs} {ys} {v} {u} {v'} a b = record {
  placed = b.placed;
  long = b.long ∙ a.long;
  rest = λ j l. b.rest j l ∙ a.rest j l;
  times = λ c l. rw (soonest-append c xs ys) (omega (arith, b.times c l, a.times c l));
}

-- the next start, after the first i
pub seeded_next : {n : ℕ} {v u v' : List ℕ} (xs : List Start) (i : ℕ) (x : Start) → i < length xs → x ≡ get_or xs i no_start
    → Seeded n (take i xs) v u → Seeded n (x ∷ []) u v' → Seeded n (take (suc i) xs) v v'
seeded_next {n} {v} {u} {v'} xs i x h e a b = rw (take-suc xs i no_start) (seeded_parts a (subst (λ y. Seeded n (y ∷ []) u v') e b))

-- and in the end all of them
pub seeded_all : {n : ℕ} {v v' : List ℕ} (xs : List Start) (i : ℕ) → length xs ≤ i → Seeded n (take i xs) v v' → Seeded n xs v v'
seeded_all {n} {v} {v'} xs i h a = subst (λ ys. Seeded n ys v v') (take_all i xs h) a

-- FROM NOTHING a cell's tentative time is its soonest start
pub seeded_soonest : {n : ℕ} {xs : List Start} {w v v' : List ℕ} → Empty n w v → Seeded n xs v v' → (c : ℕ) → c < n → tentative v' n c ≡ soonest c xs
seeded_soonest {n} {xs} a b c l = omega (arith, b.times c l, a.times c l, soonest-small c xs)

-- ---- STARTS ARE GATHERED in the queue: those of the cells from lo on and below c, and no other cell is pending
module _ {n : ℕ} (lo : ℕ) {v : List ℕ} where
  pub gather_begins : n ≤ 65536 → Gathered n lo lo v (at v 0)
  gather_begins few = record {
    long = refl;
    heap = heap_empty v n few;
    even = λ d i. absurd (omega arith);
    others = λ d o. keys_empty v d;
    rest = λ j l. refl;
  }

  module _ {c : ℕ} {v' : Work} (ga : Gathered n lo c v v') where
    -- a cell with a time becomes pending
    pub gather_goes_on : {t r : ℕ} {u : List ℕ} → t ≡ tentative v n c → Put v'.list v'.size n c t u r → lo ≤ c → Gathered n lo (suc c) v (at u r)
    gather_goes_on q put k = record {
      long = put.long ∙ ga.long;
      heap = put.heap;
      even = λ d i. elim (ℕ_discrete d c) [
        | yes z ↦ rw z (put.new ∙ q)
        | no z ↦ put.others d z ∙ ga.even d (i.0, omega arith)
      ];
      others = λ d o. put.others d (λ z. o (omega arith, omega arith)) ∙ ga.others d (λ i. o (i.0, omega arith));
      rest = λ j l. put.past j l ∙ ga.rest j l;
    }

    -- one without a time does not
    pub gather_passes : tentative v n c ≡ never → Gathered n lo (suc c) v v'
    gather_passes q = record {
      long = ga.long;
      heap = ga.heap;
      even = λ d i. elim (ℕ_discrete d c) [
        | yes z ↦ rw z (ga.others c (λ i. omega arith) ∙ sym q)
        | no z ↦ ga.even d (i.0, omega arith)
      ];
      others = λ d o. ga.others d (λ i. o (i.0, omega arith));
      rest = ga.rest;
    }
