-- A walk over the starts of a file, and over starts and runs together: what the start in hand says of all from there on.
use mathlib.Core.Path.{◌≡◌, refl, sym, ap, ap₂, ◌∙◌}
use mathlib.Core.Bool.{true, false, ◌&&◌, ◌||◌}
use mathlib.Core.List.{List, [], ◌∷◌, ◌++◌}
use Prim.Native.Nat.{ℕ, suc, ◌+◌, ◌*◌, ◌-◌, ◌≤◌, ◌<◌}
use native.Mathlib.Omega.{arith}
use native.Mathlib.Decide.{dec_le}
use lib.Dec.{ltb, leb, eqb}
use lib.ListN.{get_or, drop, replicate, length-replicate, get_or-replicate, get_or-append}
use lib.Seq.{get_or-append-add}
use borrow.Author.Tests.{le-leb, lt-leb, ne_eqb, leb-true, ltb-true}
use Rattle.eikonal.specs.Board.{Board, slowness}
use Rattle.eikonal.specs.declared.Start.{Start}
use Rattle.eikonal.specs.Refusals.{on_wall}
use Rattle.eikonal.specs.Inner.Good.{starts_rise}
use Rattle.refusals.specs.Judge.{judge_start, judge_by}
use Rattle.refusals.specs.declared.board.Judged.{Judged}
use Rattle.eikonal.proofs.Good.{and-true}
use Rattle.scenario.specs.declared.Run.{Run}
use Rattle.scenario.specs.Bytes.{records}
use Rattle.scenario.specs.Runs.{end, painted, run_good, runs_good}
use Rattle.scenario.specs.File.{start_size, start_in}
use Rattle.scenario.specs.Inner.Walk.{starts_onward, past, near, wall_among}
use Rattle.scenario.proofs.Records.{onward-none, onward-next, onward-all}
use Rattle.scenario.proofs.GoodRuns.{good-fits}

pub starts-all : (f : List ℕ) (a count : ℕ) → records start_size start_in count (drop a f) ≡ starts_onward f a count 0
starts-all f a count = sym (onward-all start_size start_in f a count)

-- none is left
module _ (f : List ℕ) (a count i : ℕ) (l : count ≤ i) where
  pub none : starts_onward f a count i ≡ []
  none = onward-none start_size start_in f a count i l

  pub judged-none : (n : ℕ) (g : ℕ → ℕ) (j : Judged) → judge_by n g (starts_onward f a count i) j ≡ j
  unfolding judge_by
  judged-none n g j = rw none

  pub wall_none : (g : ℕ) (xs : List Run) → wall_among g xs (starts_onward f a count i) ≡ false
  unfolding wall_among
  wall_none g xs = rw none

-- the start in hand
module _ (f : List ℕ) (a count i : ℕ) (x : Start) (l : i < count) (e : x ≡ start_in (drop (a + start_size * i) f)) where
  next : starts_onward f a count i ≡ x ∷ starts_onward f a count (i + 1)
  next = onward-next start_size start_in f a count i x l e

  pub judged-next : (n : ℕ) (g : ℕ → ℕ) (j : Judged) → judge_by n g (starts_onward f a count i) j
      ≡ judge_by n g (starts_onward f a count (i + 1)) (judge_start n (g x.cell) x.cell x.time j)
  unfolding judge_by
  judged-next n g j = rw next

-- ---- starts among runs
-- cells that rise from l on rise from anything lower on
rise-down : (n k l : ℕ) (xs : List Start) → k ≤ l → starts_rise n l xs ≡ true → starts_rise n k xs ≡ true
unfolding starts_rise
rise-down n k l [] h e = refl
rise-down n k l (x ∷ xs) h e =
    let r = and-true (leb l x.cell && ltb x.cell n) _ e in
    let s = and-true (leb l x.cell) (ltb x.cell n) r.0 in
    let low = leb-true l x.cell s.0 in
    rw (le-leb k x.cell (omega arith), s.1) r.1

past-past : (c d : ℕ) (xs : List Run) → c ≤ d → past d (past c xs) ≡ past d xs
unfolding past
past-past c d [] h = refl
past-past c d (x ∷ xs) h = elim (dec_le (end x) c) [
  | yes q ↦ rw (le-leb (end x) c q, le-leb (end x) d (omega arith)) (past-past c d xs h)
  | no q ↦ rw (lt-leb (end x) c (omega arith)) refl
]

-- the runs that end at a cell or before it do not count for later starts
wall_past : (n g c l : ℕ) (xs : List Run) (ss : List Start) → c ≤ l → starts_rise n l ss ≡ true → wall_among g xs ss ≡ wall_among g (past c xs) ss
unfolding wall_among starts_rise
wall_past n g c l xs [] h e = refl
wall_past n g c l xs (s ∷ ss) h e =
    let r = and-true (leb l s.cell && ltb s.cell n) _ e in
    let low = leb-true l s.cell (and-true (leb l s.cell) (ltb s.cell n) r.0).0 in
    ap₂ (λ u v. eqb u 0 || v) (ap (near g s.cell) (sym (past-past c s.cell xs (omega arith))))
    (wall_past n g c (suc s.cell) xs ss (omega arith) r.1)

-- the starts behind the one in hand rise too
module _ (f : List ℕ) (a count i : ℕ) (x : Start) (l : i < count) (e : x ≡ start_in (drop (a + start_size * i) f))
    (n : ℕ) (r : starts_rise n 0 (starts_onward f a count i) ≡ true) where
  rise-past : starts_rise n (suc x.cell) (starts_onward f a count (i + 1)) ≡ true
  unfolding starts_rise
  rise-past = (and-true (leb 0 x.cell && ltb x.cell n) _ (rw (next f a count i x l e) at r)).1

  pub rise-behind : starts_rise n 0 (starts_onward f a count (i + 1)) ≡ true
  rise-behind = rise-down n 0 (suc x.cell) _ (omega arith) rise-past

-- one start more: its slowness s is found among the runs ys that are left
module _ (f : List ℕ) (a count i : ℕ) (x : Start) (l : i < count) (e : x ≡ start_in (drop (a + start_size * i) f))
    (v : ℕ) (d : v ≡ x.cell) (g : ℕ) (xs ys : List Run) (p : ys ≡ past v xs) (s : ℕ) (q : s ≡ near g v ys) where
  pub wall_here : s ≡ 0 → wall_among g xs (starts_onward f a count i) ≡ true
  unfolding wall_among
  wall_here h = rw (next f a count i x l e, ← d, ← p, ← q, h) refl

  pub wall_next : (n : ℕ) → starts_rise n 0 (starts_onward f a count i) ≡ true → (s ≡ 0 → ⊥)
      → wall_among g xs (starts_onward f a count i) ≡ wall_among g ys (starts_onward f a count (i + 1))
  unfolding wall_among
  wall_next n r h =
      let rest = wall_past n g v (suc x.cell) xs (starts_onward f a count (i + 1)) (omega arith) (rise-past f a count i x l e n r) in
      rw (next f a count i x l e, ← d, ← p, ← q, ne_eqb s 0 h, p) rest

-- ---- the slowness of a cell, found among the runs
behind : (k v i : ℕ) (ys : List ℕ) → k ≤ i → get_or (replicate k v ++ ys) i 0 ≡ get_or ys (i - k) 0
behind k v i ys h =
    ap (λ u. get_or (replicate k v ++ ys) u 0) (omega (arith, length-replicate k v)) ∙ get_or-append-add (replicate k v) ys (i - k) 0

inside : (k v i : ℕ) (ys : List ℕ) → i < k → get_or (replicate k v ++ ys) i 0 ≡ v
inside k v i ys h = get_or-append (replicate k v) ys 0 i (rw length-replicate h) ∙ get_or-replicate k i v 0 h

painted-at : (n g a z c : ℕ) (xs : List Run) → runs_good n g a z xs ≡ true → a ≤ c → c < n → get_or (painted g a n xs) (c - a) 0 ≡ near g c (past c xs)
unfolding painted past near runs_good end
painted-at n g a z c [] e h k = get_or-replicate (n - a) (c - a) g 0 (omega arith)
painted-at n g a z c (x ∷ xs) e h k =
    let r = and-true (run_good n g a z x) _ e in
    let f = good-fits n g a z x r.0 in
    elim (dec_le (x.offset + x.long) c) [
      | yes q ↦
          rw (le-leb (x.offset + x.long) c q)
          (behind (x.offset - a) g (c - a) _ (omega (arith, f.behind)) ∙ behind x.long x.slow (c - a - (x.offset - a)) _ (omega (arith, f.behind))
          ∙ ap (λ u. get_or (painted g (x.offset + x.long) n xs) u 0)
          (let t : c - a - (x.offset - a) - x.long ≡ c - (x.offset + x.long) = omega (arith, f.behind) in t)
          ∙ painted-at n g (x.offset + x.long) x.slow c xs r.1 q k)
      | no q ↦ rw (lt-leb (x.offset + x.long) c (omega arith)) (elim (dec_le x.offset c) [
        | yes t ↦
            rw (le-leb x.offset c t)
            (behind (x.offset - a) g (c - a) _ (omega (arith, f.behind)) ∙ inside x.long x.slow (c - a - (x.offset - a)) _ (omega (arith, f.behind)))
        | no t ↦ rw (lt-leb x.offset c (omega arith)) (inside (x.offset - a) g (c - a) _ (omega arith))
      ])
    ]

-- ON A WALL: the walk finds what the board says
pub walls_found : (b : Board) (n g l : ℕ) (xs : List Run) (ss : List Start) → b.slow ≡ painted g 0 n xs → runs_good n g 0 g xs ≡ true
    → starts_rise n l ss ≡ true → on_wall b ss ≡ wall_among g xs ss
unfolding on_wall wall_among starts_rise slowness
walls_found b n g l xs [] p e h = refl
walls_found b n g l xs (s ∷ ss) p e h =
    let r = and-true (leb l s.cell && ltb s.cell n) _ h in
    let high = ltb-true s.cell n (and-true (leb l s.cell) (ltb s.cell n) r.0).1 in
    let here : get_or b.slow s.cell 0 ≡ near g s.cell (past s.cell xs) =
    ap (λ u. get_or u s.cell 0) p ∙ ap (λ u. get_or (painted g 0 n xs) u 0) (let q : s.cell ≡ s.cell - 0 = omega arith in q)
    ∙ painted-at n g 0 g s.cell xs e (omega arith) high
    in
    ap₂ (λ u v. eqb u 0 || v) here (walls_found b n g (suc s.cell) xs ss p e r.1)

-- the steps of the two walks, by their own names
pub ruleset judging = (judged-none, judged-next)

pub ruleset walling = (wall_here, rise-behind, wall_next, wall_none)
