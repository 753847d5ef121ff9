-- The calls behind their refusals: marches, tile runs and single rounds from their parts.
use mathlib.Core.Path.{◌≡◌, refl, sym, ap, subst, ◌∙◌}
use mathlib.Core.Bool.{Bool, true, false, cond, ◌||◌}
use mathlib.Core.Logic.{inl}
use mathlib.Core.List.{List, [], ◌∷◌, ◌++◌}
use Prim.Native.Nat.{ℕ, suc, ◌+◌, ◌*◌, ◌-◌, ◌≤◌, ◌<◌, min}
use native.Mathlib.Omega.{arith}
use native.Mathlib.Nat.{mul-le-mul_right}
use lib.Dec.{ltb, leb, eqb}
use lib.ListN.{length, get_or, drop, replicate, length-drop, length-replicate, get_or-replicate}
use lib.Seq.{ext_get_or, get_or-drop}
use borrow.Author.Tests.{lt-leb}
use Rattle.eikonal.specs.Board.{Board, never, largest, size, slowness, start_time, arrival, time, solved, cut, marched, reached, all_never}
use Rattle.eikonal.specs.declared.Start.{Start}
use Rattle.eikonal.specs.Tiles.{tile_of, counts_as, tiled, round, altered, after_rounds}
use Rattle.eikonal.specs.Sides.{sides_seen}
use Rattle.eikonal.specs.Ledger.{sheet, entered, counted}
use Rattle.eikonal.specs.Promise.{Neighbour}
use Rattle.eikonal.specs.Inner.Clip.{clip}
use Rattle.eikonal.specs.Inner.Good.{Good}
use Rattle.eikonal.specs.Inner.Sides.{sides_by}
use Rattle.eikonal.specs.declared.Job.TheVariants.{March, Round, Run}
use Rattle.eikonal.proofs.Good.{size-most}
use Rattle.eikonal.proofs.Clip.{clip-low}
use Rattle.eikonal.proofs.Passes.{never-time}
use Rattle.eikonal.proofs.Sides.{sides-agree}
use Rattle.one_tile.proofs.March.{round_is_march}
use Rattle.front.specs.Front.{ghosted, heard, Tied, Upheld, Drift}
use Rattle.front.specs.Board.{land, rule_by, rule_at, tentative, Work, keys, Marked, Ground}
use Rattle.front.specs.State.{Standing, Gathered, Worked}
use Rattle.front.proofs.Theory.Reading.{time-at}
use Rattle.sides.specs.Pass.{SomeLand, FoundWhole, FoundRound}
use Rattle.rows.specs.Rows.{Wrote}
use Rattle.queue.specs.Lists.{Filled}
use Rattle.rows.specs.Lists.{due, Finished}
use Rattle.engine.specs.Run.{starts, whole, AtRound, Ran}
use Rattle.engine.specs.Calls.{Fit, Through}
use Rattle.front.specs.declared.Shape.{Shape}
use Rattle.engine.proofs.Theory.Clearing.{sides-clip}
use Rattle.engine.proofs.Theory.Rounds.{met-round}
use Rattle.rows.proofs.Theory.Lists.{filled-front}
use Rattle.engine.proofs.Theory.Running.{size-whole, run-counts, run_marches}
use Rattle.front.proofs.Theory.Beginning.{times-small, gathered_held, gathered_silent, standing_upheld, standing_drift, arrival_quiet}

-- ---- the work list is wiped, and kept past its 4 N entries
pub drop-same : (k : ℕ) (u v : List ℕ) → length u ≡ length v → ((j : ℕ) → k ≤ j → get_or u j 0 ≡ get_or v j 0) → drop k u ≡ drop k v
drop-same k u v l h =
    ext_get_or 0 (drop k u) (drop k v) (simp length-drop (ap (λ (n : ℕ). n - k) l))
    (λ i m. get_or-drop k u i 0 ∙ h (k + i) (omega arith) ∙ sym (get_or-drop k v i 0))

wiped : (n : ℕ) (v u w : List ℕ) → 4 * n ≤ length v → length u ≡ length v → ((j : ℕ) → 4 * n ≤ j → get_or u j 0 ≡ get_or v j 0) → Filled 0 (4 * n) 0 u w
    → w ≡ replicate (4 * n) 0 ++ drop (4 * n) v
wiped n v u w r l h fi = filled-front (omega arith) fi ∙ ap (λ (x : List ℕ). replicate (4 * n) 0 ++ x) (drop-same (4 * n) u v l h)

-- ---- a legal board without its starts, with its seams
module _ {s : Shape} {slow : List ℕ} {xs : List Start} {times sides work : List ℕ} (fit : Fit s slow xs times sides work) where
  abbrev n : ℕ
  n = s.cells

  abbrev tw : ℕ
  tw = s.across

  abbrev th : ℕ
  th = s.down

  abbrev b : Board
  b = whole s slow xs

  good-land : Good (land s slow)
  unfolding size slowness start_time
  good-land =
      let g = fit.good in
      record {
        wide_low = g.wide_low;
        wide_high = g.wide_high;
        high_low = g.high_low;
        high_high = g.high_high;
        storeys_low = g.storeys_low;
        storeys_high = g.storeys_high;
        few = g.few;
        slow_length = g.slow_length;
        pairs = g.pairs;
        level = g.level;
        starts_known = λ c. inl refl;
        walls_free = λ c w. refl;
      }

  pub ground : (ts cols rows : List ℕ) → length ts ≡ n → Marked s.width s.across 1 cols → Marked s.height s.down s.storeys rows
      → Ground s slow ts cols rows
  ground ts cols rows l lc lr = record {
    good = good-land;
    cells = fit.size;
    across = fit.across_low;
    down = fit.down_low;
    many = l;
    columns = lc;
    lines = lr;
  }

  size_is : n ≡ size b
  size_is = size-whole s slow xs fit.size

  pub cells-few : n ≤ 65536
  cells-few = omega (arith, size_is, size-most fit.good)

  pub never-times : (ts : List ℕ) → Filled 0 n never times ts → ts ≡ all_never b
  unfolding all_never
  never-times ts fi = ext_get_or 0 ts _ (fi.long ∙ fit.many ∙ size_is ∙ sym (length-replicate (size b) never)) same
    where
      same : (c : ℕ) → c < length ts → get_or ts c 0 ≡ get_or (replicate (size b) never) c 0
      same c l = fi.inside c (omega arith) (omega (arith, fi.long, fit.many))
          ∙ sym (get_or-replicate (size b) c never 0 (omega (arith, size_is, fi.long, fit.many)))

  -- rows are numbered through all storeys
  pub rows_whole : n ≡ s.height * s.storeys * s.width
  rows_whole = fit.size ∙ turned
    where
      turned : s.width * s.height * s.storeys ≡ s.height * s.storeys * s.width
      turned = omega arith

  row_fits : s.width ≤ n
  row_fits =
      let lines : 1 ≤ s.height * s.storeys = omega (arith, mul-le-mul_right s.storeys fit.good.high_low, fit.good.storeys_low) in
      omega (arith, rows_whole, mul-le-mul_right s.width lines)

  on : (c : ℕ) → c < n → c < size b
  on c l = rw size_is at l

  -- ---- THE SIDES of a whole board, by times that are the march's
  pub land-fits : (ts v us : List ℕ) → length ts ≡ n → 4 * n ≤ length v → length us ≡ n → SomeLand s ts v us
  land-fits ts v us l r k = record { slow = slow; good = good-land; cells = fit.size; many = l; room = r; long = k }

  whole-sides : {h : ℕ} {us v v' ss : List ℕ} → us ≡ marched b h → length us ≡ n → FoundWhole s h us v v' sides ss → (c : ℕ) → c < n
      → get_or ss c 0 ≡ sides_by b h c (λ e. time (marched b h) e) (time us c)
  unfolding sides_by sides_seen
  whole-sides {h} {us} is l fo c k =
      fo.each c k ∙ rw (← time-at us c (omega arith)) (sides-agree fit.good c (on c k) h (λ e. get_or us e 0) (λ e. time (marched b h) e) same (time us c))
    where
      same : (e : ℕ) → e < size b → Neighbour b c e → min (suc h) (get_or us e 0) ≡ min (suc h) (time (marched b h) e)
      same e m nb = rw (← is, time-at us e (omega (arith, size_is)))

  -- ---- A TILE RUN begins with all times never
  module _ {v : Work} (be : Standing n xs work) (ga : Gathered n 0 n work v) (ts : List ℕ) (all : ts ≡ all_never b) (S H : ℕ) where
    never-at : (c : ℕ) → time ts c ≡ never
    never-at c = ap (λ (x : List ℕ). time x c) all ∙ never-time b c

    ghost-never : (e : ℕ) → counts_as b ts e ≡ never
    unfolding counts_as
    ghost-never e = rw (never-at e) (go (eqb (slowness b e) 0))
      where
        go : (p : Bool) → cond (p || ltb largest never) never never ≡ never
        go true = refl
        go false = refl

    quiet : (c : ℕ) → c < size b → rule_by b tw th ts c (heard (tentative v.list n) (keys v)) ≡ never
    quiet c l = rw (arrival_quiet fit.good c l (ghosted b tw th (λ d e. counts_as b ts e) (heard (tentative v.list n) (keys v)) c) seen)
      where
        pick : (p : Bool) (e x y : ℕ) → x ≡ never → y ≡ never → cond p x y ≡ never
        pick true e x y a b = a
        pick false e x y a b = b

        seen : (e : ℕ) → e < size b → Neighbour b c e
            → ghosted b tw th (λ d a. counts_as b ts a) (heard (tentative v.list n) (keys v)) c e ≡ never
        seen e on nb =
            let l : e < n = rw size_is on in
            pick (eqb (tile_of b tw th c) (tile_of b tw th e)) e _ _ (gathered_silent be.placed ga e l (omega arith, l)) (ghost-never e)

    pub run-start : AtRound s slow xs S H 0 ts v
    unfolding after_rounds
    run-start = record {
      held = gathered_held be.placed ga;
      between = record {
        is = all;
        tied = subst (λ q. Tied q (tentative v.list n) (keys v)) size_is (gathered_held be.placed ga).tied;
        settled = λ c l. rw (quiet c l) (times-small be.placed ga c (rw size_is l));
        upheld = subst (λ q. Upheld q (rule_by b tw th ts) (starts b) (tentative v.list n)) size_is (standing_upheld be ga (rule_by b tw th ts));
        drift = λ note.
            subst (λ q. Drift q (time ts) (tentative v.list n) (keys v) 0 0 note) size_is (standing_drift be ga (time ts) (λ c l. never-at c) note);
      };
    }

    -- and goes through
    pub run_through : 1 ≤ S → S ≤ largest → H ≤ largest → (us ss v2 v3 v4 : List ℕ) (limit r : ℕ) → 1000000000 ≤ limit
        → Ran s slow xs S H limit r ts us v.list v2 → FoundWhole s H us v2 v3 sides ss → Filled 0 (4 * n) 0 v3 v4
        → length ts ≡ n → Through b (Run tw th S H) times n r (sheet us ss) work v4
    unfolding counted entered
    run_through low high horizon us ss v2 v3 v4 limit r beyond ran fo fi l = record {
      counts = run-counts s slow xs fit.good S H low high horizon ran beyond;
      enters = is;
      timed = ran.long ∙ l;
      sided = fo.long ∙ fit.sided;
      sides = whole-sides is (ran.long ∙ l) fo;
      wipes = wiped n work v3 v4 fit.room (fo.kept ∙ ran.kept ∙ ga.long)
          (λ j k. fo.rest j (omega (arith, row_fits)) ∙ ran.past j k ∙ ga.rest j (omega arith)) fi;
    }
      where
        is : us ≡ marched b H
        is = run_marches s slow xs fit.good S H low high horizon ran beyond

  -- ---- WHAT IS WRITTEN of cells that are worked out up to the bound is the round
  worked_writes : Standing n xs work → (ts us v : List ℕ) (h : ℕ) → h ≤ largest → Worked n (rule_at s slow ts) h 0 n work v
      → length us ≡ n → ((c : ℕ) → c < n → time us c ≡ due h v n c) → us ≡ round b tw th h ts
  unfolding arrival slowness tile_of counts_as
  worked_writes be ts us v h i ba l each =
      met-round fit.good tw th h ts (tentative v n) i meets us (l ∙ size_is) (λ c k. each c (rw size_is k))
    where
      meets : (c : ℕ) → c < size b → clip h (tentative v n c) ≡ clip h (min (starts b c) (rule_by b tw th ts c (λ e. clip h (tentative v n e))))
      meets c k =
          let m : c < n = rw size_is k in
          ba.meets c (omega arith, m)
          ∙ ap (λ x. clip h (min x (rule_by b tw th ts c (λ e. clip h (tentative v n e))))) (be.times c m)

  -- ---- A WHOLE MARCH is a round with one tile
  module _ (wide : s.width ≤ s.across) (high : s.height ≤ s.down) where
    reached-cut : (h : ℕ) → h < never → (xs : List ℕ) → reached h (cut h xs) ≡ reached h xs
    unfolding reached cut
    reached-cut h l [] = refl
    reached-cut h l (x ∷ xs) = go (leb x h) refl (reached-cut h l xs)
      where
        go : (p : Bool) → leb x h ≡ p → reached h (cut h xs) ≡ reached h xs → cond {A = ℕ} (leb (cond p x never) h) 1 0 + reached h (cut h xs)
            ≡ cond {A = ℕ} p 1 0 + reached h xs
        go true e r = rw (e, r)
        go false e r = rw (lt-leb never h l, r)

    pub march_through : Standing n xs work → (us ss v v1 w : List ℕ) (h r : ℕ) → h ≤ largest → Worked n (rule_at s slow times) h 0 n work v
        → Finished h n v us r → FoundWhole s h us v v1 sides ss → Filled 0 (4 * n) 0 v1 w
        → Through b (March h) times n r (sheet us ss) work w
    unfolding marched counted entered
    march_through be us ss v v1 w h r i ba fin fo fi = record {
      counts = fin.counted ∙ ap (reached h) is ∙ counted-cut;
      enters = is;
      timed = fin.long;
      sided = fo.long ∙ fit.sided;
      sides = whole-sides is fin.long fo;
      wipes = wiped n work v1 w fit.room (fo.kept ∙ ba.long) (λ j k. fo.rest j (omega (arith, row_fits)) ∙ ba.past j k) fi;
    }
      where
        counted-cut : reached h (marched b h) ≡ reached h (solved b)
        counted-cut = reached-cut h (omega arith) (solved b)

        is : us ≡ marched b h
        is = worked_writes be times us v h i ba fin.long fin.each ∙ round_is_march b fit.good tw th wide high h i times

  -- ---- A SINGLE ROUND
  module _ (be : Standing n xs work) (us ss v v1 w : List ℕ) (h r : ℕ) (i : h ≤ largest) (ba : Worked n (rule_at s slow times) h 0 n work v)
      (fo : FoundRound s slow times h v v1 sides ss) (wr : Wrote s h v1 times us r) where
    -- the pass for the sides leaves the tentative times
    written : (c : ℕ) → c < n → time us c ≡ due h v n c
    written c l = wr.each c l ∙ ap (clip h) (fo.rest (2 * n + c) (omega arith))

    rounded : us ≡ round b tw th h times
    rounded = worked_writes be times us v h i ba (wr.long ∙ fit.many) written

    -- what a cell saw of the round, and of the front: within its tile the tentative times, which are the round's up to the bound
    abbrev saw : (c e : ℕ) → ℕ
    saw c e = tiled b tw th times (λ d. time (round b tw th h times) d) c e

    abbrev found : (c e : ℕ) → ℕ
    found c e = ghosted b tw th (λ d a. counts_as b times a) (tentative v n) c e

    same-sight : (c e : ℕ) → e < n → min (suc h) (found c e) ≡ min (suc h) (saw c e)
    same-sight c e k = rw (← rounded) (go (eqb (tile_of b tw th c) (tile_of b tw th e)))
      where
        go : (p : Bool) → min (suc h) (cond p (tentative v n e) (counts_as b times e)) ≡ min (suc h) (cond p (time us e) (counts_as b times e))
        go true = rw (written e k) (sym (clip-low h (suc h) (tentative v n e) (omega arith) (omega arith)))
        go false = refl

    tile-sides : (c : ℕ) → c < n → get_or ss c 0 ≡ sides_by b h c (saw c) (time us c)
    unfolding sides_by sides_seen tile_of counts_as slowness
    tile-sides c l =
        fo.each c l
        ∙ sides-agree fit.good c (on c l) h (found c) (saw c) (λ e k nb. same-sight c e (rw size_is k)) (tentative v n c)
        ∙ rw (written c l) (sym (sides-clip b h c (saw c) (omega arith) (tentative v n c)))

    pub round_through : Filled 0 (4 * n) 0 v1 w → Through b (Round tw th h) times n r (sheet us ss) work w
    unfolding counted entered
    round_through fi = record {
      counts = wr.counted ∙ ap (altered times) rounded;
      enters = rounded;
      timed = wr.long ∙ fit.many;
      sided = fo.long ∙ fit.sided;
      sides = tile-sides;
      wipes = wiped n work v1 w fit.room (fo.kept ∙ ba.long) (λ j k. fo.rest j (omega arith) ∙ ba.past j k) fi;
    }
