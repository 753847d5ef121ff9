-- A round of some rows, with no inside seam before or behind them: what it leaves of their cells, and what one strip after the other leaves.
use Rattle.std.proofs.Common.{◌≡◌, ℕ, suc, ◌+◌, ◌*◌, ◌/◌, ◌%◌, ◌<◌, ◌≤◌, min, eqb, ◌≢◌, ◌⊎◌, List, [], sym, refl, ap, ◌∙◌, inl, inr, ⊎_elim}
use Rattle.std.proofs.Common.{subst, mul-le-mul_right, mod-lt, mod-eq_of_lt, div-add-mod', mul-one, div-one, arith, eq-eqb, ne_eqb}
use native.Mathlib.Decide.{ℕ_discrete}
use native.Mathlib.Nat.{mod_self, mod-one, zero-mod, add-mod_right}
use Rattle.eikonal.specs.Axes.{place}
use Rattle.eikonal.specs.Board.{never, size, column_axis, row_axis}
use Rattle.eikonal.specs.Tiles.{tile_of, counts_as}
use Rattle.eikonal.specs.Promise.{Neighbour}
use Rattle.eikonal.specs.Inner.Clip.{clip}
use Rattle.eikonal.proofs.Levels.{order}
use Rattle.one_tile.proofs.March.{same-tile}
use Rattle.front.specs.Front.{Among, among, ghosted, heard, Out, Midway, Upheld}
use Rattle.front.specs.Seams.{Cut, cut, stack_cut, seam, seam_back, seam_on, inside, hearer, near}
use Rattle.front.specs.Board.{land, rule_at, tentative, Work, keys, Ground}
use Rattle.front.specs.State.{Held, Told, all, Placed, Gathered, Ready, Apart, ReadyAmong, Drained, Inner, Woken, Parted, Strip, Worked}
use Rattle.front.specs.declared.Shape.{Shape}
use Rattle.front.proofs.Theory.Front.{Lawful, ended}
use Rattle.front.proofs.Theory.Among.{which, among_in, among-out, among_lawful, told-among, told-within}
use Rattle.front.proofs.Theory.Sight.{gives_same, gives-late}
use Rattle.front.proofs.Theory.Seams.{untold_inside, seam-edge, seam-border, seam-inside}
use Rattle.front.proofs.Theory.Reading.{cells-size, rows_whole}
use Rattle.front.proofs.Theory.Relaxing.{hearer-some, hearer-none}
use Rattle.front.proofs.Theory.Telling.{told-held, told-long, told-rest, told-upheld, told_midway}
use Rattle.front.proofs.Theory.Beginning.{gathered_held, gathered_silent, gathered_within, gathered_upheld, times-small, arrival_quiet}
use Rattle.front.proofs.Theory.Waking.{swapped}
use Rattle.front.proofs.Theory.Draining.{lawful}

module _ {s : Shape} {slow ts cols rows : List ℕ} (gr : Ground s slow ts cols rows) where
  abbrev n : ℕ
  n = s.cells

  abbrev L : ℕ → (ℕ → ℕ) → ℕ
  L = rule_at s slow ts

  abbrev tile : ℕ → ℕ
  tile = tile_of (land s slow) s.across s.down

  abbrev ghost : (d e : ℕ) → ℕ
  ghost d e = counts_as (land s slow) ts e

  -- ---- of cells that are apart
  module _ {lo hi : ℕ} (apart : Apart s slow lo hi) (fits : hi ≤ n) where
    on : (c : ℕ) → Among lo hi c → c < size (land s slow)
    on c i = omega (arith, i, fits, cells-size gr)

    -- a neighbour in the same tile is one of them
    same-tile_in : (c e : ℕ) → Among lo hi c → e < size (land s slow) → Neighbour (land s slow) c e → tile c ≡ tile e → Among lo hi e
    same-tile_in c e i l nb q = ⊎_elim (λ j. j)
        (λ o. absurd (untold_inside gr.good s.across s.down gr.across gr.down c e (swapped (land s slow) c e nb)
        (apart c e i (omega (arith, cells-size gr)) o) (sym q)))
        (which lo hi e)

    -- so the rule goes by their times alone
    by_them : (c : ℕ) → Among lo hi c → (f g : ℕ → ℕ) → ((e : ℕ) → Among lo hi e → f e ≡ g e) → L c f ≡ L c g
    by_them c i f g same = gives_same gr.good s.across s.down ghost ghost c (on c i) f g alike
      where
        alike : (e : ℕ) → e < size (land s slow) → Neighbour (land s slow) c e
            → ghosted (land s slow) s.across s.down ghost f c e ≡ ghosted (land s slow) s.across s.down ghost g c e
        alike e l nb = elim (ℕ_discrete (tile c) (tile e)) [
          | yes q ↦ rw (same e (same-tile_in c e i l nb q))
          | no q ↦ rw (ne_eqb (tile c) (tile e) q)
        ]

    -- ---- ONE STRIP: they are gathered, those that are not inner hear, and they are drained
    module _ {v : List ℕ} {g w : Work} (pl : Placed n v) (ga : Gathered n lo hi v g) (wo : Woken s slow ts lo hi g w) where
      -- what is heard of cells before any of them hears
      abbrev at_first : ℕ → ℕ
      at_first = heard (tentative g.list n) (keys g)

      law : Lawful n (among lo hi L)
      law = among_lawful lo hi L (lawful gr)

      -- an inner cell is given no time
      quiet : (c : ℕ) → Among lo hi c → Inner (land s slow) s.across s.down c → L c at_first ≡ never
      quiet c i own = rw (arrival_quiet gr.good c (on c i) (ghosted (land s slow) s.across s.down ghost at_first c) seen)
        where
          seen : (e : ℕ) → e < size (land s slow) → Neighbour (land s slow) c e
              → ghosted (land s slow) s.across s.down ghost at_first c e ≡ never
          seen e l nb =
              rw (eq-eqb (tile c) (tile e) (own e l nb))
              (gathered_silent pl ga e (omega (arith, cells-size gr)) (same-tile_in c e i l nb (own e l nb)))

      late : Midway n (among lo hi L) 0 (λ d. Out d wo.cells × Unit {0}) (tentative g.list n) (keys g)
      late = record {
        weak = λ c l. ⊎_elim
            (λ i. rw (among_in lo hi L c i at_first) (omega (arith, gives-late gr.good s.across s.down ghost c at_first)))
            (λ o. rw (among-out lo hi L c o at_first) (omega arith))
            (which lo hi c);
        settled = λ c l out. ⊎_elim
            (λ i. rw (among_in lo hi L c i at_first, quiet c i (wo.inner c i out.0)) (times-small pl ga c l))
            (λ o. rw (among-out lo hi L c o at_first) (times-small pl ga c l))
            (which lo hi c);
      }

      told : Told n (among lo hi L) 0 wo.cells g w
      told = told-among lo hi L (λ d l o. wo.within d o) wo.told

      held : Held n w
      held = told-held (gathered_held pl ga) told

      pub strip_ready : ReadyAmong s slow ts lo hi w
      strip_ready = record {
        ready = record {
          held = held;
          settled = λ c l. (told_midway law (λ e k f. omega arith) (λ d. Unit {0}) (gathered_held pl ga) told late).settled c l tt;
        };
        within = λ c l h. ⊎_elim (λ i. i)
            (λ o. gathered_within pl ga c (omega (arith, h, told-within lo hi L wo.told c l (wo.within c o))))
            (which lo hi c);
        apart = apart;
      }

      pub strip_done : {bound m : ℕ} {u : Work} → bound < never → Drained n bound m (among lo hi L) w u → Worked n L bound lo hi v u.list
      strip_done {bound} {m} {u} b dr = record {
        placed = record { room = dr.held.room; small = dr.held.tied.small };
        long = dr.long ∙ told-long told ∙ ga.long;
        past = λ j l. dr.past j l ∙ told-rest told j (omega arith) ∙ ga.rest j (omega arith);
        meets = λ c i.
            ended law dr.held.tied dr.settled up b dr.keys_past c (omega (arith, fits))
            ∙ ap (λ x. clip bound (min (tentative v n c) x)) (among_in lo hi L c i (λ e. clip bound (tentative u.list n e)));
        others = λ c l o.
            let none = among-out lo hi L c o (tentative u.list n) in
            omega (arith, up.started c l, up.upper c l, none, pl.small c l);
      }
        where
          up : Upheld n (among lo hi L) (tentative v n) (tentative u.list n)
          up = dr.upheld (tentative v n) (told-upheld law (tentative v n) told (gathered_upheld pl ga (among lo hi L)))

  -- ---- STRIP AFTER STRIP, from the top
  pub none-worked : {bound : ℕ} {v : List ℕ} → Placed n v → Worked n L bound 0 0 v v
  none-worked pl = record {
    placed = pl;
    long = refl;
    past = λ j l. refl;
    meets = λ c i. absurd (omega arith);
    others = λ c l o. refl;
  }

  pub strips_more : {bound k m : ℕ} {v u w : List ℕ} → Apart s slow 0 k → k ≤ m → m ≤ n → Worked n L bound 0 k v u → Worked n L bound k m u w
      → Worked n L bound 0 m v w
  strips_more {bound} {k} {m} {v} {u} {w} apart up fits a b = record {
    placed = b.placed;
    long = b.long ∙ a.long;
    past = λ j l. b.past j l ∙ a.past j l;
    meets = λ c i. ⊎_elim (λ l. old c l) (λ l. new c l i.1) (order c k);
    others = λ c l o. b.others c l (λ i. o (omega arith, i.1)) ∙ a.others c l (λ i. o (i.0, omega arith));
  }
    where
      kept : (e : ℕ) → e < k → tentative w n e ≡ tentative u n e
      kept e l = b.others e (omega arith) (λ i. omega arith)

      old : (c : ℕ) → c < k → clip bound (tentative w n c) ≡ clip bound (min (tentative v n c) (L c (λ e. clip bound (tentative w n e))))
      old c l =
          ap (clip bound) (kept c l) ∙ a.meets c (omega arith, l)
          ∙ ap (λ x. clip bound (min (tentative v n c) x))
          (by_them apart (omega arith) c (omega arith, l) _ _ (λ e i. ap (clip bound) (sym (kept e i.1))))

      new : (c : ℕ) → k ≤ c → c < m → clip bound (tentative w n c) ≡ clip bound (min (tentative v n c) (L c (λ e. clip bound (tentative w n e))))
      new c l z =
          b.meets c (l, z)
          ∙ ap (λ x. clip bound (min x (L c (λ e. clip bound (tentative w n e))))) (a.others c (omega arith) (λ i. omega arith))

  -- ---- rows of a flat board with no inside seam before or behind them are apart
  pub flat-lines : s.storeys ≡ 1 → s.height * s.storeys ≡ s.height
  flat-lines e = ap (λ (u : ℕ). s.height * u) e ∙ mul-one s.height

  module _ {from end : ℕ} (pa : Parted s from end) where
    abbrev w : ℕ
    w = s.width

    row_in : (c : ℕ) → Among (from * w) (end * w) c → Among from end (c / w)
    row_in c i = (go (order (c / w) from), stop (order (c / w) end))
      where
        parts : c / w * w + c % w ≡ c
        parts = div-add-mod' c w

        go : (c / w < from) ⊎ (from ≤ c / w) → from ≤ c / w
        go (inl l) = absurd (omega (arith, parts, mod-lt c gr.good.wide_low, mul-le-mul_right w l))
        go (inr l) = l

        stop : (c / w < end) ⊎ (end ≤ c / w) → c / w < end
        stop (inl l) = l
        stop (inr l) = absurd (omega (arith, parts, mul-le-mul_right w l))

    -- before and behind an inside seam there are cells
    inner_back : (n k i : ℕ) → seam n k i ≡ inside → i % n ≢ 0
    inner_back n k i q z = omega (arith, sym q ∙ seam-edge n k i z)

    abbrev columns : Cut
    columns = cut (column_axis (land s slow)) s.across

    abbrev lines : Cut
    lines = cut (row_axis (land s slow)) s.down

    pub parted_apart : Apart s slow (from * w) (end * w)
    unfolding place near
    parted_apart c d i l o = (
      out (seam_back columns c) _ (λ q. let p = inner_back w s.across _ q in (omega (arith, row, left p), omega arith)),
      (
        out (seam_on columns c) _ (λ q. let p = inner_back w s.across _ q in (omega arith, omega (arith, row, right p, low_end))),
        (
          out (seam_back lines c) _ (λ q. (omega (arith, parts, mul-le-mul_right w (above q)), omega arith)),
          (
            out (seam_on lines c) _ (λ q. (omega arith, omega (arith, parts, mod-lt c gr.good.wide_low, mul-le-mul_right w (below q)))),
            (
              out (seam_back (stack_cut (land s slow)) c) _ (λ q. absurd (flat _ q)),
              (out (seam_on (stack_cut (land s slow)) c) _ (λ q. absurd (flat _ q)), tt),
            ),
          ),
        ),
      ),
    )
      where
        parts : c / w * w + c % w ≡ c
        parts = div-add-mod' c w

        at : Among from end (c / w)
        at = row_in c i

        row : (from * w ≤ c / w * w) × (c / w * w + c % w ≡ c)
        row = (mul-le-mul_right w at.0, parts)

        low_end : suc (c / w) * w ≤ end * w
        low_end = mul-le-mul_right w at.1

        -- nobody is under or over it
        flat : (i : ℕ) → seam s.storeys s.storeys i ≡ inside → ⊥
        flat i q = omega (arith, sym q ∙ seam-edge s.storeys s.storeys i (ap (λ (u : ℕ). i % u) pa.flat ∙ mod-one i))

        -- the cell's places are its column and its row
        column-is : place (column_axis (land s slow)) c ≡ c % w
        column-is = ap (λ (u : ℕ). u % w) (div-one c)

        line_is : place (row_axis (land s slow)) c ≡ c / w
        line_is = mod-eq_of_lt (omega (arith, at, pa.fits))

        left : place (column_axis (land s slow)) c % w ≢ 0 → 1 ≤ c % w
        left p = elim (ℕ_discrete (c % w) 0) [
          | yes z ↦ absurd (p (ap (λ (u : ℕ). u % w) (column-is ∙ z) ∙ zero-mod w))
          | no z ↦ omega arith
        ]

        right : suc (place (column_axis (land s slow)) c) % w ≢ 0 → suc (c % w) < w
        right p = elim (ℕ_discrete (suc (c % w)) w) [
          | yes z ↦ absurd (p (ap (λ (u : ℕ). suc u % w) column-is ∙ ap (λ (u : ℕ). u % w) z ∙ mod_self w))
          | no z ↦ omega (arith, mod-lt c gr.good.wide_low)
        ]

        above : seam_back lines c ≡ inside → suc from ≤ c / w
        above q = elim (ℕ_discrete (c / w) from) [
          | yes z ↦ absurd (pa.before (ap (λ (u : ℕ). seam s.height s.down u) (sym z ∙ sym line_is) ∙ q))
          | no z ↦ omega (arith, at)
        ]

        below : seam_on lines c ≡ inside → suc (suc (c / w)) ≤ end
        below q = elim (ℕ_discrete (suc (c / w)) end) [
          | yes z ↦ absurd (pa.behind (ap (λ (u : ℕ). seam s.height s.down u) (sym z ∙ ap suc (sym line_is)) ∙ q))
          | no z ↦ omega (arith, at)
        ]

        out : (mark e : ℕ) → (mark ≡ inside → Among (from * w) (end * w) e) → d ≢ hearer (size (land s slow)) (eqb mark inside) e
        out mark e h z = elim (ℕ_discrete mark inside) [
          | yes q ↦ (let r = h q in let y : d ≡ e = z ∙ hearer-some (size (land s slow)) inside mark e q in o (omega (arith, r), omega (arith, r)))
          | no q ↦ omega (arith, l, z, hearer-none (size (land s slow)) inside mark e q, cells-size gr)
        ]

    pub parted_strip : Strip s slow from end
    parted_strip = record { up = pa.up; fits = omega (arith, pa.fits, pa.flat, flat-lines pa.flat); apart = parted_apart }

  -- all rows of a house
  pub all_strip : Strip s slow 0 (s.height * s.storeys)
  all_strip = record {
    up = omega arith;
    fits = omega arith;
    apart = λ c d i l o. absurd (o (omega arith, omega (arith, l, rows_whole gr)));
  }

  -- rows have all of their cells on the board
  pub strip_fits : {from end : ℕ} → Strip s slow from end → (from * s.width ≤ end * s.width) × (end * s.width ≤ n)
  strip_fits st = (mul-le-mul_right s.width st.up, omega (arith, mul-le-mul_right s.width st.fits, rows_whole gr))

  -- ---- rows of tiles, from the top
  pub top_parted : seam s.height s.down 0 ≢ inside
  top_parted q = omega (arith, sym q ∙ seam-edge s.height s.down 0 (zero-mod s.height))

  -- the next of them
  module _ {row : ℕ} (flat : s.storeys ≡ 1) (l : row < s.height) (first : seam s.height s.down row ≢ inside) where
    abbrev end : ℕ
    end = min (row + s.down) s.height

    whole : row % s.down ≡ 0
    whole = elim (ℕ_discrete (row % s.down) 0) [
      | yes q ↦ q
      | no q ↦ absurd (first (seam-inside s.height s.down row
          (λ z. q (ap (λ (u : ℕ). u % s.down) (sym low ∙ z) ∙ zero-mod s.down)) (λ z. q (ap (λ (u : ℕ). u % s.down) (sym low) ∙ z))))
    ]
      where
        low : row % s.height ≡ row
        low = mod-eq_of_lt l

    pub next_parted : Parted s row end
    next_parted = record {
      flat = flat;
      up = omega arith;
      fits = omega arith;
      before = first;
      behind = λ q. go q (order (row + s.down) s.height);
    }
      where
        go : seam s.height s.down end ≡ inside → (row + s.down < s.height) ⊎ (s.height ≤ row + s.down) → ⊥
        go q (inl h) =
            let at : end ≡ row + s.down = omega arith in
            let low : (row + s.down) % s.height ≡ row + s.down = mod-eq_of_lt h in
            let tiles = ap (λ (u : ℕ). u % s.down) low ∙ add-mod_right row s.down ∙ whole in
            let is = seam-border s.height s.down (row + s.down) (λ z. omega (arith, low, gr.down)) tiles in
            omega (arith, sym q ∙ ap (λ (u : ℕ). seam s.height s.down u) at ∙ is)
        go q (inr h) =
            let last : end ≡ s.height = omega arith in
            omega (arith, sym q ∙ seam-edge s.height s.down end (ap (λ (u : ℕ). u % s.height) last ∙ mod_self s.height))

    -- and the rows before it
    pub first_parted : Parted s 0 row
    first_parted = record { flat = flat; up = omega arith; fits = omega arith; before = top_parted; behind = first }

    -- which are worked out, and then the next of them: all up to there are
    pub strips_on : {bound e : ℕ} {v u w : List ℕ} → e ≡ end → Worked n L bound 0 (row * s.width) v u
        → Worked n L bound (row * s.width) (e * s.width) u w
        → Worked n L bound 0 (e * s.width) v w
    strips_on {e = e} q a b =
        let next : Parted s row e = rw q next_parted in
        let fits = strip_fits (parted_strip next) in
        let none : 0 * s.width ≡ 0 = omega arith in
        strips_more (rw none at (parted_apart first_parted)) fits.0 fits.1 a b

  -- up to the last of them: the board is worked out
  pub whole_worked : {bound row : ℕ} {v w : List ℕ} → s.storeys ≡ 1 → row ≡ s.height → Worked n L bound 0 (row * s.width) v w → Worked n L bound 0 n v w
  whole_worked {bound} {v = v} {w} flat last a =
      subst (λ k. Worked n L bound 0 k v w) (ap (λ (h : ℕ). h * s.width) (last ∙ sym (flat-lines flat)) ∙ rows_whole gr) a

  -- ---- one tile covers the board: all cells are inner, and need not hear
  pub unwoken : s.width ≤ s.across → s.height ≤ s.down → (g : Work) → Woken s slow ts 0 n g g
  unwoken wide high g = record {
    cells = [];
    told = all g;
    within = λ c o. tt;
    inner = λ c i o e l nb. same-tile (land s slow) gr.good s.across s.down wide high c e;
  }

  pub all_apart : Apart s slow 0 n
  all_apart c d i l o = absurd (o (omega arith, l))

  -- ---- all cells of a board: the rule for them is the rule
  pub all-ready : {v : Work} → Ready n L v → ReadyAmong s slow ts 0 n v
  all-ready {v} re = record {
    ready = record {
      held = re.held;
      settled = λ c l. rw (among_in 0 n L c (omega arith, l) (heard (tentative v.list n) (keys v))) (re.settled c l);
    };
    within = λ c l h. (omega arith, l);
    apart = all_apart;
  }

  pub all_drained : {bound m : ℕ} {v v' : Work} → Drained n bound m (among 0 n L) v v' → Drained n bound m L v v'
  all_drained {v = v} {v'} dr = record {
    held = dr.held;
    long = dr.long;
    past = dr.past;
    settled = λ c l. rw (← among_in 0 n L c (omega arith, l) (heard (tentative v'.list n) (keys v'))) (dr.settled c l);
    keys_past = dr.keys_past;
    upheld = λ start up.
        let few = dr.upheld start (record {
          started = up.started;
          upper = λ c l. rw (among_in 0 n L c (omega arith, l) (tentative v.list n)) (up.upper c l);
        }) in
        record {
          started = few.started;
          upper = λ c l. rw (← among_in 0 n L c (omega arith, l) (tentative v'.list n)) (few.upper c l);
        };
    drift = dr.drift;
  }
