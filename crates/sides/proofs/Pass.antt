-- The pass over a board: its rows, one after the other, of the whole board and of a round.
use mathlib.Core.Path.{◌≡◌, refl, sym, ap, subst, ◌∙◌, fun_ext}
use mathlib.Core.Bool.{Bool, true, false, cond}
use mathlib.Core.List.{List, []}
use mathlib.Core.Logic.{◌⊎◌, inl, inr, ◌≢◌}
use Prim.Native.Nat.{ℕ, suc, ◌+◌, ◌*◌, ◌-◌, ◌≤◌, ◌<◌, min}
use native.Mathlib.Omega.{arith}
use native.Mathlib.Decide.{ℕ_discrete}
use native.Mathlib.Nat.{mul_comm, mul-le-mul_left, mul-le-mul_right}
use lib.Dec.{eqb}
use lib.ListN.{length, get_or, set, take, drop, length-set, length-drop}
use lib.Seq.{length-take-le, get_or-take, get_or-drop, get_or-set_same, get_or-set_other}
use borrow.Author.Tests.{lt-ltb, le-ltb}
use Rattle.eikonal.specs.Board.{never}
use Rattle.eikonal.specs.Tiles.{tile_of, counts_as}
use Rattle.eikonal.specs.Sides.{sides_seen}
use Rattle.eikonal.specs.Inner.Good.{Good}
use Rattle.eikonal.specs.Inner.Sides.{sides_by}
use Rattle.eikonal.proofs.Levels.{order}
use Rattle.eikonal.proofs.Sides.{side-most, sides-agree}
use borrow.Rule.Slice.PartMut.{mid_of, put_mid, same_len_mid}
use Rattle.queue.specs.Lists.{Filled}
use Rattle.queue.proofs.Parts.{part-long, put_before, put_within, put_after}
use Rattle.front.specs.Front.{ghosted, Among, NotAmong}
use Rattle.front.specs.Seams.{edge, mark_under, mark_over}
use Rattle.front.specs.Board.{land, tentative, Marked, Ground}
use Rattle.front.specs.declared.Shape.{Shape}
use Rattle.front.proofs.Theory.Reading.{place-behind, place_ahead}
use Rattle.front.proofs.Theory.Reading.{cells-most, cells-size, lines-most, rows_whole, storey_most}
use Rattle.sides.specs.Row.{flat, Even}
use Rattle.sides.specs.Pass.{Off, Lines, SeenRow, Legal, seen_at, flat_at, stack_at, found_at, Done, SomeLand, FoundWhole, Ghosts}
use Rattle.sides.specs.Pass.{own_part, far_part, Laid, FoundRound}
use Rattle.sides.proofs.Seen.{row_ends, house_is, flat-all}

-- ---- A ROW of a legal board, its lists lent in parts
module _ {s : Shape} {own far off cols rows sides : List ℕ} (lg : Legal s own far off cols rows sides) {row : ℕ} (line : row < s.height * s.storeys) where
  abbrev start : ℕ
  start = row * s.width

  abbrev stop : ℕ
  stop = row * s.width + s.width

  pub ends : (stop ≤ s.cells) × (s.cells ≤ 65536) × (row < 2048) × (s.width ≤ 256) × (length own ≡ s.cells) × (length far ≡ s.cells)
      × (length sides ≡ s.cells)
  ends =
      let gr = lg.ground in (
        row_ends gr far lg.beyond 0 line,
        cells-most gr,
        omega (arith, line, lines-most gr),
        gr.good.wide_high,
        gr.many,
        lg.beyond,
        lg.long,
      )

  -- a row that is seen is on the board
  lines : {k less more : ℕ} → more ≤ 65536 → (k ≢ edge → (less ≤ start + more) × (start + more + s.width ≤ s.cells + less))
      → Lines k own far start less more s.width
  lines l h =
      let e = ends in record {
        small = (omega (arith, e), l, e.3);
        low = λ q. (h q).0;
        own_fits = λ q. omega (arith, (h q).1, e);
        far_fits = λ q. omega (arith, (h q).1, e);
      }

  pub above-lines : Lines (get_or rows row 0) own far start s.width 0 s.width
  above-lines =
      lines (omega arith)
      (λ q. (omega (arith, mul-le-mul_right s.width (place-behind lg.ground.lines line q)), omega (arith, ends)))

  pub below-lines : Lines (get_or rows (row + 1) 0) own far start 0 s.width s.width
  below-lines =
      lines (omega (arith, ends))
      (λ q. (omega arith, omega (arith, mul-le-mul_right s.width (place_ahead lg.ground.lines line q), rows_whole lg.ground)))

  module _ {area : ℕ} (storey : area ≡ s.width * s.height) where
    storey_few : area ≤ s.cells
    storey_few = omega (arith, storey, storey_most lg.ground)

    pub over-lines : Lines (mark_over s.cells area start) own far start 0 area s.width
    over-lines = lines (omega (arith, storey_few, ends)) (λ q. (omega arith, over q))
      where
        over : mark_over s.cells area start ≢ edge → start + area + s.width ≤ s.cells + 0
        over q = go (order (row + s.height) (s.height * s.storeys))
          where
            back : s.height * s.width ≡ area
            back = mul_comm s.height s.width ∙ sym storey

            go : (row + s.height < s.height * s.storeys) ⊎ (s.height * s.storeys ≤ row + s.height) → start + area + s.width ≤ s.cells + 0
            go (inl k) = omega (arith, mul-le-mul_right s.width k, back, rows_whole lg.ground)
            go (inr k) =
                absurd (q (rw (le-ltb (start + area) s.cells (omega (arith, mul-le-mul_right s.width k, back, rows_whole lg.ground)))))

    pub under-lines : Lines (mark_under area start) own far start area 0 s.width
    under-lines = lines (omega arith) (λ q. (under q (order start area), omega (arith, ends)))
      where
        under : mark_under area start ≢ edge → (start < area) ⊎ (area ≤ start) → area ≤ start + 0
        under q (inl k) = absurd (q (rw (lt-ltb start area k)))
        under q (inr k) = omega (arith, k)

  -- its part of the sides goes with its own times and two rows beside it
  pub even : {m k a b : ℕ} {up dn : List ℕ} → SeenRow m own far a s.width up → SeenRow k own far b s.width dn
      → Even (length (take (stop - start) (drop start sides))) (take (stop - start) (drop start own)) up dn
  even p q =
      let e = ends in
      let wide = part-long sides start s.width (omega (arith, e)) in record {
        own = part-long own start s.width (omega (arith, e)) ∙ sym wide;
        above = p.long ∙ sym wide;
        below = q.long ∙ sym wide;
        short = omega (arith, wide, e);
      }

-- ---- ENTRIES DONE: a part that was lent, part after part
pub done-part : {f : ℕ → ℕ} (xs ys : List ℕ) (a e : ℕ) → a ≤ e → e ≤ length xs → length ys ≡ length (mid_of a (e - a) xs)
    → ((i : ℕ) → i < e - a → get_or ys i 0 ≡ f (a + i)) → Done f a e xs (put_mid a (e - a) xs ys)
done-part {f} xs ys a e up fits long each = record {
  long = same_len_mid a (e - a) xs ys long;
  each = λ c i.
      let at : a + (c - a) ≡ c = omega (arith, i.0) in
      let within : c - a < e - a = omega (arith, i) in
      ap (λ (u : ℕ). get_or (put_mid a (e - a) xs ys) u 0) (sym at) ∙ put_within xs ys a e up fits long (c - a) within ∙ each (c - a) within ∙ ap f at;
  others = λ c o. out c o (order c a) (order c e);
}
  where
    out : (c : ℕ) → NotAmong a e c → (c < a) ⊎ (a ≤ c) → (c < e) ⊎ (e ≤ c) → get_or (put_mid a (e - a) xs ys) c 0 ≡ get_or xs c 0
    out c o (inl l) r = put_before xs ys a e up fits long c l
    out c o (inr l) (inr r) = put_after xs ys a e up fits long c r
    out c o (inr l) (inl r) = absurd (o (l, r))

pub done_none : {f : ℕ → ℕ} {xs : List ℕ} {lo hi : ℕ} → hi ≤ lo → Done f lo hi xs xs
done_none l = record { long = refl; each = λ c i. absurd (omega (arith, i, l)); others = λ c o. refl }

pub done-then : {f : ℕ → ℕ} {xs ys zs : List ℕ} {lo mid hi : ℕ} → lo ≤ mid → mid ≤ hi → Done f lo mid xs ys → Done f mid hi ys zs → Done f lo hi xs zs
done-then {f} {xs} {ys} {zs} {lo} {mid} {hi} h k p q = record {
  long = q.long ∙ p.long;
  each = λ c i. here c i (order c mid);
  others = λ c o. q.others c (λ i. o (omega (arith, i, h), i.1)) ∙ p.others c (λ i. o (i.0, omega (arith, i, k)));
}
  where
    here : (c : ℕ) → Among lo hi c → (c < mid) ⊎ (mid ≤ c) → get_or zs c 0 ≡ f c
    here c i (inl l) = q.others c (λ j. omega (arith, j, l)) ∙ p.each c (i.0, l)
    here c i (inr l) = q.each c (l, i.1)

-- the same by another word for what is done
pub done_as : {f g : ℕ → ℕ} {lo hi : ℕ} {xs ys : List ℕ} → ((c : ℕ) → Among lo hi c → f c ≡ g c) → Done f lo hi xs ys → Done g lo hi xs ys
done_as h p = record { long = p.long; each = λ c i. p.each c i ∙ h c i; others = p.others }

-- ---- A ROW FOUND, from its two passes
flat-low : (l r u d t : ℕ) → flat l r u d t ≤ 10
flat-low l r u d t = omega (arith, side-most l r t, side-most u d t)

pub legal-on : {s : Shape} {own far off cols rows sides now : List ℕ} → Legal s own far off cols rows sides → length now ≡ length sides
    → Legal s own far off cols rows now
legal-on lg e = record {
  slow = lg.slow;
  ground = lg.ground;
  narrow = lg.narrow;
  beyond = lg.beyond;
  nothing = lg.nothing;
  long = e ∙ lg.long;
}

module _ {s : Shape} {own far off cols rows sides : List ℕ} (lg : Legal s own far off cols rows sides) {row : ℕ} (line : row < s.height * s.storeys)
    (m : ℕ) where
  abbrev first : ℕ
  first = row * s.width

  abbrev last : ℕ
  last = row * s.width + s.width

  -- what holds of a cell of the row by its column
  by-column : (P : ℕ → Type 0) → ((i : ℕ) → i < s.width → P (first + i)) → (c : ℕ) → Among first last c → P c
  by-column P h c i =
      let at : first + (c - first) ≡ c = omega (arith, i.0) in
      subst P at (h (c - first) (omega (arith, i)))

  pub flat-most : {now : List ℕ} → Done (flat_at s own far m) first last sides now → (c : ℕ) → Among first last c → get_or now c 0 ≤ 10
  flat-most d c i = subst (λ x. x ≤ 10) (sym (d.each c i)) (flat-low _ _ _ _ _)

  pub row-flat : s.storeys ≡ 1 → m ≤ never → {now : List ℕ} → Done (flat_at s own far m) first last sides now
      → Done (found_at s own far m) first last sides now
  row-flat flat low =
      done_as
      (by-column (λ c. flat_at s own far m c ≡ found_at s own far m c) (λ i l. flat-all lg.ground far lg.beyond m line l flat low))

  pub row_house : {now then : List ℕ} → Done (flat_at s own far m) first last sides now
      → Done (λ c. get_or now c 0 + 16 * stack_at s own far m c) first last now then → Done (found_at s own far m) first last sides then
  row_house {now} {then} p q = record {
    long = q.long ∙ p.long;
    each = λ c i. q.each c i ∙ ap (λ (u : ℕ). u + 16 * stack_at s own far m c) (p.each c i)
        ∙ by-column (λ c. flat_at s own far m c + 16 * stack_at s own far m c ≡ found_at s own far m c)
        (λ j l. house_is lg.ground far lg.beyond m line l) c i;
    others = λ c o. q.others c o ∙ p.others c o;
  }

-- ---- GHOSTS laid out, one after the other
module _ {s : Shape} {slow stored : List ℕ} where
  pub ghosts_none : {v : List ℕ} → Ghosts s slow stored 0 v v
  ghosts_none = record { long = refl; each = λ e l. absurd (omega arith); front = λ j l. refl; rest = λ j l. refl }

  pub ghosts_next : {k x : ℕ} {v u : List ℕ} → Ghosts s slow stored k v u → k < s.cells → 2 * s.cells ≤ length v → x ≡ counts_as (land s slow) stored k
      → Ghosts s slow stored (suc k) v (set u (s.cells + k) x)
  ghosts_next {k} {x} {v} {u} g l room q = record {
    long = length-set u (s.cells + k) x ∙ g.long;
    each = λ e h. elim (ℕ_discrete e k) [
      | yes z ↦ rw z (get_or-set_same u (s.cells + k) x 0 (omega (arith, g.long)) ∙ q)
      | no z ↦ get_or-set_other u (s.cells + k) (s.cells + e) x 0 (omega arith) ∙ g.each e (omega arith)
    ];
    front = λ j h. get_or-set_other u (s.cells + k) j x 0 (omega arith) ∙ g.front j h;
    rest = λ j h. get_or-set_other u (s.cells + k) j x 0 (omega arith) ∙ g.rest j h;
  }

-- ---- THE WHOLE BOARD
-- other times on the same ground
ground-on : {s : Shape} {slow ts cols rows : List ℕ} → Ground s slow ts cols rows → (us : List ℕ) → length us ≡ s.cells → Ground s slow us cols rows
ground-on gr us e = record {
  good = gr.good;
  cells = gr.cells;
  across = gr.across;
  down = gr.down;
  many = e;
  columns = gr.columns;
  lines = gr.lines;
}

-- a row has no more cells than the board
wide-few : (s : Shape) {slow : List ℕ} → Good (land s slow) → s.cells ≡ s.width * s.height * s.storeys → s.width ≤ s.cells
wide-few s g e =
    omega (arith, e, mul-le-mul_left s.width g.high_low, mul-le-mul_left (s.width * s.height) g.storeys_low)

off-take : {w : ℕ} (v : List ℕ) → w ≤ length v → ((i : ℕ) → i < w → get_or v i 0 ≡ never) → Off w (take w v)
off-take {w} v l h = record {
  long = omega (arith, length-take-le w v l);
  never = λ i k. get_or-take w v i 0 k ∙ h i k;
}

-- as if one tile covered it
abbrev covered : Shape → Shape
covered s = record { width = s.width; height = s.height; storeys = s.storeys; across = 256; down = 256; cells = s.cells }

pub land-wide : {s : Shape} {times work sides : List ℕ} → SomeLand s times work sides → s.width ≤ length work
land-wide {s} la = omega (arith, la.room, wide-few s la.good la.cells)

module _ {s : Shape} {times work sides now : List ℕ} (la : SomeLand s times work sides) (fi : Filled 0 s.width never work now) where
  pub whole-legal : {cols rows : List ℕ} → Marked s.width 256 1 cols → Marked s.height 256 s.storeys rows
      → Legal (covered s) times times (take s.width now) cols rows sides
  whole-legal lc lr = record {
    slow = la.slow;
    ground = record {
      good = la.good;
      cells = la.cells;
      across = omega arith;
      down = omega arith;
      many = la.many;
      columns = lc;
      lines = lr;
    };
    narrow = omega arith;
    beyond = la.many;
    nothing = off-take now (omega (arith, fi.long, land-wide la)) (λ i l. fi.inside i (omega arith) l);
    long = la.long;
  }

  pub whole-found : {m : ℕ} {found : List ℕ} → Done (found_at (covered s) times times m) 0 s.cells sides found
      → FoundWhole s m times work now sides found
  whole-found {m} d = record {
    kept = fi.long;
    rest = λ j l. fi.outside j (inr l);
    long = d.long;
    each = λ c l. d.each c (omega arith, l) ∙ ap (λ (f : ℕ → ℕ). sides_by (land s []) m c f (get_or times c 0)) (fun_ext (λ e. one c e));
  }
    where
      both : (p : Bool) (x : ℕ) → cond p x x ≡ x
      both true x = refl
      both false x = refl

      one : (c e : ℕ) → seen_at (covered s) times times c e ≡ get_or times e 0
      one c e = both (eqb (tile_of (land s []) 256 256 c) (tile_of (land s []) 256 256 e)) (get_or times e 0)

-- ---- A ROUND
pub ground-wide : {s : Shape} {slow stored cols rows : List ℕ} (n : ℕ) → Ground s slow stored cols rows → 4 * s.cells ≤ n → s.width ≤ n
ground-wide {s} n gr l = omega (arith, l, wide-few s gr.good gr.cells)

module _ (s : Shape) (work : List ℕ) where
  own_part-long : 4 * s.cells ≤ length work → length (own_part s work) ≡ s.cells
  own_part-long l =
      length-take-le (3 * s.cells - 2 * s.cells) (drop (2 * s.cells) work) (omega (arith, length-drop (2 * s.cells) work)) ∙ omega arith

  far_part-long : 4 * s.cells ≤ length work → length (far_part s work) ≡ s.cells
  far_part-long l = length-take-le (2 * s.cells - s.cells) (drop s.cells work) (omega (arith, length-drop s.cells work)) ∙ omega arith

  own_part-at : (e : ℕ) → e < s.cells → get_or (own_part s work) e 0 ≡ tentative work s.cells e
  own_part-at e l = get_or-take (3 * s.cells - 2 * s.cells) (drop (2 * s.cells) work) e 0 (omega (arith, l)) ∙ get_or-drop (2 * s.cells) work e 0

  far_part-at : (e : ℕ) → e < s.cells → get_or (far_part s work) e 0 ≡ get_or work (s.cells + e) 0
  far_part-at e l = get_or-take (2 * s.cells - s.cells) (drop s.cells work) e 0 (omega (arith, l)) ∙ get_or-drop s.cells work e 0

  pub laid_legal : {slow stored cols rows sides : List ℕ} → Ground s slow stored cols rows → Laid s work sides
      → Legal s (own_part s work) (far_part s work) (take s.width work) cols rows sides
  laid_legal {slow} gr la = record {
    slow = slow;
    ground = ground-on gr (own_part s work) (own_part-long la.room);
    narrow = la.narrow;
    beyond = far_part-long la.room;
    nothing = off-take work (ground-wide (length work) gr la.room) la.off;
    long = la.long;
  }

module _ {s : Shape} {slow stored cols rows work now then : List ℕ} (gr : Ground s slow stored cols rows) (fi : Filled 0 s.width never work now)
    (gh : Ghosts s slow stored s.cells now then) where
  pub round_laid : {sides : List ℕ} → s.across ≤ 256 → 4 * s.cells ≤ length work → length sides ≡ s.cells → Laid s then sides
  round_laid narrow room long = record {
    narrow = narrow;
    room = omega (arith, room, gh.long, fi.long);
    off = λ i l. gh.front i (omega (arith, l, wide-few s gr.good gr.cells)) ∙ fi.inside i (omega arith) l;
    long = long;
  }

  kept : (j : ℕ) → 2 * s.cells ≤ j → get_or then j 0 ≡ get_or work j 0
  kept j l = gh.rest j l ∙ fi.outside j (inr (omega (arith, l, wide-few s gr.good gr.cells)))

  own_now : (e : ℕ) → e < s.cells → get_or (own_part s then) e 0 ≡ tentative work s.cells e
  own_now e l = own_part-at s then e l ∙ kept (2 * s.cells + e) (omega arith)

  abbrev tile : (c : ℕ) → ℕ
  tile c = tile_of (land s slow) s.across s.down c

  abbrev as_stored : (d e : ℕ) → ℕ
  as_stored d e = counts_as (land s slow) stored e

  pub round-found : {m : ℕ} {sides found : List ℕ} → Done (found_at s (own_part s then) (far_part s then) m) 0 s.cells sides found
      → FoundRound s slow stored m work then sides found
  unfolding tile_of sides_by sides_seen
  round-found {m} d = record {
    kept = gh.long ∙ fi.long;
    rest = kept;
    long = d.long;
    each = λ c l.
        d.each c (omega arith, l)
        ∙ sides-agree gr.good c (rw (← cells-size gr) l) m (seen_at s (own_part s then) (far_part s then) c) _
        (λ e k n. ap (min (suc m)) (seen c e (rw (cells-size gr) k) (eqb (tile c) (tile e))))
        (get_or (own_part s then) c 0)
        ∙ ap (λ (t : ℕ). sides_by (land s slow) m c (ghosted (land s slow) s.across s.down as_stored (tentative work s.cells) c) t)
        (own_now c l);
  }
    where
      seen : (c e : ℕ) → e < s.cells → (p : Bool) → cond p (get_or (own_part s then) e 0) (get_or (far_part s then) e 0)
          ≡ cond p (tentative work s.cells e) (counts_as (land s slow) stored e)
      seen c e k true = own_now e k
      seen c e k false = far_part-at s then e k ∙ gh.each e k
