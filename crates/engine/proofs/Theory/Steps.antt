-- From the steps of a call to the ledger: what one step leaves meets what the next one asks, and in the end the call has kept its contract.
use mathlib.Core.Path.{◌≡◌, refl, sym, ap, subst, ◌∙◌}
use mathlib.Core.Logic.{◌≢◌}
use mathlib.Core.List.{List, ◌++◌}
use native.Mathlib.Omega.{arith}
use Prim.Native.Nat.{ℕ, ◌*◌, ◌≤◌, ◌<◌}
use lib.ListN.{length, get_or, replicate}
use Rattle.std.specs.Prelude.{Result, Ok, Err, IsErrAnd}
use borrow.Author.Tests.{eq-eqb, ne_eqb}
use Rattle.eikonal.specs.Board.{Board, largest, size}
use Rattle.eikonal.specs.Tiles.{tile_count}
use Rattle.eikonal.specs.Order.{none}
use Rattle.eikonal.specs.Handing.{no_start}
use Rattle.eikonal.specs.Refusals.{order_good, job_causes}
use Rattle.eikonal.specs.Ledger.{Sheet, sheet, Call, call_board, own_refusal, entered, answer, own_answer, own_times, own_sides, own_work}
use Rattle.eikonal.specs.Entry.{lent, Counts}
use Rattle.eikonal.specs.Order.{Refusal, Own}
use Rattle.eikonal.specs.Told.{refusal_of, reply_of}
use Rattle.eikonal.specs.declared.refused.Refusal as found
use Rattle.eikonal.specs.declared.Job.{Job}
use Rattle.eikonal.specs.declared.Job.TheVariants.{March, Round, Run}
use Rattle.eikonal.specs.declared.Start.{Start}
use Rattle.eikonal.proofs.Causes.{NoneMet, number_is}
use Rattle.eikonal.proofs.Outcomes.{numbered}
use Rattle.eikonal.proofs.Good.{size-most}
use Rattle.eikonal.proofs.Accepted.{Fits, fits, march_can, round-can, run-can}
use Rattle.eikonal.proofs.Answers.{answered-zero, answered-refused}
use Rattle.front.specs.State.{Placed, Seeded, Empty, Begun}
use Rattle.front.specs.declared.Shape.{Shape}
use Rattle.front.proofs.Theory.Beginning.{begun}
use Rattle.front.proofs.Theory.Seeding.{starts-on}
use Rattle.sides.specs.Clear.{Cleared}
use Rattle.engine.specs.Run.{whole}
use Rattle.engine.specs.Calls.{Fit, SomeStanding, bound_of, Through, Goes, Doable, shaped}
use Rattle.engine.proofs.Theory.Clearing.{cleared-sides}
use Rattle.engine.proofs.Theory.Calls.{drop-same}

-- ---- an accepted job can be done in its shape, whose tiles have good sides
module _ (b : Board) (xs : List ℕ) (wide : b.wide ≤ 256) (high : b.high ≤ 256) where
  doable : (j : Job) → NoneMet (job_causes b j xs) → Doable j (shaped b.wide b.high b.storeys j) xs
  unfolding Doable order_good tile_count
  doable (March z) e = (wide, high, march_can b xs z e)
  doable (Round tw th m) e = let r = round-can b xs tw th m e in (refl, refl, r.0, r.1.ordered)
  doable (Run tw th d z) e = let r = run-can b xs tw th d z e in (refl, refl, r.1, r.2, r.0)

  bound_low : (j : Job) → NoneMet (job_causes b j xs) → bound_of j ≤ largest
  bound_low (March z) e = march_can b xs z e
  bound_low (Round tw th m) e = (round-can b xs tw th m e).0
  bound_low (Run tw th d z) e = (run-can b xs tw th d z e).0

  tiles-sided : (j : Job) → NoneMet (job_causes b j xs) → (s : Shape) → s ≡ shaped b.wide b.high b.storeys j
      → (1 ≤ s.across) × (s.across ≤ 256) × (1 ≤ s.down) × (s.down ≤ 256)
  tiles-sided (March z) e s is = rw is (omega arith, omega arith, omega arith, omega arith)
  tiles-sided (Round tw th m) e s is = let r = (round-can b xs tw th m e).1 in rw is (r.across_low, r.across_high, r.down_low, r.down_high)
  tiles-sided (Run tw th d z) e s is = let r = (run-can b xs tw th d z e).3 in rw is (r.across_low, r.across_high, r.down_low, r.down_high)

-- the board is in its shape
record InShape (b : Board) (s : Shape) : Type 0 where
  wide : s.width ≡ b.wide
  high : s.height ≡ b.high
  storeys : s.storeys ≡ b.storeys
  whole : s.cells ≡ s.width * s.height * s.storeys
  cells : s.cells ≡ size b

in_shape : (b : Board) (j : Job) (s : Shape) → s ≡ shaped b.wide b.high b.storeys j → InShape b s
unfolding size
in_shape b (March z) s is = rw is (record { wide = refl; high = refl; storeys = refl; whole = refl; cells = refl })
in_shape b (Round tw th m) s is = rw is (record { wide = refl; high = refl; storeys = refl; whole = refl; cells = refl })
in_shape b (Run tw th d z) s is = rw is (record { wide = refl; high = refl; storeys = refl; whole = refl; cells = refl })

-- what is kept of the work list is kept from before the starts were placed
through_from : {b : Board} {j : Job} {ts : List ℕ} {n r : ℕ} {xs : List Start} {p : Sheet} {v v' w : List ℕ} → Begun n xs v v' → Through b j ts n r p v' w
    → Through b j ts n r p v w
through_from {n = n} {v = v} {v' = v'} be th = record {
  counts = th.counts;
  enters = th.enters;
  timed = th.timed;
  sided = th.sided;
  sides = th.sides;
  wipes = th.wipes ∙ ap (λ (x : List ℕ). replicate (4 * n) 0 ++ x) (drop-same (4 * n) v' v be.long (λ j l. be.rest j (omega arith)));
}

-- ---- A CALL THAT IS NOT REFUSED: what one step leaves meets what the next one asks
module _ (c : Call) (o : Own) (ts ss v : List ℕ) (broad : c.sides ≡ length ss) (same : c.work ≡ length v) (e : none ≡ own_refusal c o (length ts)) where
  abbrev b : Board
  b = call_board c

  abbrev accepted : (own_refusal c o (length ts)).number ≡ 0
  accepted = sym (number_is e)

  fit : Fits c (length ts)
  fit = fits c o (length ts) accepted

  -- its board has a shape
  pub shapely : (b.wide ≤ 256) × (b.high ≤ 256) × (b.wide * b.high * b.storeys ≤ 65536)
  unfolding size
  shapely = let g = fit.given.good in (g.wide_high, g.high_high, g.few)

  module _ (s : Shape) (is : s ≡ shaped b.wide b.high b.storeys c.job) where
    cells_are : s.cells ≡ size b
    cells_are = (in_shape b c.job s is).cells

    -- the work list has room for it
    pub roomy : (s.cells ≤ 65536) × (4 * s.cells ≤ length v)
    roomy = rw cells_are (fit.given.good.few, omega (arith, fit.work_fits, same))

    module _ (v0 : List ℕ) (em : Empty s.cells v v0) where
      -- its starts can be placed
      pub sowable : (s.cells ≤ 65536) × Placed s.cells v0 × ((i : ℕ) → i < length b.starts → (get_or b.starts i no_start).cell < s.cells)
      sowable = (roomy.0, em.placed, starts-on s.cells 0 b.starts (rw cells_are fit.given.starts.rise))

      module _ (v1 : List ℕ) (se : Seeded s.cells b.starts v0 v1) where
        stands : Begun s.cells b.starts v v1
        stands = begun s.cells b.starts v v0 v1 (rw cells_are fit.given.starts.rise) fit.given.starts.early em se

        fitting : Fit s b.slow b.starts ts ss v1
        unfolding size
        fitting =
            let i = in_shape b c.job s is in
            let g = fit.given.good in
            let d = tiles-sided b c.order g.wide_high g.high_high c.job fit.can s is in
            record {
              good = rw (i.wide, i.high, i.storeys) g;
              size = i.whole;
              across_low = d.0;
              across_high = d.1;
              down_low = d.2;
              down_high = d.3;
              many = fit.times_fit ∙ sym i.cells;
              sided = sym broad ∙ fit.sides_fit ∙ sym i.cells;
              room = omega (arith, fit.work_fits, i.cells, stands.long, same);
            }

        -- the job can be done
        pub ready : SomeStanding s b.slow ts ss v1 × Doable c.job s c.order
        ready =
            let g = fit.given.good in (
              record { starts = b.starts; fit = fitting; stands = stands.stands },
              subst (λ (q : Shape). Doable c.job q c.order) (sym is) (doable b c.order g.wide_high g.high_high c.job fit.can),
            )

        module _ (r : ℕ) (us qs u : List ℕ) (go : Goes c.job s b.slow r ts ss (sheet us qs) v1 u) where
          -- once it is
          through : Through b c.job ts (size b) r (sheet us qs) v u
          through =
              let i = in_shape b c.job s is in
              let whole_is : whole s b.slow b.starts ≡ b = rw (i.wide, i.high, i.storeys) refl in
              rw (whole_is, i.cells) at (through_from stands (go b.starts fitting stands.stands))

          -- the starts' sides can be cleared
          pub clearable : (length qs ≡ length us) × (length us ≤ 65536)
              × ((i : ℕ) → i < length b.starts → (get_or b.starts i no_start).cell < length us)
          clearable =
              let th = through in
              let g = fit.given in
              (th.sided ∙ sym th.timed, rw th.timed (size-most g.good), starts-on (length us) 0 b.starts (rw th.timed g.starts.rise))

          -- and when they are, the call has kept its contract
          pub says : (ps : List ℕ) → Cleared b.starts us qs ps → Counts c o (answer none r) (lent ts ss v) (lent us ps u)
          unfolding own_answer own_times own_sides own_work
          says ps cl =
              let th = through in
              let g = fit.given in
              let low = bound_low b c.order g.good.wide_high g.good.high_high c.job fit.can in
              let now = cleared-sides g.good ts c.job low g.starts.rise th.enters th.timed th.sided th.sides cl in
              let sheets : sheet us ps ≡ entered b c.job ts = λ i. sheet (th.enters i) (now i) in
              record {
                answers = ap (answer none) th.counts ∙ sym (answered-zero (own_refusal c o (length ts)) _ accepted);
                leaves = sheets ∙ rw (eq-eqb (own_refusal c o (length ts)).number 0 accepted) refl;
                works = th.wipes ∙ rw (eq-eqb (own_refusal c o (length ts)).number 0 accepted);
              }

-- ---- A REFUSED CALL leaves all as it was
pub turned_down : (c : Call) (o : Own) (ts ss v : List ℕ) (r : found.Refusal) (x : Result ℕ found.Refusal)
    → refusal_of r ≡ own_refusal c o (length ts) → IsErrAnd x (λ q. q ≡ r) → Counts c o (reply_of x) (lent ts ss v) (lent ts ss v)
unfolding own_answer own_times own_sides own_work
turned_down c o ts ss v r (Ok n) e h = absurd h
turned_down c o ts ss v r (Err q) e h =
    let k : (own_refusal c o (length ts)).number ≢ 0 = λ z. numbered r.cause (number_is e ∙ z) in
    record {
      answers = ap (λ (w : found.Refusal). answer (refusal_of w) 0) h ∙ ap (λ (w : Refusal). answer w 0) e
          ∙ sym (answered-refused (own_refusal c o (length ts)) _ k);
      leaves = rw (ne_eqb (own_refusal c o (length ts)).number 0 k) refl;
      works = rw (ne_eqb (own_refusal c o (length ts)).number 0 k) refl;
    }
