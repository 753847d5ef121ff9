-- A run with the tablet's horizon that nothing refuses: its rounds and its times.
use mathlib.Core.Path.{◌≡◌, refl, ap, ◌∙◌}
use mathlib.Core.Bool.{true}
use mathlib.Core.List.{List}
use Prim.Native.Nat.{ℕ, ◌*◌, ◌≤◌}
use native.Mathlib.Omega.{arith}
use lib.ListN.{length}
use borrow.Author.Tests.{eq-eqb, le-leb, le-ltb}
use Rattle.eikonal.specs.Board.{size, largest, marched}
use Rattle.eikonal.specs.Tiles.{rounds}
use Rattle.eikonal.specs.Order.{none}
use Rattle.eikonal.specs.Refusals.{Handed, order_good, board_causes, handed_refusal, tile_causes, job_causes, list_causes, nothing_own}
use Rattle.eikonal.specs.Ledger.{call, call_causes, own_refusal, entered, counted, answer, answered, own_answer, own_times}
use Rattle.eikonal.specs.Entry.{lent, Counts}
use Rattle.eikonal.specs.declared.Reply.{Reply}
use Rattle.eikonal.specs.Order.{Own}
use Rattle.eikonal.specs.declared.Job.{Job}
use Rattle.eikonal.specs.declared.Job.TheVariants.{Run}
use Rattle.eikonal.proofs.Causes.{NoneMet, none-met, unrefused, met-append, number_is}
use Rattle.tablet.specs.Small.{horizon, Tiled}

-- a board with sides to 32 and 1,024 cells at the most, tiles in a good order, as many times and sides as cells, and 4,096 entries to work in
module _ (p : Handed) {tw th s : ℕ} (xs ts ss ws : List ℕ) (fine : (handed_refusal p).number ≡ 0)
    (sides : (p.board.wide ≤ 32) × (p.board.high ≤ 32) × (p.board.wide * p.board.high * p.board.storeys ≤ 1024)
    × (length ts ≡ p.board.wide * p.board.high * p.board.storeys))
    (t : Tiled s tw th) (ordered : order_good p.board tw th xs ≡ true) (even : length ss ≡ length ts) (room : length ws ≡ 4096) where
  accepted : (own_refusal (call p (Run tw th s horizon) xs (length ss) (length ws)) nothing_own (length ts)).number ≡ 0
  unfolding NoneMet own_refusal call_causes handed_refusal job_causes tile_causes list_causes size
  accepted =
      let b = p.board in
      let n = b.wide * b.high * b.storeys in
      let c = call p (Run tw th s horizon) xs (length ss) (length ws) in
      let lists = list_causes n (length ts) (length ss) (length ws) nothing_own in
      let job : NoneMet (job_causes b (Run tw th s horizon) xs) =
      rw (le-leb 1 s t.least, le-leb s largest t.most, t.sides, ordered) (refl, (refl, (refl, tt))) in
      let long : NoneMet lists =
      rw (eq-eqb (length ts) n sides.3, eq-eqb (length ss) n (even ∙ sides.3), le-ltb (length ws) (4 * n) (omega (arith, sides.2)))
      (refl, (refl, (refl, (refl, (refl, tt))))) in
      number_is (unrefused (call_causes c nothing_own (length ts)) (met-append (board_causes p b.slow none none) _ (none-met _ fine)
      (refl, met-append (job_causes b (Run tw th s horizon) xs) lists job long)))

  module _ (x : Reply) (ts-now ss-now ws-now : List ℕ) (j : Job) (o : Own) (z : ℕ)
      (k : Counts (call p j xs (length ss) (length ws)) o x (lent ts ss ws) (lent ts-now ss-now ws-now))
      (is : j ≡ Run tw th s z) (far : z ≡ horizon) (own : o ≡ nothing_own) where
    pub run-rounds : x.count ≡ rounds p.board tw th s horizon
    unfolding own_answer answered answer counted
    run-rounds = ap (λ u. u.count) k.answers ∙ rw (is, far, own, accepted)

    pub run-times : ts-now ≡ marched p.board horizon
    unfolding own_times entered
    run-times = ap (λ q. q.times) k.leaves ∙ rw (is, far, own, accepted)
