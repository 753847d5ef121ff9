-- The causes behind a file's front, by its head, in the parts in which code looks for them.
use mathlib.Core.Path.{◌≡◌, refl, sym, ap, ◌∙◌}
use mathlib.Core.Bool.{Bool, true, not}
use mathlib.Core.List.{List, [], ◌∷◌, ◌++◌}
use Prim.Native.Nat.{ℕ, ◌*◌}
use borrow.Author.Tests.{not-false}
use Rattle.eikonal.specs.Board.{size}
use Rattle.eikonal.specs.Order.{Cause, caused, none, first_of}
use Rattle.eikonal.specs.Refusals.{pair_causes, record_causes, start_causes}
use Rattle.eikonal.specs.Inner.Good.{starts_rise}
use Rattle.eikonal.proofs.Causes.{NoneMet, none-met, met_parts, met-append, number_is, alike_behind, first-append}
use Rattle.eikonal.proofs.Good.{rising}
use Rattle.scenario.specs.declared.Head.{Head}
use Rattle.scenario.specs.Runs.{runs_good}
use Rattle.scenario.specs.File.{head_in, runs_in, starts_in, held, ticks_good, rest_causes}
use Rattle.scenario.specs.Inner.Walk.{Fits, runs_by, starts_by, wall_among}
use Rattle.scenario.proofs.GoodRuns.{slows_of}
use Rattle.scenario_read.proofs.StartWalk.{walls_found}

-- 3 and 6 by what the tests answered
abbrev by_ticks : (good : Bool) → List Cause
by_ticks p = caused 3 (not p) ∷ []

abbrev by_rules : (good : Bool) → List Cause
by_rules q = caused 6 (not q) ∷ []

abbrev pub rules : Head → List ℕ → Bool
rules x f = runs_good (x.width * x.height * x.storeys) x.ground 0 x.ground (runs_by x f)

module _ (x : Head) (f : List ℕ) where
  abbrev pub by_pairs : List Cause
  by_pairs = pair_causes x.width x.height x.storeys (x.ground ∷ slows_of (runs_by x f))

  abbrev pub by_records : List Cause
  by_records = record_causes (x.width * x.height * x.storeys) (starts_by x f)

  abbrev pub by_walls : List Cause
  by_walls = caused 9 (wall_among x.ground (runs_by x f) (starts_by x f)) ∷ []

  abbrev unwalled : (p q : Bool) → List Cause
  unwalled p q = by_ticks p ++ (by_pairs ++ (by_rules q ++ by_records))

  -- where none of these is met the runs are good and the starts rise
  passed : (p q : Bool) → NoneMet (unwalled p q) → (q ≡ true) × (starts_rise (x.width * x.height * x.storeys) 0 (starts_by x f) ≡ true)
  unfolding NoneMet
  passed p q m =
      let n = met_parts by_pairs (by_rules q ++ by_records) m.1 in
      (not-false _ n.1.0, (rising _ _ n.1.1).0)

-- the walk among the runs finds the walls that the board has
rest_at : (f : List ℕ) → let x = head_in f in
    first_of (by_ticks (ticks_good x.ticks) ++ (by_pairs x f ++ (by_rules (rules x f) ++ (by_records x f ++ by_walls x f)))) ≡ first_of (rest_causes f)
unfolding rest_causes start_causes pair_causes record_causes held runs_in starts_in size
rest_at f =
    let x = head_in f in
    let first = unwalled x f (ticks_good x.ticks) (rules x f) in
    first-append first (by_walls x f)
    ∙ alike_behind _ _ _ (λ z. let k = passed x f _ _ (none-met first z) in
    ap (λ p. first_of (caused 9 p ∷ [])) (sym (walls_found (held f) (size (held f)) _ 0 _ (starts_in f) refl k.0 k.1)))
    ∙ sym (first-append first (caused 9 _ ∷ []))

fine : (ks : List Cause) → none ≡ first_of ks → NoneMet ks
fine ks e = none-met ks (sym (number_is e))

module _ (x : Head) (f : List ℕ) (fits : Fits x f) (p q : Bool) where
  pub rest_is : p ≡ ticks_good x.ticks → q ≡ rules x f
      → first_of (by_ticks p ++ (by_pairs x f ++ (by_rules q ++ (by_records x f ++ by_walls x f)))) ≡ first_of (rest_causes f)
  rest_is t r =
      (λ i. first_of (by_ticks (t i) ++ (by_pairs x f ++ (by_rules (r i) ++ (by_records x f ++ by_walls x f)))))
      ∙ ap (λ y. first_of (by_ticks (ticks_good y.ticks) ++ (by_pairs y f ++ (by_rules (rules y f) ++ (by_records y f ++ by_walls y f))))) fits.head
      ∙ rest_at f

  pub starts_rise_by : none ≡ first_of (by_ticks p) → none ≡ first_of (by_pairs x f) → none ≡ first_of (by_rules q) → none ≡ first_of (by_records x f)
      → starts_rise (size (held f)) 0 (starts_by x f) ≡ true
  unfolding held size
  starts_rise_by t a r s =
      let records = met-append (by_rules q) (by_records x f) (fine _ r) (fine _ s) in
      let all = met-append (by_ticks p) _ (fine _ t) (met-append (by_pairs x f) _ (fine _ a) records) in
      rw (← fits.head) (passed x f p q all).1
