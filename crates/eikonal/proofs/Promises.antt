-- THE PROMISES, gathered: each statement of specs/Promise.antt with its proof.
use Rattle.eikonal.specs.Promise.{CallsInOrder, LocalInOrder, PlaceIsFirst}
use Rattle.eikonal.specs.Promise.{LocalLeast, OldRule, DiagonalStep, OneSolution, TimesBelow, NeverPastHorizon, NeverUnjoined}
use Rattle.eikonal.specs.Promise.{RoundIsSolution, RunIsMarch, RoundsLeast, FewRounds, OrderFree, RunOrderFree, RunIsRounds, EveryList}
use Rattle.eikonal.specs.Promise.{SidesOrderFree, EverySheet, EveryPlace, ListsKeep, EarlierNoLater, QuickerNoLater, OneSet}
use Rattle.eikonal.specs.Promise.{SameHanded, ListsAreRecords, SameAnswers, ThirdCondition}
use Rattle.eikonal.specs.Promise.{OneLocalLeast, OneDiagonalStep}
use Rattle.eikonal.proofs.LocalRule as local-rule
use Rattle.eikonal.proofs.Lattices as lattices
use Rattle.eikonal.proofs.Slower as slower
use Rattle.eikonal.proofs.Solution as solution
use Rattle.eikonal.proofs.Never as never
use Rattle.eikonal.proofs.Rounds as rounds
use Rattle.eikonal.proofs.Sides as sides
use Rattle.eikonal.proofs.Ledger as ledger
use Rattle.eikonal.proofs.Places as places

-- the one order
pub calls_in_order : CallsInOrder
calls_in_order = places.calls_in_order

pub local_in_order : LocalInOrder
local_in_order = places.local_in_order

-- the place of a start at fault
pub place-is-first : PlaceIsFirst
place-is-first = places.place-is-first

-- the local rule
pub local-least : LocalLeast
local-least = local-rule.local-least

pub old-rule : OldRule
old-rule = local-rule.old-rule

pub diagonal-step : DiagonalStep
diagonal-step = local-rule.diagonal-step

pub one_local-least : OneLocalLeast
one_local-least = local-rule.one_local-least

pub one-diagonal-step : OneDiagonalStep
one-diagonal-step = local-rule.one-diagonal-step

-- any number of axes
pub earlier_no_later : EarlierNoLater
earlier_no_later = lattices.earlier_no_later

pub quicker_no_later : QuickerNoLater
quicker_no_later = slower.quicker_no_later

pub one_set : OneSet
one_set = lattices.one_set

-- the second condition
pub one_solution : OneSolution
one_solution = solution.one_solution

pub times_below : TimesBelow
times_below = solution.times_below

pub never-past-horizon : NeverPastHorizon
never-past-horizon = never.never-past-horizon

pub never_unjoined : NeverUnjoined
never_unjoined = never.never_unjoined

-- the third condition
pub round_is_solution : RoundIsSolution
round_is_solution = rounds.round_is_solution

pub run_is_march : RunIsMarch
run_is_march = sides.run_is_march

pub rounds_least : RoundsLeast
rounds_least = rounds.rounds_least

pub few_rounds : FewRounds
few_rounds = rounds.few_rounds

pub order_free : OrderFree
order_free = ledger.order_free

pub run_order_free : RunOrderFree
run_order_free = ledger.run_order_free

pub sides_order_free : SidesOrderFree
sides_order_free = ledger.sides_order_free

pub run_is_rounds : RunIsRounds
run_is_rounds = ledger.run_is_rounds

pub every_list : EveryList
every_list = ledger.every_list

pub every_sheet : EverySheet
every_sheet = ledger.every_sheet

pub every_place : EveryPlace
every_place = places.every_place

pub lists_keep : ListsKeep
lists_keep = ledger.lists_keep

pub third_condition : ThirdCondition
third_condition = record {
  every_list = every_list;
  every_sheet = every_sheet;
  every_place = every_place;
  round_is_solution = round_is_solution;
  run_is_march = run_is_march;
  rounds_least = rounds_least;
  few_rounds = few_rounds;
  run_is_rounds = run_is_rounds;
  order_free = order_free;
  run_order_free = run_order_free;
  sides_order_free = sides_order_free;
}

-- records and plain lists
pub same-handed : SameHanded
same-handed = ledger.same-handed

pub lists_are_records : ListsAreRecords
lists_are_records = ledger.lists_are_records

pub same-answers : SameAnswers
same-answers = ledger.same-answers
