-- What the code's refusals and outcomes are as values: a cause is its number in the one order.
use Rattle.std.specs.Prelude.{ℕ, Result, Ok, Err}
use Rattle.eikonal.specs.Order.{Refusal, Own, cause_at, none}
use Rattle.eikonal.specs.Ledger.{answer}
use Rattle.eikonal.specs.declared.Reply.{Reply}
use Rattle.eikonal.specs.declared.refused.Cause.{Cause}
use Rattle.eikonal.specs.declared.refused.Cause.TheVariants.{FileLength, Sides, Ticks, Lengths, Steep, Runs, OffBoard, Late, OnWall}
use Rattle.eikonal.specs.declared.refused.Cause.TheVariants.{Far, TileSides, Order, Times, Room, Large, CellOffBoard, NoChain, NotRising}
use Rattle.eikonal.specs.declared.refused.Cause.TheVariants.{Unjoined, Change, HalfWall, FewCounts, Stacked, Kind, Other}
use Rattle.eikonal.specs.declared.refused.Refusal as found
use Rattle.eikonal.specs.declared.refused.Own as looked

abbrev pub number_of : Cause → ℕ
number_of FileLength = 1
number_of Sides = 2
number_of Ticks = 3
number_of Lengths = 4
number_of Steep = 5
number_of Runs = 6
number_of OffBoard = 7
number_of Late = 8
number_of OnWall = 9
number_of Far = 10
number_of TileSides = 11
number_of Order = 12
number_of Times = 13
number_of Room = 14
number_of Large = 15
number_of CellOffBoard = 16
number_of NoChain = 17
number_of NotRising = 18
number_of Unjoined = 19
number_of Change = 20
number_of HalfWall = 21
number_of FewCounts = 22
number_of Stacked = 23
number_of Kind = 24
number_of (Other k) = k.number

abbrev pub refusal_of : found.Refusal → Refusal
refusal_of r = cause_at (number_of r.cause) r.place

-- what an outcome tells: no refusal, or one
abbrev pub told : {A : Type 0} → Result A found.Refusal → Refusal
told (Ok x) = none
told (Err r) = refusal_of r

abbrev pub reply_of : Result ℕ found.Refusal → Reply
reply_of (Ok n) = answer none n
reply_of (Err r) = answer (refusal_of r) 0

abbrev pub own_of : looked.Own → Own
own_of o = record {
  ticks = told o.ticks;
  kinds = told o.kinds;
  cell = told o.cell;
  times = told o.times;
  lists = told o.lists;
  last = told o.last;
}
