-- `diagonal::kept` meets its contract: one test over the whole table, which antt computes.
use native.Mathlib.Omega.{arith}
use borrow.Author.Rules.{rules}
use Rattle.std.proofs.Common.{◌<◌}
use Rattle.diagonal.proofs.Rule.{right, all_right, table_is}
use Rattle.diagonal.proofs.kept.Goals as goal

pub returns : goal.returns
unfolding right all_right
returns c =
    let h : c.args.slowness < 256 = omega arith in
    search (rules, table_is)
