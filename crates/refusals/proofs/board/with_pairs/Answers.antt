-- `refusals::board::with_pairs` meets its contract.
use Rattle.std.proofs.Common.{◌∙◌, rules}
use Rattle.std.proofs.lemmas.Iterator.{YieldsList-from_slice}
use Rattle.std.proofs.lemmas.Iterator.Consumers.{fold_from_yields_List}
use Rattle.refusals.specs.Flaws.{with_pair}
use Rattle.refusals.proofs.Pairs.{with_pairs-folded}
use Rattle.refusals.proofs.board.with_pairs.Goals as goal

pub returns : goal.returns
returns c =
    let pairs = YieldsList-from_slice {s = c.iter.result} c.args.slow.now (search rules) in
    fold_from_yields_List _ (λ k s. with_pair s k) c.args.so_far c.fold.result c.fold.ensures.ran pairs (λ k x b q e. search rules)
    ∙ with_pairs-folded c.args.slow.now c.args.so_far
