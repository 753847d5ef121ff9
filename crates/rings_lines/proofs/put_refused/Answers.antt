-- `rings_lines::put_refused` meets its contract.
use Rattle.std.proofs.Common.{List, [], ◌∷◌, ◌++◌, ℕ, drop, refl, sym, ap, ◌∙◌, arith}
use Rattle.std.proofs.lemmas.List.Edits.{sets-eq}
use Rattle.rings_lines.specs.Rings.{refused_line}
use Rattle.rings_lines.proofs.Stores.{put_more}
use Rattle.rings_lines.proofs.put_refused.Goals as goal

pub returns-clause-put : goal.returns-clause-put
unfolding refused_line
returns-clause-put c =
    let out = c.args.out.now in
    let word : List ℕ = 114 ∷ 101 ∷ 102 ∷ 117 ∷ 115 ∷ 101 ∷ 100 ∷ 32 ∷ [] in
    let now = ap (λ u. u ++ drop 8 out) c.copy_from_slice.ensures.after ∙ sym (sets-eq word out 0 (omega arith)) in
    put_more {xs = word} (record { place = refl; bytes = now }) c.put_number.ensures.put
