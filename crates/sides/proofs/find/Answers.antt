use Rattle.std.proofs.Common.{◌≡◌, ℕ, ◌*◌, ap, subst, ◌∙◌, arith}
use Rattle.front.proofs.Theory.Reading.{rows_whole}
use Rattle.sides.specs.Pass.{Done}
use Rattle.sides.specs.View.{found_in}
use Rattle.sides.proofs.find.Goals as goal

pub returns : goal.returns
returns c =
    let l = c.loop-row in
    let a = c.args in
    let s = a.view.now.shape in
    let all : l.row ≡ s.height * s.storeys = omega arith in
    let cells : l.row * s.width ≡ s.cells = ap (λ (u : ℕ). u * s.width) all ∙ rows_whole c.requires.ground in
    subst (λ e. Done (found_in a.view.now a.bound) 0 e a.sides.now l.sides) cells l.invariant.1
