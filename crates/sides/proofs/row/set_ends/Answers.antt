use Rattle.std.proofs.Common.{arith, sym, ap, ◌∙◌}
use Rattle.front.proofs.Theory.Reading.{place-behind, place_ahead}
use Rattle.sides.specs.Row.{right_of}
use Rattle.sides.proofs.Rows.{left-beyond, right-beyond, left-own, right-own, flat_of, ends_one, ends_two}
use Rattle.sides.proofs.row.set_ends.Goals as goal

pub beyond_left-left-requires : goal.beyond_left-left-requires
beyond_left-left-requires c =
    let p = c.requires in
    let part = p.3 in
    (omega (arith, p.1, part.up, part.fits), omega (arith, p.1, p.0.short), place-behind p.2 (omega (arith, part.up, part.fits)))

pub beyond_right-right-requires : goal.beyond_right-right-requires
beyond_right-right-requires c =
    let p = c.requires in
    let part = p.3 in
    (omega (arith, p.1, part.fits), omega (arith, p.1, p.0.short), λ q. omega (arith, p.1, place_ahead p.2 (omega (arith, part.fits)) q))

pub returns-then-from-last : goal.returns-then-from-last
returns-then-from-last c =
    let a = c.args in
    let p = c.requires in
    let q = c.if-from-last.true in
    let left = c.beyond_left-left.ensures ∙ left-beyond a.own.now a.far.now p.2 p.3 p.0.own in
    let right = c.beyond_right-right.ensures ∙ right-beyond a.own.now a.far.now p.2 p.3 p.0.own in
    ends_one q (omega (arith, p.3.up, p.3.fits))
    (flat_of _ _ c.flat_sides.ensures.is left (right ∙ ap (right_of a.across a.own.now a.far.now) (sym q)) c.shown-first.ensures)

pub returns : goal.returns
returns c =
    let a = c.args in
    let p = c.requires in
    let q = c.if-from-last.false in
    let left = c.beyond_left-left.ensures ∙ left-beyond a.own.now a.far.now p.2 p.3 p.0.own in
    let right = c.beyond_right-right.ensures ∙ right-beyond a.own.now a.far.now p.2 p.3 p.0.own in
    ends_two q (omega (arith, p.3.up, p.3.fits)) p.3.fits
    (flat_of _ _ c.flat_sides-2.ensures.is left (right-own a.own.now a.far.now p.2 p.3 p.0.own q) c.shown-first.ensures)
    (flat_of _ _ c.flat_sides-3.ensures.is (left-own a.own.now a.far.now p.2 p.3 p.0.own q) right c.shown-t.ensures)
