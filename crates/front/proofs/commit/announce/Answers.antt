-- `front::commit::announce` meets its contract: the first i noted cells are announced.
use Rattle.std.proofs.Common.{◌≡◌, ◌+◌, ◌*◌, ◌<◌, ℕ, List, refl, sym, ◌∙◌, arith}
use Rattle.front.specs.Board.{noted, Work, at}
use Rattle.front.specs.State.{Announced, nobody}
use Rattle.front.proofs.Theory.Reading.{time-at}
use Rattle.front.proofs.Theory.Announcing.{announced_held, announced_rest, announced_more}
use Rattle.front.proofs.commit.announce.Goals as goal

-- what is read is still the note of the entry, a cell
note : {n : ℕ} {L : ℕ → (ℕ → ℕ) → ℕ} {stored note : ℕ → ℕ} {es : ℕ → List ℕ} {v v' : Work} {i m c : ℕ} → Announced n L stored note es i v v'
    → ((j : ℕ) → j < m → noted v.list n j < n) → i < m → c ≡ noted v'.list n i → (c ≡ noted v.list n i) × (c < n)
note {n} {i = i} an on l e =
    let at = e ∙ announced_rest an (3 * n + i) (omega arith) in
    (at, omega (arith, at, on i l))

pub loop-i-init : goal.loop-i-init
loop-i-init c = nobody (at c.args.work.now c.args.size)

pub bounds-scene-c : goal.bounds-scene-c
bounds-scene-c c =
    omega (arith, c.args.scene.now.ground.many, note c.loop-i.invariant c.requires.2 c.loop-i-test.true refl)

pub tell_others-pending-requires : goal.tell_others-pending-requires
tell_others-pending-requires c =
    let an = c.loop-i.invariant in
    (announced_held c.requires.0 an, (note an c.requires.2 c.loop-i-test.true refl).1)

pub loop-i-preserved : goal.loop-i-preserved
loop-i-preserved c =
    let an = c.loop-i.invariant in
    let s = c.args.scene.now in
    let at = note an c.requires.2 c.loop-i-test.true refl in
    let is = time-at s.times.now (noted c.loop-i.work s.shape.cells c.loop-i.i) (omega (arith, at, s.ground.many)) in
    announced_more an at.0 (sym is) c.tell_others-pending.ensures

pub returns : goal.returns
returns c =
    let all : c.loop-i.i ≡ c.args.m = omega (arith, c.loop-i-test.false) in
    rw (← all) c.loop-i.invariant
