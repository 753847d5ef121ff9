-- What is promised where ground is retouched late. Each statement is a type; proofs/Promises.antt has their proofs. T may lie above the horizon.
use Rattle.std.specs.Prelude.{◌≡◌, true, List, [], ◌∷◌, ◌⊎◌, ℕ, suc, ◌*◌, ◌≤◌, ◌<◌}
use Rattle.eikonal.specs.Board.{Board, never, largest, size, time, marched, all_never}
use Rattle.eikonal.specs.Tiles.{counts_as, round, after_rounds}
use Rattle.eikonal.specs.Sides.{march_sides, round_sides, sides_after}
use Rattle.eikonal.specs.Refusals.{Handed}
use Rattle.eikonal.specs.Ledger.{Sheet, sheet, Call, call, call_board, refusal}
use Rattle.eikonal.specs.Entry.{Lent, Says}
use Rattle.eikonal.specs.Promise.{board_good, single_rounds, Steps}
use Rattle.eikonal.specs.declared.Reply.{Reply}
use Rattle.eikonal.specs.declared.Job.{Job}
use Rattle.eikonal.specs.declared.Job.TheVariants.{March, Round, Run}
use Rattle.scenario.specs.Turns.{turn_of}
use Rattle.late_ground.specs.LateGround.{Late, Early, retouched, Raised, DifferLate, SameEarly}

-- A MARCH
abbrev pub march_sheet : Board → (horizon : ℕ) → Sheet
march_sheet b h = sheet (marched b h) (march_sides b h)

unfoldable pub LateMarch : Type 0
LateMarch =
    (b : Board) (ss : List ℕ) (h T : ℕ) → board_good b ≡ true → board_good (retouched b ss) ≡ true → h ≤ largest →
    Raised b ss → DifferLate b ss T (time (marched b h)) →
    SameEarly (size b) T (march_sheet b h) (march_sheet (retouched b ss) h)

-- A TILE RUN, after each round, whatever tiles and stride the two runs share
abbrev pub run_sheet : (k : ℕ) → Board → (tw th stride horizon : ℕ) → Sheet
run_sheet k b tw th s h = sheet (after_rounds k b tw th s h) (sides_after k b tw th s h)

unfoldable pub LateRun : Type 0
LateRun =
    (b : Board) (ss : List ℕ) (tw th s h k T : ℕ) → board_good b ≡ true → board_good (retouched b ss) ≡ true → 1 ≤ s → h ≤ largest →
    Raised b ss → DifferLate b ss T (time (marched b h)) →
    SameEarly (size b) T (run_sheet k b tw th s h) (run_sheet k (retouched b ss) tw th s h)

-- A SINGLE ROUND with the same tiles and bound, on the same stored times: every cell that differs is late both as its stored time counts and in the
-- first board's round
abbrev pub round_sheet : Board → (tw th bound : ℕ) → (stored : List ℕ) → Sheet
round_sheet b tw th m ts = sheet (round b tw th m ts) (round_sides b tw th m ts)

unfoldable pub LateRound : Type 0
LateRound =
    (b : Board) (ss : List ℕ) (tw th m T : ℕ) (stored : List ℕ) → board_good b ≡ true → board_good (retouched b ss) ≡ true → m ≤ largest →
    Raised b ss → DifferLate b ss T (counts_as b stored) → DifferLate b ss T (time (round b tw th m stored)) →
    SameEarly (size b) T (round_sheet b tw th m stored) (round_sheet (retouched b ss) tw th m stored)

-- IN RINGS, the turns of so many ticks that are printed: with T = r × ticks + 1 the cells of rings up to r are the early ones
unfoldable pub RingsAreEarly : Type 0
RingsAreEarly =
    (ticks r t : ℕ) → 1 ≤ ticks → r < never → (t ≤ largest) ⊎ (t ≡ never) →
    let ring = turn_of t ticks in
    let T = suc (r * ticks) in
    (ring ≤ r → Early T t) × (Early T t → ring ≤ r) × (r < ring → Late T t) × (Late T t → r < ring)

-- ---- OF RUNNING CODE, over records as over plain lists. Two accepted calls, each a march or a tile run to one horizon, with tiles, strides and
-- orders of their own: the first leaves m, by whose times cells are late, the second o
unfoldable pub GoesTo : (horizon : ℕ) → Job → Type 0
GoesTo h (March z) = z ≡ h
GoesTo h (Round tw th m) = ⊥
GoesTo h (Run tw th s z) = z ≡ h

unfoldable pub LateCalls : Type 0
LateCalls =
    (c d : Call) (x y : Reply) (l m n o : Lent) (ss : List ℕ) (h T : ℕ) → Says c x l m → Says d y n o → x.number ≡ 0 → y.number ≡ 0 →
    GoesTo h c.job → GoesTo h d.job → call_board d ≡ retouched (call_board c) ss →
    Raised (call_board c) ss → DifferLate (call_board c) ss T (time m.sheet.times) →
    SameEarly (size (call_board c)) T m.sheet o.sheet

-- two accepted single rounds with the same tiles and bound, on the same stored times: the first leaves m, the second o
unfoldable pub LateRoundCalls : Type 0
LateRoundCalls =
    (p q : Handed) (tw th bound u v w z : ℕ) (os us : List ℕ) (x y : Reply) (l m n o : Lent) (ss : List ℕ) (T : ℕ) →
    Says (call p (Round tw th bound) os u v) x l m → Says (call q (Round tw th bound) us w z) y n o → x.number ≡ 0 → y.number ≡ 0 →
    n.sheet.times ≡ l.sheet.times → q.board ≡ retouched p.board ss →
    Raised p.board ss → DifferLate p.board ss T (counts_as p.board l.sheet.times) → DifferLate p.board ss T (time m.sheet.times) →
    SameEarly (size p.board) T m.sheet o.sheet

-- j single rounds with a tile run's bounds, from all never, leave the times ts and us, and the last of them the sides that it leaves in whatever list it
-- was lent: what the two runs hold after round j
unfoldable pub last_left : (left : List (List ℕ)) → List ℕ
last_left [] = []
last_left (v ∷ []) = v
last_left (v ∷ w ∷ vs) = last_left (w ∷ vs)

unfoldable pub LateSingleRounds : Type 0
LateSingleRounds =
    (p q : Handed) (tw th s h n w k v j : ℕ) (os ps : List ℕ) (xs ys : List Reply) (es bs cs ds : List (List ℕ)) (ts us ss : List ℕ) (T : ℕ) →
    (refusal (call p (Run tw th s h) os n w) (size p.board)).number ≡ 0 →
    (refusal (call q (Run tw th s h) ps k v) (size q.board)).number ≡ 0 →
    Steps (all_never p.board) (single_rounds j p tw th s h os n w) xs es bs ts →
    Steps (all_never q.board) (single_rounds j q tw th s h ps k v) ys cs ds us →
    q.board ≡ retouched p.board ss → Raised p.board ss → DifferLate p.board ss T (time (marched p.board h)) →
    SameEarly (size p.board) T (sheet ts (last_left bs)) (sheet us (last_left ds))
