-- THE PROMISES of late ground: each statement of specs/Promise.antt with its proof.
use Rattle.eikonal.proofs.Good.{good}
use Rattle.late_ground.specs.LateGround.{retouched}
use Rattle.late_ground.specs.Promise.{LateMarch, LateRun, LateRound, RingsAreEarly, LateCalls, LateRoundCalls, LateSingleRounds}
use Rattle.late_ground.proofs.Rounds.{march_early, round-early, run-early}
use Rattle.late_ground.proofs.Calls as calls
use Rattle.late_ground.proofs.Rings as rings

pub late_march : LateMarch
unfolding LateMarch
late_march b ss h T e d far raised late = march_early b ss (good b e) (good (retouched b ss) d) T raised h far late

pub late-run : LateRun
unfolding LateRun
late-run b ss tw th s h k T e d some far raised late = run-early b ss (good b e) (good (retouched b ss) d) T raised tw th s h some far late k

pub late-round : LateRound
unfolding LateRound
late-round b ss tw th m T ts e d far raised late-stored late =
    round-early b ss (good b e) (good (retouched b ss) d) T raised tw th m far ts late-stored late

pub rings_are_early : RingsAreEarly
rings_are_early = rings.rings_are_early

-- of running code
pub late_calls : LateCalls
late_calls = calls.late_calls

pub late_round_calls : LateRoundCalls
late_round_calls = calls.late_round_calls

pub late-single_rounds : LateSingleRounds
late-single_rounds = calls.late-single_rounds
