-- lists: what a store, a call of the queue and a touch leave of the work list; starts placed in it
pub mod Relaxing
pub mod Seeding
-- the rule and its sight: lawful, by neighbours alone; seams and tiles over an axis; what code reads is what the rule sees
pub mod Sight
pub mod Seams
pub mod Reading
-- the front's invariant: kept by a cell that is taken (accepted) and by those that hear; the round so far
pub mod Front
pub mod Among
pub mod Same
pub mod Drift
pub mod Telling
-- steps of a round: its beginning, cells woken, the narrow band drained, a round of some rows, the commit (ghost exchange) with what it announces
pub mod Beginning
pub mod Waking
pub mod Draining
pub mod Strips
pub mod Commit
pub mod Announcing
