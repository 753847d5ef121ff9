use Rattle.std.proofs.Common.{List, ℕ, ◌/◌, ◌+◌, ◌*◌, ◌≤◌, ◌<◌, length, sym, ◌∙◌, arith}
use Rattle.scenario.specs.File.{start_size, start_in}
use Rattle.scenario.specs.Inner.Walk.{starts_whole}
use Rattle.scenario.proofs.Records.{length-records, record_at}
use Rattle.scenario.proofs.starts.FileStartsStarts.at.Goals as goal

-- the bytes of a start are there
there : (bs : List ℕ) (i : ℕ) → i < length (starts_whole bs) → start_size * i + start_size ≤ length bs
there bs i h = omega (arith, h, length-records start_size start_in (length bs / start_size) bs)

pub overflow_mul-i : goal.overflow_mul-i
overflow_mul-i c = record { fits = omega (arith, there _ _ c.requires, c.ranges.self.0) }

pub start_at-requires : goal.start_at-requires
start_at-requires c = there _ _ c.requires

pub returns : goal.returns
returns c =
    let bs = c.args.self.bytes.now in
    let n = length bs / start_size in
    c.start_at.ensures ∙ sym (record_at start_size start_in n c.args.i bs _ (omega (arith, c.requires, length-records start_size start_in n bs)))
