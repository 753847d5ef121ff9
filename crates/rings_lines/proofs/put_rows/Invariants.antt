-- `rings_lines::put_rows` meets its contract.
use Rattle.std.proofs.Common.{◌≡◌, List, ℕ, ◌+◌, ◌*◌, ◌-◌, ◌≤◌, length, drop}
use Rattle.rings_lines.specs.Put.{Put}
use Rattle.rings_lines.specs.Rings.{rows}
use Rattle.rings_lines.proofs.put_rows.Given as goal

abbrev pub invariant-loop-i : goal.invariant-loop-i
invariant-loop-i l = record {
  same : length l.out ≡ length l.initial.out;
  room : l.place + 11 * (length l.times - l.i) ≤ length l.initial.out;
  rest : (now : List ℕ) (next : ℕ) → Put l.out l.place (rows l.width l.ticks l.i (drop l.i l.times)) now next
      → Put l.initial.out l.at (rows l.width l.ticks 0 l.times) now next;
}
