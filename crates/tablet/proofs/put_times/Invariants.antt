-- `tablet::put_times` meets its contract.
use mathlib.Core.Path.{◌≡◌}
use mathlib.Core.List.{◌++◌}
use Prim.Native.Nat.{◌*◌}
use lib.ListN.{length, take}
use Rattle.scenario.specs.Bytes.{four_bytes, bytes_of}
use Rattle.tablet.proofs.TimesBytes.{bytes_after}
use Rattle.tablet.proofs.put_times.Given as goal

abbrev pub invariant-loop-i : goal.invariant-loop-i
invariant-loop-i l = (length l.out ≡ length l.initial.out) × (take (4 * l.i) l.out ++ bytes_after l.times l.i ≡ bytes_of four_bytes l.times)
