-- Times written as bytes, one behind the other.
use mathlib.Core.Path.{◌≡◌}
use mathlib.Core.List.{List, [], ◌++◌, append_assoc, append-nil}
use Prim.Native.Nat.{ℕ, ◌+◌, ◌≤◌, ◌<◌}
use native.Mathlib.Numerals.{add-one}
use lib.ListN.{length, get_or, drop, drop_of_length-le}
use lib.Seq.{drop-cons, take_all}
use Rattle.scenario.specs.Bytes.{four_bytes, bytes_of}

-- the bytes of the times from the i-th on
abbrev pub bytes_after : (times : List ℕ) (i : ℕ) → List ℕ
bytes_after ts i = bytes_of four_bytes (drop i ts)

module _ (ts : List ℕ) (i : ℕ) where
  pub after_none : length ts ≤ i → bytes_after ts i ≡ []
  unfolding bytes_of
  after_none h = rw (drop_of_length-le ts h)

  pub after_more : i < length ts → bytes_after ts i ≡ four_bytes (get_or ts i 0) ++ bytes_after ts (i + 1)
  unfolding bytes_of
  after_more h = rw (drop-cons ts i 0 h, add-one i)

pub ruleset writing = (after_none, after_more, append_assoc, append-nil, take_all)
