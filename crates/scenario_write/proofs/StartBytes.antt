-- Starts written one behind the other.
use mathlib.Core.Path.{◌≡◌, sym, ap, ◌∙◌}
use mathlib.Core.List.{List, [], ◌++◌, append_assoc, append-nil}
use Prim.Native.Nat.{ℕ, ◌+◌, ◌*◌, ◌≤◌, ◌<◌}
use native.Mathlib.Omega.{arith}
use native.Mathlib.Numerals.{add-one}
use lib.ListN.{length, get_or, take, drop, drop_of_length-le}
use lib.Seq.{drop-cons, take_all}
use Rattle.eikonal.specs.Handing.{no_start}
use Rattle.eikonal.specs.declared.Start.{Start}
use Rattle.scenario.specs.Bytes.{four_bytes, bytes_of}
use Rattle.scenario.specs.File.{start_size, start_bytes}

-- the bytes of the starts from the i-th on
abbrev pub bytes_after : List Start → (i : ℕ) → List ℕ
bytes_after xs i = bytes_of start_bytes (drop i xs)

module _ (xs : List Start) (i : ℕ) (out : List ℕ) (e : take (start_size * i) out ++ bytes_after xs i ≡ bytes_of start_bytes xs) where
  pub written-more : (now : List ℕ) (x : Start) → x ≡ get_or xs i no_start → i < length xs
      → take (start_size * i + start_size) now ≡ take (start_size * i) out ++ (four_bytes x.cell ++ four_bytes x.time)
      → take (start_size * (i + 1)) now ++ bytes_after xs (i + 1) ≡ bytes_of start_bytes xs
  unfolding bytes_of start_bytes
  written-more now x is h q =
      let r : start_size * (i + 1) ≡ start_size * i + start_size = omega arith in
      let more : bytes_after xs i ≡ start_bytes x ++ bytes_after xs (i + 1) = rw (drop-cons xs i no_start h, add-one i, is) in
      rw (r, q, append_assoc) (ap (λ u. take (start_size * i) out ++ u) (sym more) ∙ e)

  pub written_all : length xs ≤ i → length out ≡ start_size * length xs → out ≡ bytes_of start_bytes xs
  unfolding bytes_of
  written_all h l =
      let none : bytes_after xs i ≡ [] = rw (drop_of_length-le xs h) in
      sym (take_all (start_size * i) out (omega arith)) ∙ sym (append-nil (take (start_size * i) out))
      ∙ ap (λ u. take (start_size * i) out ++ u) (sym none) ∙ e
