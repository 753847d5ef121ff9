-- Every accepted file is the file of what it holds, so what it holds has one file.
use mathlib.Core.Path.{◌≡◌, sym, ap₂, ◌∙◌}
use mathlib.Core.List.{List, ◌++◌}
use Prim.Native.Nat.{ℕ, ◌+◌, ◌*◌, ◌≤◌}
use native.Mathlib.Omega.{arith}
use lib.ListN.{length, take, drop, length-drop}
use lib.Seq.{take-add, take_all}
use Rattle.eikonal.specs.Board.{size}
use Rattle.scenario.specs.Bytes.{two, four, two_bytes, four_bytes, Bytes}
use Rattle.scenario.specs.Runs.{run}
use Rattle.scenario.specs.File.{head_size, run_size, start_size, runs_end, file_size, head_bytes, run_bytes, start_bytes, head_of, front, file_of}
use Rattle.scenario.specs.File.{head_in, run_in, start_in, runs_in, starts_in, held}
use Rattle.scenario.specs.Promise.{AcceptedIsFileOf, OneFile}
use Rattle.scenario.proofs.Numbers.{bytes_drop, two_back, four-back}
use Rattle.scenario.proofs.Records.{write_back, length-records}
use Rattle.scenario.proofs.Painted.{good_maximal}
use Rattle.scenario.proofs.Causes.{accepted}

-- pieces that stand one behind the other
joined : (n m : ℕ) (f x y : List ℕ) → x ≡ take n f → y ≡ take m (drop n f) → x ++ y ≡ take (n + m) f
joined n m f x y p q = ap₂ ◌++◌ p q ∙ sym (take-add n m f)

module _ (f : List ℕ) (h : Bytes f) where
  two_at : (n : ℕ) → n + 2 ≤ length f → two_bytes (two (drop n f)) ≡ take 2 (drop n f)
  two_at n l = two_back (drop n f) (bytes_drop n f h) (omega (arith, length-drop n f))

  four-at : (n : ℕ) → n + 4 ≤ length f → four_bytes (four (drop n f)) ≡ take 4 (drop n f)
  four-at n l = four-back (drop n f) (bytes_drop n f h) (omega (arith, length-drop n f))

  run-back : run_size ≤ length f → run_bytes (run_in f) ≡ take run_size f
  unfolding run_bytes run_in run
  run-back l = joined 8 4 f _ _ (joined 4 4 f _ _ (four-back f h (omega arith)) (four-at 4 (omega arith))) (four-at 8 (omega arith))

  start_back : start_size ≤ length f → start_bytes (start_in f) ≡ take start_size f
  unfolding start_bytes start_in
  start_back l = joined 4 4 f _ _ (four-back f h (omega arith)) (four-at 4 (omega arith))

  head-back : head_size ≤ length f → head_bytes (head_in f) ≡ take head_size f
  unfolding head_bytes head_in
  head-back l =
      joined 16 4 f _ _ (joined 12 4 f _ _ (joined 8 4 f _ _ (joined 6 2 f _ _ (joined 4 2 f _ _ (joined 2 2 f _ _
      (two_back f h (omega arith)) (two_at 2 (omega arith))) (two_at 4 (omega arith))) (two_at 6 (omega arith)))
      (four-at 8 (omega arith))) (four-at 12 (omega arith))) (four-at 16 (omega arith))

pub accepted-is-file_of : AcceptedIsFileOf
unfolding AcceptedIsFileOf file_of head_of front held size runs_in starts_in
accepted-is-file_of f h e =
    let a = accepted f e in
    let x = head_in f in
    let base = runs_end x.runs in
    let runs = good_maximal (x.width * x.height * x.storeys) x.ground (runs_in f) a.runs in
    let head = head-back f h a.front.head in
    let long = a.front.long in
    let some = write_back run_size run_in run_bytes run-back x.runs (drop head_size f) (bytes_drop head_size f h)
    (omega (arith, long, length-drop head_size f)) in
    let last = write_back start_size start_in start_bytes start_back x.starts (drop base f) (bytes_drop base f h)
    (omega (arith, long, length-drop base f)) in
    let all = joined base (start_size * x.starts) f _ _ (joined head_size (run_size * x.runs) f _ _ head some) last in
    sym (rw (runs, length-records run_size run_in x.runs (drop head_size f), length-records start_size start_in x.starts (drop base f))
    (all ∙ take_all (file_size x.runs x.starts) f (omega (arith, long))))

pub one_file : OneFile
unfolding OneFile AcceptedIsFileOf held
one_file e f he hf re rf b t g =
    accepted-is-file_of e he re
    ∙ (λ i. file_of (t i) (g i) (b i))
    ∙ sym (accepted-is-file_of f hf rf)
