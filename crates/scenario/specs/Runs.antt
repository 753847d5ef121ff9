-- Runs of cells, and the slownesses that they and the ground come to ("The scenario file" of document 01).
use Rattle.std.specs.Prelude.{Bool, true, ◌&&◌, not, cond, List, [], ◌∷◌, ◌++◌, ℕ, suc, ◌+◌, ◌-◌, leb, eqb, replicate}
use Rattle.scenario.specs.declared.Run.{Run}

-- a Run, the code's own record: so many cells (long) from an offset on, with one slowness (slow)
unfoldable pub run : (offset long slow : ℕ) → Run
run o l s = record { offset = o; long = l; slow = s }

unfoldable pub end : Run → ℕ
end x = x.offset + x.long

-- the slownesses of the cells from a to n: the ground's outside runs
unfoldable pub painted : (ground a n : ℕ) → List Run → List ℕ
painted g a n [] = replicate (n - a) g
painted g a n (x ∷ xs) = replicate (x.offset - a) g ++ (replicate x.long x.slow ++ painted g (end x) n xs)

-- the rules of a run, where the one before ended at a and had slowness z: sorted and apart, 1 or more long, within n,
-- not the ground's slowness, and not that of the one before where the two touch
unfoldable pub run_good : (n ground a z : ℕ) → Run → Bool
run_good n g a z x =
    leb a x.offset && leb 1 x.long && leb (end x) n && not (eqb x.slow g) && not (eqb x.offset a && eqb x.slow z)

unfoldable pub runs_good : (n ground a z : ℕ) → List Run → Bool
runs_good n g a z [] = true
runs_good n g a z (x ∷ xs) = run_good n g a z x && runs_good n g (end x) x.slow xs

-- a stretch of equal slowness z from a to i is a run, unless it is ground
unfoldable pub closed : (ground a i z : ℕ) → List Run → List Run
closed g a i z xs = cond (eqb z g) xs (run a (i - a) z ∷ xs)

-- THE MAXIMAL RUNS of the cells from i on, where the stretch before them began at a and has slowness z
unfoldable pub runs_on : (ground a i z : ℕ) → List ℕ → List Run
runs_on g a i z [] = closed g a i z []
runs_on g a i z (s ∷ ss) = cond (eqb s z) (runs_on g a (suc i) z ss) (closed g a i z (runs_on g i (suc i) s ss))

-- of a board: before its first cell stands an empty stretch of ground
unfoldable pub runs_of : (ground : ℕ) → List ℕ → List Run
runs_of g ss = runs_on g 0 0 g ss
