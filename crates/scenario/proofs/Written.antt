-- The file of a good board is accepted, and holds that board.
use mathlib.Core.Path.{◌≡◌, refl, sym, ap, ◌∙◌}
use mathlib.Core.Bool.{true}
use mathlib.Core.List.{List, [], ◌∷◌, ◌++◌, append_assoc, append-nil}
use Prim.Native.Nat.{ℕ, ◌*◌, ◌≤◌, ◌<◌}
use native.Mathlib.Omega.{arith}
use lib.ListN.{length, drop, length-append}
use lib.Seq.{drop_at, drop-drop}
use Rattle.eikonal.specs.Board.{Board, size}
use Rattle.eikonal.specs.declared.Start.{Start}
use Rattle.eikonal.specs.Order.{none}
use Rattle.eikonal.specs.Refusals.{steep, handed, handed_refusal}
use Rattle.eikonal.proofs.Causes.{none-met}
use Rattle.eikonal.proofs.Good.{sides-within, Housed, housed, house_none, Sound, sound}
use Rattle.scenario.specs.Bytes.{two, four, two_bytes, four_bytes, bytes_of}
use Rattle.scenario.specs.declared.Head.{Head}
use Rattle.scenario.specs.declared.Run.{Run}
use Rattle.scenario.specs.Runs.{run, painted, runs_good, runs_of}
use Rattle.scenario.specs.File.{head_size, run_size, start_size, runs_end, file_size, head_bytes, run_bytes, start_bytes, head_of, front, file_of}
use Rattle.scenario.specs.File.{head_in, run_in, start_in, runs_in, starts_in, held, ticks_good, file_refusal}
use Rattle.scenario.specs.Promise.{FileOfIsAccepted}
use Rattle.scenario.proofs.Numbers.{two-front, four-front}
use Rattle.scenario.proofs.Records.{read_back, length-bytes}
use Rattle.scenario.proofs.Slows.{Good, Spares, spares_rest, slow-fits, good-among, with_ground}
use Rattle.scenario.proofs.GoodRuns as GoodRuns
use Rattle.scenario.proofs.GoodRuns.{runs_of-good, slows_of, runs_of-among, runs_of-count}
use Rattle.scenario.proofs.Painted.{painted-runs}
use Rattle.scenario.proofs.Causes as Causes
use Rattle.scenario.proofs.Causes.{Given, given, accepts, rise-count, some-ticks}

-- ---- a head, a run and a start come back from their bytes
-- the numbers of a head fit their bytes
record Small (x : Head) : Type 0 where
  width : x.width < 65536
  height : x.height < 65536
  storeys : x.storeys < 65536
  ticks : x.ticks < 65536
  ground : x.ground < 4294967296
  runs : x.runs < 4294967296
  starts : x.starts < 4294967296

head-front : (x : Head) (bs : List ℕ) → Small x → head_in (head_bytes x ++ bs) ≡ x
unfolding head_in head_bytes four_bytes two_bytes four two
head-front x bs s = λ i. record {
  width = two-front x.width [] s.width i;
  height = two-front x.height [] s.height i;
  storeys = two-front x.storeys [] s.storeys i;
  ticks = two-front x.ticks [] s.ticks i;
  ground = four-front x.ground [] s.ground i;
  runs = four-front x.runs [] s.runs i;
  starts = four-front x.starts [] s.starts i;
}

head-length : (x : Head) → length (head_bytes x) ≡ head_size
unfolding head_bytes four_bytes two_bytes
head-length x = refl

head-next : (x : Head) (bs : List ℕ) → drop head_size (head_bytes x ++ bs) ≡ bs
unfolding head_bytes four_bytes two_bytes
head-next x bs = refl

pub run_length : (x : Run) → length (run_bytes x) ≡ run_size
unfolding run_bytes four_bytes two_bytes
run_length x = refl

pub start-length : (x : Start) → length (start_bytes x) ≡ start_size
unfolding start_bytes four_bytes two_bytes
start-length x = refl

run-next : (x : Run) (bs : List ℕ) → drop run_size (run_bytes x ++ bs) ≡ bs
unfolding run_bytes four_bytes two_bytes
run-next x bs = refl

start-next : (x : Start) (bs : List ℕ) → drop start_size (start_bytes x ++ bs) ≡ bs
unfolding start_bytes four_bytes two_bytes
start-next x bs = refl

run-front : (x : Run) (bs : List ℕ) → GoodRuns.Small x → run_in (run_bytes x ++ bs) ≡ x
unfolding run_in run run_bytes four_bytes two_bytes four two
run-front x bs s = λ i. record {
  offset = four-front x.offset [] s.offset i;
  long = four-front x.long [] s.long i;
  slow = four-front x.slow [] s.slow i;
}

start-front : (x : Start) (bs : List ℕ) → Causes.Small x → start_in (start_bytes x ++ bs) ≡ x
unfolding start_in start_bytes four_bytes two_bytes four two
start-front x bs s = λ i. record { cell = four-front x.cell [] s.cell i; time = four-front x.time [] s.time i }

-- ---- the bytes in front of the starts, and all
runs-length : (rs : List Run) → length (bytes_of run_bytes rs) ≡ run_size * length rs
runs-length rs = length-bytes run_size run_bytes run_length rs

pub starts-length : (xs : List Start) → length (bytes_of start_bytes xs) ≡ start_size * length xs
starts-length xs = length-bytes start_size start_bytes start-length xs

pub front_length : (x : Head) (ss : List ℕ) → length (front x ss) ≡ runs_end (length (runs_of x.ground ss))
unfolding front
front_length x ss =
    let rs = bytes_of run_bytes (runs_of x.ground ss) in
    omega (arith, length-append (head_bytes x) rs, head-length x, runs-length (runs_of x.ground ss))

pub length_file : (t g : ℕ) (b : Board) → length (file_of t g b) ≡ file_size (length (runs_of g b.slow)) (length b.starts)
unfolding file_of head_of
length_file t g b =
    let x = head_of b.wide b.high b.storeys t g b.slow (length b.starts) in
    omega (arith, length-append (front x b.slow) (bytes_of start_bytes b.starts), front_length x b.slow, starts-length b.starts)

-- ---- a board that is not refused
module _ (b : Board) (t g : ℕ) (a : Given (handed b true) b.slow) (tl : t ≤ 65535) (gg : Good b.wide b.high b.storeys (g ∷ [])) where
  rs : List Run
  rs = runs_of g b.slow

  x : Head
  x = head_of b.wide b.high b.storeys t g b.slow (length b.starts)

  f : List ℕ
  f = head_bytes x ++ (bytes_of run_bytes rs ++ bytes_of start_bytes b.starts)

  is_file : file_of t g b ≡ f
  unfolding file_of front head_of x f rs
  is_file = append_assoc (head_bytes x) (bytes_of run_bytes rs) (bytes_of start_bytes b.starts)

  starts_sound : Sound b
  starts_sound = sound b a.starts

  good : runs_good (size b) g 0 g rs ≡ true
  unfolding rs
  good = rw a.long at (runs_of-good g b.slow)

  slows : Good b.wide b.high b.storeys (g ∷ slows_of rs)
  unfolding rs
  slows =
      good-among _ _ _ (g ∷ slows_of (runs_of g b.slow)) (g ∷ b.slow) (runs_of-among g b.slow) (with_ground _ _ _ g b.slow gg a.slows)

  house : Housed b.wide b.high b.storeys (g ∷ slows_of rs)
  house = housed _ _ _ _ slows

  gentle : Spares steep (g ∷ slows_of rs)
  gentle = house.gentle

  n-most : size b ≤ 65536
  unfolding size
  n-most = house.few

  head_small : Small x
  unfolding x head_of
  head_small = record {
    width = omega (arith, (sides-within b.wide b.high a.sides).1);
    height = omega (arith, (sides-within b.wide b.high a.sides).3);
    storeys = omega (arith, house.high);
    ticks = omega arith;
    ground = slow-fits g (slows_of rs) gentle;
    runs = omega (arith, runs_of-count g b.slow, a.long, n-most);
    starts = omega (arith, rise-count (size b) 0 b.starts starts_sound.rise (omega arith), n-most);
  }

  holds-head : head_in f ≡ x
  unfolding f
  holds-head = head-front x _ head_small

  behind : drop head_size f ≡ bytes_of run_bytes rs ++ bytes_of start_bytes b.starts
  unfolding f
  behind = head-next x _

  holds-runs : runs_in f ≡ rs
  unfolding runs_in x head_of rs
  holds-runs =
      rw (holds-head, behind)
      (read_back run_size run_in run_bytes GoodRuns.Small run-front run-next rs _
      (GoodRuns.all_small (size b) g 0 g rs (omega (arith, n-most)) good (spares_rest steep g (slows_of rs) gentle)))

  holds-starts : starts_in f ≡ b.starts
  unfolding starts_in x head_of rs
  holds-starts =
      let small = Causes.all_small (size b) 0 b.starts (omega (arith, n-most)) starts_sound.rise starts_sound.early in
      rw (
        holds-head,
        ← drop-drop (run_size * length rs) head_size f,
        behind,
        drop_at (bytes_of run_bytes rs) (bytes_of start_bytes b.starts) (run_size * length rs) (runs-length rs),
        ← append-nil (bytes_of start_bytes b.starts),
      )
      (read_back start_size start_in start_bytes Causes.Small start-front start-next b.starts [] small)

  holds-slow : painted g 0 (b.wide * b.high * b.storeys) rs ≡ b.slow
  unfolding rs size
  holds-slow = rw a.long at (painted-runs g b.slow)

  holds : held f ≡ b
  unfolding held x head_of
  holds = rw (holds-head, holds-runs, holds-starts, holds-slow)

  long : length f ≡ file_size x.runs x.starts
  unfolding x head_of
  long = ap length (sym is_file) ∙ length_file t g b

  is-accepted : ticks_good t ≡ true → (file_refusal f).number ≡ 0
  unfolding x head_of
  is-accepted tg = accepts f (record {
    front = record { head = omega (arith, long); long = rw holds-head long; sides = rw holds-head a.sides };
    ticks = rw holds-head tg;
    slows = rw (holds-head, holds-runs) slows;
    runs = rw (holds, holds-head, holds-runs) good;
    starts = rw holds a.starts;
  })

  is_read : ((head_in f).ticks ≡ t) × ((head_in f).ground ≡ g)
  unfolding x head_of
  is_read = rw holds-head (refl, refl)

pub file_of-is-accepted : FileOfIsAccepted
unfolding FileOfIsAccepted handed_refusal
file_of-is-accepted b t g file e tg gg q =
    let a = given (handed b true) b.slow none none (none-met _ e) in
    let tl = (some-ticks t tg).1 in
    let k = house_none _ _ _ _ gg in
    let read = is_read b t g a tl k in
    rw (q ∙ is_file b t g a tl k) (is-accepted b t g a tl k tg, holds b t g a tl k, read.0, read.1)
