-- What the internal functions leave of the work list: the queue of pending cells, tentative times, noted cells.
-- Only internal contracts cite these: they are definitions.
use Rattle.std.specs.Prelude.{◌≡◌, ℕ, suc, ◌*◌, ◌<◌, ◌≤◌, min, cond, ◌≢◌, ◌⊎◌, List, [], ◌∷◌, length, ◌==◌, slice_index}
use Rattle.eikonal.specs.Board.{Board, never, size, start_time}
use Rattle.eikonal.specs.Tiles.{tile_of}
use Rattle.eikonal.specs.Promise.{Neighbour}
use Rattle.eikonal.specs.declared.Start.{Start}
use Rattle.queue.specs.Heap.{Heap}
use Rattle.eikonal.specs.Inner.Clip.{clip}
use Rattle.front.specs.Front.{Among, NotAmong, among, Tied, Drop, Settled, Upheld, Drift, Out}
use Rattle.front.specs.Seams.{seam, inside, near}
use Rattle.front.specs.Board.{land, rule_at, tentative, noted, Work, keys}
use Rattle.front.specs.declared.Shape.{Shape}

-- there is room, the queue is sound, and keys go with times
pub record Held (n : ℕ) (v : Work) : Type 0 where
  pub room : 4 * n ≤ length v.list
  pub heap : Heap v.list v.size n
  pub tied : Tied n (tentative v.list n) (keys v)

-- the cell e, later than t, is lowered to what the rule L gives it, and is pending
pub record Dropped (n : ℕ) (L : ℕ → (ℕ → ℕ) → ℕ) (t e : ℕ) (v v' : Work) : Type 0 where
  pub late : t < tentative v.list n e
  pub drop : Drop n e (L e (tentative v.list n)) (tentative v.list n) (keys v) (tentative v'.list n) (keys v')
  pub long : length v'.list ≡ length v.list
  pub heap : Heap v'.list v'.size n
  pub rest : (j : ℕ) → 3 * n ≤ j → slice_index v'.list j ≡ slice_index v.list j

-- the cell e hears of a cell whose time is t: it stays, since it is no later than t or than the rule has it, or it is lowered
pub data Touched (n : ℕ) (L : ℕ → (ℕ → ℕ) → ℕ) (t e : ℕ) (v v' : Work) : Type 0 where
  stays : v' ≡ v → (e < n → (tentative v.list n e ≤ t) ⊎ (tentative v.list n e ≤ L e (tentative v.list n))) → Touched n L t e v v'
  drops : Dropped n L t e v v' → Touched n L t e v v'

-- several cells hear of it in turn
pub data Told (n : ℕ) (L : ℕ → (ℕ → ℕ) → ℕ) (t : ℕ) : List ℕ → (v v' : Work) → Type 0 where
  all : (v : Work) → Told n L t [] v v
  next : (e : ℕ) (es : List ℕ) (v u v' : Work) → Touched n L t e v u → Told n L t es u v' → Told n L t (e ∷ es) v v'

-- a pending cell with the least key is taken from the queue and noted as the m-th
pub record Popped (n m c : ℕ) (v v' : Work) : Type 0 where
  pub on : c < n
  pub pending : keys v c < never
  pub least : (d : ℕ) → d < n → keys v c ≤ keys v d
  pub long : length v'.list ≡ length v.list
  pub heap : Heap v'.list v'.size n
  pub gone : keys v' c ≡ never
  pub keep : (d : ℕ) → d < n → d ≢ c → keys v' d ≡ keys v d
  pub times : (d : ℕ) → d < n → tentative v'.list n d ≡ tentative v.list n d
  pub note : noted v'.list n m ≡ c
  pub notes : (i : ℕ) → i < m → noted v'.list n i ≡ noted v.list n i
  pub past : (j : ℕ) → 4 * n ≤ j → slice_index v'.list j ≡ slice_index v.list j

-- a cell is taken, and its neighbours `es` hear of it
pub record Took (n m : ℕ) (L : ℕ → (ℕ → ℕ) → ℕ) (es : ℕ → List ℕ) (v v' : Work) : Type 0 where
  pub cell : ℕ
  pub middle : Work
  pub popped : Popped n m cell v middle
  pub told : Told n L (keys v cell) (es cell) middle v'

-- the round so far, by stored times that some list has
pub record Drifting (n : ℕ) (y k : ℕ → ℕ) (m : ℕ) (note : ℕ → ℕ) : Type 0 where
  pub stored : ℕ → ℕ
  pub last : ℕ
  pub drift : Drift n stored y k last m note

-- the same, with nothing taken past the bound
pub record Drifted (n bound : ℕ) (stored y k : ℕ → ℕ) (m : ℕ) (note : ℕ → ℕ) : Type 0 where
  pub last : ℕ
  pub low : last ≤ bound
  pub drift : Drift n stored y k last m note

-- ready for a drain: the front is settled
pub record Ready (n : ℕ) (L : ℕ → (ℕ → ℕ) → ℕ) (v : Work) : Type 0 where
  pub held : Held n v
  pub settled : Settled n L (tentative v.list n) (keys v)

-- within a tile no other cell hears of the cells from lo on and below hi
abbrev pub Apart : Shape → (slow : List ℕ) → (lo hi : ℕ) → Type 0
Apart s ss lo hi = (c d : ℕ) → Among lo hi c → d < s.cells → NotAmong lo hi d → Out d (near (land s ss) s.across s.down inside c)

-- these cells are ready for a drain, and no other is pending
pub record ReadyAmong (s : Shape) (slow stored : List ℕ) (lo hi : ℕ) (v : Work) : Type 0 where
  pub ready : Ready s.cells (among lo hi (rule_at s slow stored)) v
  pub within : (c : ℕ) → c < s.cells → keys v c < never → Among lo hi c
  pub apart : Apart s slow lo hi

-- the same, whichever the cells are
pub record SomeReady (s : Shape) (slow stored : List ℕ) (v : Work) : Type 0 where
  pub lo : ℕ
  pub hi : ℕ
  pub is : ReadyAmong s slow stored lo hi v

-- what a drain leaves that took m cells: every key is past the bound
pub record Drained (n bound m : ℕ) (L : ℕ → (ℕ → ℕ) → ℕ) (v v' : Work) : Type 0 where
  pub held : Held n v'
  pub long : length v'.list ≡ length v.list
  pub past : (j : ℕ) → 4 * n ≤ j → slice_index v'.list j ≡ slice_index v.list j
  pub settled : Settled n L (tentative v'.list n) (keys v')
  pub keys_past : (c : ℕ) → c < n → bound < keys v' c
  pub upheld : (start : ℕ → ℕ) → Upheld n L start (tentative v.list n) → Upheld n L start (tentative v'.list n)
  pub drift : (stored : ℕ → ℕ) → Drift n stored (tentative v.list n) (keys v) 0 0 (noted v.list n)
      → Drifted n bound stored (tentative v'.list n) (keys v') m (noted v'.list n)

-- ---- the beginning of a round: start times are placed, and gathered in the queue

-- the earliest of the starts at a cell, never where there is none
unfoldable pub soonest : (c : ℕ) → List Start → ℕ
soonest c [] = never
soonest c (x ∷ xs) = min (cond (x.cell == c) x.time never) (soonest c xs)

-- there is room, and no time is above never
pub record Placed (n : ℕ) (v : List ℕ) : Type 0 where
  pub room : 4 * n ≤ length v
  pub small : (c : ℕ) → c < n → tentative v n c ≤ never

-- the starts are placed over what there is
pub record Seeded (n : ℕ) (xs : List Start) (v v' : List ℕ) : Type 0 where
  pub placed : Placed n v'
  pub long : length v' ≡ length v
  pub rest : (j : ℕ) → 3 * n ≤ j → slice_index v' j ≡ slice_index v j
  pub times : (c : ℕ) → c < n → tentative v' n c ≡ min (tentative v n c) (soonest c xs)

-- nothing is placed yet
pub record Empty (n : ℕ) (v v' : List ℕ) : Type 0 where
  pub placed : Placed n v'
  pub long : length v' ≡ length v
  pub rest : (j : ℕ) → 3 * n ≤ j → slice_index v' j ≡ slice_index v j
  pub times : (c : ℕ) → c < n → tentative v' n c ≡ never

-- every cell has its start's time
pub record Standing (n : ℕ) (xs : List Start) (v : List ℕ) : Type 0 where
  pub placed : Placed n v
  pub times : (c : ℕ) → c < n → tentative v n c ≡ start_time c xs

-- the work list is brought there
pub record Begun (n : ℕ) (xs : List Start) (v v' : List ℕ) : Type 0 where
  pub stands : Standing n xs v'
  pub long : length v' ≡ length v
  pub rest : (j : ℕ) → 3 * n ≤ j → slice_index v' j ≡ slice_index v j

-- of the cells from lo on and below hi every one with a time is pending with it, and no other is
pub record Gathered (n lo hi : ℕ) (v : List ℕ) (v' : Work) : Type 0 where
  pub long : length v'.list ≡ length v
  pub heap : Heap v'.list v'.size n
  pub even : (c : ℕ) → Among lo hi c → keys v' c ≡ tentative v n c
  pub others : (c : ℕ) → NotAmong lo hi c → keys v' c ≡ never
  pub rest : (j : ℕ) → 2 * n ≤ j → slice_index v'.list j ≡ slice_index v j

-- ---- the end of a round: what is noted is stored, and other tiles hear of it

-- the first i noted cells are told of, one after the other, across borders: each with its stored time
pub data Announced (n : ℕ) (L : ℕ → (ℕ → ℕ) → ℕ) (stored note : ℕ → ℕ) (es : ℕ → List ℕ) : (i : ℕ) → (v v' : Work) → Type 0 where
  nobody : (v : Work) → Announced n L stored note es 0 v v
  also : (i : ℕ) (v u v' : Work) → Announced n L stored note es i v u → Told n L (stored (note i)) (es (note i)) u v'
      → Announced n L stored note es (suc i) v v'

-- ---- a single round: cells hear the stored times

-- a cell with all its neighbours in its own tile
abbrev pub Inner : Board → (tw th c : ℕ) → Type 0
Inner b tw th c = (e : ℕ) → e < size b → Neighbour b c e → tile_of b tw th c ≡ tile_of b tw th e

-- some cells from lo on and below hi heard them, all but inner ones
pub record Woken (s : Shape) (slow stored : List ℕ) (lo hi : ℕ) (v v' : Work) : Type 0 where
  pub cells : List ℕ
  pub told : Told s.cells (rule_at s slow stored) 0 cells v v'
  pub within : (c : ℕ) → NotAmong lo hi c → Out c cells
  pub inner : (c : ℕ) → Among lo hi c → Out c cells → Inner (land s slow) s.across s.down c

-- on a flat board no inside seam lies before or behind the rows from `from` on and below `end`
pub record Parted (s : Shape) (from end : ℕ) : Type 0 where
  pub flat : s.storeys ≡ 1
  pub up : from ≤ end
  pub fits : end ≤ s.height
  pub before : seam s.height s.down from ≢ inside
  pub behind : seam s.height s.down end ≢ inside

-- rows, numbered through all storeys, that can be worked out by themselves
pub record Strip (s : Shape) (slow : List ℕ) (from end : ℕ) : Type 0 where
  pub up : from ≤ end
  pub fits : end ≤ s.height * s.storeys
  pub apart : Apart s slow (from * s.width) (end * s.width)

-- THE CELLS from lo on and below hi are worked out up to the bound: each has its time from before or what the rule gives, the earlier of them.
-- Other cells keep their times.
pub record Worked (n : ℕ) (L : ℕ → (ℕ → ℕ) → ℕ) (bound lo hi : ℕ) (v v' : List ℕ) : Type 0 where
  pub placed : Placed n v'
  pub long : length v' ≡ length v
  pub past : (j : ℕ) → 4 * n ≤ j → slice_index v' j ≡ slice_index v j
  pub meets : (c : ℕ) → Among lo hi c
      → clip bound (tentative v' n c) ≡ clip bound (min (tentative v n c) (L c (λ e. clip bound (tentative v' n e))))
  pub others : (c : ℕ) → c < n → NotAmong lo hi c → tentative v' n c ≡ tentative v n c
