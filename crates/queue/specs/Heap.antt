-- A heap of pending cells in the first 2n entries of a list, four slots below each: entry 2i is the key in the slot i, entry 2i + 1 is the cell in the
-- slot i plus 65,536 times the slot of the cell i. The first m slots are in use. Only internal contracts cite these: they are definitions.
use Rattle.std.specs.Prelude.{◌≡◌, ◌≢◌, cond, List, ℕ, ◌+◌, ◌*◌, ◌-◌, ◌/◌, ◌%◌, ◌≤◌, ◌<◌, ltb, eqb, length, get_or}

abbrev pub never : ℕ
never = 4294967295

abbrev pub key : List ℕ → (i : ℕ) → ℕ
key w i = get_or w (2 * i) 0

-- the cell in a slot
unfoldable pub cell : List ℕ → (i : ℕ) → ℕ
cell w i = get_or w (2 * i + 1) 0 % 65536

-- the slot of a cell, where it is pending
unfoldable pub place : List ℕ → (c : ℕ) → ℕ
place w c = get_or w (2 * c + 1) 0 / 65536

-- a cell's key, never where it is not pending: its slot is not in use or holds another cell
unfoldable pub keys : List ℕ → (m c : ℕ) → ℕ
keys w m c = cond (ltb (place w c) m) (cond (eqb (cell w (place w c)) c) (key w (place w c)) never) never

-- a cell's number fits half an entry, and each slot in use has a cell that knows it, and no key below that of the slot above it
pub record Heap (w : List ℕ) (m n : ℕ) : Type 0 where
  pub few : n ≤ 65536
  pub fits : m ≤ n
  pub cells : (i : ℕ) → i < m → cell w i < n
  pub places : (i : ℕ) → i < m → place w (cell w i) ≡ i
  pub due : (i : ℕ) → i < m → key w i < never
  pub order : (i : ℕ) → 1 ≤ i → i < m → key w ((i - 1) / 4) ≤ key w i

-- what a change of a cell's key leaves, with the new size
pub record Put (w : List ℕ) (m n c x : ℕ) (w' : List ℕ) (m' : ℕ) : Type 0 where
  pub long : length w' ≡ length w
  pub heap : Heap w' m' n
  pub new : keys w' m' c ≡ x
  pub others : (d : ℕ) → d ≢ c → keys w' m' d ≡ keys w m d
  pub past : (j : ℕ) → 2 * n ≤ j → get_or w' j 0 ≡ get_or w j 0

-- a pending cell whose key is the least: it is in the first slot
pub record Least (w : List ℕ) (m n r : ℕ) : Type 0 where
  pub on : r < n
  pub first : r ≡ cell w 0
  pub top : keys w m r ≡ key w 0
  pub pending : keys w m r < never
  pub least : (c : ℕ) → keys w m r ≤ keys w m c
