-- What holds of a heap while a hole in it rises or sinks. Only internal contracts cite these: they are definitions.
use Rattle.std.specs.Prelude.{◌≡◌, ◌⊎◌, ◌≢◌, List, ℕ, ◌*◌, ◌-◌, ◌/◌, ◌≤◌, ◌<◌, length, get_or}
use Rattle.queue.specs.Heap.{never, key, cell, place}

-- the slot above
abbrev pub above : (i : ℕ) → ℕ
above i = (i - 1) / 4

-- there is room for n cells, and a cell's number fits half an entry
pub record Room (n : ℕ) (w : List ℕ) : Type 0 where
  pub few : n ≤ 65536
  pub room : 2 * n ≤ length w

-- a cell with its key was put into a slot
pub record Seated (w : List ℕ) (n slot c x : ℕ) (w' : List ℕ) : Type 0 where
  pub long : length w' ≡ length w
  pub key_there : key w' slot ≡ x
  pub key_else : (i : ℕ) → i ≢ slot → key w' i ≡ key w i
  pub cell_there : cell w' slot ≡ c
  pub cell_else : (i : ℕ) → i ≢ slot → cell w' i ≡ cell w i
  pub place_there : place w' c ≡ slot
  pub place_else : (d : ℕ) → d ≢ c → place w' d ≡ place w d
  pub past : (j : ℕ) → 2 * n ≤ j → get_or w' j 0 ≡ get_or w j 0

-- the cell c is not in the slot that its entry names
abbrev pub Stale : List ℕ → (m c : ℕ) → Type 0
Stale w m c = place w c < m → cell w (place w c) ≢ c

-- the slot of a pending cell, or the size
abbrev pub Found : List ℕ → (m c r : ℕ) → Type 0
Found w m c r = ((r < m) × (place w c ≡ r) × (cell w r ≡ c)) ⊎ ((r ≡ m) × Stale w m c)

-- a heap of m slots but for a hole h, with no slot that has the cell c. Keys do not fall on the way past the hole.
pub record Hole (w : List ℕ) (m n h c : ℕ) : Type 0 where
  pub fits : m ≤ n
  pub on : h < m
  pub cells : (i : ℕ) → i < m → i ≢ h → cell w i < n
  pub places : (i : ℕ) → i < m → i ≢ h → place w (cell w i) ≡ i
  pub apart : (i : ℕ) → i < m → i ≢ h → cell w i ≢ c
  pub due : (i : ℕ) → i < m → i ≢ h → key w i < never
  pub order : (i : ℕ) → 1 ≤ i → i < m → i ≢ h → above i ≢ h → key w (above i) ≤ key w i
  pub bridge : (i : ℕ) → 1 ≤ i → i < m → above i ≡ h → 1 ≤ h → key w (above h) ≤ key w i

-- no key below slot h is less than x
abbrev pub Below : List ℕ → (m h x : ℕ) → Type 0
Below w m h x = (i : ℕ) → 1 ≤ i → i < m → above i ≡ h → x ≤ key w i

-- the key above slot h is at most x
abbrev pub Over : List ℕ → (h x : ℕ) → Type 0
Over w h x = 1 ≤ h → key w (above h) ≤ x

-- the cell d sits with the key y in one of m slots, other than h
pub record Sits (w : List ℕ) (m h d y : ℕ) : Type 0 where
  pub slot : ℕ
  pub within : slot < m
  pub off : slot ≢ h
  pub holds : cell w slot ≡ d
  pub at : key w slot ≡ y

-- the hole went from h to r, and the same cells sit with the same keys
pub record Moved (w : List ℕ) (m n h c : ℕ) (w' : List ℕ) (r : ℕ) : Type 0 where
  pub long : length w' ≡ length w
  pub hole : Hole w' m n r c
  pub there : {d y : ℕ} → Sits w m h d y → Sits w' m r d y
  pub back : {d y : ℕ} → Sits w' m r d y → Sits w m h d y
  pub past : (j : ℕ) → 2 * n ≤ j → get_or w' j 0 ≡ get_or w j 0

-- and x fits there
pub record Rested (w : List ℕ) (m n h c x : ℕ) (w' : List ℕ) (r : ℕ) : Type 0 where
  pub moved : Moved w m n h c w' r
  pub below : Below w' m r x
  pub over : Over w' r x

-- one of the slots from f to the last, with the least key of theirs
pub record Chosen (w : List ℕ) (f last r : ℕ) : Type 0 where
  pub from : f ≤ r
  pub to : r ≤ last
  pub least : (j : ℕ) → f ≤ j → j ≤ last → key w r ≤ key w j
