-- The front of a round while it is worked out: tentative times y by cell, and keys k, a pending cell's time or never. Pending cells are the
-- narrow band, those taken are accepted, and what a commit does is the ghost exchange.
-- Only internal contracts cite these definitions; no public promise rests on them.
use Rattle.std.specs.Prelude.{◌≡◌, ℕ, zero, suc, ◌+◌, ◌-◌, ◌*◌, ◌<◌, ◌≤◌, min, cond, ◌&&◌, ◌≢◌, ◌⊎◌, List, [], ◌∷◌, ◌==◌, nat_le, nat_lt}
use Rattle.eikonal.specs.Board.{Board, never, arrival}
use Rattle.eikonal.specs.Tiles.{tile_of}

-- what a cell c sees of a cell e: the tentative time in its own tile, else its ghost
abbrev pub ghosted : Board → (tw th : ℕ) → (ghost : ℕ → ℕ → ℕ) → (f : ℕ → ℕ) → (c e : ℕ) → ℕ
ghosted b tw th g f c e = cond (tile_of b tw th c == tile_of b tw th e) (f e) (g c e)

-- what the local rule gives a cell, at most never
abbrev pub gives : Board → (tw th : ℕ) → (ghost : ℕ → ℕ → ℕ) → (c : ℕ) → (f : ℕ → ℕ) → ℕ
gives b tw th g c f = min never (arrival b c (ghosted b tw th g f c))

-- a cell is one of those from lo on and below hi, or none
abbrev pub Among : (lo hi c : ℕ) → Type 0
Among lo hi c = (lo ≤ c) × (c < hi)

abbrev pub NotAmong : (lo hi c : ℕ) → Type 0
NotAmong lo hi c = Among lo hi c → ⊥

-- a rule for these cells alone: to all others it gives no time
unfoldable pub among : (lo hi : ℕ) → (L : ℕ → (ℕ → ℕ) → ℕ) → (c : ℕ) → (f : ℕ → ℕ) → ℕ
among lo hi L c f = cond (nat_le lo c && nat_lt c hi) (L c f) never

-- what neighbours may go by: the time of a cell that is not pending, else never
abbrev pub heard : (y k : ℕ → ℕ) → (e : ℕ) → ℕ
heard y k e = y e + (never - k e)

-- no time is above never, and a key is never or the cell's time
pub record Tied (n : ℕ) (y k : ℕ → ℕ) : Type 0 where
  pub small : (c : ℕ) → c < n → y c ≤ never
  pub tied : (c : ℕ) → c < n → (k c ≡ never) ⊎ (k c ≡ y c)

-- c is none of the cells
abbrev pub Out : (c : ℕ) → List ℕ → Type 0
Out c [] = Unit {0}
Out c (e ∷ es) = (c ≢ e) × Out c es

-- THE INVARIANT, by a rule L: no cell that is heard can lower a time
abbrev pub Settled : (n : ℕ) → (L : ℕ → (ℕ → ℕ) → ℕ) → (y k : ℕ → ℕ) → Type 0
Settled n L y k = (c : ℕ) → c < n → y c ≤ L c (heard y k)

-- the same while some cells have yet to hear a cell whose time is t: in full of those that are clear of it, up to t of all
pub record Midway (n : ℕ) (L : ℕ → (ℕ → ℕ) → ℕ) (t : ℕ) (Clear : ℕ → Type 0) (y k : ℕ → ℕ) : Type 0 where
  pub weak : (c : ℕ) → c < n → min (suc t) (y c) ≤ L c (heard y k)
  pub settled : (c : ℕ) → c < n → Clear c → y c ≤ L c (heard y k)

-- and no time is later than the cell's start, or earlier than start and rule make it
pub record Upheld (n : ℕ) (L : ℕ → (ℕ → ℕ) → ℕ) (start : ℕ → ℕ) (y : ℕ → ℕ) : Type 0 where
  pub started : (c : ℕ) → c < n → y c ≤ start c
  pub upper : (c : ℕ) → c < n → min (start c) (L c y) ≤ y c

-- the cell e is lowered to x, and is pending
pub record Drop (n e x : ℕ) (y k y' k' : ℕ → ℕ) : Type 0 where
  pub cell : e < n
  pub low : x < y e
  pub time : y' e ≡ x
  pub key : k' e ≡ x
  pub times : (d : ℕ) → d < n → d ≢ e → y' d ≡ y d
  pub keys : (d : ℕ) → d < n → d ≢ e → k' d ≡ k d

-- a sum over the cells
unfoldable pub total : (n : ℕ) → (ℕ → ℕ) → ℕ
total zero g = 0
total (suc n) g = total n g + g n

-- what falls with each step of a drain: twice each time, and one for each pending cell
abbrev pub weight : (n : ℕ) → (y k : ℕ → ℕ) → ℕ
weight n y k = total n (λ c. 2 * y c + min 1 (never - k c))

-- a cell that was taken in this round, by the time t: its time fell below the stored one
pub record Taken (n : ℕ) (stored y k : ℕ → ℕ) (t c : ℕ) : Type 0 where
  pub on : c < n
  pub key : k c ≡ never
  pub fell : y c < stored c
  pub past : y c ≤ t

-- how many cells were taken and not put back: those not pending whose time is below the stored one
abbrev pub fallen : (n : ℕ) → (stored y k : ℕ → ℕ) → ℕ
fallen n s y k = total n (λ c. min 1 (s c - y c) - min 1 (never - k c))

-- THE ROUND SO FAR: times fall from the stored ones; the m cells that are noted are those taken so far, none later than t, and no key is below t
pub record Drift (n : ℕ) (stored y k : ℕ → ℕ) (t m : ℕ) (note : ℕ → ℕ) : Type 0 where
  pub low : (c : ℕ) → c < n → y c ≤ stored c
  pub waits : (c : ℕ) → c < n → k c < never → y c < stored c
  pub floor : (c : ℕ) → c < n → t ≤ k c
  pub noted : (i : ℕ) → i < m → Taken n stored y k t (note i)
  pub others : (c : ℕ) → c < n → ((i : ℕ) → i < m → note i ≢ c) → k c ≡ never → stored c ≤ y c
  pub count : m ≡ fallen n stored y k

-- what is written at the end of a round: the times of the noted cells
pub record Written (n : ℕ) (stored y now : ℕ → ℕ) (m : ℕ) (note : ℕ → ℕ) : Type 0 where
  pub new : (i : ℕ) → i < m → now (note i) ≡ y (note i)
  pub old : (c : ℕ) → c < n → ((i : ℕ) → i < m → note i ≢ c) → now c ≡ stored c
