-- Axes, and the local rule over any number of them: a board has three. What holds for any number is stated of these (Promise.antt) and proved once.
use Rattle.std.specs.Prelude.{◌≡◌, Bool, ◌||◌, cond, List, [], ◌∷◌, map, ◌⊎◌, ◌≢◌, ℕ, zero, suc, ◌+◌, ◌*◌, ◌-◌, ◌/◌, ◌%◌, ◌≤◌, min, ltb, leb, eqb, get_or}

-- the mark of a cell that no front reaches
abbrev pub never : ℕ
never = 4294967295

unfoldable pub earlier : (a b : ℕ) → ℕ
earlier a b = cond (ltb a b) a b

-- AN AXIS: a cell has one of `count` places on it, and the cell at its next place is `unit` cells on
pub record Axis : Type 0 where
  pub unit : ℕ
  pub count : ℕ

abbrev pub axis : (unit count : ℕ) → Axis
axis u n = record { unit = u; count = n }

unfoldable pub place : Axis → (c : ℕ) → ℕ
place a c = c / a.unit % a.count

-- what a cell sees of the cells before and behind it on an axis; off the axis is never
abbrev pub before : Axis → (c : ℕ) → (seen : ℕ → ℕ) → ℕ
before a c f = cond (eqb (place a c) 0) never (f (c - a.unit))

abbrev pub behind : Axis → (c : ℕ) → (seen : ℕ → ℕ) → ℕ
behind a c f = cond (eqb (suc (place a c)) a.count) never (f (c + a.unit))

-- and along it: the earlier of the two
unfoldable pub sight : Axis → (c : ℕ) → (seen : ℕ → ℕ) → ℕ
sight a c f = earlier (before a c f) (behind a c f)

-- along each of several, by its number
abbrev pub sights : List Axis → (c : ℕ) → (seen : ℕ → ℕ) → (i : ℕ) → ℕ
sights xs c f i = get_or (map (λ a. sight a c f) xs) i never

-- e is at the next place after c: on an axis, on one of several
pub record Next (a : Axis) (c e : ℕ) : Type 0 where
  pub step : c + a.unit ≡ e
  pub inner : suc (place a c) ≢ a.count

pub data NextOn : List Axis → (c e : ℕ) → Type 0 where
  here : {a : Axis} {xs : List Axis} {c e : ℕ} → Next a c e → NextOn (a ∷ xs) c e
  there : {a : Axis} {xs : List Axis} {c e : ℕ} → NextOn xs c e → NextOn (a ∷ xs) c e

-- one of the two is next after the other
abbrev pub Near : List Axis → (c e : ℕ) → Type 0
Near xs c e = NextOn xs c e ⊎ NextOn xs e c

-- an axis of so many cells: its places come round, and the last of them ends it
pub record Spans (cells : ℕ) (a : Axis) : Type 0 where
  pub unit_low : 1 ≤ a.unit
  pub count_low : 1 ≤ a.count
  pub many : ℕ
  pub whole : cells ≡ many * a.count * a.unit

pub data AllSpan (cells : ℕ) : List Axis → Type 0 where
  none : AllSpan cells []
  also : {a : Axis} {xs : List Axis} → Spans cells a → AllSpan cells xs → AllSpan cells (a ∷ xs)

-- THE LOCAL RULE OVER WEIGHTED AXES: a time passes if the sum of (weight × (time − axis's time))² is at least due². The weights are w and ws, so that
-- there is one axis at least; f has the axes' times by number
unfoldable pub square : ℕ → ℕ
square a = a * a

-- the least number that passes, from a given one on, so many tried; else the next
unfoldable pub least_from : (left at : ℕ) → (ℕ → Bool) → ℕ
least_from zero t f = t
least_from (suc n) t f = cond (f t) t (least_from n (suc t) f)

-- the earliest of the axes' times
unfoldable pub earliest : (ws : List ℕ) → (ℕ → ℕ) → ℕ
earliest [] f = f 0
earliest (v ∷ ws) f = min (f 0) (earliest ws (λ i. f (suc i)))

unfoldable pub pull : (w : ℕ) → (ws : List ℕ) → (ℕ → ℕ) → (t : ℕ) → ℕ
pull w [] f t = square (w * (t - f 0))
pull w (v ∷ ws) f t = square (w * (t - f 0)) + pull v ws (λ i. f (suc i)) t

unfoldable pub passes_axes : (due w : ℕ) → (ws : List ℕ) → (ℕ → ℕ) → (t : ℕ) → Bool
passes_axes m w ws f t = leb (square m) (pull w ws f t)

-- the least time that passes, from the earliest on, so many tried; never for a wall or where no axis is reached
unfoldable pub local_axes : (far due w : ℕ) → (ws : List ℕ) → (ℕ → ℕ) → ℕ
local_axes far m w ws f =
    cond (eqb m 0 || eqb (earliest ws f) never) never (least_from far (earliest ws f) (λ t. passes_axes m w ws f t))

-- so far from any axis is enough by that axis alone
unfoldable pub Enough : (far due w : ℕ) → (ws : List ℕ) → Type 0
Enough far m w [] = m ≤ w * far
Enough far m w (v ∷ ws) = (m ≤ w * far) × Enough far m v ws

-- how a cell weighs its axes
pub record Weights : Type 0 where
  pub far : ℕ
  pub due : ℕ
  pub first : ℕ
  pub others : List ℕ
  pub enough : Enough far due first others

-- a cell is as slow on an axis as its due divided by the axis's weight: on each axis the first is no slower than the second
unfoldable pub Quicker : (due w : ℕ) → (ws : List ℕ) → (due-2 w_2 : ℕ) → (ws-2 : List ℕ) → Type 0
Quicker m w [] n v [] = v * m ≤ w * n
Quicker m w [] n v (y ∷ vs) = ⊥
Quicker m w (x ∷ ws) n v [] = ⊥
Quicker m w (x ∷ ws) n v (y ∷ vs) = (v * m ≤ w * n) × Quicker m x ws n y vs

-- NO SLOWER; a wall is slowest of all
abbrev pub NoSlower : (first second : Weights) → Type 0
NoSlower j k =
    (k.due ≡ 0) ⊎ ((1 ≤ j.due) × Quicker j.due j.first j.others k.due k.first k.others)

-- A LATTICE: so many cells on axes; each cell has its weights, and the time of a start of its own, never where it has none
pub record Lattice : Type 0 where
  pub cells : ℕ
  pub axes : List Axis
  pub weights : (c : ℕ) → Weights
  pub begins : (c : ℕ) → ℕ
  pub spans : AllSpan cells axes
  pub begins_most : (c : ℕ) → begins c ≤ never

-- what the rule gives a cell from the times that it sees, and the earlier of that and its start's
unfoldable pub given_on : Lattice → (c : ℕ) → (seen : ℕ → ℕ) → ℕ
given_on l c f =
    let k = l.weights c in
    local_axes k.far k.due k.first k.others (sights l.axes c f)

unfoldable pub met_on : Lattice → (c : ℕ) → (seen : ℕ → ℕ) → ℕ
met_on l c f = earlier (l.begins c) (given_on l c f)
