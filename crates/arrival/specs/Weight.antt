-- What ticks past the last axis that counts come to. Only internal contracts cite these: they are definitions.
use Rattle.std.specs.Prelude.{◌≡◌, ◌⊎◌, ℕ, ◌+◌, ◌-◌, ◌*◌, ◌≤◌, ◌<◌}
use Rattle.eikonal.specs.Board.{never}

-- e ticks come to so much, by its value, half its slope and its curve at 0
abbrev pub at : (flat half curve e : ℕ) → ℕ
at f h k e = f + (2 * h + k * e) * e

-- Newton's step down from there is what is over by the slope. What is over is counted so much too high that whole ticks leave enough
abbrev pub over : (due flat half curve e : ℕ) → ℕ
over due f h k e = at f h k e - due + k

abbrev pub slope : (half curve e : ℕ) → ℕ
slope h k e = 2 * (h + k * e)

-- ---- where e ticks come to f: the least that are enough for what is due
pub record Least (due : ℕ) (f : ℕ → ℕ) (e : ℕ) : Type 0 where
  pub some : 1 ≤ e
  pub enough : due ≤ f e
  pub fewer : f (e - 1) < due

-- a limit that comes at most a tick after too few
pub record Held (due : ℕ) (f : ℕ → ℕ) (last limit : ℕ) : Type 0 where
  pub ticks : ℕ
  pub known : last + ticks ≤ never
  pub late : limit ≤ last + ticks + 1
  pub few : f ticks < due

-- the time of the least that are enough, before the limit
pub record Comes (due : ℕ) (f : ℕ → ℕ) (last limit time : ℕ) : Type 0 where
  pub ticks : ℕ
  pub least : Least due f ticks
  pub before : last + ticks < limit
  pub is : time ≡ last + ticks

-- AT MOST THE LIMIT
abbrev pub Capped : (due : ℕ) → (f : ℕ → ℕ) → (last limit time : ℕ) → Type 0
Capped due f last limit time = (Held due f last limit × (time ≡ limit)) ⊎ Comes due f last limit time
