-- What ticks come to, past the last of the axes that count. No public promise rests on these.
use Rattle.std.specs.Prelude.{ℕ, ◌+◌, ◌*◌}

-- of two axes the earlier, d ticks before the later, has the weight v, the later w: e ticks past the later come to so much
abbrev pub weighed : (v w d e : ℕ) → ℕ
weighed v w d e = v * ((d + e) * (d + e)) + w * (e * e)

-- and of three axes of one weight, the others d and f ticks before the last
abbrev pub three_squares : (d f e : ℕ) → ℕ
three_squares d f e = (d + e) * (d + e) + (f + e) * (f + e) + e * e
