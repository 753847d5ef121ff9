-- What holds of times holds of those that are the same on the board.
use Rattle.std.proofs.Common.{◌≡◌, ℕ, ◌<◌, ◌∙◌, le_antisymm, arith}
use Rattle.front.specs.Front.{heard, Midway, Upheld, Drift}
use Rattle.front.proofs.Theory.Front.{Lawful}
use Rattle.front.proofs.Theory.Drift.{total-same}

module _ {n : ℕ} {L : ℕ → (ℕ → ℕ) → ℕ} (law : Lawful n L) where
  rule-same : (c : ℕ) → c < n → (f g : ℕ → ℕ) → ((e : ℕ) → e < n → f e ≡ g e) → L c f ≡ L c g
  rule-same c l f g h = le_antisymm (law.mono c l f g (λ e m. omega (arith, h e m))) (law.mono c l g f (λ e m. omega (arith, h e m)))

  module _ {y y' : ℕ → ℕ} (times : (d : ℕ) → d < n → y' d ≡ y d) where
    pub midway_same : {t : ℕ} {Clear : ℕ → Type 0} {k : ℕ → ℕ} → Midway n L t Clear y k → Midway n L t Clear y' k
    midway_same {k = k} mid = record {
      weak = λ c l. rw (times c l, rule c l) (mid.weak c l);
      settled = λ c l o. rw (times c l, rule c l) (mid.settled c l o);
    }
      where
        rule : (c : ℕ) → c < n → L c (heard y' k) ≡ L c (heard y k)
        rule c l = rule-same c l (heard y' k) (heard y k) (λ d m. rw (times d m))

    pub upheld-same : {start : ℕ → ℕ} → Upheld n L start y → Upheld n L start y'
    upheld-same up = record {
      started = λ c l. rw (times c l) (up.started c l);
      upper = λ c l. rw (times c l, rule-same c l y' y times) (up.upper c l);
    }

pub drift-same : {n t m : ℕ} {stored y y' k note : ℕ → ℕ} → ((d : ℕ) → d < n → y' d ≡ y d) → Drift n stored y k t m note → Drift n stored y' k t m note
drift-same {n} times dr = record {
  low = λ c l. rw (times c l) (dr.low c l);
  waits = λ c l h. rw (times c l) (dr.waits c l h);
  floor = dr.floor;
  noted = λ i l.
      let s = dr.noted i l in
      record { on = s.on; key = s.key; fell = rw (times _ s.on) s.fell; past = rw (times _ s.on) s.past };
  others = λ c l o e. rw (times c l) (dr.others c l o e);
  count = dr.count ∙ total-same n _ _ (λ d l. rw (times d l));
}
