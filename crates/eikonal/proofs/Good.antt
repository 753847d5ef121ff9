-- A board that is not refused is Good.
use mathlib.Core.Path.{◌≡◌, refl, ap, ◌∙◌}
use mathlib.Core.Bool.{Bool, beq, true, false, not, cond, ◌&&◌, ◌||◌, and-false, false≢true, true≢false}
use mathlib.Core.List.{List, [], ◌∷◌}
use mathlib.Core.Logic.{◌⊎◌, inl, inr}
use Prim.Native.Nat.{ℕ, zero, suc, ◌*◌, ◌≤◌}
use native.Mathlib.Omega.{arith}
use native.Mathlib.Decide.{dec_lt}
use lib.Dec.{ltb, leb, eqb}
use lib.ListN.{length, get_or}
use borrow.Author.Tests.{eqb-true, eqb-false, leb-true, ltb-false, lt-ltb, le-ltb, le-leb, not-false}
use Rattle.eikonal.specs.Board.{Board, size, slowness, along_row, down_column, never, start_time}
use Rattle.eikonal.specs.declared.Start.{Start}
use Rattle.eikonal.specs.Order.{Cause, caused, found, none, first_of}
use Rattle.eikonal.specs.Refusals.{Handed, handed, handed_refusal, within, board_causes, sides_good, steep, half_wall, uneven, any_pair}
use Rattle.eikonal.specs.Refusals.{ill_stacked, pair_causes, house_refusal, late, on_wall, record_causes, start_causes}
use Rattle.eikonal.specs.Promise.{board_good}
use Rattle.eikonal.specs.Inner.Good.{Known, Pair, Good, starts_rise}
use Rattle.eikonal.specs.Order.{Refusal}
use Rattle.eikonal.proofs.Causes.{NoneMet, none-met, unrefused, met_parts, number_is}
use Rattle.eikonal.proofs.Faults.{rises}

pub and-true : (p q : Bool) → p && q ≡ true → (p ≡ true) × (q ≡ true)
and-true true q e = (refl, e)
and-true false q e = absurd (false≢true e)

pub or-false : (p q : Bool) → p || q ≡ false → (p ≡ false) × (q ≡ false)
or-false true q e = absurd (true≢false e)
or-false false q e = (refl, e)

pub in_range : (l m n : ℕ) → within l m n ≡ true → (l ≤ n) × (n ≤ m)
in_range l m n e = let r = and-true (leb l n) (leb n m) e in (leb-true l n r.0, leb-true n m r.1)

-- no cell's pair is met by a test that none of the list's is met by: off the list it is the wall's
none_pair : (p : (g h : ℕ) → Bool) (ss : List ℕ) → p 0 0 ≡ false → any_pair p ss ≡ false → (c : ℕ)
    → p (along_row (get_or ss c 0)) (down_column (get_or ss c 0)) ≡ false
unfolding any_pair along_row down_column
none_pair p [] z e c = z
none_pair p (s ∷ ss) z e zero = (or-false (p (along_row s) (down_column s)) (any_pair p ss) e).0
none_pair p (s ∷ ss) z e (suc c) = none_pair p ss z (or-false (p (along_row s) (down_column s)) (any_pair p ss) e).1 c

-- what is neither 5 nor 21
pub to_pair : (g h : ℕ) → steep g h ≡ false → half_wall g h ≡ false → Pair g h
unfolding steep half_wall
to_pair g h e f =
    let r = or-false (ltb 4095 g) (ltb 4095 h) e in
    record { along_most = ltb-false 4095 g r.0; down_most = ltb-false 4095 h r.1; whole = go (eqb g 0) (eqb h 0) refl refl f }
  where
    go : (p q : Bool) → eqb g 0 ≡ p → eqb h 0 ≡ q → not (beq p q) ≡ false → ((g ≡ 0) × (h ≡ 0)) ⊎ ((1 ≤ g) × (1 ≤ h))
    go true true a b e = inl (eqb-true g 0 a, eqb-true h 0 b)
    go true false a b e = absurd (true≢false e)
    go false true a b e = absurd (true≢false e)
    go false false a b e = inr (omega (arith, eqb-false g 0 a), omega (arith, eqb-false h 0 b))

even_pair : (g h : ℕ) → uneven g h ≡ false → g ≡ h
unfolding uneven
even_pair g h e = eqb-true g h (not-false _ e)

-- WHAT IS NONE OF 5, 21 AND 23
pub record Housed (w h s : ℕ) (ss : List ℕ) : Type 0 where
  pub gentle : any_pair steep ss ≡ false
  pub whole : any_pair half_wall ss ≡ false
  pub low : 1 ≤ s
  pub high : s ≤ 8
  pub few : w * h * s ≤ 65536
  pub level : 2 ≤ s → any_pair uneven ss ≡ false

module _ (w h s : ℕ) (ss : List ℕ) where
  pub housed : NoneMet (pair_causes w h s ss) → Housed w h s ss
  unfolding NoneMet pair_causes ill_stacked
  housed e =
      let p = or-false (not (within 1 8 s)) _ e.1.1.0 in
      let q = or-false (ltb 65536 (w * h * s)) (ltb 1 s && any_pair uneven ss) p.1 in
      let storeys = in_range 1 8 s (not-false _ p.0) in
      record {
        gentle = e.0;
        whole = e.1.0;
        low = storeys.0;
        high = storeys.1;
        few = ltb-false 65536 (w * h * s) q.0;
        level = λ l. rw (lt-ltb 1 s (omega arith)) at q.1;
      }

  tall : (2 ≤ s → any_pair uneven ss ≡ false) → ltb 1 s && any_pair uneven ss ≡ false
  tall l = elim (dec_lt 1 s) [
    | yes k ↦ rw (l (omega arith)) (and-false (ltb 1 s))
    | no k ↦ rw (le-ltb 1 s (omega arith)) refl
  ]

  pub houses : Housed w h s ss → NoneMet (pair_causes w h s ss)
  unfolding NoneMet pair_causes ill_stacked
  houses k =
      (k.gentle, (k.whole, (rw (le-leb 1 s k.low, le-leb s 8 k.high, le-ltb 65536 (w * h * s) k.few, tall k.level) refl, tt)))

  pub house_none : (house_refusal w h s ss).number ≡ 0 → NoneMet (pair_causes w h s ss)
  unfolding house_refusal
  house_none e = none-met (pair_causes w h s ss) e

  pub none_house : NoneMet (pair_causes w h s ss) → (house_refusal w h s ss).number ≡ 0
  unfolding house_refusal
  none_house n = number_is (unrefused (pair_causes w h s ss) n)

none-late : (xs : List Start) → late xs ≡ false → (c : ℕ) → Known 1000000 (start_time c xs)
unfolding late start_time
none-late [] e c = inl refl
none-late (x ∷ xs) e c =
    let r = or-false (ltb 1000000 x.time) (late xs) e in
    go (eqb x.cell c) (ltb-false 1000000 x.time r.0) (none-late xs r.1 c)
  where
    go : (p : Bool) → x.time ≤ 1000000 → Known 1000000 (start_time c xs) → Known 1000000 (cond p x.time (start_time c xs))
    go true h k = inr h
    go false h k = k

none-on_wall : (b : Board) (xs : List Start) → on_wall b xs ≡ false → (c : ℕ) → slowness b c ≡ 0 → start_time c xs ≡ never
unfolding on_wall start_time
none-on_wall b [] e c w = refl
none-on_wall b (x ∷ xs) e c w =
    let r = or-false (eqb (slowness b x.cell) 0) (on_wall b xs) e in
    go (eqb x.cell c) refl (eqb-false (slowness b x.cell) 0 r.0) (none-on_wall b xs r.1 c w)
  where
    go : (p : Bool) → eqb x.cell c ≡ p → (slowness b x.cell ≡ 0 → ⊥) → start_time c xs ≡ never → cond p x.time (start_time c xs) ≡ never
    go true q n k = absurd (n (ap (slowness b) (eqb-true x.cell c q) ∙ w))
    go false q n k = k

-- both sides of a board, or of a tile
pub sides-within : (w h : ℕ) → sides_good w h ≡ true → (1 ≤ w) × (w ≤ 256) × (1 ≤ h) × (h ≤ 256)
unfolding sides_good
sides-within w h e =
    let both = and-true (within 1 256 w) (within 1 256 h) e in
    let wide = in_range 1 256 w both.0 in
    let high = in_range 1 256 h both.1 in
    (wide.0, wide.1, high.0, high.1)

-- behind 2 both are at most 256
pub sides-most : (w h : ℕ) (ks : List Cause) → (first_of (caused 2 (not (sides_good w h)) ∷ ks)).number ≡ 0 → (w ≤ 256) × (h ≤ 256)
unfolding NoneMet
sides-most w h ks e =
    let s = sides-within w h (not-false _ (none-met (caused 2 (not (sides_good w h)) ∷ ks) e).0) in
    (s.1, s.3)

-- what is known of starts that are not refused: of the records, and of the ground below them
pub rising : (n : ℕ) (xs : List Start) → NoneMet (record_causes n xs) → (starts_rise n 0 xs ≡ true) × (late xs ≡ false)
unfolding NoneMet record_causes
rising n xs e = (rises n 0 0 xs (ltb-false _ _ e.0) (ltb-false _ _ e.1.0), e.1.1.0)

pub record Sound (b : Board) : Type 0 where
  pub rise : starts_rise (size b) 0 b.starts ≡ true
  pub early : late b.starts ≡ false
  pub free : on_wall b b.starts ≡ false

pub sound : (b : Board) → NoneMet (start_causes b) → Sound b
unfolding NoneMet start_causes
sound b e =
    let r = met_parts (record_causes (size b) b.starts) _ e in
    let s = rising (size b) b.starts r.0 in
    record { rise = s.0; early = s.1; free = r.1.0 }

-- what is known of a board that was handed in and is not refused
pub record Accepted (p : Handed) : Type 0 where
  pub paired : p.paired ≡ true
  pub good : Good p.board
  pub starts : Sound p.board

-- whatever else a call looks for among its causes
pub passes : (p : Handed) (u v : Refusal) → NoneMet (board_causes p p.board.slow u v) → Accepted p
unfolding NoneMet board_causes steep half_wall uneven slowness size
passes p u v e =
    let b = p.board in
    let r = met_parts (pair_causes b.wide b.high b.storeys b.slow) (found v ∷ start_causes b) e.1.1.1 in
    let k = housed b.wide b.high b.storeys b.slow r.0 in
    let s = sound b r.1.1 in
    let sides = sides-within b.wide b.high (not-false _ e.0) in
    let even = and-true p.paired (eqb (length b.slow) (size b)) (not-false _ e.1.1.0) in
    record {
      paired = even.0;
      good = record {
        wide_low = sides.0;
        wide_high = sides.1;
        high_low = sides.2;
        high_high = sides.3;
        storeys_low = k.low;
        storeys_high = k.high;
        few = k.few;
        slow_length = eqb-true (length b.slow) (size b) even.1;
        pairs = λ c. to_pair _ _ (none_pair steep b.slow refl k.gentle c) (none_pair half_wall b.slow refl k.whole c);
        level = λ l c. even_pair _ _ (none_pair uneven b.slow refl (k.level l) c);
        starts_known = none-late b.starts s.early;
        walls_free = none-on_wall b b.starts s.free;
      };
      starts = s;
    }

pub accepted : (p : Handed) → (handed_refusal p).number ≡ 0 → Accepted p
unfolding handed_refusal
accepted p e = passes p none none (none-met (board_causes p p.board.slow none none) e)

pub good : (b : Board) → board_good b ≡ true → Good b
unfolding board_good
good b e = (accepted (handed b true) (eqb-true _ 0 e)).good

pub size-most : {b : Board} → Good b → size b ≤ 65536
size-most g = g.few

pub start-most : {b : Board} → Good b → (c : ℕ) → start_time c b.starts ≤ never
start-most {b} g c = go (g.starts_known c)
  where
    go : Known 1000000 (start_time c b.starts) → start_time c b.starts ≤ never
    go (inl e) = omega arith
    go (inr h) = omega arith
