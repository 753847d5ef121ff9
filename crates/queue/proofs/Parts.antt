-- A part of a list, and a part that was lent and comes back.
use mathlib.Core.Path.{◌≡◌, refl, sym, ap, ◌∙◌}
use mathlib.Core.List.{List, ◌++◌}
use Prim.Native.Nat.{ℕ, ◌+◌, ◌-◌, ◌≤◌, ◌<◌}
use native.Mathlib.Omega.{arith}
use lib.ListN.{length, get_or, take, drop, length-drop, get_or-append}
use lib.Seq.{get_or-take, get_or-drop, drop_at, length-take-le}
use borrow.Rule.Slice.PartMut.{mid_of, post_of, put_mid, mid_len, take_put, drop_put}

-- an entry of a part of k entries, from a on
pub entry_at : (xs : List ℕ) (a k j : ℕ) {c : ℕ} → a + j ≡ c → j < k → get_or (take k (drop a xs)) j 0 ≡ get_or xs c 0
entry_at xs a k j e l = get_or-take k (drop a xs) j 0 l ∙ get_or-drop a xs j 0 ∙ ap (λ (u : ℕ). get_or xs u 0) e

-- a part of w entries, from e on
pub part-long : (v : List ℕ) (e w : ℕ) → e + w ≤ length v → length (take (e + w - e) (drop e v)) ≡ w
part-long v e w l =
    let k : e + w - e ≡ w = omega arith in
    rw k (length-take-le w (drop e v) (omega (arith, length-drop e v)))

pub part_at : (v : List ℕ) (e w i : ℕ) → i < w → get_or (take (e + w - e) (drop e v)) i 0 ≡ get_or v (e + i) 0
part_at v e w i l = entry_at v e (e + w - e) i refl (omega arith)

-- lists that are alike from an entry on
pub alike_from : (u v : List ℕ) (e c : ℕ) → e ≤ c → drop e u ≡ drop e v → get_or u c 0 ≡ get_or v c 0
alike_from u v e c h p = at u ∙ ap (λ (l : List ℕ). get_or l (c - e) 0) p ∙ sym (at v)
  where
    at : (l : List ℕ) → get_or l c 0 ≡ get_or (drop e l) (c - e) 0
    at l =
        let q : e + (c - e) ≡ c = omega arith in
        sym (get_or-drop e l (c - e) 0 ∙ ap (λ (n : ℕ). get_or l n 0) q)

-- ---- A PART that was lent from a up to e, and comes back
module _ (xs ys : List ℕ) (a e : ℕ) (h : a ≤ e) (k : e ≤ length xs) (long : length ys ≡ length (mid_of a (e - a) xs)) where
  back_long : length ys ≡ e - a
  back_long = long ∙ mid_len a e xs k

  pub put_before : (c : ℕ) → c < a → get_or (put_mid a (e - a) xs ys) c 0 ≡ get_or xs c 0
  put_before c l =
      sym (get_or-take a (put_mid a (e - a) xs ys) c 0 l)
      ∙ ap (λ (u : List ℕ). get_or u c 0) (take_put a (e - a) xs ys (omega arith))
      ∙ get_or-take a xs c 0 l

  pub put_within : (j : ℕ) → j < e - a → get_or (put_mid a (e - a) xs ys) (a + j) 0 ≡ get_or ys j 0
  put_within j l =
      sym (get_or-drop a (put_mid a (e - a) xs ys) j 0)
      ∙ ap (λ (u : List ℕ). get_or u j 0) (drop_at (take a xs) (ys ++ post_of a (e - a) xs) a (length-take-le a xs (omega arith)))
      ∙ get_or-append ys (post_of a (e - a) xs) 0 j (omega (arith, back_long))

  pub put_after : (c : ℕ) → e ≤ c → get_or (put_mid a (e - a) xs ys) c 0 ≡ get_or xs c 0
  put_after c l = alike_from (put_mid a (e - a) xs ys) xs e c l (drop_put a e xs ys h k back_long)
