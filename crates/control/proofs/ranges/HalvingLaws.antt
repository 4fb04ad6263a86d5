-- Where an id lies among the ends of ranges, by halving. Assumes nothing.
use Rattle.std.specs.Prelude.{Option, Some, None}
use Prim.Native.Nat.{ℕ, zero, suc, ◌+◌, ◌-◌, ◌^◌, ◌≤◌, ◌<◌}
use mathlib.Core.Path.{◌≡◌, refl, sym, ap, ◌∙◌}
use mathlib.Core.Bool.{Bool, true, false, cond, ◌&&◌}
use mathlib.Core.List.{List}
use native.Mathlib.Omega.{arith}
use lib.Dec.{ltb, leb}
use lib.ListN.{get_or}
use borrow.Author.Tests.{ltb-true, ltb-false, lt-ltb, le-ltb, leb-true, le-leb, lt-leb}
use Rattle.reading.specs.Lists.{any}
use Rattle.reading.specs.Controls.{in_range, is_removed, range_list}
use Rattle.theorems.specs.MergedRanges.{Merged, in-low, in-high}
use Rattle.control.specs.Halving.{middle_of, halved, found_by_halving}
use Rattle.control.proofs.ranges.RowLaws.{row, start-end, end-start, any-only}

-- THE LOOP: the search from here, with so many comparisons left, is the whole search
pub record Searching (ends : List ℕ) (n id low high : ℕ) : Type 0 where
  pub left : ℕ
  pub enough : high - low < 2 ^ left
  pub in_order : low ≤ high
  pub in_use : high ≤ n
  pub same : halved 9 ends id 0 n ≡ halved left ends id low high

pub search-start : (ends : List ℕ) (n id : ℕ) → n ≤ 256 → Searching ends n id 0 n
search-start ends n id h = record { left = 9; enough = omega arith; in_order = omega arith; in_use = omega arith; same = refl }

-- one comparison; a is what it gives
halved-once : (k : ℕ) (ends : List ℕ) (id low high : ℕ) (a : Bool) → low < high → ltb (get_or ends (middle_of low high) 0) id ≡ a
    → halved (suc k) ends id low high ≡ halved k ends id (cond a (middle_of low high + 1) low) (cond a high (middle_of low high))
unfolding halved
halved-once k ends id low high a h e = rw (lt-ltb low high h, e)

halved-done : (k : ℕ) (ends : List ℕ) (id low high : ℕ) → high ≤ low → halved k ends id low high ≡ low
unfolding halved
halved-done zero ends id low high h = refl
halved-done (suc k) ends id low high h = rw (le-ltb low high h)

module _ (ends : List ℕ) (n id low high : ℕ) where
  -- a turn, whichever half is left
  turned : (a : Bool) → low < high → ltb (get_or ends (middle_of low high) 0) id ≡ a → (s : Searching ends n id low high) (k : ℕ) → s.left ≡ k
      → Searching ends n id (cond a (middle_of low high + 1) low) (cond a high (middle_of low high))
  turned a h e s zero z =
      let l : high - low < 2 ^ 0 = rw z at s.enough in
      absurd (omega arith)
  turned true h e s (suc k) z =
      let l : high - low < 2 ^ suc k = rw z at s.enough in
      record {
        left = k;
        enough = omega arith;
        in_order = omega arith;
        in_use = s.in_use;
        same = s.same ∙ (ap (λ (m : ℕ). halved m ends id low high) z ∙ halved-once k ends id low high true h e);
      }
  turned false h e s (suc k) z =
      let l : high - low < 2 ^ suc k = rw z at s.enough in
      record {
        left = k;
        enough = omega arith;
        in_order = omega arith;
        in_use = omega (arith, s.in_use);
        same = s.same ∙ (ap (λ (m : ℕ). halved m ends id low high) z ∙ halved-once k ends id low high false h e);
      }

  pub search-up : low < high → get_or ends (middle_of low high) 0 < id → Searching ends n id low high → Searching ends n id (middle_of low high + 1) high
  search-up h d s = turned true h (lt-ltb (get_or ends (middle_of low high) 0) id d) s s.left refl

  pub search-down : low < high → id ≤ get_or ends (middle_of low high) 0 → Searching ends n id low high → Searching ends n id low (middle_of low high)
  search-down h d s = turned false h (le-ltb (get_or ends (middle_of low high) 0) id d) s s.left refl

  pub search-done : high ≤ low → Searching ends n id low high → low ≡ halved 9 ends id 0 n
  search-done h s = sym (s.same ∙ halved-done s.left ends id low high h)

-- the range found, or none
pub found_none : (n : ℕ) (starts ends : List ℕ) (o : Option ℕ) → o ≡ None → false ≡ found_by_halving n starts ends o
unfolding found_by_halving
found_none n starts ends o e = rw e

and-false : (b : Bool) → (b && false) ≡ false
and-false true = refl
and-false false = refl

pub found-empty : (n : ℕ) (starts ends : List ℕ) (o : Option ℕ) → n ≡ 0 → false ≡ found_by_halving n starts ends o
unfolding found_by_halving
found-empty n starts ends None e = refl
found-empty n starts ends (Some id) e =
    rw (le-ltb (halved 9 ends id 0 n) n (omega arith)) (sym (and-false (leb (get_or starts 0 0) id)))

-- an id below the first start
pub found_below : (n : ℕ) (starts ends : List ℕ) (o : Option ℕ) (id : ℕ) → o ≡ Some id → id < get_or starts 0 0
    → false ≡ found_by_halving n starts ends o
unfolding found_by_halving
found_below n starts ends o id is h = rw (is, lt-leb (get_or starts 0 0) id h)

-- `at` is what `first_end` gave
module _ (n : ℕ) (starts ends : List ℕ) (o : Option ℕ) (id : ℕ) (is : o ≡ Some id) (from : get_or starts 0 0 ≤ id)
    (at : ℕ) (at-is : at ≡ halved 9 ends id 0 n) where
  pub found_at : at < n → leb (get_or starts at 0) id ≡ found_by_halving n starts ends o
  unfolding found_by_halving
  found_at h = rw (is, le-leb (get_or starts 0 0) id from, ← at-is, lt-ltb at n h)

  pub found-not : n ≤ at → ltb at n ≡ found_by_halving n starts ends o
  unfolding found_by_halving
  found-not h = rw (is, le-leb (get_or starts 0 0) id from, ← at-is, le-ltb at n h)

-- OF RANGES IN THE MERGED FORM: the ends below `low` are below the id, those from `high` on are not
record Bracket (ends : List ℕ) (n id low high : ℕ) : Type 0 where
  in_order : low ≤ high
  in_use : high ≤ n
  below : (k : ℕ) → k < low → get_or ends k 0 < id
  above : (k : ℕ) → high ≤ k → k < n → id ≤ get_or ends k 0

module _ (starts ends : List ℕ) (n id : ℕ) (f : Merged (range_list n starts ends)) where
  ends-rise : (j k : ℕ) → j ≤ k → k < n → get_or ends j 0 ≤ get_or ends k 0
  ends-rise j k h l = go (ltb j k) refl
    where
      go : (a : Bool) → ltb j k ≡ a → get_or ends j 0 ≤ get_or ends k 0
      go true e = omega (arith, end-start starts ends n f j k (ltb-true j k e) l, start-end starts ends n f k l)
      go false e =
          let q : j ≡ k = omega (arith, ltb-false j k e) in
          rw q (omega arith)

  -- either half
  halves : (low high : ℕ) → low < high → (a : Bool) → ltb (get_or ends (middle_of low high) 0) id ≡ a → Bracket ends n id low high
      → Bracket ends n id (cond a (middle_of low high + 1) low) (cond a high (middle_of low high))
  halves low high h true e b =
      let m : ℕ = middle_of low high in
      let d = ltb-true (get_or ends (middle_of low high) 0) id e in
      record {
        in_order = omega arith;
        in_use = b.in_use;
        below = λ (k : ℕ) (p : k < middle_of low high + 1). omega (arith, ends-rise k (middle_of low high) (omega arith) (omega (arith, b.in_use)));
        above = b.above;
      }
  halves low high h false e b =
      let d = ltb-false (get_or ends (middle_of low high) 0) id e in
      record {
        in_order = omega arith;
        in_use = omega (arith, b.in_use);
        below = b.below;
        above = λ (k : ℕ) (p : middle_of low high ≤ k) (q : k < n). omega (arith, ends-rise (middle_of low high) k p q);
      }

  -- where the two have met
  met : (low high at : ℕ) → at ≡ low → high ≤ low → Bracket ends n id low high → Bracket ends n id at at
  met low high at e h b =
      rw e
      (record {
        in_order = omega arith;
        in_use = omega (arith, b.in_order, b.in_use);
        below = b.below;
        above = λ (k : ℕ) (p : low ≤ k) (q : k < n). b.above k (omega arith) q;
      })

  -- so many comparisons bring them together
  bracketed : (k low high : ℕ) → high - low < 2 ^ k → Bracket ends n id low high
      → Bracket ends n id (halved k ends id low high) (halved k ends id low high)
  bracketed zero low high h b = met low high (halved zero ends id low high) (halved-done zero ends id low high (omega arith)) (omega arith) b
  bracketed (suc k) low high h b = go (ltb low high) refl (ltb (get_or ends (middle_of low high) 0) id) refl (bracketed k)
    where
      small : (a : Bool) → cond a high (middle_of low high) - cond a (middle_of low high + 1) low < 2 ^ k
      small true = omega arith
      small false = omega (arith, b.in_order)

      go : (t : Bool) → ltb low high ≡ t → (a : Bool) → ltb (get_or ends (middle_of low high) 0) id ≡ a
          → ((low high : ℕ) → high - low < 2 ^ k → Bracket ends n id low high → Bracket ends n id (halved k ends id low high) (halved k ends id low high))
          → Bracket ends n id (halved (suc k) ends id low high) (halved (suc k) ends id low high)
      go false e a d ih =
          let l = ltb-false low high e in
          met low high (halved (suc k) ends id low high) (halved-done (suc k) ends id low high l) l b
      go true e a d ih =
          let l = ltb-true low high e in
          rw (halved-once k ends id low high a l d)
          (ih (cond a (middle_of low high + 1) low) (cond a high (middle_of low high)) (small a) (halves low high l a d b))

  -- no range but the one found can hold the id
  only : (at : ℕ) → Bracket ends n id at at → any (in_range id) (range_list n starts ends) ≡ (ltb at n && in_range id (row starts ends at))
  only at b = any-only starts ends (in_range id) at n (λ k l o. go k l o (ltb k at) refl)
    where
      go : (k : ℕ) → k < n → (k ≡ at → ⊥) → (a : Bool) → ltb k at ≡ a → in_range id (row starts ends k) ≡ false
      go k l o true e = in-high id (row starts ends k) (b.below k (ltb-true k at e))
      go k l o false e =
          let p : at ≤ k = ltb-false k at e in
          let q : at < k = omega (arith, o) in
          in-low id (row starts ends k) (omega (arith, end-start starts ends n f at k q l, b.above at (omega arith) (omega arith)))

  holds : (at : ℕ) → Bracket ends n id at at → (t : Bool) → ltb at n ≡ t
      → (t && leb (get_or starts at 0) id) ≡ (t && in_range id (row starts ends at))
  holds at b false e = refl
  holds at b true e =
      let h : id ≤ get_or ends at 0 = b.above at (omega arith) (ltb-true at n e) in
      rw (le-leb id (get_or ends at 0) h) (go (leb (get_or starts at 0) id))
    where
      go : (a : Bool) → a ≡ (a && true)
      go true = refl
      go false = refl

  -- a range that holds the id starts no earlier than the first
  guarded : (at : ℕ) (t : Bool) → ltb at n ≡ t → (a : Bool) → leb (get_or starts at 0) id ≡ a → (leb (get_or starts 0 0) id && (t && a)) ≡ (t && a)
  guarded at false e a d = and-false (leb (get_or starts 0 0) id)
  guarded at true e false d = and-false (leb (get_or starts 0 0) id)
  guarded at true e true d = rw (le-leb (get_or starts 0 0) id (go (ltb 0 at) refl))
    where
      held : get_or starts at 0 ≤ id
      held = leb-true (get_or starts at 0) id d

      inside : at < n
      inside = ltb-true at n e

      go : (b : Bool) → ltb 0 at ≡ b → get_or starts 0 0 ≤ id
      go true z =
          omega (arith, held, end-start starts ends n f 0 at (ltb-true 0 at z) inside, start-end starts ends n f 0 (omega (arith, inside)))
      go false z = let q : at ≡ 0 = omega (arith, ltb-false 0 at z) in rw q at held

-- HALVING FINDS WHAT IS REMOVED
pub halving-finds : (n : ℕ) (starts ends : List ℕ) (o : Option ℕ) → n ≤ 256 → Merged (range_list n starts ends)
    → found_by_halving n starts ends o ≡ is_removed (range_list n starts ends) o
unfolding is_removed found_by_halving
halving-finds n starts ends None h f = refl
halving-finds n starts ends (Some id) h f =
    let whole : Bracket ends n id 0 n
    = record { in_order = omega arith; in_use = omega arith; below = λ k p. absurd (omega arith); above = λ k p q. absurd (omega arith) } in
    let at : ℕ = halved 9 ends id 0 n in
    let b = bracketed starts ends n id f 9 0 n (omega arith) whole in
    guarded starts ends n id f (halved 9 ends id 0 n) (ltb (halved 9 ends id 0 n) n) refl (leb (get_or starts (halved 9 ends id 0 n) 0) id) refl
    ∙ holds starts ends n id f (halved 9 ends id 0 n) b (ltb (halved 9 ends id 0 n) n) refl ∙ sym (only starts ends n id f (halved 9 ends id 0 n) b)
