-- Ranges merged in place: a range in hand goes along the list, and several do so one after the other. Assumes nothing.
use Prim.Native.Nat.{ℕ, zero, suc, ◌+◌, ◌-◌, ◌≤◌, ◌<◌, min, max}
use mathlib.Core.Path.{◌≡◌, refl, sym, ap, ◌∙◌}
use mathlib.Core.Bool.{true, false}
use mathlib.Core.List.{List, [], ◌∷◌, ◌++◌, append_assoc}
use native.Mathlib.Omega.{arith}
use native.Mathlib.Numerals.{add-one}
use lib.Dec.{ltb}
use lib.ListN.{length, take, drop, get_or, set, replicate, length-set, length-append, length-replicate, length-drop}
use lib.Seq.{take_at, drop_at, drop-drop, drop-set-lt, get_or-drop, get_or-set_same, length-take-le}
use borrow.Rule.Slice.PartMut.{put_mid, mid_of}
use Rattle.reading.specs.declared.RuleIdRange.{RuleIdRange}
use Rattle.reading.specs.Ranges.{is_apart, joined, add_range, add_ranges}
use Rattle.reading.specs.Controls.{range_list}
use Rattle.theorems.specs.MergedRanges.{length-added}
use Rattle.control.specs.Merging.{Room, MergedOne, Within, Merged, MergedAfter}
use Rattle.control.proofs.fields.PairLaws.{range_of, pairs-past}
use Rattle.control.proofs.ranges.RowLaws.{row, rows_from, rows_all, rows-length, rows_drop, rows-front}

-- ONE RANGE

-- at a range that stays, at one that lies after the range in hand, and at one that meets it
module _ (x r : RuleIdRange) (xs : List RuleIdRange) where
  pub add-end : add_range [] r ≡ (r ∷ [])
  unfolding add_range
  add-end = refl

  pub add-stays : is_apart x r ≡ true → add_range (x ∷ xs) r ≡ x ∷ add_range xs r
  unfolding add_range
  add-stays e = rw e

  pub add-turns : is_apart x r ≡ false → is_apart r x ≡ true → add_range (x ∷ xs) r ≡ r ∷ add_range xs x
  unfolding add_range
  add-turns e d = rw (e, d)

  pub add-joins : is_apart x r ≡ false → is_apart r x ≡ false → add_range (x ∷ xs) r ≡ add_range xs (joined x r)
  unfolding add_range
  add-joins e d = rw (e, d)

-- a list written up to k
pub record Rest (old cur : List ℕ) (k : ℕ) : Type 0 where
  pub kept : length cur ≡ length old
  pub rest : drop k cur ≡ drop k old

pub rest_at : (old cur : List ℕ) (k i : ℕ) → Rest old cur k → k ≤ i → get_or cur i 0 ≡ get_or old i 0
rest_at old cur k i r h =
    let z : k + (i - k) ≡ i = omega arith in
    let a = get_or-drop k cur (i - k) 0 in
    let b = get_or-drop k old (i - k) 0 in
    let d = ap (λ (l : List ℕ). get_or l (i - k) 0) r.rest in
    rw z at (sym a ∙ (d ∙ b))

pub rest_more : (old cur : List ℕ) (k v : ℕ) → Rest old cur k → Rest old (set cur k v) (k + 1)
rest_more old cur k v r =
    record {
      kept = length-set cur k v ∙ r.kept;
      rest = drop-set-lt (k + 1) cur k v (omega arith) ∙ (sym (drop-drop 1 k cur) ∙ (ap (drop 1) r.rest ∙ drop-drop 1 k old));
    }

-- one more entry
rows-put : (starts ends : List ℕ) (k a b : ℕ) → k < length starts → k < length ends
    → range_list (k + 1) (set starts k a) (set ends k b) ≡ range_list k starts ends ++ (record { start = a; end = b } ∷ [])
rows-put starts ends k a b h l =
    rw (add-one, pairs-past range_of starts ends k k a b (omega arith), get_or-set_same starts k a 0 h, get_or-set_same ends k b 0 l)

-- so far: `kept` ranges are put down, those from i on are as found, and (start, end) is the range in hand
module _ (count : ℕ) (r : RuleIdRange) (starts ends : List ℕ) where
  pub record Sofar (starts' ends' : List ℕ) (start end kept i : ℕ) : Type 0 where
    pub ahead : kept ≤ i
    pub within : i ≤ count
    pub whole : add_range (range_list count starts ends) r
        ≡ range_list kept starts' ends' ++ add_range (rows_from starts ends i (count - i)) (record { start = start; end = end })
    pub in-starts : Rest starts starts' kept
    pub in-ends : Rest ends ends' kept

  pub sofar-start : Sofar starts ends r.start r.end 0 0
  sofar-start =
      let z : count - 0 ≡ count = omega arith in
      record {
        ahead = omega arith;
        within = omega arith;
        whole = rw z (ap (λ (l : List RuleIdRange). add_range l r) (rows_all starts ends count));
        in-starts = record { kept = refl; rest = refl };
        in-ends = record { kept = refl; rest = refl };
      }

  module _ (room : Room count starts ends) (starts' ends' : List ℕ) (start end kept i : ℕ) (f : Sofar starts' ends' start end kept i) where
    abbrev hand : RuleIdRange
    hand = record { start = start; end = end }

    abbrev todo : List RuleIdRange
    todo = rows_from starts ends (suc i) (count - suc i)

    pub done : count ≤ i → MergedOne count r starts ends (kept + 1) (set starts' kept start) (set ends' kept end)
    done h =
        let z : count - i ≡ 0 = omega arith in
        let w : add_range (range_list count starts ends) r ≡ range_list kept starts' ends' ++ add_range [] hand = rw z at f.whole in
        let a = rest_more starts starts' kept start f.in-starts in
        let b = rest_more ends ends' kept end f.in-ends in
        record {
          list = rows-put starts' ends' kept start end
              (omega (arith, room.in-starts, f.in-starts.kept, f.ahead, f.within))
              (omega (arith, room.in-ends, f.in-ends.kept, f.ahead, f.within))
              ∙ sym (w ∙ ap (λ (l : List RuleIdRange). range_list kept starts' ends' ++ l) (add-end hand hand []));
          starts-length = a.kept;
          ends-length = b.kept;
          starts-rest = a.rest;
          ends-rest = b.rest;
        }

    -- a turn: s and e are what is read at i
    module _ (h : i < count) (s e : ℕ) (s-is : s ≡ get_or starts' i 0) (e-is : e ≡ get_or ends' i 0) where
      abbrev at : RuleIdRange
      at = record { start = s; end = e }

      here : add_range (range_list count starts ends) r ≡ range_list kept starts' ends' ++ add_range (at ∷ todo) hand
      here =
          let z : count - i ≡ suc (count - suc i) = omega arith in
          let a : get_or starts i 0 ≡ s = sym (s-is ∙ rest_at starts starts' kept i f.in-starts f.ahead) in
          let b : get_or ends i 0 ≡ e = sym (e-is ∙ rest_at ends ends' kept i f.in-ends f.ahead) in
          let w : add_range (range_list count starts ends) r ≡ range_list kept starts' ends' ++ add_range (row starts ends i ∷ todo) hand
          = rw z at f.whole in
          rw (a, b) at w

      -- the range (a, b) is put down and (a', b') goes on
      puts : (a b a' b' : ℕ) → add_range (at ∷ todo) hand ≡ record { start = a; end = b } ∷ add_range todo (record { start = a'; end = b' })
          → Sofar (set starts' kept a) (set ends' kept b) a' b' (kept + 1) (i + 1)
      puts a b a' b' q =
          let p = rows-put starts' ends' kept a b
          (omega (arith, room.in-starts, f.in-starts.kept, f.ahead))
          (omega (arith, room.in-ends, f.in-ends.kept, f.ahead)) in
          record {
            ahead = omega (arith, f.ahead);
            within = omega arith;
            whole =
                rw (add-one i, p, append_assoc) (here ∙ ap (λ (l : List RuleIdRange). range_list kept starts' ends' ++ l) q);
            in-starts = rest_more starts starts' kept a f.in-starts;
            in-ends = rest_more ends ends' kept b f.in-ends;
          }

      pub stays : ltb (e + 1) start ≡ true → Sofar (set starts' kept s) (set ends' kept e) start end (kept + 1) (i + 1)
      stays p = puts s e start end (add-stays at hand todo p)

      pub turns : ltb (e + 1) start ≡ false → ltb (end + 1) s ≡ true → Sofar (set starts' kept start) (set ends' kept end) s e (kept + 1) (i + 1)
      turns p q = puts start end s e (add-turns at hand todo p q)

      pub joins : ltb (e + 1) start ≡ false → ltb (end + 1) s ≡ false → Sofar starts' ends' (min s start) (max e end) kept (i + 1)
      joins p q =
          record {
            ahead = omega (arith, f.ahead);
            within = omega arith;
            whole = rw (add-one i) (here ∙ ap (λ (l : List RuleIdRange). range_list kept starts' ends' ++ l) (add-joins at hand todo p q));
            in-starts = f.in-starts;
            in-ends = f.in-ends;
          }

-- CLEARING: zeros written over a part
pub cleared-by : (from to : ℕ) (old zeros : List ℕ) → from ≤ to → to ≤ length old → zeros ≡ replicate (length (mid_of from (to - from) old)) 0
    → put_mid from (to - from) old zeros ≡ take from old ++ (replicate (to - from) 0 ++ drop to old)
cleared-by from to old zeros h l e =
    let z : from + (to - from) ≡ to = omega arith in
    let n : length (mid_of from (to - from) old) ≡ to - from = length-take-le (to - from) (drop from old) (omega (arith, length-drop from old)) in
    rw (e, n, drop-drop, z)

-- what a cleared list has
module _ (old cur : List ℕ) (from to : ℕ) (h : from ≤ to) (l : to ≤ length old) (e : cur ≡ take from old ++ (replicate (to - from) 0 ++ drop to old)) where
  front : length (take from old) ≡ from
  front = length-take-le from old (omega arith)

  pub cleared-rest : drop from cur ≡ replicate (to - from) 0 ++ drop to old
  cleared-rest = rw e (drop_at (take from old) (replicate (to - from) 0 ++ drop to old) from front)

  pub cleared-front : take from cur ≡ take from old
  cleared-front = rw e (take_at (take from old) (replicate (to - from) 0 ++ drop to old) from front)

  pub cleared-length : length cur ≡ length old
  cleared-length =
      ap length e
      ∙ simp (length-append, front, length-replicate, length-drop) (omega arith)

pub drop-replicate : (n k v : ℕ) → drop n (replicate k v) ≡ replicate (k - n) v
drop-replicate zero k v = let z : k - zero ≡ k = omega arith in rw z
drop-replicate (suc n) zero v = let z : zero - suc n ≡ zero = omega arith in rw z
drop-replicate (suc n) (suc k) v = let z : suc k - suc n ≡ k - n = omega arith in rw z (drop-replicate n k v)

-- SEVERAL

add-one-more : (rs : List RuleIdRange) (r : RuleIdRange) (ss : List RuleIdRange) → add_ranges rs (r ∷ ss) ≡ add_ranges (add_range rs r) ss
unfolding add_ranges
add-one-more rs r ss = refl

add_none : (rs : List RuleIdRange) → add_ranges rs [] ≡ rs
unfolding add_ranges
add_none rs = refl

module _ (held all : ℕ) (starts ends : List ℕ) where
  -- so far: `count` ranges, and those from i on are as found
  pub record Taking (starts' ends' : List ℕ) (count i : ℕ) : Type 0 where
    pub few : count ≤ i
    pub within : i ≤ all
    pub whole : add_ranges (range_list held starts ends) (drop held (range_list all starts ends))
        ≡ add_ranges (range_list count starts' ends') (rows_from starts ends i (all - i))
    pub in-starts : Rest starts starts' i
    pub in-ends : Rest ends ends' i

  module _ (w : Within held all starts ends) where
    pub taken_start : Taking starts ends held held
    taken_start =
        record {
          few = omega arith;
          within = w.in_order;
          whole = ap (add_ranges (range_list held starts ends)) (rows_drop starts ends held all w.in_order);
          in-starts = record { kept = refl; rest = refl };
          in-ends = record { kept = refl; rest = refl };
        }

    module _ (starts' ends' : List ℕ) (count i : ℕ) (f : Taking starts' ends' count i) where
      pub room : i < all → Room count starts' ends'
      room h =
          record {
            in-starts = omega (arith, f.few, f.in-starts.kept, w.in-starts);
            in-ends = omega (arith, f.few, f.in-ends.kept, w.in-ends);
          }

      further : (old cur cur'' : List ℕ) (count'' : ℕ) → Rest old cur i → count'' ≤ i + 1 → length cur'' ≡ length cur
          → drop count'' cur'' ≡ drop count'' cur → Rest old cur'' (i + 1)
      further old cur cur'' count'' r h l d =
          let z : count'' + (i + 1 - count'') ≡ i + 1 = omega arith in
          let a : drop (i + 1) cur'' ≡ drop (i + 1) cur
          = ap (λ (n : ℕ). drop n cur'') (sym z)
          ∙ (sym (drop-drop (i + 1 - count'') count'' cur'')
          ∙ (ap (drop (i + 1 - count'')) d ∙ (drop-drop (i + 1 - count'') count'' cur ∙ ap (λ (n : ℕ). drop n cur) z))) in
          let b : drop (i + 1) cur ≡ drop (i + 1) old = sym (drop-drop 1 i cur) ∙ (ap (drop 1) r.rest ∙ drop-drop 1 i old) in
          record { kept = l ∙ r.kept; rest = a ∙ b }

      -- one more: s and e are what is read at i
      pub taken_more : i < all → (s e : ℕ) → s ≡ get_or starts' i 0 → e ≡ get_or ends' i 0 → (count'' : ℕ) (starts'' ends'' : List ℕ)
          → MergedOne count (record { start = s; end = e }) starts' ends' count'' starts'' ends'' → Taking starts'' ends'' count'' (i + 1)
      taken_more h s e s-is e-is count'' starts'' ends'' p =
          let r : RuleIdRange = record { start = s; end = e } in
          let n : count'' ≤ count + 1
          = omega (
            arith,
            rows-length starts'' ends'' count'',
            rows-length starts' ends' count,
            ap length p.list,
            length-added (range_list count starts' ends') (record { start = s; end = e }),
          ) in
          let z : all - i ≡ suc (all - suc i) = omega arith in
          let a : get_or starts i 0 ≡ s = sym (s-is ∙ rest_at starts starts' i i f.in-starts (omega arith)) in
          let b : get_or ends i 0 ≡ e = sym (e-is ∙ rest_at ends ends' i i f.in-ends (omega arith)) in
          let x : add_ranges (range_list held starts ends) (drop held (range_list all starts ends))
          ≡ add_ranges (range_list count starts' ends') (row starts ends i ∷ rows_from starts ends (suc i) (all - suc i))
          = f.whole ∙ ap (λ (m : ℕ). add_ranges (range_list count starts' ends') (rows_from starts ends i m)) z in
          let y : add_ranges (range_list held starts ends) (drop held (range_list all starts ends))
          ≡ add_ranges (range_list count starts' ends') (record { start = s; end = e } ∷ rows_from starts ends (suc i) (all - suc i))
          = rw (a, b) at x in
          record {
            few = omega (arith, n, f.few);
            within = omega arith;
            whole =
                rw (add-one i, p.list)
                (y ∙ add-one-more (range_list count starts' ends') (record { start = s; end = e }) (rows_from starts ends (suc i) (all - suc i)));
            in-starts = further starts starts' starts'' count'' f.in-starts (omega (arith, n, f.few)) p.starts-length p.starts-rest;
            in-ends = further ends ends' ends'' count'' f.in-ends (omega (arith, n, f.few)) p.ends-length p.ends-rest;
          }

      taken-all : all ≤ i → (starts'' ends'' : List ℕ) → starts'' ≡ take count starts' ++ (replicate (all - count) 0 ++ drop all starts')
          → ends'' ≡ take count ends' ++ (replicate (all - count) 0 ++ drop all ends') → Merged held all starts ends count starts'' ends''
      taken-all h starts'' ends'' p q =
          let z : all - i ≡ 0 = omega arith in
          let y : i ≡ all = omega (arith, f.within) in
          let few : count ≤ all = omega (arith, f.few) in
          let hs : all ≤ length starts' = omega (arith, f.in-starts.kept, w.in-starts) in
          let he : all ≤ length ends' = omega (arith, f.in-ends.kept, w.in-ends) in
          let rs : drop all starts' ≡ drop all starts = rw y at f.in-starts.rest in
          let re : drop all ends' ≡ drop all ends = rw y at f.in-ends.rest in
          let x : add_ranges (range_list held starts ends) (drop held (range_list all starts ends)) ≡ range_list count starts' ends'
          = f.whole
          ∙ (ap (λ (m : ℕ). add_ranges (range_list count starts' ends') (rows_from starts ends i m)) z ∙ add_none (range_list count starts' ends')) in
          record {
            list = rows-front starts' ends' starts'' ends'' count count (omega arith)
                (cleared-front starts' starts'' count all few hs p) (cleared-front ends' ends'' count all few he q) ∙ sym x;
            starts-length = cleared-length starts' starts'' count all few hs p ∙ f.in-starts.kept;
            ends-length = cleared-length ends' ends'' count all few he q ∙ f.in-ends.kept;
            starts-rest = cleared-rest starts' starts'' count all few hs p ∙ ap (λ (l : List ℕ). replicate (all - count) 0 ++ l) rs;
            ends-rest = cleared-rest ends' ends'' count all few he q ∙ ap (λ (l : List ℕ). replicate (all - count) 0 ++ l) re;
            fits = few;
          }

-- zeros written over the places that are left
pub merge-all : (held all : ℕ) (starts ends : List ℕ) → Within held all starts ends
    → (starts' ends' : List ℕ) (count i : ℕ) → Taking held all starts ends starts' ends' count i → all ≤ i
    → (zeros zeros' : List ℕ) → zeros ≡ replicate (length (mid_of count (all - count) starts')) 0
    → zeros' ≡ replicate (length (mid_of count (all - count) ends')) 0
    → MergedAfter held all starts ends count (put_mid count (all - count) starts' zeros) (put_mid count (all - count) ends' zeros')
merge-all held all starts ends w starts' ends' count i f h zeros zeros' p q =
    let few : count ≤ all = omega (arith, f.few, f.within) in
    let a = cleared-by count all starts' zeros few (omega (arith, f.in-starts.kept, w.in-starts)) p in
    let b = cleared-by count all ends' zeros' few (omega (arith, f.in-ends.kept, w.in-ends)) q in
    record {
      merged = λ z. taken-all held all starts ends w starts' ends' count i f h _ _ a b;
      too_short = λ z. absurd (z w);
    }
