-- The contract of a change determines the struct: two structs that the same change may leave are one. Assumes nothing.
use Prim.Native.Nat.{ℕ, ◌+◌, ◌-◌, ◌<◌}
use mathlib.Core.Path.{◌≡◌, refl, sym, ap, ◌∙◌}
use mathlib.Core.Bool.{Bool, true, false}
use mathlib.Core.List.{List, map}
use native.Mathlib.Omega.{arith}
use borrow.Author.Tests.{ltb-true, ltb-false}
use lib.Dec.{ltb}
use lib.ListN.{length, drop, get_or}
use lib.Seq.{get_or-drop, ext_get_or}
use Rattle.reading.specs.declared.RuleIdRange.{RuleIdRange}
use Rattle.reading.specs.declared.Place.{Place}
use Rattle.reading.specs.Controls.{pair_list}
use Rattle.reading.specs.Controls as reading
use Rattle.control.specs.declared.state.Controls.{Controls}
use Rattle.control.specs.ControlsStruct.{controls_of, RangesKept, RestCleared, Became}
use Rattle.control.proofs.fields.PairLaws.{range_of, place_of, length_pairs, entry_at}

-- two arrays that agree below n and from n on
array-one : (n : ℕ) (a b : List ℕ) → length a ≡ length b → ((k : ℕ) → k < n → get_or a k 0 ≡ get_or b k 0) → drop n a ≡ drop n b → a ≡ b
array-one n a b l below past = ext_get_or 0 a b l (λ k h. go k (ltb k n) refl)
  where
    go : (k : ℕ) (t : Bool) → ltb k n ≡ t → get_or a k 0 ≡ get_or b k 0
    go k true d = below k (ltb-true k n d)
    go k false d =
        let q : n + (k - n) ≡ k = omega (arith, ltb-false k n d) in
        let e : get_or a (n + (k - n)) 0 ≡ get_or b (n + (k - n)) 0
        = sym (get_or-drop n a (k - n) 0) ∙ (ap (λ (m : List ℕ). get_or m (k - n) 0) past ∙ get_or-drop n b (k - n) 0) in
        rw q at e

module _ {A : Type 0} (make : ℕ → ℕ → A) (n m : ℕ) (xs ys us vs : List ℕ) (same : pair_list make n xs ys ≡ pair_list make m us vs) where
  count-one : n ≡ m
  count-one = sym (length_pairs make xs ys n) ∙ (ap length same ∙ length_pairs make us vs m)

  column-one : (read : A → ℕ) (a b : List ℕ)
      → ((k : ℕ) → read (make (get_or xs k 0) (get_or ys k 0)) ≡ get_or a k 0) → ((k : ℕ) → read (make (get_or us k 0) (get_or vs k 0)) ≡ get_or b k 0)
      → length a ≡ length b → drop n a ≡ drop m b → a ≡ b
  column-one read a b ra rb l d =
      array-one n a b l
      (λ k h. sym (entry_at make read xs ys a ra n k h)
      ∙ (ap (λ (es : List A). get_or (map read es) k 0) same ∙ entry_at make read us vs b rb m k (omega (arith, count-one, h))))
      (d ∙ ap (λ (i : ℕ). drop i b) (sym count-one))

-- the arrays of one struct are as long as the other's
pub record SameSizes (a b : Controls) : Type 0 where
  pub starts : length a.starts ≡ length b.starts
  pub ends : length a.ends ≡ length b.ends
  pub phases : length a.phases ≡ length b.phases
  pub positions : length a.positions ≡ length b.positions

-- the arrays of ranges of two structs that a change may leave
ranges-one : (adds : Bool) (before a b : Controls) (c : reading.Controls) → SameSizes a b → Became adds before a c → Became adds before b c → RangesKept b a
unfolding controls_of
ranges-one adds before a b c z p q = go adds p.kept q.kept p.cleared q.cleared
  where
    same : (controls_of a).ranges ≡ (controls_of b).ranges
    same = ap (λ (x : reading.Controls). x.ranges) (p.meaning ∙ sym q.meaning)

    go : (d : Bool) → (d ≡ false → RangesKept before a) → (d ≡ false → RangesKept before b) → (d ≡ true → RestCleared a) → (d ≡ true → RestCleared b)
        → RangesKept b a
    go false kept-a kept_b cleared-a cleared-b =
        let k = kept-a refl in
        let l = kept_b refl in
        record { count = k.count ∙ sym l.count; starts = k.starts ∙ sym l.starts; ends = k.ends ∙ sym l.ends }
    go true kept-a kept_b cleared-a cleared-b =
        let k = cleared-a refl in
        let l = cleared-b refl in
        let count = count-one range_of a.ranges b.ranges a.starts a.ends b.starts b.ends same in
        let column = column-one range_of a.ranges b.ranges a.starts a.ends b.starts b.ends same in
        record {
          count = count;
          starts = column (λ (r : RuleIdRange). r.start) a.starts b.starts (λ j. refl) (λ j. refl) z.starts
              (k.starts ∙ rw count (sym l.starts));
          ends = column (λ (r : RuleIdRange). r.end) a.ends b.ends (λ j. refl) (λ j. refl) z.ends (k.ends ∙ rw count (sym l.ends));
        }

pub determined : (adds : Bool) (before a b : Controls) (c : reading.Controls) → SameSizes a b → Became adds before a c → Became adds before b c → a ≡ b
unfolding controls_of
determined adds before a b c z p q =
    let e : controls_of a ≡ controls_of b = p.meaning ∙ sym q.meaning in
    let mode = ap (λ (x : reading.Controls). x.mode) e in
    let access = ap (λ (x : reading.Controls). x.access) e in
    let processor = ap (λ (x : reading.Controls). x.processor) e in
    let targets = ap (λ (x : reading.Controls). x.targets) e in
    let m = count-one place_of a.targets b.targets a.phases a.positions b.phases b.positions targets in
    let of-targets = column-one place_of a.targets b.targets a.phases a.positions b.phases b.positions targets in
    let phases = of-targets (λ (t : Place). t.phase) a.phases b.phases (λ k. refl) (λ k. refl) z.phases
    (p.phases ∙ (ap (λ (i : ℕ). drop i before.phases) m ∙ sym q.phases)) in
    let positions = of-targets (λ (t : Place). t.position) a.positions b.positions (λ k. refl) (λ k. refl) z.positions
    (p.positions ∙ (ap (λ (i : ℕ). drop i before.positions) m ∙ sym q.positions)) in
    let r = ranges-one adds before a b c z p q in
    λ i. record {
      settings = record { mode = mode i; access = access i; processor = processor i };
      starts = r.starts i;
      ends = r.ends i;
      ranges = r.count i;
      phases = phases i;
      positions = positions i;
      targets = m i;
    }
