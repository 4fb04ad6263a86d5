-- Ranges in two lists of numbers, by their index. Assumes nothing.
use Prim.Native.Nat.{ℕ, zero, suc, ◌+◌, ◌-◌, ◌≤◌, ◌<◌}
use mathlib.Core.Path.{◌≡◌, refl, sym, ap, ◌∙◌}
use mathlib.Core.Bool.{Bool, true, false, ◌&&◌, ◌||◌}
use mathlib.Core.List.{List, [], ◌∷◌, ◌++◌, append_assoc, append-nil}
use native.Mathlib.Omega.{arith}
use lib.Dec.{ltb}
use lib.ListN.{length, take, drop, get_or}
use lib.Seq.{get_or-take, drop_at}
use borrow.Author.Tests.{ltb-true, ltb-false, lt-ltb, le-ltb}
use Rattle.reading.specs.declared.RuleIdRange.{RuleIdRange}
use Rattle.reading.specs.Lists.{any}
use Rattle.reading.specs.Controls.{range_list}
use Rattle.lists.proofs.Tests.{or-false-is, any_append}
use Rattle.theorems.specs.MergedRanges.{MergedFrom, Merged}
use Rattle.control.proofs.fields.PairLaws.{range_of, length_pairs}

module _ (starts ends : List ℕ) where
  -- the entry at an index, and m entries from an index on
  abbrev pub row : ℕ → RuleIdRange
  row k = record { start = get_or starts k 0; end = get_or ends k 0 }

  abbrev pub rows_from : ℕ → ℕ → List RuleIdRange
  rows_from i zero = []
  rows_from i (suc m) = row i ∷ rows_from (suc i) m

  rows-after : (m i : ℕ) → range_list i starts ends ++ rows_from i m ≡ range_list (i + m) starts ends
  rows-after zero i =
      let z : i + 0 ≡ i = omega arith in
      rw z (append-nil (range_list i starts ends))
  rows-after (suc m) i =
      let z : i + suc m ≡ suc i + m = omega arith in
      let a = append_assoc (range_list i starts ends) (row i ∷ []) (rows_from (suc i) m) in
      rw z (sym a ∙ rows-after m (suc i))

  pub rows_all : (n : ℕ) → range_list n starts ends ≡ rows_from 0 n
  rows_all n =
      let z : 0 + n ≡ n = omega arith in
      sym (rows-after n 0 ∙ ap (λ (k : ℕ). range_list k starts ends) z)

  pub rows-length : (n : ℕ) → length (range_list n starts ends) ≡ n
  rows-length = length_pairs range_of starts ends

  -- the entries from `held` on
  pub rows_drop : (held all : ℕ) → held ≤ all → drop held (range_list all starts ends) ≡ rows_from held (all - held)
  rows_drop held all h =
      let z : held + (all - held) ≡ all = omega arith in
      let a : range_list held starts ends ++ rows_from held (all - held) ≡ range_list all starts ends
      = rows-after (all - held) held ∙ ap (λ (n : ℕ). range_list n starts ends) z in
      ap (drop held) (sym a) ∙ drop_at (range_list held starts ends) (rows_from held (all - held)) held (rows-length held)

  -- of a list in the merged form: each range lies above the bound, and each later one after it
  row-ordered : (m i b : ℕ) → MergedFrom b (rows_from i m) → (k : ℕ) → i ≤ k → k < i + m → (b ≤ get_or starts k 0) × (get_or starts k 0 ≤ get_or ends k 0)
  row-ordered zero i b f k h l = absurd (omega arith)
  row-ordered (suc m) i b f k h l = go (ltb i k) refl (λ p. row-ordered m (suc i) (get_or ends i 0 + 2) f.2 k p (omega arith))
    where
      go : (d : Bool) → ltb i k ≡ d → (suc i ≤ k → (get_or ends i 0 + 2 ≤ get_or starts k 0) × (get_or starts k 0 ≤ get_or ends k 0))
          → (b ≤ get_or starts k 0) × (get_or starts k 0 ≤ get_or ends k 0)
      go true e g = let r = g (omega (arith, ltb-true i k e)) in (omega arith, r.1)
      go false e g =
          let q : k ≡ i = omega (arith, ltb-false i k e) in
          rw q (f.0, f.1)

  row_apart : (m i b : ℕ) → MergedFrom b (rows_from i m) → (j k : ℕ) → i ≤ j → j < k → k < i + m → get_or ends j 0 + 2 ≤ get_or starts k 0
  row_apart zero i b f j k h l p = absurd (omega arith)
  row_apart (suc m) i b f j k h l p =
      go (ltb i j) refl
      (λ q. row_apart m (suc i) (get_or ends i 0 + 2) f.2 j k q l (omega arith))
      (row-ordered m (suc i) (get_or ends i 0 + 2) f.2 k (omega arith) (omega arith)).0
    where
      go : (d : Bool) → ltb i j ≡ d → (suc i ≤ j → get_or ends j 0 + 2 ≤ get_or starts k 0) → get_or ends i 0 + 2 ≤ get_or starts k 0
          → get_or ends j 0 + 2 ≤ get_or starts k 0
      go true e g a = g (omega (arith, ltb-true i j e))
      go false e g a =
          let q : j ≡ i = omega (arith, ltb-false i j e) in
          rw q a

  module _ (n : ℕ) (f : Merged (range_list n starts ends)) where
    pub start-end : (k : ℕ) → k < n → get_or starts k 0 ≤ get_or ends k 0
    start-end k h = (row-ordered n 0 0 (rw (rows_all n) at f) k (omega arith) (omega arith)).1

    pub end-start : (j k : ℕ) → j < k → k < n → get_or ends j 0 + 2 ≤ get_or starts k 0
    end-start j k h l = row_apart n 0 0 (rw (rows_all n) at f) j k (omega arith) h (omega arith)

  -- where no other entry passes the test, the one at an index says all
  pub any-only : (test : RuleIdRange → Bool) (at n : ℕ) → ((k : ℕ) → k < n → (k ≡ at → ⊥) → test (row k) ≡ false)
      → any test (range_list n starts ends) ≡ (ltb at n && test (row at))
  any-only test at zero h = rw (le-ltb at 0 (omega arith))
  any-only test at (suc n) h =
      any_append test (range_list n starts ends) (row n ∷ [])
      ∙ go (ltb at n) refl (ltb n at) refl (any-only test at n (λ k l. h k (omega arith))) (h n (omega arith))
    where
      go : (a : Bool) → ltb at n ≡ a → (b : Bool) → ltb n at ≡ b → any test (range_list n starts ends) ≡ (a && test (row at))
          → ((n ≡ at → ⊥) → test (row n) ≡ false)
          → (any test (range_list n starts ends) || (test (row n) || false)) ≡ (ltb at (suc n) && test (row at))
      go true e b d i g =
          let l = ltb-true at n e in
          rw (i, g (λ q. omega arith), lt-ltb at (suc n) (omega arith)) (or-false-is (test (row at)))
      go false e true d i g =
          let l = ltb-true n at d in
          rw (i, g (λ q. omega arith), le-ltb at (suc n) (omega arith))
      go false e false d i g =
          let q : n ≡ at = omega (arith, ltb-false at n e, ltb-false n at d) in
          rw (i, q, lt-ltb at (suc at) (omega arith)) (or-false-is (test (row at)))

-- lists with the same first n numbers have the same first entries
pub rows-front : (starts ends starts' ends' : List ℕ) (m n : ℕ) → m ≤ n → take n starts' ≡ take n starts → take n ends' ≡ take n ends
    → range_list m starts' ends' ≡ range_list m starts ends
rows-front starts ends starts' ends' zero n h p q = refl
rows-front starts ends starts' ends' (suc m) n h p q =
    let a : get_or starts' m 0 ≡ get_or starts m 0
    = sym (get_or-take n starts' m 0 (omega arith)) ∙ (ap (λ (l : List ℕ). get_or l m 0) p ∙ get_or-take n starts m 0 (omega arith)) in
    let b : get_or ends' m 0 ≡ get_or ends m 0
    = sym (get_or-take n ends' m 0 (omega arith)) ∙ (ap (λ (l : List ℕ). get_or l m 0) q ∙ get_or-take n ends m 0 (omega arith)) in
    rw (rows-front starts ends starts' ends' m n (omega arith) p q, a, b)
