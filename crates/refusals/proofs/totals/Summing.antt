-- The sums of the codes' weights, and what they say of the rules.
use Prim.Native.Nat.{ℕ, ◌+◌, ◌-◌, ◌*◌, ◌/◌, ◌≤◌, ◌<◌, min}
use mathlib.Core.Path.{◌≡◌, ap, ◌∙◌}
use mathlib.Core.List.{List, []}
use native.Mathlib.Omega.{arith}
use borrow.Author.Count.{below_more}
use lib.ListN.{length, take, drop, get_or, set, length-set}
use lib.Seq.{get_or-set_same, get_or-set_other}
use Rattle.std.proofs.Common.{lit<}
use Rattle.std.specs.Simd.{first_chunks}
use Rattle.reading.specs.declared.Rule.{Rule}
use Rattle.reading.specs.Lists.{total}
use Rattle.reading.specs.Records.{rule_list}
use Rattle.reading.specs.Call.{no_rule}
use Rattle.lists.proofs.RecordLaws.{length-rules, rule-is}
use Rattle.lists.proofs.Chunks.{word-of}
use Rattle.refusals.specs.Totals.{rule_weight}
use Rattle.refusals.specs.Totals.{Summed}
use Rattle.apply.proofs.codes.TotalLaws.{total-more, total-between}

-- the sums up to index i of a list that was `found`; `sum` is the last of them
pub record Sofar (w : ℕ → ℕ) (codes found sums : List ℕ) (sum i : ℕ) : Type 0 where
  pub within : i ≤ length codes
  pub kept : length sums ≡ length found
  pub small : sum ≤ 65535 * i
  pub sum_is : sum ≡ total w (take i codes)
  pub at_each : (k : ℕ) → k < i + 1 → get_or sums k 0 ≡ total w (take k codes)

module _ (w : ℕ → ℕ) (codes found : List ℕ) (room : length codes < length found) where
  pub sofar-more : (sums : List ℕ) (sum i v : ℕ) → i < length codes → v ≡ w (get_or codes i 0) → v ≤ 65535
      → Sofar w codes found sums sum i → Sofar w codes found (set sums (i + 1) (sum + v)) (sum + v) (i + 1)
  sofar-more sums sum i v h is few so =
      let next : sum + v ≡ total w (take (i + 1) codes) = omega (arith, so.sum_is, total-more w codes i 0 h) in
      let old : (k : ℕ) → k < i + 1 → get_or (set sums (i + 1) (sum + v)) k 0 ≡ total w (take k codes)
      = λ k below. get_or-set_other sums (i + 1) k (sum + v) 0 (λ e. omega arith) ∙ so.at_each k below in
      let new = get_or-set_same sums (i + 1) (sum + v) 0 (omega (arith, so.kept)) ∙ next in
      record {
        within = omega arith;
        kept = length-set sums (i + 1) (sum + v) ∙ so.kept;
        small = omega (arith, so.small);
        sum_is = next;
        at_each = below_more (λ k. get_or (set sums (i + 1) (sum + v)) k 0 ≡ total w (take k codes)) (i + 1) old new;
      }

-- what a part of the codes weighs, by two sums; both ends are clipped
part-is : (w : ℕ → ℕ) (codes sums : List ℕ) → Summed w codes sums → (first count from size : ℕ)
    → from ≡ min first (length codes)
    → size ≡ min count (length codes - from)
    → get_or sums (from + size) 0 ≡ get_or sums from 0 + total w (take count (drop first codes))
part-is w codes sums s first count from size f e =
    let m = length codes in
    let z : size ≡ min count (m - min first m) = omega arith in
    s.at_each (from + size) (omega arith)
    ∙ rw (s.at_each from (omega arith), f, z) (total-between w codes first count)

-- what a rule weighs, whose record is one of the arrays
pub rule-part : (w : ℕ → ℕ) (codes sums rules : List ℕ) (records : List (List ℕ)) → Summed w codes sums
    → records ≡ first_chunks 5 (length rules / 5) rules
    → (i from size : ℕ) → i < length rules / 5
    → from ≡ min (get_or (get_or records i []) 3 0) (length codes)
    → size ≡ min (get_or (get_or records i []) 4 0) (length codes - from)
    → get_or sums (from + size) 0
    ≡ get_or sums from 0 + total w (take (get_or rules (5 * i + 4) 0) (drop (get_or rules (5 * i + 3) 0) codes))
rule-part w codes sums rules records s is i from size h f e =
    part-is w codes sums s _ _ from size
    (omega (arith, word-of 5 rules records is i 3 h (lit< tt)))
    (omega (arith, word-of 5 rules records is i 4 h (lit< tt)))

-- one rule more
module _ (w : ℕ → ℕ) (codes rules : List ℕ) where
  pub rules-more : (i : ℕ) → i < length rules / 5
      → total (rule_weight w codes) (take (i + 1) (rule_list rules)) ≡ total (rule_weight w codes) (take i (rule_list rules))
      + total w (take (get_or rules (5 * i + 4) 0) (drop (get_or rules (5 * i + 3) 0) codes))
  rules-more i h =
      total-more (rule_weight w codes) (rule_list rules) i no_rule (omega (arith, length-rules rules))
      ∙ ap (λ (r : Rule). total (rule_weight w codes) (take i (rule_list rules)) + rule_weight w codes r) (rule-is rules i no_rule h)
