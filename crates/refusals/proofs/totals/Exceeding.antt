-- What is left of a limit after the rules passed.
use Prim.Native.Nat.{ℕ, ◌+◌, ◌-◌, ◌*◌, ◌/◌, ◌≤◌, ◌<◌}
use mathlib.Core.Path.{◌≡◌, sym, ap}
use mathlib.Core.Bool.{true, false}
use mathlib.Core.List.{List}
use native.Mathlib.Omega.{arith}
use borrow.Author.Tests.{lt-ltb, le-ltb}
use lib.Dec.{ltb}
use lib.ListN.{length, take, drop, get_or}
use lib.Seq.{take_all}
use Rattle.reading.specs.declared.Rule.{Rule}
use Rattle.reading.specs.Lists.{total}
use Rattle.reading.specs.Records.{rule_list}
use Rattle.refusals.specs.Totals.{rule_weight}
use Rattle.apply.proofs.codes.TotalLaws.{total-take-le, total-none, total-part-le}
use Rattle.lists.proofs.RecordLaws.{length-rules}
use Rattle.refusals.proofs.totals.Summing.{rules-more}

-- what is held, what the rules up to index i add, and what is left make the limit
pub record Left (w : ℕ → ℕ) (codes rules : List ℕ) (held limit left i : ℕ) : Type 0 where
  pub within : i ≤ length rules / 5
  pub sum : held + total (rule_weight w codes) (take i (rule_list rules)) + left ≡ limit

module _ (w : ℕ → ℕ) (codes rules : List ℕ) (held limit : ℕ) where
  -- no code weighs anything
  pub none-adds : held ≤ limit → total w codes ≡ 0 → false ≡ ltb limit (held + total (rule_weight w codes) (rule_list rules))
  none-adds few none =
      let each : (r : Rule) → rule_weight w codes r ≡ 0 = λ r. omega (arith, total-part-le w r.first r.count codes) in
      sym (le-ltb limit _ (omega (arith, total-none (rule_weight w codes) each (rule_list rules))))

  module _ (left i : ℕ) (so : Left w codes rules held limit left i) where
    -- a rule that adds more than is left
    pub left_over : i < length rules / 5
        → left < total w (take (get_or rules (5 * i + 4) 0) (drop (get_or rules (5 * i + 3) 0) codes))
        → true ≡ ltb limit (held + total (rule_weight w codes) (rule_list rules))
    left_over h few =
        let a = rules-more w codes rules i h in
        let b = total-take-le (rule_weight w codes) (i + 1) (rule_list rules) in
        sym (lt-ltb limit _ (omega (arith, so.sum)))

    pub left-more : i < length rules / 5
        → (added : ℕ) → added ≡ total w (take (get_or rules (5 * i + 4) 0) (drop (get_or rules (5 * i + 3) 0) codes))
        → added ≤ left
        → Left w codes rules held limit (left - added) (i + 1)
    left-more h added e few =
        let a = rules-more w codes rules i h in
        record { within = omega arith; sum = omega (arith, so.sum) }

    pub left_end : length rules / 5 ≤ i → false ≡ ltb limit (held + total (rule_weight w codes) (rule_list rules))
    left_end h =
        let whole : take i (rule_list rules) ≡ rule_list rules = take_all i (rule_list rules) (omega (arith, length-rules rules)) in
        sym (le-ltb limit _ (omega (arith, so.sum, ap (total (rule_weight w codes)) whole)))
