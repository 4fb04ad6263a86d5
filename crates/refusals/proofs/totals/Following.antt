-- Rules whose parts of the actions follow each other: together they weigh no more than all actions.
use Prim.Native.Nat.{ℕ, suc, ◌+◌, ◌-◌, ◌*◌, ◌/◌, ◌≤◌, ◌<◌, min}
use mathlib.Core.Path.{◌≡◌, refl, sym, ap, ◌∙◌}
use mathlib.Core.Bool.{Bool, true, false, cond}
use mathlib.Core.List.{List, [], ◌∷◌}
use native.Mathlib.Omega.{arith}
use native.Mathlib.Numerals.{add-one}
use borrow.Author.Tests.{lt-ltb, le-ltb, ltb-false}
use lib.Dec.{ltb}
use lib.ListN.{length, take, drop, get_or}
use Rattle.reading.specs.declared.Rule.{Rule}
use Rattle.reading.specs.Lists.{total}
use Rattle.reading.specs.Records.{rule_from, rule_list}
use Rattle.lists.proofs.RecordLaws.{drop-rules, rules-end}
use Rattle.refusals.specs.Totals.{rule_weight}
use Rattle.refusals.specs.Totals.{begin_of, end_of, following}
use Rattle.apply.proofs.codes.TotalLaws.{total-take-le, total-take-mono, total-between}

-- a rule that begins before an end, and one that does not
module _ (n end : ℕ) (r : Rule) (rs : List Rule) where
  follow-before : begin_of n r < end → following n end (r ∷ rs) ≡ false
  follow-before h = ap (λ (t : Bool). cond t false (following n (end_of n r) rs)) (lt-ltb (begin_of n r) end h)

  follow-past : end ≤ begin_of n r → following n end (r ∷ rs) ≡ following n (end_of n r) rs
  follow-past h = ap (λ (t : Bool). cond t false (following n (end_of n r) rs)) (le-ltb (begin_of n r) end h)

-- a search for a rule that does not follow: those before index i do, and the last of them ends at `end`
pub record Follows (n : ℕ) (rules : List ℕ) (end i : ℕ) : Type 0 where
  pub within : i ≤ length rules / 5
  pub inside : end ≤ n
  pub same : following n 0 (rule_list rules) ≡ following n end (drop i (rule_list rules))

module _ (n : ℕ) (rules : List ℕ) where
  module _ (end i : ℕ) (so : Follows n rules end i) where
    module _ (h : i < length rules / 5) (first : ℕ) (is : first ≡ min (get_or rules (5 * i + 3) 0) n) where
      here : following n 0 (rule_list rules) ≡ following n end (rule_from rules i ∷ drop (suc i) (rule_list rules))
      here = so.same ∙ ap (following n end) (drop-rules rules i h)

      pub follows-not : first < end → false ≡ following n 0 (rule_list rules)
      follows-not few = sym (here ∙ follow-before n end (rule_from rules i) (drop (suc i) (rule_list rules)) (omega (arith, is)))

      pub follows-more : (size : ℕ) → size ≡ min (get_or rules (5 * i + 4) 0) (n - first) → end ≤ first
          → Follows n rules (first + size) (i + 1)
      follows-more size e few =
          let at : end_of n (rule_from rules i) ≡ first + size = omega (arith, is, e) in
          record {
            within = omega arith;
            inside = omega (arith, is, e);
            same = here
                ∙ follow-past n end (rule_from rules i) (drop (suc i) (rule_list rules)) (omega (arith, is))
                ∙ ap (λ (k : ℕ). following n k (drop (suc i) (rule_list rules))) at
                ∙ ap (λ (k : ℕ). following n (first + size) (drop k (rule_list rules))) (sym (add-one i));
          }

    pub follows-end : length rules / 5 ≤ i → true ≡ following n 0 (rule_list rules)
    follows-end h = sym (so.same ∙ ap (following n end) (rules-end rules i h))

-- after an end, rules that follow weigh no more than what stands there
module _ (w : ℕ → ℕ) (codes : List ℕ) where
  follow-weight : (end : ℕ) (rs : List Rule) → following (length codes) end rs ≡ true
      → total w (take end codes) + total (rule_weight w codes) rs ≤ total w codes
  follow-weight end [] e = omega (arith, total-take-le w end codes)
  follow-weight end (r ∷ rs) e = go (ltb (begin_of n r) end) refl e (follow-weight (end_of n r) rs)
    where
      n : ℕ
      n = length codes

      go : (t : Bool) → ltb (begin_of n r) end ≡ t → cond t false (following n (end_of n r) rs) ≡ true
          → (following n (end_of n r) rs ≡ true → total w (take (end_of n r) codes) + total (rule_weight w codes) rs ≤ total w codes)
          → total w (take end codes) + total (rule_weight w codes) (r ∷ rs) ≤ total w codes
      go true is f rest = absurd (let z : ◌≡◌ {A = ℕ} 1 0 = ap (λ (x : Bool). cond {A = ℕ} x 0 1) f in omega (arith, z))
      go false is f rest = omega (
        arith,
        total-take-mono w end (begin_of n r) codes (ltb-false (begin_of n r) end is),
        total-between w codes r.first r.count,
        rest f,
      )

  pub follow-whole : (rs : List Rule) → following (length codes) 0 rs ≡ true → total (rule_weight w codes) rs ≤ total w codes
  follow-whole rs e = omega (arith, follow-weight 0 rs e)

-- what is held and all rules stay within a limit that what is held and all actions stay within
pub follow-fits : (w : ℕ → ℕ) (codes rules : List ℕ) (held limit : ℕ) → held ≤ limit → following (length codes) 0 (rule_list rules) ≡ true
    → total w codes ≤ limit - held
    → false ≡ ltb limit (held + total (rule_weight w codes) (rule_list rules))
follow-fits w codes rules held limit few e fits = sym (le-ltb limit _ (omega (arith, follow-whole w codes (rule_list rules) e)))
