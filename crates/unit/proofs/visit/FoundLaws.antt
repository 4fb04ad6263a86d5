-- What is found of a rule, case by case. Assumes nothing.
use Prim.Native.Nat.{ℕ, ◌+◌, ◌*◌, ◌/◌, ◌≤◌, ◌<◌}
use Rattle.std.specs.Prelude.{Option, None, Some}
use mathlib.Core.Path.{◌≡◌, refl, ◌∙◌}
use mathlib.Core.Bool.{Bool, true, false}
use mathlib.Core.List.{List}
use native.Mathlib.Omega.{arith}
use borrow.Author.Tests.{lt-ltb, le-ltb, eq-eqb, ne_eqb}
use lib.Dec.{eqb}
use lib.ListN.{length, drop, get_or}
use Rattle.reading.specs.declared.Verdict.{Verdict}
use Rattle.reading.specs.Call.{no_rule}
use Rattle.reading.specs.Records.{rule_list}
use Rattle.reading.specs.Walk.{chain_rest}
use Rattle.lists.proofs.RecordLaws.{length-rules, rule-is}
use Rattle.unit.specs.declared.visit.State.{State}
use Rattle.unit.specs.declared.visit.VisitOutcome.{VisitOutcome}
use Rattle.unit.specs.VisitRule.{entry_by, passed, found_by, found_at}

pub past : (words : List ℕ) (at : State) (visits : ℕ) (found : Verdict) (r : VisitOutcome) → length words / 5 ≤ at.next
    → r ≡ passed found at.next at.chain → r ≡ found_at (rule_list words) at visits found
unfolding found_at
past words at visits found r h e =
    let z : length (rule_list words) ≤ at.next = omega (arith, length-rules words) in
    rw (le-ltb at.next (length (rule_list words)) z, e)

module _ (words : List ℕ) (at : State) (visits : ℕ) (found : Verdict) (first : ℕ) (first-is : first ≡ entry_by at visits)
    (r : VisitOutcome) where
  module _ (h : at.next < length words / 5) where
    abbrev rest : ℕ
    rest = at.next + chain_rest (drop at.next (rule_list words))

    there : (b : Bool) → eqb (get_or words (5 * at.next + 2) 0) 1 ≡ b → r ≡ found_by (at.next + 1) rest at.chain first found b
        → r ≡ found_at (rule_list words) at visits found
    unfolding found_at
    there b l e =
        let z : at.next < length (rule_list words) = omega (arith, length-rules words) in
        rw (lt-ltb at.next (length (rule_list words)) z, rule-is words at.next no_rule h, l, e, first-is)

    pub missed : found ≡ Verdict.Missed → (n : ℕ) → n ≡ rest → r ≡ passed found n None → r ≡ found_at (rule_list words) at
        visits found
    missed f n m e = there (eqb (get_or words (5 * at.next + 2) 0) 1) refl (e ∙ rw (f, m))

    pub failed : found ≡ Verdict.Error → r ≡ passed found (at.next + 1) at.chain → r ≡ found_at (rule_list words) at
        visits found
    failed f e = there (eqb (get_or words (5 * at.next + 2) 0) 1) refl (e ∙ rw f)

    module _ (link : get_or words (5 * at.next + 2) 0 ≡ 1) where
      pub waits : found ≡ Verdict.Matched → r ≡ passed found (at.next + 1) (Some first) → r ≡ found_at (rule_list words) at visits
          found
      waits f e = there true (eq-eqb (get_or words (5 * at.next + 2) 0) 1 link) (e ∙ rw f)

      pub breaks : found ≡ Verdict.Removed → (n : ℕ) → n ≡ rest → r ≡ passed found n None → r ≡ found_at (rule_list words) at
          visits found
      breaks f n m e = there true (eq-eqb (get_or words (5 * at.next + 2) 0) 1 link) (e ∙ rw (f, m))

    module _ (plain : get_or words (5 * at.next + 2) 0 ≡ 1 → ⊥) where
      pub closes : found ≡ Verdict.Matched → ((n : ℕ) (o : Option ℕ) → r ≡ found_by (at.next + 1) n o first Verdict.Matched false)
          → r ≡ found_at (rule_list words) at visits found
      closes f e = there false (ne_eqb (get_or words (5 * at.next + 2) 0) 1 plain) (e rest at.chain ∙ rw f)

      pub passes : found ≡ Verdict.Removed → r ≡ passed found (at.next + 1) at.chain → r ≡ found_at (rule_list words) at
          visits found
      passes f e = there false (ne_eqb (get_or words (5 * at.next + 2) 0) 1 plain) (e ∙ rw f)
