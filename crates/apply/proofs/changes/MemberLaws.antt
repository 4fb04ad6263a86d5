-- The members of a unit, one after the other, and whether one of them has a change. Assumes nothing.
use Prim.Native.Nat.{ℕ, zero, suc, ◌+◌, ◌/◌, ◌≤◌, ◌<◌, ◌*◌}
use mathlib.Core.Path.{◌≡◌, refl, sym, ap, ◌∙◌}
use mathlib.Core.Bool.{Bool, true, false, ◌&&◌, ◌||◌}
use mathlib.Core.List.{List, [], ◌∷◌, ◌++◌}
use native.Mathlib.Omega.{arith}
use native.Mathlib.Numerals.{add-one}
use lib.Dec.{eqb}
use lib.ListN.{length, drop, get_or, drop_of_length-le}
use Rattle.std.specs.List.{list_any, range_with_len}
use Rattle.reading.specs.declared.Rule.{Rule}
use Rattle.reading.specs.Lists.{keep}
use Rattle.reading.specs.Records.{journal_list, matched_in}
use Rattle.reading.specs.Call.{no_rule}
use Rattle.lists.proofs.RecordLaws.{length-entries, drop-entries}
use Rattle.apply.specs.UnitChanges.{rule_changes, unit_changes}

-- the members among the entries from an index on
abbrev pub members_from : List ℕ → ℕ → List ℕ
members_from words i = matched_in (drop i (journal_list words))

module _ (words : List ℕ) (i : ℕ) (h : i < length words / 2) where
  pub members-from : members_from words i
      ≡ keep (eqb (get_or words (2 * i + 1) 0) 1) (get_or words (2 * i) 0 ∷ []) ++ members_from words (i + 1)
  members-from = rw (add-one i) (ap matched_in (drop-entries words i h))

pub members-end : (words : List ℕ) (i : ℕ) → length words / 2 ≤ i → members_from words i ≡ []
members-end words i h =
    let l : length (journal_list words) ≤ i = omega (arith, length-entries words) in
    ap matched_in (drop_of_length-le (journal_list words) l)

-- WHETHER A UNIT CHANGES THE CONTROLS

module _ (codes : List ℕ) (rules : List Rule) (words : List ℕ) (i : ℕ) (t b : Bool) (h : i < length words / 2)
    (is : unit_changes codes rules (members_from words i) ≡ t)
    (tested : b ≡ (eqb (get_or words (2 * i + 1) 0) 1 && rule_changes codes (get_or rules (get_or words (2 * i) 0) no_rule))) where
  split : (b || unit_changes codes rules (members_from words (i + 1))) ≡ t
  split =
      ap (λ (x : Bool). x || unit_changes codes rules (members_from words (i + 1))) tested
      ∙ (go (eqb (get_or words (2 * i + 1) 0) 1)
      ∙ (sym (ap (unit_changes codes rules) (members-from words i h)) ∙ is))
    where
      go : (v : Bool)
          → ((v && rule_changes codes (get_or rules (get_or words (2 * i) 0) no_rule)) || unit_changes codes rules
          (members_from words (i + 1)))
          ≡ unit_changes codes rules (keep v (get_or words (2 * i) 0 ∷ []) ++ members_from words (i + 1))
      go true = refl
      go false = refl

-- whether an entry is of a member whose rule has a change
abbrev pub entry_test : List ℕ → List Rule → List ℕ → ℕ → Bool
entry_test codes rules words i = eqb (get_or words (2 * i + 1) 0) 1 && rule_changes codes (get_or rules (get_or words (2 * i) 0) no_rule)

-- whether one of so many entries from an index on is, up to the last
pub members-any : (codes : List ℕ) (rules : List Rule) (words : List ℕ) (m i : ℕ) → i + m ≡ length words / 2
    → list_any (entry_test codes rules words) (range_with_len i m) ≡ unit_changes codes rules (members_from words i)
members-any codes rules words zero i e = rw (members-end words i (omega arith))
members-any codes rules words (suc m) i e =
    rw (members-any codes rules words m (i + 1) (omega arith))
    (split codes rules words i (unit_changes codes rules (members_from words i)) (entry_test codes rules words i) (omega arith) refl refl)
