-- The members of a unit, one after the other.
use Prim.Native.Nat.{ℕ, ◌+◌, ◌/◌, ◌≤◌, ◌<◌, ◌*◌}
use mathlib.Core.Path.{◌≡◌, refl, sym, ap, ◌∙◌}
use mathlib.Core.Bool.{Bool, true, false, ◌||◌}
use mathlib.Core.List.{List, [], ◌∷◌, ◌++◌}
use native.Mathlib.Omega.{arith}
use lib.Dec.{eqb}
use lib.ListN.{length, get_or}
use Rattle.reading.specs.declared.Rule.{Rule}
use Rattle.reading.specs.Lists.{keep}
use Rattle.reading.specs.Records.{journal_list, matched_in}
use Rattle.reading.specs.Call.{no_rule}
use Rattle.reading.specs.Controls as reading
use Rattle.control.specs.declared.state.Controls.{Controls}
use Rattle.control.specs.ControlsStruct.{controls_of}
use Rattle.lists.proofs.Tests.{or-false-is, any_append}
use Rattle.apply.specs.Append.{Changed}
use Rattle.apply.specs.UnitChanges.{rule_adds, unit_adds}
use Rattle.apply.proofs.append.ChangedLaws.{or_assoc, changed-as, changed_then}
use Rattle.apply.proofs.changes.MemberLaws.{members_from, members-from, members-end}
use Rattle.apply.specs.UnitCodes.{Source, rule_by_codes, unit_by_codes}
use Rattle.apply.proofs.run.StepLaws.{Grown}
use Rattle.apply.proofs.run.RuleLaws.{rule-grown}

pub unit-grown : (s : Source) (codes : List ℕ) (rules : List Rule) (ms : List ℕ) (x : reading.Controls)
    → Grown x (unit_by_codes s codes rules ms x)
unit-grown s codes rules [] x = omega arith
unit-grown s codes rules (m ∷ ms) x =
    let y = rule_by_codes s codes (get_or rules m no_rule) x in
    omega (arith, rule-grown s codes (get_or rules m no_rule) x, unit-grown s codes rules ms y)

-- the members before entry i gone over: r is what they made of c, and what the others make of r is what all make of c; f and f' say whether
-- ranges were added before the first and after these
pub record Across (source : Source) (codes : List ℕ) (rules : List Rule) (words : List ℕ) (f : Bool) (c : Controls) (f' : Bool) (r : Controls) (i : ℕ)
    : Type 0 where
  pub so_far : Bool
  pub kept : Changed so_far f c f' r (controls_of r)
  pub rest : unit_by_codes source codes rules (members_from words i) (controls_of r)
      ≡ unit_by_codes source codes rules (matched_in (journal_list words)) (controls_of c)
  pub adds-rest : (so_far || unit_adds codes rules (members_from words i)) ≡ unit_adds codes rules (matched_in (journal_list words))

module _ (source : Source) (codes : List ℕ) (rules : List Rule) (words : List ℕ) (f : Bool) (c : Controls) (f' : Bool) (r : Controls) (i : ℕ)
    (across : Across source codes rules words f c f' r i) where
  -- the members from entry i on are those of a list
  rest_of : (ms : List ℕ) → members_from words i ≡ ms
      → unit_by_codes source codes rules ms (controls_of r) ≡ unit_by_codes source codes rules (matched_in (journal_list words))
      (controls_of c)
  rest_of ms e = ap (λ (l : List ℕ). unit_by_codes source codes rules l (controls_of r)) (sym e) ∙ across.rest

  adds-of : (ms : List ℕ) → members_from words i ≡ ms
      → (across.so_far || unit_adds codes rules ms) ≡ unit_adds codes rules (matched_in (journal_list words))
  adds-of ms e = ap (λ (l : List ℕ). across.so_far || unit_adds codes rules l) (sym e) ∙ across.adds-rest

  abbrev entry : List ℕ
  entry = keep (eqb (get_or words (2 * i + 1) 0) 1) (get_or words (2 * i) 0 ∷ [])

  -- f'' and r' are what the turn leaves
  pub across-more : (f'' : Bool) (r' : Controls) → i < length words / 2
      → Changed (unit_adds codes rules entry) f' r f'' r' (unit_by_codes source codes rules entry (controls_of r))
      → Across source codes rules words f c f'' r' (i + 1)
  across-more f'' r' h b =
      let g = unit-grown source codes rules entry (controls_of r) in
      let later = members_from words (i + 1) in
      record {
        so_far = across.so_far || unit_adds codes rules entry;
        kept = changed-as refl (sym b.meaning) (changed_then across.kept b g);
        rest = ap (unit_by_codes source codes rules later) b.meaning
            ∙ (go (eqb (get_or words (2 * i + 1) 0) 1) ∙ rest_of (entry ++ later) (members-from words i h));
        adds-rest = or_assoc across.so_far (unit_adds codes rules entry) (unit_adds codes rules later)
            ∙ (ap (λ (b : Bool). across.so_far || b) (sym (any_append (λ m. rule_adds codes (get_or rules m no_rule)) entry later))
            ∙ adds-of (entry ++ later) (members-from words i h));
      }
    where
      go : (v : Bool)
          → unit_by_codes source codes rules (members_from words (i + 1))
          (unit_by_codes source codes rules (keep v (get_or words (2 * i) 0 ∷ [])) (controls_of r))
          ≡ unit_by_codes source codes rules (keep v (get_or words (2 * i) 0 ∷ []) ++ members_from words (i + 1)) (controls_of r)
      go true = refl
      go false = refl

  pub across-end : length words / 2 ≤ i
      → Changed (unit_adds codes rules (matched_in (journal_list words))) f c f' r
      (unit_by_codes source codes rules (matched_in (journal_list words)) (controls_of c))
  across-end h =
      changed-as
      (sym (or-false-is across.so_far) ∙ adds-of [] (members-end words i h))
      (rest_of [] (members-end words i h))
      across.kept
