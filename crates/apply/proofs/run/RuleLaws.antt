-- The codes of a rule, one after the other.
use Prim.Native.Nat.{ℕ, suc, ◌+◌, ◌-◌, ◌≤◌, ◌<◌, min}
use mathlib.Core.Path.{◌≡◌, refl, sym, ap, ◌∙◌}
use mathlib.Core.Bool.{Bool, false, ◌||◌}
use mathlib.Core.List.{List, [], ◌∷◌}
use native.Mathlib.Omega.{arith}
use native.Mathlib.Numerals.{add-one}
use lib.Dec.{ltb}
use lib.ListN.{length, take, drop, get_or}
use Rattle.reading.specs.Lists.{any}
use Rattle.reading.specs.declared.Place.{Place}
use Rattle.reading.specs.declared.Rule.{Rule}
use Rattle.reading.specs.Text.{part_of}
use Rattle.reading.specs.Walk.{no_action}
use Rattle.reading.specs.Controls as reading
use Rattle.control.specs.declared.state.Controls.{Controls}
use Rattle.control.specs.ControlsStruct.{controls_of}
use Rattle.lists.proofs.Tests.{or-false-is}
use Rattle.apply.specs.Append.{Changed}
use Rattle.apply.specs.UnitChanges.{rule_adds}
use Rattle.apply.proofs.append.ChangedLaws.{or_assoc, changed-as, changed_then}
use Rattle.apply.proofs.changes.CodeLaws.{slice, codes-are, codes-from}
use Rattle.apply.specs.UnitCodes.{Source, applied_code, applied_codes, rule_by_codes}
use Rattle.apply.proofs.run.StepLaws.{Grown, coded-grown}

pub codes-grown : (s : Source) (i : ℕ) (codes : List ℕ) (x : reading.Controls) → Grown x (applied_codes s i codes x)
codes-grown s i [] x = omega arith
codes-grown s i (code ∷ codes) x =
    let at : Place = record { phase = s.phase; position = i } in
    let value = part_of s.text (get_or s.actions i no_action).value in
    omega (arith, coded-grown at value code x, codes-grown s (suc i) codes (applied_code at value code x))

pub rule-grown : (s : Source) (codes : List ℕ) (r : Rule) (x : reading.Controls) → Grown x (rule_by_codes s codes r x)
unfolding rule_by_codes
rule-grown s codes r x = codes-grown s r.first (take r.count (drop r.first codes)) x

-- whether a code adds ranges
abbrev pub is_adding : ℕ → Bool
is_adding code = ltb 17 code

-- the codes up to i gone over: r is what they made of c, and what the others make of r is what all make of c; f and f' say whether ranges
-- were added before the first and after these
pub record Going (source : Source) (codes : List ℕ) (f : Bool) (c : Controls) (f' : Bool) (r : Controls) (i end : ℕ) (whole : reading.Controls)
    (adds : Bool) : Type 0 where
  pub so_far : Bool
  pub kept : Changed so_far f c f' r (controls_of r)
  pub rest : applied_codes source i (slice i end codes) (controls_of r) ≡ whole
  pub adds-rest : (so_far || any is_adding (slice i end codes)) ≡ adds

module _ (source : Source) (codes : List ℕ) (f : Bool) (c : Controls) (f' : Bool) (r : Controls) (i end : ℕ) (whole : reading.Controls) (adds : Bool)
    (h : i < end) (k : end ≤ length codes) (going : Going source codes f c f' r i end whole adds) where
  abbrev here : Place
  here = record { phase = source.phase; position = i }

  abbrev value : List ℕ
  value = part_of source.text (get_or source.actions i no_action).value

  -- one code more, by what it makes of the controls
  next : (y : reading.Controls) → applied_code here value (get_or codes i 0) (controls_of r) ≡ y
      → applied_codes source (i + 1) (slice (i + 1) end codes) y ≡ whole
  next y e =
      let step : applied_codes source i (get_or codes i 0 ∷ slice (i + 1) end codes) (controls_of r) ≡ whole
      = sym (ap (λ (l : List ℕ). applied_codes source i l (controls_of r)) (codes-from codes i end h k)) ∙ going.rest in
      ap (λ (j : ℕ). applied_codes source j (slice (i + 1) end codes) y) (add-one i)
      ∙ (ap (applied_codes source (suc i) (slice (i + 1) end codes)) (sym e) ∙ step)

  next-adds : ((going.so_far || is_adding (get_or codes i 0)) || any is_adding (slice (i + 1) end codes)) ≡ adds
  next-adds =
      or_assoc going.so_far (is_adding (get_or codes i 0)) (any is_adding (slice (i + 1) end codes))
      ∙ (sym (ap (λ (l : List ℕ). going.so_far || any is_adding l) (codes-from codes i end h k)) ∙ going.adds-rest)

  -- r' is what the turn leaves
  pub going_more : (f'' : Bool) (r' : Controls) → Changed (is_adding (get_or codes i 0)) f' r f'' r' (applied_code here value (get_or codes i 0) (controls_of r))
      → Going source codes f c f'' r' (i + 1) end whole adds
  going_more f'' r' b =
      let g = coded-grown here value (get_or codes i 0) (controls_of r) in
      record {
        so_far = going.so_far || is_adding (get_or codes i 0);
        kept = changed-as refl (sym b.meaning) (changed_then going.kept b g);
        rest = next (controls_of r') (sym b.meaning);
        adds-rest = next-adds;
      }

-- after the rule's last code
pub going_end : (source : Source) (codes : List ℕ) (rule : Rule) (f : Bool) (c : Controls) (f' : Bool) (r : Controls) (i end : ℕ)
    → end ≤ i → end ≡ rule.first + min rule.count (length codes - rule.first)
    → Going source codes f c f' r i end (applied_codes source rule.first (slice rule.first end codes) (controls_of c))
    (any is_adding (slice rule.first end codes))
    → Changed (rule_adds codes rule) f c f' r (rule_by_codes source codes rule (controls_of c))
unfolding rule_by_codes rule_adds
going_end source codes rule f c f' r i end h e going =
    let z : end - i ≡ 0 = omega arith in
    let last : controls_of r ≡ applied_codes source rule.first (slice rule.first end codes) (controls_of c)
    = rw z at going.rest in
    let all : (going.so_far || false) ≡ any is_adding (slice rule.first end codes) = rw z at going.adds-rest in
    changed-as
    (sym (or-false-is going.so_far) ∙ (all ∙ ap (any is_adding) (codes-are codes rule end e)))
    (last ∙ ap (λ (l : List ℕ). applied_codes source rule.first l (controls_of c)) (codes-are codes rule end e))
    going.kept
