-- What a closed unit's actions do to the controls, by their codes.
use Rattle.std.specs.Prelude.{ℕ, suc, cond, List, [], ◌∷◌, take, drop, get_or, leb, eqb}
use Rattle.reading.specs.declared.Action.{Action}
use Rattle.reading.specs.declared.Rule.{Rule}
use Rattle.reading.specs.declared.Place.{Place}
use Rattle.reading.specs.declared.RuleEngineMode.{RuleEngineMode}
use Rattle.reading.specs.declared.BodyAccess.{BodyAccess}
use Rattle.reading.specs.declared.BodyProcessor.{BodyProcessor}
use Rattle.reading.specs.Text.{part_of, trim}
use Rattle.reading.specs.Directive.{removal_value, ranges_of}
use Rattle.reading.specs.Controls.{Controls, with_mode, with_access, with_processor}
use Rattle.reading.specs.Call.{no_rule}
use Rattle.reading.specs.Walk.{no_action}
use Rattle.apply.specs.Append.{target_if_room, ranges_if_room}

-- what a code below 17 sets: 8 to 10 the mode, 11 and 12 the body access, 13 to 16 the processor, those below 8 nothing
abbrev pub setting_by_code : ℕ → Controls → Controls
setting_by_code code c =
    cond (eqb code 8) (with_mode c RuleEngineMode.On)
    (cond (eqb code 9) (with_mode c RuleEngineMode.DetectionOnly)
    (cond (eqb code 10) (with_mode c RuleEngineMode.Off)
    (cond (eqb code 11) (with_access c BodyAccess.On)
    (cond (eqb code 12) (with_access c BodyAccess.Off)
    (cond (eqb code 13) (with_processor c BodyProcessor.Urlencoded)
    (cond (eqb code 14) (with_processor c BodyProcessor.Multipart)
    (cond (eqb code 15) (with_processor c BodyProcessor.Json)
    (cond (eqb code 16) (with_processor c BodyProcessor.Xml) c))))))))

-- the action of a code at a place, with the value that its ranges stand in: 17 adds the place as a target, 18 and more
-- adds the value's ranges, all or none
unfoldable pub applied_code : Place → List ℕ → ℕ → Controls → Controls
applied_code at value code c =
    cond (leb code 16) (setting_by_code code c)
    (cond (eqb code 17) (target_if_room c at) (ranges_if_room c (ranges_of (removal_value (trim value)))))

-- what the coded actions are lent with: the phase, the text and the actions
pub record Source : Type 0 where
  pub phase : ℕ
  pub text : List ℕ
  pub actions : List Action

-- the actions of so many codes, the first of which stands at a position
abbrev pub applied_codes : Source → ℕ → List ℕ → Controls → Controls
applied_codes s i [] c = c
applied_codes s i (code ∷ codes) c =
    applied_codes s (suc i) codes
    (applied_code (record { phase = s.phase; position = i }) (part_of s.text (get_or s.actions i no_action).value) code c)

unfoldable pub rule_by_codes : Source → List ℕ → Rule → Controls → Controls
rule_by_codes s codes r c = applied_codes s r.first (take r.count (drop r.first codes)) c

-- 01: "all members' controls in order"
abbrev pub unit_by_codes : Source → List ℕ → List Rule → List ℕ → Controls → Controls
unit_by_codes s codes rules [] c = c
unit_by_codes s codes rules (m ∷ ms) c = unit_by_codes s codes rules ms (rule_by_codes s codes (get_or rules m no_rule) c)
