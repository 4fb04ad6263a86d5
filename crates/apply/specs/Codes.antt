-- One small number for each action: what it does to the controls. The text of a ctl action is read once in a call, for this.
use Rattle.std.specs.Prelude.{ℕ, ◌+◌, min, ◌≡◌, Bool, cond, ◌&&◌, List, map, leb, eqb}
use Rattle.reading.specs.declared.Action.{Action}
use Rattle.reading.specs.declared.CtlDirective.{CtlDirective}
use Rattle.reading.specs.declared.RuleEngineMode.{RuleEngineMode}
use Rattle.reading.specs.declared.BodyAccess.{BodyAccess}
use Rattle.reading.specs.declared.BodyProcessor.{BodyProcessor}
use Rattle.reading.specs.Numbers.{reason_number}
use Rattle.reading.specs.Text.{part_of}
use Rattle.reading.specs.Directive.{directive_of, without_lists}

-- The number of its reason, 1 to 7, for an unsupported directive; the others begin at 8. Ranges are counted no further than 257: more
-- than 256 are refused wherever a rule has the action.
abbrev pub code_of : CtlDirective → ℕ
code_of (CtlDirective.RuleEngine RuleEngineMode.On) = 8
code_of (CtlDirective.RuleEngine RuleEngineMode.DetectionOnly) = 9
code_of (CtlDirective.RuleEngine RuleEngineMode.Off) = 10
code_of (CtlDirective.RequestBodyAccess BodyAccess.On) = 11
code_of (CtlDirective.RequestBodyAccess BodyAccess.Off) = 12
code_of (CtlDirective.RequestBodyProcessor BodyProcessor.Urlencoded) = 13
code_of (CtlDirective.RequestBodyProcessor BodyProcessor.Multipart) = 14
code_of (CtlDirective.RequestBodyProcessor BodyProcessor.Json) = 15
code_of (CtlDirective.RequestBodyProcessor BodyProcessor.Xml) = 16
code_of (CtlDirective.RuleRemoveTargetById cut) = 17
code_of (CtlDirective.RuleRemoveById n) = 18 + min n 257
code_of (CtlDirective.Unsupported r) = reason_number r

-- the directive of a ctl action, without its lists
abbrev pub read_in : List ℕ → Action → CtlDirective
read_in text a = without_lists (part_of text a.value) (directive_of (part_of text a.text) (part_of text a.value))

-- 19 ctl; 0 for an action of another kind
unfoldable pub code_at : List ℕ → Action → ℕ
code_at text a = cond (eqb a.kind 19) (code_of (read_in text a)) 0

-- whether two actions have the same two parts of the text
abbrev pub same_texts : Action → Action → Bool
same_texts b a =
    eqb b.text.start a.text.start
    && eqb b.text.len a.text.len
    && eqb b.value.start a.value.start
    && eqb b.value.len a.value.len

-- a number that is 0, or the code of an action
abbrev pub IsCodeOf : List ℕ → Action → ℕ → Type 0
IsCodeOf text a code = (code ≡ 0 → ⊥) → code ≡ code_at text a

-- the code of an unsupported directive
abbrev pub is_reason : ℕ → Bool
is_reason code = leb 1 code && leb code 7

abbrev pub codes_of : List ℕ → List Action → List ℕ
codes_of text actions = map (code_at text) actions
