-- The ctl directive: its supported forms and values (`CtlDirective::parse`), and what the directive reader answers.
use Rattle.std.specs.Prelude.{ℕ, min, Bool, true, false, cond, ◌||◌, List, [], ◌∷◌, map, length, ltb, leb, eqb, Option, Some, None}
use Rattle.reading.specs.Limits.{most_bytes}
use Rattle.reading.specs.declared.RuleEngineMode.{RuleEngineMode}
use Rattle.reading.specs.declared.BodyAccess.{BodyAccess}
use Rattle.reading.specs.declared.BodyProcessor.{BodyProcessor}
use Rattle.reading.specs.declared.RuleIdRange.{RuleIdRange}
use Rattle.reading.specs.declared.UnsupportedReason.{UnsupportedReason}
use Rattle.reading.specs.declared.CtlDirective.{CtlDirective}
use Rattle.reading.specs.Lists.{any, keep, over}
use Rattle.reading.specs.Text.{ascii, same, trim, fold, holds_byte, index_of, cut_before, cut_after, id_parts, any_bad, ranges_in}

-- what a directive says: a target as its id text and its target text
pub data Directive : Type 0 where
  rule_engine : RuleEngineMode → Directive
  rule_remove_by_id : List RuleIdRange → Directive
  rule_remove_target_by_id : List ℕ → List ℕ → Directive
  request_body_access : BodyAccess → Directive
  request_body_processor : BodyProcessor → Directive
  unsupported : UnsupportedReason → Directive

-- Each of the five names below has one reason for a value that it does not take. 02: "which of the seven reasons in
-- src/engine/control.rs made it unsupported: mode value, id list, target form, body access value, processor, audit, unrecognised"

-- 01: "ruleEngine: On, Off, DetectionOnly." The value is folded.
abbrev pub engine_value : List ℕ → Directive
engine_value w =
    cond (same w (ascii "on")) (rule_engine RuleEngineMode.On)
    (cond (same w (ascii "off")) (rule_engine RuleEngineMode.Off)
    (cond (same w (ascii "detectiononly")) (rule_engine RuleEngineMode.DetectionOnly) (unsupported UnsupportedReason.ModeValue)))

-- 01: "requestBodyAccess: On, Off."
abbrev pub access_value : List ℕ → Directive
access_value w =
    cond (same w (ascii "on")) (request_body_access BodyAccess.On)
    (cond (same w (ascii "off")) (request_body_access BodyAccess.Off) (unsupported UnsupportedReason.BodyAccessValue))

-- 01: "requestBodyProcessor: URLENCODED, MULTIPART, JSON, XML."
abbrev pub processor_value : List ℕ → Directive
processor_value w =
    cond (same w (ascii "urlencoded")) (request_body_processor BodyProcessor.Urlencoded)
    (cond (same w (ascii "multipart")) (request_body_processor BodyProcessor.Multipart)
    (cond (same w (ascii "json")) (request_body_processor BodyProcessor.Json)
    (cond (same w (ascii "xml")) (request_body_processor BodyProcessor.Xml) (unsupported UnsupportedReason.Processor))))

-- 01: "One bad part, start above end, or no part at all makes the whole directive unsupported."
abbrev pub removal_value : List ℕ → Directive
removal_value value =
    cond (any_bad (id_parts value) || eqb (length (ranges_in (id_parts value))) 0) (unsupported UnsupportedReason.IdList)
    (rule_remove_by_id (ranges_in (id_parts value)))

-- 01: "ruleRemoveTargetById: cut at the first ";", both sides trimmed and not empty." ";" is 3B.
abbrev pub target_sides : List ℕ → List ℕ → Directive
target_sides id target =
    cond (eqb (length id) 0 || eqb (length target) 0) (unsupported UnsupportedReason.TargetForm) (rule_remove_target_by_id id target)

abbrev pub target_value : List ℕ → Directive
target_value value =
    cond (holds_byte 59 value) (target_sides (trim (cut_before 59 value)) (trim (cut_after 59 value)))
    (unsupported UnsupportedReason.TargetForm)

-- 01: "All else, auditEngine and auditLogParts included, is unsupported"; 02 has a reason of their own for these two
abbrev pub other_named : List ℕ → Directive
other_named name =
    cond (same name (ascii "auditengine")) (unsupported UnsupportedReason.Audit)
    (cond (same name (ascii "auditlogparts")) (unsupported UnsupportedReason.Audit) (unsupported UnsupportedReason.Unrecognised))

-- by the folded name and the trimmed value. 01: "These fold too."
abbrev pub directive_named : List ℕ → List ℕ → Directive
directive_named name value =
    cond (same name (ascii "ruleengine")) (engine_value (fold value))
    (cond (same name (ascii "ruleremovebyid")) (removal_value value)
    (cond (same name (ascii "ruleremovetargetbyid")) (target_value value)
    (cond (same name (ascii "requestbodyaccess")) (access_value (fold value))
    (cond (same name (ascii "requestbodyprocessor")) (processor_value (fold value)) (other_named name)))))

-- 01: "Directive and value are trimmed ... The directive names are compared with fixed spellings after ASCII folding."
unfoldable pub directive_of : List ℕ → List ℕ → Directive
directive_of name value = directive_named (fold (trim name)) (trim value)

-- the reason that goes by a folded name: no value is looked at (`reason-by-name` in crates/theorems)
abbrev pub reason_named : List ℕ → UnsupportedReason
reason_named name =
    cond (same name (ascii "ruleengine")) UnsupportedReason.ModeValue
    (cond (same name (ascii "ruleremovebyid")) UnsupportedReason.IdList
    (cond (same name (ascii "ruleremovetargetbyid")) UnsupportedReason.TargetForm
    (cond (same name (ascii "requestbodyaccess")) UnsupportedReason.BodyAccessValue
    (cond (same name (ascii "requestbodyprocessor")) UnsupportedReason.Processor
    (cond (same name (ascii "auditengine") || same name (ascii "auditlogparts")) UnsupportedReason.Audit UnsupportedReason.Unrecognised)))))

abbrev pub is_supported : Directive → Bool
is_supported (rule_engine m) = true
is_supported (rule_remove_by_id rs) = true
is_supported (rule_remove_target_by_id id target) = true
is_supported (request_body_access a) = true
is_supported (request_body_processor p) = true
is_supported (unsupported r) = false

-- why a directive is unsupported: one reason, or none where it is supported
abbrev pub reasons_of : Directive → List UnsupportedReason
reasons_of (rule_engine m) = []
reasons_of (rule_remove_by_id rs) = []
reasons_of (rule_remove_target_by_id id target) = []
reasons_of (request_body_access a) = []
reasons_of (request_body_processor p) = []
reasons_of (unsupported r) = r ∷ []

-- the ranges of a supported ruleRemoveById and their count, and how many targets a supported ruleRemoveTargetById adds
abbrev pub ranges_of : Directive → List RuleIdRange
ranges_of (rule_engine m) = []
ranges_of (rule_remove_by_id rs) = rs
ranges_of (rule_remove_target_by_id id target) = []
ranges_of (request_body_access a) = []
ranges_of (request_body_processor p) = []
ranges_of (unsupported r) = []

abbrev pub range_count : Directive → ℕ
range_count d = length (ranges_of d)

abbrev pub target_count : Directive → ℕ
target_count (rule_engine m) = 0
target_count (rule_remove_by_id rs) = 0
target_count (rule_remove_target_by_id id target) = 1
target_count (request_body_access a) = 0
target_count (request_body_processor p) = 0
target_count (unsupported r) = 0

-- THE DIRECTIVE READER, a call of its own on two texts and two lent lists, of starts and of ends.

-- 01: refusal 6, "a byte of 80 (hexadecimal) or more"
abbrev pub is_high : ℕ → Bool
is_high b = leb 128 b

-- 01: "The directive reader gives only 2 (either text too long), 6, and 7 (its range list is shorter than the supported ranges..)"
unfoldable pub reader_answer : List ℕ → List ℕ → ℕ → ℕ
reader_answer name value room =
    cond (ltb most_bytes (length name) || ltb most_bytes (length value)) 2
    (cond (any is_high name || any is_high value) 6
    (cond (ltb room (length (ranges_of (directive_of name value)))) 7 0))

-- 01: "the directive's answer is an enum without it, and ranges go to a lent list"
abbrev pub without_lists : List ℕ → Directive → CtlDirective
without_lists value (rule_engine m) = CtlDirective.RuleEngine m
without_lists value (rule_remove_by_id rs) = CtlDirective.RuleRemoveById (length rs)
without_lists value (rule_remove_target_by_id id target) = CtlDirective.RuleRemoveTargetById (index_of 59 value)
without_lists value (request_body_access a) = CtlDirective.RequestBodyAccess a
without_lists value (request_body_processor p) = CtlDirective.RequestBodyProcessor p
without_lists value (unsupported r) = CtlDirective.Unsupported r

abbrev pub start_of : RuleIdRange → ℕ
start_of r = r.start

abbrev pub end_of : RuleIdRange → ℕ
end_of r = r.end

-- what a call of the reader answers and leaves in the two lists. 01: "which go to its start". Beside 2, 6 and 7 there is no directive,
-- and so no reason (docs/DECISIONS.md, D174).
pub record ReaderOutcome : Type 0 where
  pub answer : ℕ
  pub directive : Option CtlDirective
  pub starts : List ℕ
  pub ends : List ℕ

unfoldable pub reader_outcome : List ℕ → List ℕ → List ℕ → List ℕ → ReaderOutcome
reader_outcome name value starts ends =
    let answer = reader_answer name value (min (length starts) (length ends)) in
    let d = directive_of name value in
    let new = keep (eqb answer 0) (ranges_of d) in
    record {
      answer = answer;
      directive = cond (eqb answer 0) (Some (without_lists value d)) None;
      starts = over starts (map start_of new);
      ends = over ends (map end_of new);
    }
