-- The papers' number of each case of an enum.
use Rattle.std.specs.Prelude.{ℕ, cond, List, [], ◌∷◌, eqb, Option, Some, None, Result, Ok, Err}
use Rattle.reading.specs.declared.RuleEngineMode.{RuleEngineMode}
use Rattle.reading.specs.declared.BodyAccess.{BodyAccess}
use Rattle.reading.specs.declared.BodyProcessor.{BodyProcessor}
use Rattle.reading.specs.declared.Verdict.{Verdict}
use Rattle.reading.specs.declared.Refusal.{Refusal}
use Rattle.reading.specs.declared.DisruptiveOutcome.{DisruptiveOutcome}
use Rattle.reading.specs.declared.FlowOutcome.{FlowOutcome}
use Rattle.reading.specs.declared.UnsupportedReason.{UnsupportedReason}
use Rattle.reading.specs.declared.CtlDirective.{CtlDirective}

-- 01: "0 (On), 1 (DetectionOnly) or 2 (Off)"
abbrev pub mode_number : RuleEngineMode → ℕ
mode_number RuleEngineMode.On = 0
mode_number RuleEngineMode.DetectionOnly = 1
mode_number RuleEngineMode.Off = 2

-- the mode of a number; every number above 2 is refusal 1's
abbrev pub mode_of_number : ℕ → RuleEngineMode
mode_of_number n = cond (eqb n 0) RuleEngineMode.On (cond (eqb n 1) RuleEngineMode.DetectionOnly RuleEngineMode.Off)

-- 01: "verdict, 0 missed, 1 matched, 2 removed, 3 error"
abbrev pub verdict_number : Verdict → ℕ
verdict_number Verdict.Missed = 0
verdict_number Verdict.Matched = 1
verdict_number Verdict.Removed = 2
verdict_number Verdict.Error = 3

-- 01's kind of the action that a disruptive outcome comes from; 0 for none
abbrev pub disruptive_kind : DisruptiveOutcome → ℕ
disruptive_kind DisruptiveOutcome.Nothing = 0
disruptive_kind DisruptiveOutcome.Deny = 1
disruptive_kind DisruptiveOutcome.Block = 2
disruptive_kind DisruptiveOutcome.Pass = 3
disruptive_kind DisruptiveOutcome.Allow = 4
disruptive_kind (DisruptiveOutcome.Redirect at) = 5
disruptive_kind DisruptiveOutcome.Drop = 6

-- 01's kind of the action that a flow outcome comes from; 0 for none and for multiMatch, which is read as none
abbrev pub flow_kind : FlowOutcome → ℕ
flow_kind FlowOutcome.Continue = 0
flow_kind FlowOutcome.Chain = 7
flow_kind (FlowOutcome.Skip n) = 8
flow_kind (FlowOutcome.SkipAfter at) = 9

-- the values that a case holds: the position of a redirect or a skipAfter, the count of a skip; 0 for a case without one
abbrev pub disruptive_value : DisruptiveOutcome → ℕ
disruptive_value DisruptiveOutcome.Nothing = 0
disruptive_value DisruptiveOutcome.Deny = 0
disruptive_value DisruptiveOutcome.Block = 0
disruptive_value DisruptiveOutcome.Pass = 0
disruptive_value DisruptiveOutcome.Allow = 0
disruptive_value (DisruptiveOutcome.Redirect at) = at
disruptive_value DisruptiveOutcome.Drop = 0

abbrev pub flow_value : FlowOutcome → ℕ
flow_value FlowOutcome.Continue = 0
flow_value FlowOutcome.Chain = 0
flow_value (FlowOutcome.Skip n) = n
flow_value (FlowOutcome.SkipAfter at) = at

-- 02: "mode value, id list, target form, body access value, processor, audit, unrecognised, numbered 1 to 7"
abbrev pub reason_number : UnsupportedReason → ℕ
reason_number UnsupportedReason.ModeValue = 1
reason_number UnsupportedReason.IdList = 2
reason_number UnsupportedReason.TargetForm = 3
reason_number UnsupportedReason.BodyAccessValue = 4
reason_number UnsupportedReason.Processor = 5
reason_number UnsupportedReason.Audit = 6
reason_number UnsupportedReason.Unrecognised = 7

-- 01: "Number and order agree", from 1, an unknown phase or mode, to 9, too many targets
abbrev pub refusal_number : Refusal → ℕ
refusal_number Refusal.Settings = 1
refusal_number Refusal.TooLarge = 2
refusal_number Refusal.Counts = 3
refusal_number Refusal.Outcomes = 4
refusal_number Refusal.Record = 5
refusal_number Refusal.HighByte = 6
refusal_number Refusal.NoRoom = 7
refusal_number Refusal.Ranges = 8
refusal_number Refusal.Targets = 9

-- "the first that applies is the answer, else 0"
abbrev pub answer_number : {A : Type 0} → Result A Refusal → ℕ
answer_number (Ok x) = 0
answer_number (Err refusal) = refusal_number refusal

-- The papers give no number to the cases below; these are ours (docs/DECISIONS.md, D12).
abbrev pub access_number : BodyAccess → ℕ
access_number BodyAccess.On = 0
access_number BodyAccess.Off = 1

abbrev pub processor_number : BodyProcessor → ℕ
processor_number BodyProcessor.Urlencoded = 0
processor_number BodyProcessor.Multipart = 1
processor_number BodyProcessor.Json = 2
processor_number BodyProcessor.Xml = 3

-- a setting: 0 where it is not set, else one more than the value's number
abbrev pub mode_setting_number : Option RuleEngineMode → ℕ
mode_setting_number None = 0
mode_setting_number (Some m) = ℕ.suc (mode_number m)

abbrev pub access_setting_number : Option BodyAccess → ℕ
access_setting_number None = 0
access_setting_number (Some a) = ℕ.suc (access_number a)

abbrev pub processor_setting_number : Option BodyProcessor → ℕ
processor_setting_number None = 0
processor_setting_number (Some p) = ℕ.suc (processor_number p)

-- a directive's form
abbrev pub directive_number : CtlDirective → ℕ
directive_number (CtlDirective.Unsupported r) = 0
directive_number (CtlDirective.RuleEngine m) = 1
directive_number (CtlDirective.RuleRemoveById n) = 2
directive_number (CtlDirective.RuleRemoveTargetById cut) = 3
directive_number (CtlDirective.RequestBodyAccess a) = 4
directive_number (CtlDirective.RequestBodyProcessor p) = 5

-- and its value: a reason, mode, access or processor by its number, how many ranges, or where a target is cut
abbrev pub directive_value : CtlDirective → ℕ
directive_value (CtlDirective.Unsupported r) = reason_number r
directive_value (CtlDirective.RuleEngine m) = mode_number m
directive_value (CtlDirective.RuleRemoveById n) = n
directive_value (CtlDirective.RuleRemoveTargetById cut) = cut
directive_value (CtlDirective.RequestBodyAccess a) = access_number a
directive_value (CtlDirective.RequestBodyProcessor p) = processor_number p

-- where nothing was read both are 0, which is no reason's number (docs/DECISIONS.md, D174)
abbrev pub read_number : Option CtlDirective → ℕ
read_number None = 0
read_number (Some d) = directive_number d

abbrev pub read_value : Option CtlDirective → ℕ
read_value None = 0
read_value (Some d) = directive_value d

-- a number or none: whether there is one, and the number
abbrev pub present_number : Option ℕ → ℕ
present_number None = 0
present_number (Some n) = 1

abbrev pub number_or_zero : Option ℕ → ℕ
number_or_zero None = 0
number_or_zero (Some n) = n

abbrev pub list_of : Option ℕ → List ℕ
list_of None = []
list_of (Some n) = n ∷ []
