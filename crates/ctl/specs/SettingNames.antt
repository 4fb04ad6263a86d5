-- How a setting, or where a target is cut, stands for the definition of a directive.
use Rattle.std.specs.Prelude.{ℕ, Option, Some, None}
use Rattle.reading.specs.declared.BodyProcessor.{BodyProcessor}
use Rattle.reading.specs.declared.BodyAccess.{BodyAccess}
use Rattle.reading.specs.declared.RuleEngineMode.{RuleEngineMode}
use Rattle.reading.specs.declared.UnsupportedReason.{UnsupportedReason}
use Rattle.reading.specs.declared.CtlDirective.{CtlDirective}
use Rattle.reading.specs.Directive.{Directive, rule_engine, request_body_access, request_body_processor, unsupported}

-- the directive that sets a mode, an access or a processor; none is unsupported
abbrev pub engine_by : Option RuleEngineMode → Directive
engine_by (Some m) = rule_engine m
engine_by None = unsupported UnsupportedReason.ModeValue

abbrev pub access_by : Option BodyAccess → Directive
access_by (Some a) = request_body_access a
access_by None = unsupported UnsupportedReason.BodyAccessValue

abbrev pub processor_by : Option BodyProcessor → Directive
processor_by (Some p) = request_body_processor p
processor_by None = unsupported UnsupportedReason.Processor

-- the directive of a target, by where its value is cut; what is no target is unsupported
abbrev pub target_by : Option ℕ → CtlDirective
target_by (Some cut) = CtlDirective.RuleRemoveTargetById cut
target_by None = CtlDirective.Unsupported UnsupportedReason.TargetForm
