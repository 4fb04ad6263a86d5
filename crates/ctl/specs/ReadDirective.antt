-- What the reader answers, as the definitions have it.
use Rattle.std.specs.Prelude.{ℕ, List, Some, None, Result, Ok, Err}
use Rattle.reading.specs.declared.CtlDirective.{CtlDirective}
use Rattle.reading.specs.Directive.{ReaderOutcome}
use Rattle.reading.specs.declared.Refusal.{Refusal}
use Rattle.reading.specs.Numbers.{refusal_number}

-- how many ranges a directive says it has
abbrev pub ranges_counted : CtlDirective → ℕ
ranges_counted (CtlDirective.RuleEngine m) = 0
ranges_counted (CtlDirective.RuleRemoveById n) = n
ranges_counted (CtlDirective.RuleRemoveTargetById cut) = 0
ranges_counted (CtlDirective.RequestBodyAccess a) = 0
ranges_counted (CtlDirective.RequestBodyProcessor p) = 0
ranges_counted (CtlDirective.Unsupported r) = 0

-- what is found after a call: 0 and the directive, or the refusal's number and none, and the two lists
abbrev pub outcome_found : Result CtlDirective Refusal → List ℕ → List ℕ → ReaderOutcome
outcome_found (Ok d) starts ends = record { answer = 0; directive = Some d; starts = starts; ends = ends }
outcome_found (Err refusal) starts ends = record { answer = refusal_number refusal; directive = None; starts = starts; ends = ends }
