use Rattle.reading.specs.Records.{rule_list}
use Rattle.report.proofs.unsupported.UnitLaws.{Held}
use Rattle.report.proofs.unsupported.first_unsupported.Given as goal

abbrev pub invariant-loop-index : goal.invariant-loop-index
invariant-loop-index l = Held l.codes (rule_list l.rules) l.entries l.held l.index-index
