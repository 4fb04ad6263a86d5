use mathlib.Core.Path.{sym}
use Rattle.reading.specs.Call.{no_rule}
use Rattle.lists.proofs.RecordLaws.{rule-is, rule-past}
use Rattle.ruleset.proofs.rules.rule_at.Goals as goal

pub returns-then-rules-index : goal.returns-then-rules-index
returns-then-rules-index c = sym (rule-past c.args.rules.now c.args.index no_rule c.if-rules-index.true)

pub returns : goal.returns
returns c =
    let given = c.args in
    sym (rule-is given.rules.now given.index no_rule c.if-rules-index.false)
