use Rattle.std.proofs.Common.{rules, ◌/◌, sym, refl, arith, length, get_or, ◌∙◌}
use borrow.Author.Tests.{tests}
use Rattle.std.proofs.lemmas.Iterator.{YieldsList-from_range}
use Rattle.std.proofs.lemmas.Iterator.Search.{any_from_yields_List}
use Rattle.reading.specs.Records.{rule_list}
use Rattle.reading.specs.Call.{no_rule}
use Rattle.reading.specs.Refusals.{bad_rule}
use Rattle.lists.proofs.RecordLaws.{length-rules}
use Rattle.refusals.proofs.rule_checks.AnyLaws.{any-indexed}
use Rattle.refusals.proofs.rule_checks.any_bad_rule.Goals as goal

pub returns : goal.returns
returns c =
    let words = c.args.rules.now in
    let n = length words / 5 in
    let bad = bad_rule c.args.actions in
    any_from_yields_List (λ i. bad (get_or (rule_list words) i no_rule)) _ _ _ c.any.ensures.ran
    (YieldsList-from_range 0 n n refl (omega arith)) (λ x b q k. search (rules, tests))
    ∙ any-indexed bad (rule_list words) no_rule n (sym (length-rules words))
