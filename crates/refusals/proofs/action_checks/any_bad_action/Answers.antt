use Rattle.std.proofs.Common.{rules, ◌/◌, sym, refl, arith, length, get_or, ◌∙◌}
use borrow.Author.Tests.{tests}
use Rattle.std.proofs.lemmas.Iterator.{YieldsList-from_range}
use Rattle.std.proofs.lemmas.Iterator.Search.{any_from_yields_List}
use Rattle.reading.specs.Records.{action_list}
use Rattle.reading.specs.Walk.{no_action}
use Rattle.reading.specs.Refusals.{bad_action}
use Rattle.lists.proofs.RecordLaws.{length-actions}
use Rattle.refusals.proofs.rule_checks.AnyLaws.{any-indexed}
use Rattle.refusals.proofs.action_checks.any_bad_action.Goals as goal

pub returns : goal.returns
returns c =
    let words = c.args.actions.now in
    let n = length words / 6 in
    let bad = bad_action c.args.bytes in
    any_from_yields_List (λ i. bad (get_or (action_list words) i no_action)) _ _ _ c.any.ensures.ran
    (YieldsList-from_range 0 n n refl (omega arith)) (λ x b q k. search (rules, tests))
    ∙ any-indexed bad (action_list words) no_action n (sym (length-actions words))
