use Rattle.unit.proofs.visit.FoundLaws.{past, missed, failed, waits, breaks, closes, passes}
use Rattle.unit.proofs.visit.visit.Goals as goal

pub returns-then-rules-next : goal.returns-then-rules-next
returns-then-rules-next c = past c.args.rules.now c.args.at
    c.args.visits c.args.found c.passing.result c.if-rules-next.true
    c.passing.ensures

pub returns-in-Missed : goal.returns-in-Missed
returns-in-Missed c = missed c.args.rules.now
    c.args.at
    c.args.visits
    c.args.found
    c.entry_of-first.result
    c.entry_of-first.ensures c.passing-in-Missed.result
    c.if-rules-next.false c.in-Missed.is
    c.after_chain.result c.after_chain.ensures c.passing-in-Missed.ensures

pub returns-in-Matched : goal.returns-in-Matched
returns-in-Matched c = waits c.args.rules.now
    c.args.at
    c.args.visits
    c.args.found
    c.entry_of-first.result
    c.entry_of-first.ensures c.passing-in-Matched.result
    c.if-rules-next.false c.if-link-eq1.true c.in-Matched.is
    c.passing-in-Matched.ensures

pub returns-in-Matched-2 : goal.returns-in-Matched-2
returns-in-Matched-2 c = closes c.args.rules.now
    c.args.at
    c.args.visits
    c.args.found
    c.entry_of-first.result
    c.entry_of-first.ensures c.closing.result
    c.if-rules-next.false c.if-link-eq1.false c.in-Matched.is
    c.closing.ensures

pub returns-in-Removed : goal.returns-in-Removed
returns-in-Removed c = breaks c.args.rules.now
    c.args.at
    c.args.visits
    c.args.found
    c.entry_of-first.result
    c.entry_of-first.ensures c.passing-in-Removed.result
    c.if-rules-next.false c.if-link-eq1-2.true
    c.in-Removed.is c.after_chain-in-Removed.result c.after_chain-in-Removed.ensures
    c.passing-in-Removed.ensures

pub returns-in-Removed-2 : goal.returns-in-Removed-2
returns-in-Removed-2 c = passes c.args.rules.now
    c.args.at
    c.args.visits
    c.args.found
    c.entry_of-first.result
    c.entry_of-first.ensures c.passing-in-Removed-2.result
    c.if-rules-next.false c.if-link-eq1-2.false c.in-Removed-2.is
    c.passing-in-Removed-2.ensures

pub returns-in-Error : goal.returns-in-Error
returns-in-Error c = failed c.args.rules.now
    c.args.at
    c.args.visits
    c.args.found
    c.entry_of-first.result c.entry_of-first.ensures
    c.passing-in-Error.result c.if-rules-next.false c.in-Error.is c.passing-in-Error.ensures
