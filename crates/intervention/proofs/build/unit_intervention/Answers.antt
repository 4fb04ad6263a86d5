use Rattle.reading.specs.Records.{journal_list, matched_in}
use Rattle.intervention.proofs.build.UnitLaws.{unit-is}
use Rattle.intervention.proofs.build.unit_intervention.Goals as goal

pub returns : goal.returns
returns c markers text outcomes =
    let given = c.args in
    let unit = matched_in (journal_list given.members.now) in
    unit-is given.call given.rules.now given.actions.now markers text outcomes unit
    c.starter_of-starter.ensures c.closer_of-closer.ensures
    c.rule_at.ensures c.rule_at-2.ensures
    c.execute_actions-done.ensures.disruptive c.execute_actions-done.ensures.metadata
    c.rule_id-closing.ensures c.address_of.ensures c.if_different.ensures
    c.status_of.ensures c.is_drop.ensures
