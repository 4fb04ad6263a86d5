use Rattle.unit.proofs.close.CloseLaws.{closed-now}
use Rattle.unit.proofs.close.close_unit.Goals as goal

pub returns : goal.returns
returns c =
    let a = c.args in
    let r = c.rule_at-starter in
    let i = c.rule_id-id in
    let p = c.put_id-listed in
    let w = c.put_entries-written in
    let x = c.execute_actions-acts in
    closed-now a.call a.rules.now a.actions.now a.markers.now a.text.now a.outcomes.now
    a.members.now a.past a.ids.now a.entries.now
    r.result (rw c.starter_of.ensures at r.ensures) i.result i.ensures p.result w.result
    c.after_flow-next.result x.result.flow x.result.disruptive _ _ p.ensures.value p.ensures.ids_after w.ensures
    x.ensures.flow x.ensures.disruptive (c.after_flow-next.ensures a.call a.outcomes.now)
