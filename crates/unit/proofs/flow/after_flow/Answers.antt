use mathlib.Core.Path.{sym}
use Rattle.lists.proofs.RecordLaws.{length-rules}
use Rattle.unit.proofs.flow.FlowLaws.{flow-on, flow-skip, flow-after}
use Rattle.unit.proofs.flow.after_flow.Goals as goal

pub returns-in-Continue : goal.returns-in-Continue
returns-in-Continue c = λ call outcomes. let a = c.args in
    flow-on call a.rules.now a.actions.now a.markers.now a.text.now outcomes a.past _
    (sym (length-rules a.rules.now)) a.flow c.skip_to.result c.in-Continue.is
    c.skip_to.ensures

pub returns-in-Skip : goal.returns-in-Skip
returns-in-Skip c = λ call outcomes. let a = c.args in
    flow-skip call a.rules.now a.actions.now a.markers.now a.text.now outcomes a.past _
    (sym (length-rules a.rules.now)) a.flow c.skip_to-in-Skip.result c.in-Skip.count
    c.in-Skip.is c.skip_to-in-Skip.ensures

pub returns-in-SkipAfter : goal.returns-in-SkipAfter
returns-in-SkipAfter c = λ call outcomes. let a = c.args in
    let name = c.action_at in
    let found = c.marker in
    flow-after call a.rules.now a.actions.now a.markers.now a.text.now outcomes a.past _
    (sym (length-rules a.rules.now)) a.flow c.jump_to.result
    c.in-SkipAfter.position c.in-SkipAfter.is
    found.result (rw name.ensures at found.ensures) c.jump_to.ensures
