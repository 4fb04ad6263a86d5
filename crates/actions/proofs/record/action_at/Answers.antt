use mathlib.Core.Path.{sym}
use Rattle.lists.proofs.RecordLaws.{action-is, action-past}
use Rattle.actions.proofs.record.action_at.Goals as goal

pub returns-then-actions-index : goal.returns-then-actions-index
returns-then-actions-index c = sym (action-past c.args.actions.now c.args.index c.if-actions-index.true)

pub returns : goal.returns
returns c =
    let given = c.args in
    sym (action-is given.actions.now given.index c.if-actions-index.false)
