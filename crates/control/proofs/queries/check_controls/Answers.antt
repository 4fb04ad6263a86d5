use Rattle.control.proofs.state.HeldLaws.{bad}
use Rattle.control.proofs.queries.check_controls.Goals as goal

pub returns-then-is_bad : goal.returns-then-is_bad
returns-then-is_bad c = rw (bad c.args.c.now, ← c.is_bad.ensures, c.if-is_bad.true)

pub returns : goal.returns
returns c = rw (bad c.args.c.now, ← c.is_bad.ensures, c.if-is_bad.false)
