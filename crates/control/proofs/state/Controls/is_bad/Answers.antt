use mathlib.Core.Path.{sym, ◌∙◌}
use Rattle.control.proofs.state.HeldLaws.{bad, bad-empty}
use Rattle.control.proofs.state.Controls.is_bad.Goals as goal

pub returns-then-self-eq0 : goal.returns-then-self-eq0
returns-then-self-eq0 c = bad-empty c.args.self c.if-self-eq0.true

pub returns : goal.returns
returns c = c.is_bad.ensures ∙ sym (bad _)
