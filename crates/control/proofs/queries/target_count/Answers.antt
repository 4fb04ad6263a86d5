use mathlib.Core.Path.{sym}
use Rattle.control.proofs.state.HeldLaws.{targets-length}
use Rattle.control.proofs.queries.Asking.{gives}
use Rattle.control.proofs.queries.target_count.Goals as goal

pub returns : goal.returns
returns c = gives _ _ _ _ c.in_ok-check_controls.ensures (sym (targets-length c.args.c))
