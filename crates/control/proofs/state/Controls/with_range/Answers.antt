use borrow.Author.Rules.{rules}
use Rattle.control.proofs.state.HeldLaws.{range-merged}
use Rattle.control.proofs.state.Controls.with_range.Goals as goal

pub returns : goal.returns
returns c =
    range-merged c.args.self c.args.range (search rules) (search rules) c.requires _ _ _
    (rw (c.clear_once.ensures, c.clear_once-2.ensures) at c.merge_after.ensures)
