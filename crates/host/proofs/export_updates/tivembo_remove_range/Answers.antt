use mathlib.Core.Path.{ap}
use mathlib.Core.Bool.{true}
use Rattle.reading.specs.Numbers.{answer_number}
use Rattle.reading.specs.Controls.{add_range_answer, with_range}
use Rattle.host.proofs.export_updates.Additions.{added}
use Rattle.host.proofs.export_updates.tivembo_remove_range.Goals as goal

pub returns : goal.returns
returns c =
    added true c.args.c (λ x. add_range_answer x (record { start = c.args.start; end = c.args.end }))
    (λ x. with_range x (record { start = c.args.start; end = c.args.end })) c.in_default.ensures _ c.from.ensures _
    c.remove_range-added.ensures _ (ap answer_number c.in_default-answer.is) c.into.ensures
