use mathlib.Core.Path.{ap}
use mathlib.Core.Bool.{false}
use Rattle.reading.specs.Numbers.{answer_number}
use Rattle.reading.specs.Controls.{add_target_answer, with_target}
use Rattle.host.proofs.export_updates.Additions.{added}
use Rattle.host.proofs.export_updates.tivembo_remove_target.Goals as goal

pub returns : goal.returns
returns c =
    added false c.args.c (λ x. add_target_answer x)
    (λ x. with_target x (record { phase = c.args.phase; position = c.args.position })) c.in_default.ensures _ c.from.ensures _
    c.remove_target-added.ensures _ (ap answer_number c.in_default-answer.is) c.into.ensures
