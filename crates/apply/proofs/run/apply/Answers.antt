use mathlib.Core.Path.{ap, ◌∙◌}
use native.Mathlib.Omega.{arith}
use Rattle.reading.specs.declared.Action.{Action}
use Rattle.reading.specs.Text.{part_of}
use Rattle.apply.proofs.run.StepLaws.{turned_set, turned-target, turned-ranges}
use Rattle.apply.proofs.run.apply.Goals as goal

pub returns-in-0-to-16 : goal.returns-in-0-to-16
returns-in-0-to-16 c = turned_set _ _ _ _ _ _ _ _ _ (omega arith) c.set_by_code.ensures

pub returns-in-17 : goal.returns-in-17
returns-in-17 c = turned-target _ _ _ _ _ _ _ _ _ _ _ _ _ c.in-17.is c.add_target.ensures.added
    c.add_target.ensures.starts_kept c.add_target.ensures.ends_kept

pub returns-in_default : goal.returns-in_default
returns-in_default c =
    turned-ranges _ _ _ _ _ _ _ _ _ _ _ _ _ _ (omega arith) (λ z. omega arith)
    (c.part_of-value.ensures
    ∙ ap (λ (a : Action). part_of c.args.text.now a.value) c.action_at-action.ensures)
    c.add_ranges.ensures.added c.add_ranges.ensures.phases_kept c.add_ranges.ensures.positions_kept
