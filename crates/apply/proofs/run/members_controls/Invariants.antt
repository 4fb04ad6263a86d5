use Rattle.reading.specs.Records.{rule_list, action_list}
use Rattle.apply.specs.Append.{struct_of}
use Rattle.apply.proofs.run.UnitLaws.{Across}
use Rattle.apply.proofs.run.members_controls.Given as goal

abbrev pub invariant-loop-i : goal.invariant-loop-i
invariant-loop-i l =
    Across (record { phase = l.phase; text = l.text; actions = action_list l.actions }) l.codes (rule_list l.rules) l.entries
    l.initial.r.added (struct_of l.initial.r l.initial.arrays.starts l.initial.arrays.ends l.initial.arrays.phases l.initial.arrays.positions) l.r.added (struct_of l.r l.arrays.starts l.arrays.ends l.arrays.phases l.arrays.positions) l.i
