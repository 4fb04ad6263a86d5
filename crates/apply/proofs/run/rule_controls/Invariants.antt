use Prim.Native.Nat.{◌≤◌}
use Rattle.reading.specs.Lists.{any}
use Rattle.reading.specs.Records.{action_list}
use Rattle.control.specs.ControlsStruct.{controls_of}
use Rattle.apply.specs.UnitCodes.{applied_codes}
use Rattle.apply.specs.Append.{struct_of}
use Rattle.apply.proofs.changes.CodeLaws.{slice}
use Rattle.apply.proofs.run.RuleLaws.{is_adding, Going}
use Rattle.apply.proofs.run.rule_controls.Given as goal

abbrev pub invariant-loop-i : goal.invariant-loop-i
invariant-loop-i l =
    (l.first ≤ l.i)
    × Going (record { phase = l.phase; text = l.text; actions = action_list l.actions }) l.codes
    l.initial.r.added (struct_of l.initial.r l.initial.arrays.starts l.initial.arrays.ends l.initial.arrays.phases l.initial.arrays.positions) l.r.added (struct_of l.r l.arrays.starts l.arrays.ends l.arrays.phases l.arrays.positions) l.i l.end
    (applied_codes (record { phase = l.phase; text = l.text; actions = action_list l.actions }) l.first (slice l.first l.end l.codes)
    (controls_of (struct_of l.initial.r l.initial.arrays.starts l.initial.arrays.ends l.initial.arrays.phases l.initial.arrays.positions)))
    (any is_adding (slice l.first l.end l.codes))
