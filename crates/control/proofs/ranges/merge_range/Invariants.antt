use Rattle.control.proofs.ranges.MergingLaws.{Sofar}
use Rattle.control.proofs.ranges.merge_range.Given as goal

abbrev pub invariant-loop-i : goal.invariant-loop-i
invariant-loop-i l =
    Sofar l.count (record { start = l.initial.start; end = l.initial.end }) l.initial.starts l.initial.ends l.starts l.ends l.start l.end l.kept l.i
