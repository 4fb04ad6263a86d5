use Rattle.control.proofs.ranges.MergingLaws.{Taking}
use Rattle.control.proofs.ranges.merge_after.Given as goal

abbrev pub invariant-loop-i : goal.invariant-loop-i
invariant-loop-i l = Taking l.held l.all l.initial.starts l.initial.ends l.starts l.ends l.count l.i
