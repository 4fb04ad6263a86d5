use Rattle.refusals.proofs.totals.Summing.{Sofar}
use Rattle.refusals.proofs.totals.prefix_sums.Given as goal

abbrev pub invariant-loop-i : goal.invariant-loop-i
invariant-loop-i g l = Sofar g.C.Weighed.weight l.codes l.initial.sums l.sums l.sum l.i
