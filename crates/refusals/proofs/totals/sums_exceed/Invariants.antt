use Rattle.refusals.proofs.totals.Exceeding.{Left}
use Rattle.refusals.proofs.totals.sums_exceed.Given as goal

abbrev pub invariant-loop-first : goal.invariant-loop-first
invariant-loop-first g l = Left g.C.Weighed.weight l.codes l.rules l.held l.limit l.left l.first-index
