use Rattle.refusals.proofs.totals.Following.{Follows}
use Rattle.refusals.proofs.totals.follow.Given as goal

abbrev pub invariant-loop-first : goal.invariant-loop-first
invariant-loop-first l = Follows l.actions l.rules l.end l.first-index
