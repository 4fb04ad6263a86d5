use native.Mathlib.Omega.{arith}
use lib.Seq.{lt-length-set}
use Rattle.refusals.proofs.totals.Summing.{sofar-more}
use Rattle.refusals.proofs.totals.prefix_sums.Goals as goal

pub loop-i-preserved : goal.loop-i-preserved
loop-i-preserved g c =
    sofar-more _ _ _ (lt-length-set c.args.sums.now 0 0 c.requires.0) _ _ c.loop-i.i _ (omega arith) c.weight-sum.ensures.0
    c.weight-sum.ensures.1 c.loop-i.invariant
