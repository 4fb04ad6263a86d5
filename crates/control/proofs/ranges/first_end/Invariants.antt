use Prim.Native.Nat.{◌-◌}
use Rattle.control.proofs.ranges.HalvingLaws.{Searching}
use Rattle.control.proofs.ranges.first_end.Given as goal

abbrev pub invariant-loop-low : goal.invariant-loop-low
invariant-loop-low l = Searching l.ends l.count l.id l.low l.high

abbrev pub decreases-loop-low : goal.decreases-loop-low
decreases-loop-low l = l.high - l.low
