use Prim.Native.Nat.{◌-◌, ◌≤◌}
use mathlib.Core.Path.{◌≡◌}
use lib.ListN.{length, drop}
use Rattle.reading.specs.Directive.{removal_value}
use Rattle.ctl.specs.CountRanges.{count_in}
use Rattle.ctl.proofs.range_count.Passing.{scan}
use Rattle.ctl.proofs.range_count.count_ranges.Given as goal

abbrev pub invariant-loop-i : goal.invariant-loop-i
invariant-loop-i l =
    (l.i ≤ length l.value) × (l.n ≤ l.i) × (count_in (removal_value l.value) ≡ scan (drop l.i l.value) l.seen l.n)

abbrev pub decreases-loop-i : goal.decreases-loop-i
decreases-loop-i l = length l.value - l.i
