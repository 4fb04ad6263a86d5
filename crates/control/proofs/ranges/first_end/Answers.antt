use Rattle.control.proofs.ranges.HalvingLaws.{search-start, search-up, search-down, search-done}
use Rattle.control.proofs.ranges.first_end.Goals as goal

pub loop-low-init : goal.loop-low-init
loop-low-init c = search-start _ _ _ c.requires

pub loop-low-preserved-then-ends-middle : goal.loop-low-preserved-then-ends-middle
loop-low-preserved-then-ends-middle c =
    search-up _ _ _ _ _ c.loop-low-test.true c.if-ends-middle.true c.loop-low.invariant

pub loop-low-preserved : goal.loop-low-preserved
loop-low-preserved c =
    search-down _ _ _ _ _ c.loop-low-test.true c.if-ends-middle.false c.loop-low.invariant

pub returns : goal.returns
returns c = search-done _ _ _ _ _ c.loop-low-test.false c.loop-low.invariant
