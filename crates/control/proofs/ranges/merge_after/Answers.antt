use mathlib.Core.Path.{refl}
use Rattle.control.proofs.ranges.MergingLaws.{taken_start, taken_more, merge-all}
use Rattle.control.proofs.ranges.merge_after.Goals as goal

pub loop-i-init : goal.loop-i-init
loop-i-init c =
    taken_start _ _ _ _ (record { in_order = c.if-all-held.false; in-starts = c.if-starts-all.false; in-ends = c.if-ends-all.false })

pub loop-i-preserved : goal.loop-i-preserved
loop-i-preserved c =
    taken_more _ _ _ _ (record { in_order = c.if-all-held.false; in-starts = c.if-starts-all.false; in-ends = c.if-ends-all.false })
    _ _ _ _ c.loop-i.invariant c.loop-i-test.true _ _ refl refl _ _ _ c.merge_range-count.ensures

pub returns : goal.returns
returns c =
    merge-all _ _ _ _ (record { in_order = c.if-all-held.false; in-starts = c.if-starts-all.false; in-ends = c.if-ends-all.false })
    _ _ _ _ c.loop-i.invariant c.loop-i-test.false _ _ (c.fill.ensures.after (λ y e. e)) (c.fill-2.ensures.after (λ y e. e))
