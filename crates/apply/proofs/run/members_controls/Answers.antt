use Rattle.apply.proofs.run.UnitLaws.{across-more, across-end}
use Rattle.apply.proofs.run.members_controls.Goals as goal

pub loop-i-preserved : goal.loop-i-preserved
loop-i-preserved c =
    let l = c.loop-i in
    across-more _ _ _ _ _ _ _ _ l.i l.invariant _ _ c.loop-i-test.true c.entry_controls-r.ensures

pub returns : goal.returns
returns c = let l = c.loop-i in across-end _ _ _ _ _ _ _ _ l.i l.invariant c.loop-i-test.false
