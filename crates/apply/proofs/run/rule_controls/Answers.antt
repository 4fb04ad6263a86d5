use native.Mathlib.Omega.{arith}
use Rattle.apply.proofs.run.RuleLaws.{going_more, going_end}
use Rattle.apply.proofs.run.rule_controls.Goals as goal

pub loop-i-preserved : goal.loop-i-preserved
loop-i-preserved c =
    let l = c.loop-i in (
      omega (arith, l.invariant.0),
      going_more _ _ _ _ _ _ l.i _ _ _ c.loop-i-test.true (omega (arith, c.codes_end-end.ensures, c.loop-i-test.true, c.loop-i.invariant.0)) l.invariant.1 _ _ c.apply-r.ensures,
    )

pub returns : goal.returns
returns c =
    let l = c.loop-i in
    going_end _ _ c.args.rule _ _ _ _ l.i _ c.loop-i-test.false
    c.codes_end-end.ensures l.invariant.1
