use mathlib.Core.Path.{sym, ◌∙◌}
use native.Mathlib.Omega.{arith}
use Rattle.ruleset.proofs.rules.ChainLaws.{chain-on, chain-closed, chain-through}
use Rattle.ruleset.proofs.rules.after_chain.Goals as goal

pub returns-then-rules-i-ne1 : goal.returns-then-rules-i-ne1
returns-then-rules-i-ne1 c =
    sym (c.loop-i.invariant ∙ chain-closed c.args.rules.now c.loop-i.i (omega arith) c.if-rules-i-ne1.true)

pub loop-i-preserved : goal.loop-i-preserved
loop-i-preserved c =
    c.loop-i.invariant ∙ chain-on c.args.rules.now c.loop-i.i (omega arith) c.if-rules-i-ne1.false

pub returns : goal.returns
returns c = c.max.ensures ∙ chain-through _ _ _ c.loop-i.invariant c.loop-i-test.false c.loop-i.auto.i-end
