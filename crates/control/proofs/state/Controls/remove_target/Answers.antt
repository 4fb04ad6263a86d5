use borrow.Author.Rules.{rules}
use Rattle.reading.specs.declared.Refusal.{Refusal}
use native.Mathlib.Omega.{arith}
use borrow.Author.Tests.{le-leb}
use Rattle.control.proofs.state.HeldLaws.{target-refused, target-added}
use Rattle.control.proofs.state.Controls.remove_target.Goals as goal

pub returns-then-is_bad : goal.returns-then-is_bad
returns-then-is_bad c =
    rw c.refused.ensures (target-refused c.args.self _ c.is_bad.ensures c.args.at Refusal.Counts (rw c.if-is_bad.true) (omega arith))

pub returns-then-next-ge-TARGETS : goal.returns-then-next-ge-TARGETS
returns-then-next-ge-TARGETS c =
    rw c.refused-then-next-ge-TARGETS.ensures (target-refused c.args.self _ c.is_bad.ensures c.args.at Refusal.Targets
    (rw (c.if-is_bad.false, le-leb _ _ c.if-next-ge-TARGETS.true)) (omega arith))

pub returns : goal.returns
returns c =
    target-added c.args.self _ c.is_bad.ensures c.args.at (search rules) (search rules)
    c.if-is_bad.false c.if-next-ge-TARGETS.false
