use Rattle.reading.specs.declared.Refusal.{Refusal}
use native.Mathlib.Omega.{arith}
use borrow.Author.Tests.{lt-ltb, le-ltb, le-leb}
use Rattle.control.proofs.state.HeldLaws.{range-refused, range-added}
use Rattle.control.proofs.state.Controls.remove_range.Goals as goal

pub returns-then-is_bad : goal.returns-then-is_bad
returns-then-is_bad c =
    rw c.refused.ensures (range-refused c.args.self _ c.is_bad.ensures c.args.range Refusal.Counts (rw c.if-is_bad.true) (omega arith))

pub returns-then-range : goal.returns-then-range
returns-then-range c =
    rw c.refused-then-range.ensures (range-refused c.args.self _ c.is_bad.ensures c.args.range Refusal.Record (rw (c.if-is_bad.false, lt-ltb _ _ c.if-range.true)) (omega arith))

pub returns-then-at-ge-RANGES : goal.returns-then-at-ge-RANGES
returns-then-at-ge-RANGES c =
    rw c.refused-then-at-ge-RANGES.ensures (range-refused c.args.self _ c.is_bad.ensures c.args.range Refusal.Ranges
    (rw (c.if-is_bad.false, le-ltb _ _ c.if-range.false, le-leb _ _ c.if-at-ge-RANGES.true)) (omega arith))

pub returns : goal.returns
returns c =
    range-added c.args.self _ c.is_bad.ensures c.args.range _ c.if-is_bad.false c.if-range.false c.if-at-ge-RANGES.false
    c.with_range.ensures
