use native.Mathlib.Omega.{arith}
use Rattle.control.proofs.ranges.HalvingLaws.{found_none, found-empty, found_below, found_at, found-not}
use Rattle.control.proofs.ranges.is_removed.Goals.{then-count-eq0-via-then-count-eq0, then-count-eq0-via-else-count-eq0+then-number-starts}
use Rattle.control.proofs.ranges.is_removed.Goals as goal

pub returns-in_default : goal.returns-in_default
returns-in_default c = found_none _ _ _ _ c.in_default.is

pub returns-then-count-eq0 : goal.returns-then-count-eq0
returns-then-count-eq0 c = elim c.then-count-eq0.branch [
  | then-count-eq0-via-then-count-eq0 w ↦ found-empty _ _ _ _ (omega (arith, w.if-count-eq0.true))
  | then-count-eq0-via-else-count-eq0+then-number-starts w ↦ found_below _ _ _ _ _ c.in-Some.is w.if-number-starts.true
]

pub returns-then-at-in_use : goal.returns-then-at-in_use
returns-then-at-in_use c =
    rw (← c.min-in_use.ensures)
    (found_at c.min-in_use.result _ _ _ _ c.in-Some.is c.if-number-starts.false _ c.first_end-at.ensures c.if-at-in_use.true)

pub returns-else-at-in_use : goal.returns-else-at-in_use
returns-else-at-in_use c =
    rw (← c.min-in_use.ensures)
    (found-not c.min-in_use.result _ _ _ _ c.in-Some.is c.if-number-starts.false _ c.first_end-at.ensures c.if-at-in_use.false)
