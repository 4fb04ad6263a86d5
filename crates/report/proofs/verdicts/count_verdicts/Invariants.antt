use Prim.Native.Nat.{◌/◌, ◌-◌, ◌≤◌}
use lib.ListN.{length}
use Rattle.report.proofs.verdicts.CountLaws.{Counted}
use Rattle.report.proofs.verdicts.count_verdicts.Given as goal

-- of the k entries before the next, those that are not others were missed
abbrev pub invariant-loop-verdict : goal.invariant-loop-verdict
invariant-loop-verdict l =
    Counted l.entries 0 (l.verdict-index - l.others) l.verdict-index × Counted l.entries 1 l.matched l.verdict-index × Counted l.entries 2 l.removed l.verdict-index × Counted l.entries 3 l.errors l.verdict-index
    × (l.others ≤ l.verdict-index) × (l.verdict-index ≤ length l.entries / 2)
