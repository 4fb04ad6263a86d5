use Prim.Native.Nat.{◌≤◌}
use mathlib.Core.Path.{◌≡◌}
use Rattle.report.proofs.unsupported.RuleLaws.{first_from}
use Rattle.report.proofs.unsupported.first_of_rule.Given as goal

abbrev pub invariant-loop-i : goal.invariant-loop-i
invariant-loop-i l = (l.first ≤ l.i) × (l.i ≤ l.end) × (first_from l.index l.codes l.i l.end ≡ first_from l.index l.codes l.first l.end)
