use Prim.Native.Nat.{◌+◌}
use mathlib.Core.Path.{◌≡◌}
use lib.ListN.{drop}
use Rattle.reading.specs.Records.{rule_list}
use Rattle.reading.specs.Walk.{chain_rest}
use Rattle.ruleset.proofs.rules.after_chain.Given as goal

abbrev pub invariant-loop-i : goal.invariant-loop-i
invariant-loop-i l = l.index + chain_rest (drop l.index (rule_list l.rules)) ≡ l.i + chain_rest (drop l.i (rule_list l.rules))
