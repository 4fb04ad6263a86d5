use Prim.Native.Nat.{◌≤◌}
use mathlib.Core.Path.{◌≡◌}
use lib.ListN.{drop}
use Rattle.reading.specs.Text.{digits, largest}
use Rattle.text.proofs.number.Digits.{digits_from}
use Rattle.text.proofs.number.read_digits.Given as goal

abbrev pub invariant-loop-b : goal.invariant-loop-b
invariant-loop-b l = (l.v ≤ largest) × (digits l.s ≡ digits_from l.v (drop l.b-index l.s))
