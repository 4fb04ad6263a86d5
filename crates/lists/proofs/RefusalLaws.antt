-- A refusal has a number, and an answer of 0 is no refusal. Assumes nothing.
use mathlib.Core.Path.{◌≡◌}
use native.Mathlib.Omega.{arith}
use Rattle.reading.specs.declared.Refusal.{Refusal}
use Rattle.reading.specs.Numbers.{refusal_number}

pub numbered : (r : Refusal) → refusal_number r ≡ 0 → ⊥
numbered Refusal.Settings e = omega arith
numbered Refusal.TooLarge e = omega arith
numbered Refusal.Counts e = omega arith
numbered Refusal.Outcomes e = omega arith
numbered Refusal.Record e = omega arith
numbered Refusal.HighByte e = omega arith
numbered Refusal.NoRoom e = omega arith
numbered Refusal.Ranges e = omega arith
numbered Refusal.Targets e = omega arith
