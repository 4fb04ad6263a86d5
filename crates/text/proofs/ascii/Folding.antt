-- Folding by arithmetic: a test that is computed at each byte, and the law that turns it into the rule. Assumes nothing.
use Prim.Native.Nat.{ℕ, zero, suc, ◌+◌, ◌-◌, ◌*◌, ◌/◌, ◌<◌}
use mathlib.Core.Path.{◌≡◌, refl}
use mathlib.Core.Bool.{Bool, true, false, ◌&&◌}
use native.Mathlib.Omega.{arith}
use borrow.Author.Tests.{eqb-true, eqb-false}
use lib.Dec.{eqb}
use Rattle.lists.proofs.Tests.{and-true}
use Rattle.reading.specs.Text.{fold_byte}

abbrev each_below : ℕ → (ℕ → Bool) → Bool
each_below zero test = true
each_below (suc n) test = test n && each_below n test

each_below_lem : (n : ℕ) (test : ℕ → Bool) → each_below n test ≡ true → (b : ℕ) → b < n → test b ≡ true
each_below_lem zero test e b h = absurd (omega arith)
each_below_lem (suc n) test e b h = by (eqb b n) refl (λ k. each_below_lem n test passed.1 b k)
  where
    passed : (test n ≡ true) × (each_below n test ≡ true)
    passed = and-true (test n) (each_below n test) e

    by : (t : Bool) → eqb b n ≡ t → (b < n → test b ≡ true) → test b ≡ true
    by true q below = rw (eqb-true b n q) passed.0
    by false q below =
        let k = eqb-false b n q in
        below (omega arith)

-- Each quotient is 0 and then 1, from 256 less first and from 256 less after on; between the two a byte is moved.
abbrev moved : ℕ → ℕ → ℕ → ℕ → ℕ
moved first after by b = b + ((b + first) / 256 - (b + after) / 256) * by

abbrev is_fold : ℕ → ℕ → ℕ → ℕ → Bool
is_fold first after by b = eqb (moved first after by b) (fold_byte b)

-- One law for any three numbers: the proof of `fold_byte` leaves them to the checker, which takes those of the code, so that it is the
-- code's own arithmetic that the test is computed of.
pub folds :
    (first after by : ℕ) → each_below 256 (is_fold first after by) ≡ true → (b : ℕ) → b < 256 → moved first after by b ≡ fold_byte b
folds first after by e b h = eqb-true (moved first after by b) (fold_byte b) (each_below_lem 256 (is_fold first after by) e b h)
