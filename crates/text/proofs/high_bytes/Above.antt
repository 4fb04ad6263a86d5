-- The largest of a list's numbers. Assumes nothing.
use Prim.Native.Nat.{ℕ, max}
use mathlib.Core.Path.{◌≡◌}
use mathlib.Core.Bool.{◌||◌}
use mathlib.Core.List.{List, [], ◌∷◌}
use native.Mathlib.Omega.{arith}
use Rattle.std.proofs.lemmas.Grind.{common_steps}
use lib.Dec.{ltb}
use Rattle.std.specs.List.{fold}
use Rattle.reading.specs.Lists.{any}

above_max : (k m x : ℕ) → ltb k (max m x) ≡ (ltb k m || ltb k x)
above_max k m x = grind (arith, common_steps)

above-largest : (k m : ℕ) (s : List ℕ) → ltb k (fold max m s) ≡ (ltb k m || any (ltb k) s)
above-largest k m [] = grind (arith, common_steps)
above-largest k m (x ∷ xs) = grind (arith, common_steps, above-largest k (max m x) xs, above_max k m x)

-- one is above a limit where the largest is
pub any_above : (k : ℕ) (s : List ℕ) → any (ltb k) s ≡ ltb k (fold max 0 s)
any_above k s = grind (arith, common_steps, above-largest k 0 s)
