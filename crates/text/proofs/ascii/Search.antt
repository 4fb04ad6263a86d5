-- Where an element stands first. Assumes nothing.
use Prim.Native.Nat.{ℕ, ◌≤◌}
use mathlib.Core.Path.{◌≡◌, refl}
use mathlib.Core.Bool.{Bool, cond, not}
use mathlib.Core.List.{List, [], ◌∷◌}
use native.Mathlib.Omega.{arith}
use lib.Dec.{eqb, ltb}
use lib.ListN.{length}
use Rattle.std.specs.List.{position_or_len}
use Rattle.std.proofs.Common.{Option, Some, None, unwrap_or}
use Rattle.std.proofs.lemmas.Grind.{common_steps}
use Rattle.std.proofs.lemmas.List.Sums.{prefix_len-le-length}
use Rattle.reading.specs.Text.{index_of}

-- what `position` finds, or the length, is the library's place of the first element that passes
pub first_place : (test : ℕ → Bool) (s : List ℕ) (n : ℕ) (r : Option ℕ) → length s ≡ n
    → r ≡ cond (ltb (position_or_len test s) (length s)) (Some (position_or_len test s)) None → unwrap_or r n ≡ position_or_len test s
first_place test s n r h e = grind (arith, common_steps, prefix_len-le-length (λ x. not (test x)) s)

pub index_position : (b : ℕ) (s : List ℕ) → index_of b s ≡ position_or_len (λ x. eqb x b) s
unfolding index_of
index_position b [] = refl
index_position b (x ∷ xs) = grind (arith, index_position b xs)

pub index-le : (b : ℕ) (s : List ℕ) → index_of b s ≤ length s
index-le b s = rw (index_position b s) (prefix_len-le-length _ s)
