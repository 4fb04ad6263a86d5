-- Lists: what the definitions need of them besides the library.
use Rattle.std.specs.Prelude.{ℕ, ◌+◌, List, [], ◌∷◌, ◌++◌, Bool, true, false, ◌||◌, length, drop}

module _ {A : Type 0} where
  -- the list, or none of it
  abbrev pub keep : Bool → List A → List A
  keep true l = l
  keep false l = []

  -- whether one element passes the test
  abbrev pub any : (A → Bool) → List A → Bool
  any test [] = false
  any test (x ∷ xs) = test x || any test xs

  -- the sum of the elements' weights
  abbrev pub total : (A → ℕ) → List A → ℕ
  total weight [] = 0
  total weight (x ∷ xs) = weight x + total weight xs

  -- what the elements give, one after the other
  abbrev pub gather : {B : Type 0} → (A → List B) → List A → List B
  gather give [] = []
  gather give (x ∷ xs) = give x ++ gather give xs

  -- a list with new entries written from its start; the rest is as found
  abbrev pub over : List A → List A → List A
  over found new = new ++ drop (length new) found
