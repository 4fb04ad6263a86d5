-- Tests, joined, and of the entries of two lists in a row, and what these give. Assumes nothing.
use Prim.Native.Nat.{ℕ}
use mathlib.Core.Path.{◌≡◌, refl, sym, ap, ◌∙◌}
use mathlib.Core.Bool.{Bool, true, false, ◌&&◌, ◌||◌}
use mathlib.Core.List.{List, [], ◌∷◌, ◌++◌, append_assoc}
use native.Mathlib.Omega.{arith}
use Rattle.reading.specs.Lists.{any, gather}

pub or-false-is : (a : Bool) → (a || false) ≡ a
or-false-is true = refl
or-false-is false = refl

pub or-false : (a b : Bool) → (a || b) ≡ false → (a ≡ false) × (b ≡ false)
or-false true b e = absurd (let y : ◌≡◌ {A = ℕ} 0 1 = cc in omega arith)
or-false false b e = (refl, e)

pub and-true : (a b : Bool) → (a && b) ≡ true → (a ≡ true) × (b ≡ true)
and-true true b e = (refl, e)
and-true false b e = absurd (let y : ◌≡◌ {A = ℕ} 0 1 = cc in omega arith)

pub any_append : {A : Type 0} (test : A → Bool) (xs ys : List A) → any test (xs ++ ys) ≡ (any test xs || any test ys)
any_append test [] ys = refl
any_append test (x ∷ xs) ys = by (test x) (any_append test xs ys)
  where
    by : (b : Bool) → any test (xs ++ ys) ≡ (any test xs || any test ys) → (b || any test (xs ++ ys)) ≡ (b || any test xs || any test ys)
    by true h = refl
    by false h = h

pub gather_append : {A B : Type 0} (give : A → List B) (xs ys : List A) → gather give (xs ++ ys) ≡ gather give xs ++ gather give ys
gather_append give [] ys = refl
gather_append {A} {B} give (x ∷ xs) ys =
    ap (λ (l : List B). give x ++ l) (gather_append give xs ys) ∙ sym (append_assoc (give x) (gather give xs) (gather give ys))
