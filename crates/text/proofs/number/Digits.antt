-- Laws of `digits` and `number_of`. Assumes nothing.
use Rattle.std.specs.Prelude.{Option, Some, None}
use Prim.Native.Nat.{ℕ, suc, ◌+◌, ◌-◌, ◌*◌, ◌≤◌, ◌<◌}
use mathlib.Core.Path.{◌≡◌, refl, ◌∙◌}
use mathlib.Core.Bool.{Bool, true, false, cond, ◌&&◌, and-false}
use mathlib.Core.List.{List, [], ◌∷◌}
use native.Mathlib.Omega.{arith}
use borrow.Author.Tests.{le-leb, lt-leb}
use Rattle.std.proofs.lemmas.Grind.{common_steps}
use lib.Dec.{leb, eqb}
use lib.Pointwise.{pointwise}
use lib.ListN.{length, take, drop, get_or, drop_of_length-le}
use lib.Seq.{drop-cons}
use Rattle.reading.specs.Text.{is_digit, all_digits, value_from, largest, digits, without_plus, number_of}

-- the number whose digits so far come to v
unfoldable pub digits_from : ℕ → List ℕ → Option ℕ
digits_from v s = cond (all_digits s && leb (value_from v s) largest) (Some (value_from v s)) None

pub digits-none : (s : List ℕ) → length s ≡ 0 → digits s ≡ None
unfolding digits
digits-none [] h = refl
digits-none (x ∷ xs) h = absurd (omega arith)

pub digits-start : (s : List ℕ) → (length s ≡ 0 → ⊥) → digits s ≡ digits_from 0 s
unfolding digits digits_from
digits-start [] n = absurd (n refl)
digits-start (x ∷ xs) n = refl

-- a value never falls as digits follow
value-ge : (s : List ℕ) (v : ℕ) → v ≤ value_from v s
unfolding value_from
value-ge [] v = omega arith
value-ge (d ∷ ds) v = omega (arith, value-ge ds (v * 10 + (d - 48)))

pub digits-over : (s : List ℕ) (v : ℕ) → largest < v → digits_from v s ≡ None
unfolding digits_from
digits-over s v h =
    let g : largest < value_from v s = omega (arith, value-ge s v) in
    rw (lt-leb (value_from v s) largest g, and-false (all_digits s))

module _ (v : ℕ) (s : List ℕ) (i : ℕ) where
  module _ (h : i < length s) where
    pub digits_other : is_digit (get_or s i 0) ≡ false → digits_from v (drop i s) ≡ None
    unfolding digits_from all_digits value_from
    digits_other e = rw (drop-cons s i 0 h, e)

    module _ (e : is_digit (get_or s i 0) ≡ true) where
      pub digits_more : digits_from v (drop i s) ≡ digits_from (v * 10 + (get_or s i 0 - 48)) (drop (suc i) s)
      unfolding digits_from all_digits value_from
      digits_more = rw (drop-cons s i 0 h, e)

      pub digits_large : largest < v * 10 + (get_or s i 0 - 48) → digits_from v (drop i s) ≡ None
      digits_large l = digits_more ∙ digits-over (drop (suc i) s) (v * 10 + (get_or s i 0 - 48)) l

  pub digits_end : length s ≤ i → v ≤ largest → digits_from v (drop i s) ≡ Some v
  unfolding digits_from all_digits value_from
  digits_end h l = rw (drop_of_length-le s h, le-leb v largest l)

-- whether the first byte is a '+', as `strip_prefix` asks
abbrev pub has_plus : List ℕ → Bool
has_plus s = pointwise eqb (take 1 s) (43 ∷ [])

pub number_plain : (s : List ℕ) → has_plus s ≡ false → number_of s ≡ digits s
unfolding number_of without_plus
number_plain [] e = refl
number_plain (x ∷ xs) e = grind (arith, common_steps)

pub number_plus : (s : List ℕ) → has_plus s ≡ true → number_of s ≡ digits (drop 1 s)
unfolding number_of without_plus
number_plus [] e = cc
number_plus (x ∷ xs) e = grind (arith, common_steps)
