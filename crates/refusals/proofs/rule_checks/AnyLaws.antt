-- Whether one element passes a test, asked at each index. Assumes nothing.
use Prim.Native.Nat.{ℕ, zero, suc, ◌+◌}
use mathlib.Core.Path.{◌≡◌, ap}
use mathlib.Core.Bool.{Bool, ◌||◌}
use mathlib.Core.List.{List}
use native.Mathlib.Omega.{arith}
use native.Mathlib.Numerals.{add-one}
use lib.ListN.{length, get_or, drop, drop_of_length-le}
use lib.Seq.{drop-cons}
use Rattle.std.specs.List.{list_any, range_with_len}
use Rattle.reading.specs.Lists.{any}

module _ {A : Type 0} (test : A → Bool) (l : List A) (d : A) where
  any-from : (n i : ℕ) → i + n ≡ length l → list_any (λ k. test (get_or l k d)) (range_with_len i n) ≡ any test (drop i l)
  any-from zero i e = rw (drop_of_length-le l {i = i} (omega arith))
  any-from (suc n) i e =
      rw (drop-cons l i d (omega arith), add-one i)
      (ap (λ (b : Bool). test (get_or l i d) || b) (any-from n (suc i) (omega arith)))

  -- the indexes of all elements
  pub any-indexed : (n : ℕ) → n ≡ length l → list_any (λ k. test (get_or l k d)) (range_with_len 0 n) ≡ any test l
  any-indexed n e = any-from n 0 (omega arith)
