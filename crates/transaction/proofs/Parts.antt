-- Lists that are written from a place on, and parts of them. Assumes nothing.
use Prim.Native.Nat.{ℕ, zero, suc, ◌+◌, ◌-◌, ◌≤◌}
use mathlib.Core.Path.{◌≡◌, refl, ap}
use mathlib.Core.List.{List, [], ◌∷◌, ◌++◌, append_assoc, append-nil}
use native.Mathlib.Omega.{arith}
use lib.ListN.{length, take, drop, set, length-append, length-drop, drop_of_length-le}
use lib.Seq.{take_at, drop_at, drop-drop, take_all}
use Rattle.reading.specs.Lists.{over}
use Rattle.reading.specs.Outcome.{at_free_end}

-- a list l whose first k entries are replaced by `a`, of that length
pub whole_length : (a l : List ℕ) (k : ℕ) → length a ≡ k → k ≤ length l → length (a ++ drop k l) ≡ length l
whole_length a l k is inside = omega (arith, length-append a (drop k l), length-drop k l)

-- a list from k on, as a callee is lent it, and the list with what the callee left there
module _ (l : List ℕ) (k : ℕ) where
  pub lent_is : take (length l - k) (drop k l) ≡ drop k l
  lent_is = take_all (length l - k) (drop k l) (omega (arith, length-drop k l))

  pub put_back : (last : List ℕ) → take k l ++ (last ++ drop (length l - k) (drop k l)) ≡ take k l ++ last
  put_back last =
      let z : length (drop k l) ≤ length l - k = omega (arith, length-drop k l) in
      rw (drop_of_length-le (drop k l) z, append-nil last)

-- two entries stored one after the other
put_two : (l : List ℕ) (x y : ℕ) → 2 ≤ length l → set (set l 0 x) 1 y ≡ over l (x ∷ y ∷ [])
put_two [] x y h = absurd (omega arith)
put_two (a ∷ []) x y h = absurd (omega arith)
put_two (a ∷ b ∷ l) x y h = refl

-- a list j that is known to be such: its free end, and new entries there
module _ (a l j : List ℕ) (k : ℕ) (j-is : j ≡ a ++ drop k l) (is : length a ≡ k) (inside : k ≤ length l) where
  pub free-length : length (drop k j) ≡ length l - k
  free-length = rw (j-is, drop_at a (drop k l) k is) (length-drop k l)

  pub put-free : (vs : List ℕ) → at_free_end k j vs ≡ (a ++ vs) ++ drop (k + length vs) l
  put-free vs =
      rw (
        j-is,
        take_at a (drop k l) k is,
        drop_at a (drop k l) k is,
        drop-drop (length vs) k l,
        ← append_assoc a vs (drop (k + length vs) l),
      )

-- two entries stored one after the other, from k on
pub put-at : (k : ℕ) (l : List ℕ) (x y : ℕ) → k + 2 ≤ length l → set (set l k x) (k + 1) y ≡ at_free_end k l (x ∷ y ∷ [])
put-at zero l x y h = put_two l x y h
put-at (suc k) [] x y h = absurd (omega arith)
put-at (suc k) (a ∷ l) x y h =
    let z : suc k + 1 ≡ suc (k + 1) = omega arith in
    rw z (ap (λ (m : List ℕ). a ∷ m) (put-at k l x y (omega arith)))
