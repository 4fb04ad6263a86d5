-- Laws of entries written after those that two arrays hold, one after the other. Assumes nothing.
use Prim.Native.Nat.{ℕ, suc, ◌+◌, ◌≤◌}
use mathlib.Core.Path.{◌≡◌, refl, sym, ap, ◌∙◌}
use mathlib.Core.List.{List, [], ◌∷◌, ◌++◌, map, append_assoc, append-nil}
use native.Mathlib.Omega.{arith}
use lib.ListN.{length, drop, set, length-set}
use lib.Seq.{sets, drop-set-lt, get_or-set_same}
use Rattle.reading.specs.Controls.{pair_list}
use Rattle.control.proofs.fields.PairLaws.{pairs-past}

-- the places after those written are as found
pub drop-sets : (vs l : List ℕ) (n m : ℕ) → n + length vs ≤ m → drop m (sets l n vs) ≡ drop m l
drop-sets [] l n m h = refl
drop-sets (v ∷ vs) l n m h = drop-sets vs (set l n v) (suc n) m (omega arith) ∙ drop-set-lt m l n v (omega arith)

-- both arrays written from the count on: as many entries more in the list
module _ {A : Type 0} (make : ℕ → ℕ → A) (first second : A → ℕ) (made : (a : A) → make (first a) (second a) ≡ a) where
  pub pairs-sets : (new : List A) (xs ys : List ℕ) (n : ℕ) → n + length new ≤ length xs → n + length new ≤ length ys
      → pair_list make (n + length new) (sets xs n (map first new)) (sets ys n (map second new)) ≡ pair_list make n xs ys ++ new
  pairs-sets [] xs ys n hx hy =
      let z : n + 0 ≡ n = omega arith in
      rw z (sym (append-nil (pair_list make n xs ys)))
  pairs-sets (a ∷ new) xs ys n hx hy =
      let z : n + suc (length new) ≡ suc n + length new = omega arith in
      let lx = length-set xs n (first a) in
      let ly = length-set ys n (second a) in
      rw z
      (pairs-sets new (set xs n (first a)) (set ys n (second a)) (suc n) (omega arith) (omega arith)
      ∙ (ap (λ (l : List A). l ++ new) one ∙ append_assoc (pair_list make n xs ys) (a ∷ []) new))
    where
      one : pair_list make (suc n) (set xs n (first a)) (set ys n (second a)) ≡ pair_list make n xs ys ++ (a ∷ [])
      one =
          rw (
            pairs-past make xs ys n n (first a) (second a) (omega arith),
            get_or-set_same xs n (first a) 0 (omega arith),
            get_or-set_same ys n (second a) 0 (omega arith),
            made a,
          )

  -- those before are as they were
  pub pairs-under : (new : List A) (xs ys : List ℕ) (n m : ℕ) → n ≤ m
      → pair_list make n (sets xs m (map first new)) (sets ys m (map second new)) ≡ pair_list make n xs ys
  pairs-under [] xs ys n m h = refl
  pairs-under (a ∷ new) xs ys n m h =
      pairs-under new (set xs m (first a)) (set ys m (second a)) n (suc m) (omega arith) ∙ pairs-past make xs ys n m (first a) (second a) h
