-- Sums of weights over a list and over parts of it.
use Prim.Native.Nat.{ℕ, zero, suc, ◌+◌, ◌-◌, ◌≤◌, ◌<◌, min}
use native.Mathlib.Numerals.{add-one}
use mathlib.Core.Path.{◌≡◌, refl, ap, ◌∙◌}
use mathlib.Core.List.{List, [], ◌∷◌, ◌++◌, map}
use native.Mathlib.Omega.{arith}
use lib.ListN.{length, take, drop, get_or, length-drop}
use lib.Seq.{take-suc, take-add}
use Rattle.std.proofs.lemmas.List.{take_min}
use Rattle.reading.specs.Lists.{total}

module _ {A : Type 0} where
  pub clip-take : (n : ℕ) (l : List A) → take (min n (length l)) l ≡ take n l
  clip-take = take_min

  pub clip-drop : (n : ℕ) (l : List A) → drop (min n (length l)) l ≡ drop n l
  clip-drop zero l = let z : min zero (length l) ≡ zero = omega arith in rw z
  clip-drop (suc n) [] = let z : min (suc n) zero ≡ zero = omega arith in rw z
  clip-drop (suc n) (x ∷ l) =
      let z : min (suc n) (suc (length l)) ≡ suc (min n (length l)) = omega arith in
      rw z (clip-drop n l)

module _ {A B : Type 0} (f : A → B) where
  pub take-map : (n : ℕ) (l : List A) → take n (map f l) ≡ map f (take n l)
  take-map zero l = refl
  take-map (suc n) [] = refl
  take-map (suc n) (x ∷ l) = ap (λ (r : List B). f x ∷ r) (take-map n l)

  pub drop-map : (n : ℕ) (l : List A) → drop n (map f l) ≡ map f (drop n l)
  drop-map zero l = refl
  drop-map (suc n) [] = refl
  drop-map (suc n) (x ∷ l) = drop-map n l

  pub total-map : (w : B → ℕ) (l : List A) → total w (map f l) ≡ total (λ a. w (f a)) l
  total-map w [] = refl
  total-map w (x ∷ l) = ap (λ (n : ℕ). w (f x) + n) (total-map w l)

module _ {A : Type 0} (w : A → ℕ) where
  pub total-append : (s t : List A) → total w (s ++ t) ≡ total w s + total w t
  total-append [] t = omega arith
  total-append (x ∷ s) t = omega (arith, total-append s t)

  pub total-more : (l : List A) (i : ℕ) (d : A) → i < length l → total w (take (i + 1) l) ≡ total w (take i l) + w (get_or l i d)
  total-more l i d h =
      let a : total w (get_or l i d ∷ []) ≡ w (get_or l i d) = omega arith in
      rw (add-one, take-suc l i d) (total-append (take i l) (get_or l i d ∷ []) ∙ ap (λ (n : ℕ). total w (take i l) + n) a)

  pub total-take-le : (i : ℕ) (l : List A) → total w (take i l) ≤ total w l
  total-take-le zero l = omega arith
  total-take-le (suc i) [] = omega arith
  total-take-le (suc i) (x ∷ l) = omega (arith, total-take-le i l)

  pub total-take-mono : (i k : ℕ) (l : List A) → i ≤ k → total w (take i l) ≤ total w (take k l)
  total-take-mono zero k l h = omega arith
  total-take-mono (suc i) zero l h = absurd (omega arith)
  total-take-mono (suc i) (suc k) [] h = omega arith
  total-take-mono (suc i) (suc k) (x ∷ l) h = omega (arith, total-take-mono i k l (omega arith))

  pub total-drop-le : (i : ℕ) (l : List A) → total w (drop i l) ≤ total w l
  total-drop-le zero l = omega arith
  total-drop-le (suc i) [] = omega arith
  total-drop-le (suc i) (x ∷ l) = omega (arith, total-drop-le i l)

  pub total-none : ((x : A) → w x ≡ 0) → (l : List A) → total w l ≡ 0
  total-none z [] = refl
  total-none z (x ∷ l) = omega (arith, z x, total-none z l)

  pub total-part-le : (first count : ℕ) (l : List A) → total w (take count (drop first l)) ≤ total w l
  total-part-le first count l = omega (arith, total-take-le count (drop first l), total-drop-le first l)

  -- a part of a list weighs the difference between the fronts that end after it and before it; both ends are clipped
  pub total-between : (l : List A) (first count : ℕ)
      → total w (take (min first (length l) + min count (length l - min first (length l))) l) ≡ total w
      (take (min first (length l)) l) + total w (take count (drop first l))
  total-between l first count =
      let from = min first (length l) in
      let size = min count (length l - from) in
      let a : take size (drop from l) ≡ take count (drop from l)
      = rw (← length-drop from l) (clip-take count (drop from l)) in
      rw take-add
      (total-append (take from l) (take size (drop from l))
      ∙ ap (λ (r : List A). total w (take from l) + total w r) (a ∙ ap (take count) (clip-drop first l)))
