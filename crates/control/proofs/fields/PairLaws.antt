-- Laws of the list that two arrays and a count stand for. Assumes nothing.
use Rattle.std.specs.Prelude.{Some, None}
use Prim.Native.Nat.{ℕ, zero, suc, ◌≤◌, ◌<◌}
use mathlib.Core.Path.{◌≡◌, refl, sym, ap, ◌∙◌}
use mathlib.Core.Bool.{Bool, true, false}
use mathlib.Core.List.{List, [], ◌∷◌, ◌++◌, map, map-append}
use native.Mathlib.Omega.{arith}
use borrow.Author.Tests.{ltb-true, ltb-false}
use lib.Dec.{ltb}
use lib.ListN.{length, get_or, set, length-append, length-map, get_or-append}
use lib.Seq.{get_or-set_other, get_or_at}
use Rattle.reading.specs.declared.RuleIdRange.{RuleIdRange}
use Rattle.reading.specs.declared.Place.{Place}
use Rattle.reading.specs.Controls.{pair_list, target_list, place_at}

-- an entry of the two lists
abbrev pub range_of : ℕ → ℕ → RuleIdRange
range_of start end = record { start = start; end = end }

abbrev pub place_of : ℕ → ℕ → Place
place_of phase position = record { phase = phase; position = position }

module _ {A : Type 0} (make : ℕ → ℕ → A) (xs ys : List ℕ) where
  pub length_pairs : (n : ℕ) → length (pair_list make n xs ys) ≡ n
  length_pairs zero = refl
  length_pairs (suc n) = omega (arith, length-append (pair_list make n xs ys) (make (get_or xs n 0) (get_or ys n 0) ∷ []), length_pairs n)

  -- a place after those counted is not looked at
  pub pairs-past : (n k x y : ℕ) → n ≤ k → pair_list make n (set xs k x) (set ys k y) ≡ pair_list make n xs ys
  pairs-past zero k x y h = refl
  pairs-past (suc n) k x y h =
      rw (
        pairs-past n k x y (omega arith),
        get_or-set_other xs k n x 0 (λ e. omega arith),
        get_or-set_other ys k n y 0 (λ e. omega arith),
      )

-- one of the two arrays, read off the list below the count
module _ {A : Type 0} (make : ℕ → ℕ → A) (read : A → ℕ) (xs ys column : List ℕ)
    (reads : (k : ℕ) → read (make (get_or xs k 0) (get_or ys k 0)) ≡ get_or column k 0) where
  pub entry_at : (n k : ℕ) → k < n → get_or (map read (pair_list make n xs ys)) k 0 ≡ get_or column k 0
  entry_at zero k h = absurd (omega arith)
  entry_at (suc n) k h =
      ap (λ (l : List ℕ). get_or l k 0) (map-append read (pair_list make n xs ys) (make (get_or xs n 0) (get_or ys n 0) ∷ []))
      ∙ go (ltb k n) refl (entry_at n k)
    where
      size : length (map read (pair_list make n xs ys)) ≡ n
      size = length-map (pair_list make n xs ys) read ∙ length_pairs make xs ys n

      go : (t : Bool) → ltb k n ≡ t → (k < n → get_or (map read (pair_list make n xs ys)) k 0 ≡ get_or column k 0)
          → get_or (map read (pair_list make n xs ys) ++ (read (make (get_or xs n 0) (get_or ys n 0)) ∷ [])) k 0 ≡ get_or column k 0
      go true d ih =
          let below : k < n = ltb-true k n d in
          get_or-append (map read (pair_list make n xs ys)) (read (make (get_or xs n 0) (get_or ys n 0)) ∷ []) 0 k (omega (arith, size))
          ∙ ih below
      go false d ih =
          let q : k ≡ n = omega (arith, ltb-false k n d) in
          let s : length (map read (pair_list make n xs ys)) ≡ k = omega (arith, size) in
          get_or_at (map read (pair_list make n xs ys)) (read (make (get_or xs n 0) (get_or ys n 0))) [] 0 k s
          ∙ (reads n ∙ ap (λ (i : ℕ). get_or column i 0) (sym q))

place-past : (l : List Place) (k : ℕ) → length l ≤ k → place_at l k ≡ None
place-past [] k h = refl
place-past (p ∷ ps) zero h = absurd (omega arith)
place-past (p ∷ ps) (suc k) h = place-past ps k (omega arith)

place-before : (l m : List Place) (k : ℕ) → k < length l → place_at (l ++ m) k ≡ place_at l k
place-before [] m k h = absurd (omega arith)
place-before (p ∷ ps) m zero h = refl
place-before (p ∷ ps) m (suc k) h = place-before ps m k (omega arith)

place-last : (l : List Place) (p : Place) (k : ℕ) → k ≡ length l → place_at (l ++ (p ∷ [])) k ≡ Some p
place-last [] p zero e = refl
place-last [] p (suc k) e = absurd (omega arith)
place-last (q ∷ ps) p zero e = absurd (omega arith)
place-last (q ∷ ps) p (suc k) e = place-last ps p k (omega arith)

module _ (phases positions : List ℕ) where
  abbrev target : ℕ → Place
  target k = place_of (get_or phases k 0) (get_or positions k 0)

  targets-length : (n : ℕ) → length (target_list n phases positions) ≡ n
  targets-length = length_pairs place_of phases positions

  pub no_target : (n k : ℕ) → n ≤ k → place_at (target_list n phases positions) k ≡ None
  no_target n k h = place-past (target_list n phases positions) k (omega (arith, targets-length n))

  pub target_at : (n k : ℕ) → k < n → place_at (target_list n phases positions) k ≡ Some (target k)
  target_at zero k h = absurd (omega arith)
  target_at (suc n) k h = go (ltb k n) refl (target_at n k)
    where
      go : (t : Bool) → ltb k n ≡ t → (k < n → place_at (target_list n phases positions) k ≡ Some (target k))
          → place_at (target_list n phases positions ++ (target n ∷ [])) k ≡ Some (target k)
      go true d ih =
          place-before (target_list n phases positions) (target n ∷ []) k (omega (arith, targets-length n, ltb-true k n d))
          ∙ ih (ltb-true k n d)
      go false d ih =
          let q : k ≡ n = omega (arith, ltb-false k n d) in
          place-last (target_list n phases positions) (target n) k (omega (arith, targets-length n))
          ∙ ap (λ (i : ℕ). Some (target i)) (omega (arith, q))
