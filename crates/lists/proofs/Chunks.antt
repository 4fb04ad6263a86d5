-- A list of numbers cut into the arrays of its records. Assumes nothing.
use Prim.Native.Nat.{ℕ, zero, suc, ◌+◌, ◌*◌, ◌/◌, ◌<◌}
use mathlib.Core.Path.{◌≡◌, refl, ap, ◌∙◌}
use mathlib.Core.Bool.{Bool, ◌||◌}
use mathlib.Core.List.{List, [], ◌∷◌, map}
use native.Mathlib.Omega.{arith}
use lib.ListN.{length, get_or, take, drop}
use Rattle.std.proofs.lemmas.List.{get_or-take, get_or-drop}
use Rattle.std.specs.List.{list_any}
use Rattle.std.specs.Simd.{first_chunks}
use Rattle.reading.specs.Lists.{any}
use Rattle.reading.specs.Records.{values, journal_from, journal_list, marker_from, marker_list}
use Rattle.lists.proofs.RecordLaws.{values_same}

-- a test of each array is one of each record
pub any-mapped : {A B : Type 0} (test : B → Bool) (f : A → B) (l : List A) → list_any (λ x. test (f x)) l ≡ any test (map f l)
any-mapped test f [] = refl
any-mapped test f (x ∷ xs) = ap (λ (b : Bool). test (f x) || b) (any-mapped test f xs)

module _ {A : Type 0} (width : ℕ) (record_at : List ℕ → ℕ → A) where
  -- the first record of an array is that of the list, and the next records are those of the rest
  module _ (first : (words : List ℕ) → record_at (take width words) 0 ≡ record_at words 0)
      (next : (words : List ℕ) (i : ℕ) → record_at (drop width words) i ≡ record_at words (suc i)) where
    arrays-are : (n : ℕ) (words : List ℕ) → map (λ a. record_at a 0) (first_chunks width n words) ≡ values (record_at words) n
    arrays-are zero words = refl
    arrays-are (suc n) words =
        ap (λ (r : A). r ∷ map (λ a. record_at a 0) (first_chunks width n (drop width words))) (first words)
        ∙ ap (λ (l : List A). record_at words 0 ∷ l)
        (arrays-are n (drop width words) ∙ values_same (record_at (drop width words)) (λ i. record_at words (suc i)) n (next words))

pub marker-arrays : (words : List ℕ) → map (λ a. marker_from a 0) (first_chunks 3 (length words / 3) words) ≡ marker_list words
unfolding marker_list
marker-arrays words = arrays-are 3 marker_from first next (length words / 3) words
  where
    first : (words : List ℕ) → marker_from (take 3 words) 0 ≡ marker_from words 0
    first words = grind (arith, get_or-take {A = ℕ})

    next : (words : List ℕ) (i : ℕ) → marker_from (drop 3 words) i ≡ marker_from words (suc i)
    next words i = grind (arith, get_or-drop {A = ℕ})

pub journal-arrays : (words : List ℕ) → map (λ a. journal_from a 0) (first_chunks 2 (length words / 2) words) ≡ journal_list words
unfolding journal_list
journal-arrays words = arrays-are 2 journal_from first next (length words / 2) words
  where
    first : (words : List ℕ) → journal_from (take 2 words) 0 ≡ journal_from words 0
    first words = grind (arith, get_or-take {A = ℕ})

    next : (words : List ℕ) (i : ℕ) → journal_from (drop 2 words) i ≡ journal_from words (suc i)
    next words i = grind (arith, get_or-drop {A = ℕ})

-- a number of an array is one of the list
word-at : (width n i j : ℕ) (d words : List ℕ) → i < n → j < width
    → get_or (get_or (first_chunks width n words) i d) j 0 ≡ get_or words (width * i + j) 0
word-at width zero i j d words h k = absurd (omega arith)
word-at width (suc n) zero j d words h k =
    let e : j ≡ width * 0 + j = omega arith in
    get_or-take width words j 0 k ∙ ap (λ (m : ℕ). get_or words m 0) e
word-at width (suc n) (suc i) j d words h k =
    let e : width + (width * i + j) ≡ width * suc i + j = omega arith in
    word-at width n i j d (drop width words) (omega arith) k
    ∙ get_or-drop width words (width * i + j) 0
    ∙ ap (λ (m : ℕ). get_or words m 0) e

pub word-of : (width : ℕ) (words : List ℕ) (records : List (List ℕ)) → records ≡ first_chunks width (length words / width) words
    → (i j : ℕ) → i < length words / width → j < width → get_or (get_or records i []) j 0 ≡ get_or words (width * i + j) 0
word-of width words records is i j h k =
    ap (λ (rs : List (List ℕ)). get_or (get_or rs i []) j 0) is ∙ word-at width (length words / width) i j [] words h k

-- the numbers of a journal entry
pub entry-words : (words : List ℕ) (records : List (List ℕ)) → records ≡ first_chunks 2 (length words / 2) words
    → (i : ℕ) → i < length words / 2
    → (get_or (get_or records i []) 0 0 ≡ get_or words (2 * i) 0) × (get_or (get_or records i []) 1 0 ≡ get_or words (2 * i + 1) 0)
entry-words words records is i h =
    let e : 2 * i + 0 ≡ 2 * i = omega arith in
    (word-of 2 words records is i 0 h (omega arith) ∙ ap (λ (m : ℕ). get_or words m 0) e, word-of 2 words records is i 1 h (omega arith))
