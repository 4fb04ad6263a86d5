-- The numbers of the first markers of a list, padded with zeros: one marker more, and the end of the walk. Assumes nothing.
use Prim.Native.Nat.{ℕ, zero, suc, ◌+◌, ◌*◌, ◌<◌, ◌≤◌, min}
use mathlib.Core.Path.{◌≡◌, refl, sym, ◌∙◌, ap}
use mathlib.Core.List.{List, [], ◌∷◌, ◌++◌}
use mathlib.Core.Bool.{Bool, true, false}
use lib.Dec.{ltb}
use native.Mathlib.Omega.{arith}
use borrow.Author.Tests.{ltb-true, ltb-false}
use lib.ListN.{length, get_or, take, set, replicate, length-append, length-replicate}
use lib.Seq.{take-append-le, take-suc, take-length, length-take-le}
use Rattle.reading.specs.declared.Marker.{Marker}
use Rattle.abi.specs.MarkerWords.{marker_words, words_of}

abbrev pub no_marker : Marker
no_marker = record { name = record { start = 0; len = 0 }; position = 0 }

take-replicate : (n k a : ℕ) → n ≤ k → take n (replicate k a) ≡ replicate n a
take-replicate zero k a h = refl
take-replicate (suc n) zero a h = absurd (omega arith)
take-replicate (suc n) (suc k) a h = ap (λ (l : List ℕ). a ∷ l) (take-replicate n k a (omega arith))

-- n numbers, xs first and then zeros: one number more
more-in : (n k : ℕ) (xs : List ℕ) (x : ℕ) → n ≤ k → length xs < n → set (take n (xs ++ replicate k 0)) (length xs) x ≡ take n ((xs ++ x ∷ []) ++ replicate k 0)
more-in zero k xs x h l = absurd (omega arith)
more-in (suc n) zero xs x h l = absurd (omega arith)
more-in (suc n) (suc k) [] x h l = ap (λ (z : List ℕ). x ∷ z) (take-replicate n k 0 (omega arith) ∙ sym (take-replicate n (suc k) 0 (omega arith)))
more-in (suc n) (suc k) (y ∷ xs) x h l = ap (λ (z : List ℕ). y ∷ z) (more-in n (suc k) xs x (omega arith) (omega arith))

-- the same at an index that is the length
more-at : (n k j : ℕ) (xs : List ℕ) (x : ℕ) → n ≤ k → j < n → length xs ≡ j → set (take n (xs ++ replicate k 0)) j x ≡ take n ((xs ++ x ∷ []) ++ replicate k 0)
more-at n k j xs x h l e = ap (λ (i : ℕ). set (take n (xs ++ replicate k 0)) i x) (sym e) ∙ more-in n k xs x h (omega (arith, e))

length-words : (ms : List Marker) → length (marker_words ms) ≡ 3 * length ms
length-words [] = refl
length-words (m ∷ ms) = omega (arith, length-words ms)

words_snoc : (l : List Marker) (m : Marker) → marker_words (l ++ m ∷ []) ≡ ((marker_words l ++ m.name.start ∷ []) ++ m.name.len ∷ []) ++ m.position ∷ []
words_snoc [] m = refl
words_snoc (a ∷ l) m = ap (λ (z : List ℕ). a.name.start ∷ a.name.len ∷ a.position ∷ z) (words_snoc l m)

-- three numbers more, after those of so many markers
abbrev pub three_set : List ℕ → ℕ → Marker → List ℕ
three_set ws i m = set (set (set ws (3 * i) m.name.start) (3 * i + 1) m.name.len) (3 * i + 2) m.position

three-more : (n i : ℕ) (xs : List ℕ) (m : Marker) → length xs ≡ 3 * i → 3 * i + 2 < n
    → three_set (take n (xs ++ replicate n 0)) i m ≡ take n ((((xs ++ m.name.start ∷ []) ++ m.name.len ∷ []) ++ m.position ∷ []) ++ replicate n 0)
three-more n i xs m e h =
    let ys : List ℕ = xs ++ m.name.start ∷ [] in
    let zs : List ℕ = ys ++ m.name.len ∷ [] in
    let ey : length ys ≡ 3 * i + 1 = length-append xs (m.name.start ∷ []) ∙ ap (λ (j : ℕ). j + 1) e in
    let ez : length zs ≡ 3 * i + 2 = omega (arith, length-append ys (m.name.len ∷ []), ey) in
    ap (λ (l : List ℕ). set (set l (3 * i + 1) m.name.len) (3 * i + 2) m.position) (more-at n n (3 * i) xs m.name.start (omega arith) (omega arith) e)
    ∙ ap (λ (l : List ℕ). set l (3 * i + 2) m.position) (more-at n n (3 * i + 1) ys m.name.len (omega arith) (omega arith) ey)
    ∙ more-at n n (3 * i + 2) zs m.position (omega arith) (omega arith) ez

-- one turn of the loop: the numbers of the first i markers, and the next marker's
pub next-words : (ms : List Marker) (i : ℕ) → i < length ms → i < 257 → three_set (words_of (take i ms)) i (get_or ms i no_marker) ≡ words_of (take (i + 1) ms)
unfolding words_of
next-words ms i h b =
    let l : length (marker_words (take i ms)) ≡ 3 * i = length-words (take i ms) ∙ ap (λ (j : ℕ). 3 * j) (length-take-le i ms (omega arith)) in
    let e : suc i ≡ i + 1 = omega arith in
    three-more 771 i (marker_words (take i ms)) (get_or ms i no_marker) l (omega arith)
    ∙ ap (λ (z : List ℕ). take 771 (z ++ replicate 771 0)) (sym (words_snoc (take i ms) (get_or ms i no_marker)))
    ∙ ap (λ (z : List Marker). take 771 (marker_words z ++ replicate 771 0)) (sym (take-suc ms i no_marker h) ∙ ap (λ (j : ℕ). take j ms) e)

pub words-length : (ms : List Marker) → length (words_of ms) ≡ 771
unfolding words_of
words-length ms = by 771 771 (marker_words ms) (omega arith)
  where
    by : (n k : ℕ) (xs : List ℕ) → n ≤ k → length (take n (xs ++ replicate k 0)) ≡ n
    by n k xs h = length-take-le n (xs ++ replicate k 0) (omega (arith, length-append xs (replicate k 0), length-replicate {A = ℕ} k 0))

-- the numbers of the first n markers of a list of more are the first numbers of the whole list
words-front : (n k : ℕ) (ms : List Marker) → n ≤ length ms → take (3 * n) (marker_words (take n ms) ++ replicate k 0) ≡ take (3 * n) (marker_words ms ++ replicate k 0)
words-front n k ms h = by n ms h ∙ sym (take-append-le (3 * n) (marker_words ms) (replicate k 0) (omega (arith, length-words ms)))
  where
    by : (n : ℕ) (ms : List Marker) → n ≤ length ms → take (3 * n) (marker_words (take n ms) ++ replicate k 0) ≡ take (3 * n) (marker_words ms)
    by zero ms h = refl
    by (suc n) [] h = absurd (omega arith)
    by (suc n) (m ∷ ms) h =
        let e : 3 * suc n ≡ suc (suc (suc (3 * n))) = omega arith in
        rw (e) (ap (λ (z : List ℕ). m.name.start ∷ m.name.len ∷ m.position ∷ z) (by n ms (omega arith)))

-- after the last turn
pub all_words : (ms : List Marker) → words_of (take (min (length ms) 257) ms) ≡ words_of ms
unfolding words_of
all_words ms = by (ltb 257 (length ms)) refl
  where
    by : (b : Bool) → ltb 257 (length ms) ≡ b → words_of (take (min (length ms) 257) ms) ≡ words_of ms
    by true e =
        let few : 257 ≤ length ms = omega (arith, ltb-true 257 (length ms) e) in
        let n : min (length ms) 257 ≡ 257 = omega arith in
        rw n (words-front 257 771 ms few)
    by false e =
        let n : min (length ms) 257 ≡ length ms = omega (arith, ltb-false 257 (length ms) e) in
        rw (n, take-length ms)
