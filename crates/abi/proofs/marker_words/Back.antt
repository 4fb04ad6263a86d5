-- From unpacked numbers back to the records. Assumes nothing.
use Prim.Native.Nat.{ℕ, zero, suc, ◌+◌, ◌*◌, ◌≤◌, ◌<◌}
use mathlib.Core.Path.{◌≡◌, refl, sym, ap, ◌∙◌}
use mathlib.Core.Bool.{Bool, true, false}
use mathlib.Core.List.{List, [], ◌∷◌, ◌++◌}
use native.Mathlib.Omega.{arith}
use borrow.Author.Tests.{ltb-true, ltb-false}
use lib.Dec.{ltb}
use lib.ListN.{length, take, replicate}
use lib.Seq.{take-take, take_all}
use Rattle.reading.specs.declared.Marker.{Marker}
use Rattle.reading.specs.Records.{marker_from, marker_list}
use Rattle.lists.proofs.RecordLaws.{records-cons}
use Rattle.abi.specs.MarkerWords.{marker_words, words_of, marker_words_of, markers_in}
use Rattle.abi.proofs.marker_words.Padded.{words-length}

-- the numbers of records stand for those records
markers-back : (ms : List Marker) → marker_list (marker_words ms) ≡ ms
unfolding marker_list
markers-back [] = refl
markers-back (m ∷ ms) =
    records-cons 3 marker_from (marker_words (m ∷ ms)) (marker_words ms) (omega arith) next
    ∙ ap (λ (l : List Marker). m ∷ l) (markers-back ms)
  where
    next : (i : ℕ) → marker_from (marker_words (m ∷ ms)) (suc i) ≡ marker_from (marker_words ms) i
    next i =
        let e : 3 * suc i ≡ suc (suc (suc (3 * i))) = omega arith in
        let f : 3 * suc i + 1 ≡ suc (suc (suc (3 * i + 1))) = omega arith in
        let g : 3 * suc i + 2 ≡ suc (suc (suc (3 * i + 2))) = omega arith in
        rw (g, f, e)

-- the numbers of the first k records are the first numbers of all
first-words : (k : ℕ) (ms : List Marker) (rest : List ℕ) → k ≤ length ms → take (3 * k) (marker_words ms ++ rest) ≡ marker_words (take k ms)
first-words zero ms rest h = refl
first-words (suc k) [] rest h = absurd (omega arith)
first-words (suc k) (m ∷ ms) rest h =
    let e : 3 * suc k ≡ suc (suc (suc (3 * k))) = omega arith in
    rw e (ap (λ (l : List ℕ). m.name.start ∷ m.name.len ∷ m.position ∷ l) (first-words k ms rest (omega arith)))

pub first-markers : (k : ℕ) (ms : List Marker) → k ≤ length ms → k ≤ 257 → marker_list (take (3 * k) (words_of ms)) ≡ take k ms
unfolding words_of
first-markers k ms h b =
    ap marker_list (take-take (3 * k) 771 (marker_words ms ++ replicate 771 0) (omega arith) ∙ first-words k ms (replicate 771 0) h) ∙ markers-back (take k ms)

-- a list of any length: the first 257 records come back
pub unpacked-markers : (ms : List Marker) → markers_in (marker_words_of ms) ≡ take 257 ms
unpacked-markers ms = by (ltb 257 (length ms)) refl
  where
    by : (b : Bool) → ltb 257 (length ms) ≡ b → marker_list (take (3 * length ms) (words_of ms)) ≡ take 257 ms
    by true e =
        let h : 257 < length ms = ltb-true 257 (length ms) e in
        let all : take (3 * length ms) (words_of ms) ≡ words_of ms = take_all (3 * length ms) (words_of ms) (omega (arith, words-length ms)) in
        let same : take 771 (words_of ms) ≡ words_of ms = take_all 771 (words_of ms) (omega (arith, words-length ms)) in
        ap marker_list (all ∙ sym same) ∙ first-markers 257 ms (omega arith) (omega arith)
    by false e =
        let h : length ms ≤ 257 = ltb-false 257 (length ms) e in
        first-markers (length ms) ms (omega arith) h ∙ take_all (length ms) ms (omega arith) ∙ sym (take_all 257 ms h)
