-- What the question answers, by what it is lent; and that unpacked markers answer for the records. Assumes nothing.
use Rattle.std.specs.Prelude.{None}
use Prim.Native.Nat.{ℕ, ◌*◌, ◌≤◌, ◌<◌}
use mathlib.Core.Path.{◌≡◌, refl, sym, ap, ◌∙◌}
use mathlib.Core.Bool.{Bool, true, false, cond, ◌||◌}
use mathlib.Core.List.{List}
use native.Mathlib.Omega.{arith}
use borrow.Author.Tests.{lt-ltb, le-ltb, ltb-true, ltb-false, eq-eqb, ne_eqb}
use lib.Dec.{ltb}
use lib.ListN.{length, take}
use lib.Seq.{take_all, length-take-le}
use Rattle.reading.specs.declared.Marker.{Marker}
use Rattle.reading.specs.Lists.{any}
use Rattle.reading.specs.Directive.{is_high}
use Rattle.reading.specs.Refusals.{bad_marker}
use Rattle.reading.specs.Markers.{marker_position}
use Rattle.lists.proofs.RecordLaws.{length-markers}
use Rattle.abi.specs.declared.marker_words.MarkerWords.{MarkerWords}
use Rattle.abi.specs.MarkerWords.{marker_words_of, markers_in}
use Rattle.abi.proofs.marker_words.Back.{unpacked-markers}
use Rattle.abi.specs.MarkerLookup.{too_many, lookup_answer, answered, lookup}

module _ (markers : List Marker) (rules : ℕ) (text : List ℕ) where
  -- REFUSAL 2

  many : too_many markers rules text ≡ true → lookup_answer markers rules text ≡ 2
  unfolding lookup_answer
  many e = rw e

  pub many-rules : 512 < rules → lookup_answer markers rules text ≡ 2
  many-rules h = many (rw (lt-ltb 512 rules h))

  pub many-markers : 256 < length markers → lookup_answer markers rules text ≡ 2
  many-markers h = many (by (ltb 512 rules))
    where
      by : (a : Bool) → (a || ltb 256 (length markers) || ltb 65536 (length text)) ≡ true
      by true = refl
      by false = rw (lt-ltb 256 (length markers) h)

  pub long-text : 65536 < length text → lookup_answer markers rules text ≡ 2
  long-text h = many (by (ltb 512 rules) (ltb 256 (length markers)))
    where
      by : (a b : Bool) → (a || b || ltb 65536 (length text)) ≡ true
      by true b = refl
      by false true = refl
      by false false = lt-ltb 65536 (length text) h

  -- the others, where 2 does not apply
  pub few : rules ≤ 512 → length markers ≤ 256 → length text ≤ 65536
      → lookup_answer markers rules text ≡ cond (any (bad_marker (length text) rules) markers) 5 (cond (any is_high text) 6 0)
  unfolding lookup_answer
  few a b c = rw (le-ltb 512 rules a, le-ltb 256 (length markers) b, le-ltb 65536 (length text) c)

  -- THE WHOLE ANSWER

  pub refused : (name : List ℕ) (n : ℕ) → lookup_answer markers rules text ≡ n → (n ≡ 0 → ⊥)
      → answered n None ≡ lookup markers rules text name
  unfolding lookup
  refused name n e h = rw (e, ne_eqb n 0 h)

  pub accepted : (name : List ℕ) (n : ℕ) → lookup_answer markers rules text ≡ n → n ≡ 0
      → answered n (marker_position text markers name) ≡ lookup markers rules text name
  unfolding lookup
  accepted name n e z = rw (e, eq-eqb n 0 z)

  pub refused-markers : (name : List ℕ) → 256 < length markers → answered 2 None ≡ lookup markers rules text name
  refused-markers name h = refused name 2 (many-markers h) (λ z. omega arith)

-- UNPACKED MARKERS

-- more than 256, of which 257 are there
pub many-unpacked : (c : MarkerWords) → length c.words ≡ 771 → 256 < c.count → 256 < length (markers_in c)
many-unpacked c size h =
    let l = take (3 * c.count) c.words in
    let n : length l ≡ 771 = ap length (take_all (3 * c.count) c.words (omega arith)) ∙ size in
    omega (arith, length-markers l, n)

pub unpacked-same : (markers : List Marker) (rules : ℕ) (text name : List ℕ)
    → lookup (markers_in (marker_words_of markers)) rules text name ≡ lookup markers rules text name
unpacked-same markers rules text name =
    ap (λ (l : List Marker). lookup l rules text name) (unpacked-markers markers) ∙ by (ltb 256 (length markers)) refl
  where
    by : (b : Bool) → ltb 256 (length markers) ≡ b → lookup (take 257 markers) rules text name ≡ lookup markers rules text name
    by true e =
        let h : 256 < length markers = ltb-true 256 (length markers) e in
        let n : length (take 257 markers) ≡ 257 = length-take-le 257 markers (omega arith) in
        sym (refused-markers (take 257 markers) rules text name (omega arith)) ∙ refused-markers markers rules text name h
    by false e =
        let h : length markers ≤ 257 = omega (arith, ltb-false 256 (length markers) e) in
        ap (λ (l : List Marker). lookup l rules text name) (take_all 257 markers h)
