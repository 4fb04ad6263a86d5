-- The matched entries of a part of the journal, by the entries' places. Assumes nothing.
use Prim.Native.Nat.{ℕ, ◌+◌, ◌/◌, ◌<◌}
use mathlib.Core.Path.{◌≡◌, refl, sym, ap, ◌∙◌}
use mathlib.Core.List.{List, [], ◌∷◌, ◌++◌, map, reverse, map-append, append_assoc, append-nil}
use mathlib.Core.Bool.{Bool, true, false, cond}
use native.Mathlib.Omega.{arith}
use native.Mathlib.Numerals.{add-one}
use lib.ListN.{length, get_or, drop}
use lib.Dec.{eqb}
use Rattle.reading.specs.Lists.{keep}
use Rattle.reading.specs.declared.JournalEntry.{JournalEntry}
use Rattle.reading.specs.Records.{journal_from, journal_list, matched_in}
use Rattle.reading.specs.Units.{starter_of, closer_of}
use Rattle.std.proofs.Common.{Option, Some}
use Rattle.std.proofs.lemmas.List.{length-reverse}
use Rattle.std.proofs.lemmas.Grind.{reverse_onto}
use Rattle.std.specs.Option.{option_map, unwrap_or}
use Rattle.std.specs.List.{find}
use Rattle.std.specs.Simd.{first_chunks}
use Rattle.lists.proofs.Chunks.{journal-arrays}
use Rattle.lists.proofs.RecordLaws.{drop-entries}

module _ (words : List ℕ) where
  -- the entries from k on
  pub next-entries : (k : ℕ) → k < length words / 2 → drop k (journal_list words) ≡ journal_from words k ∷ drop (k + 1)
      (journal_list words)
  next-entries k h = drop-entries words k h ∙ ap (λ (n : ℕ). journal_from words k ∷ drop n (journal_list words)) (sym (add-one k))

pub matched-append : (es fs : List JournalEntry) → matched_in (es ++ fs) ≡ matched_in es ++ matched_in fs
matched-append [] fs = refl
matched-append (e ∷ es) fs =
    let k = keep (eqb e.verdict 1) (e.index ∷ []) in
    ap (λ (l : List ℕ). k ++ l) (matched-append es fs) ∙ sym (append_assoc k (matched_in es) (matched_in fs))

-- THE MEMBERS AMONG ARRAYS OF TWO NUMBERS

abbrev pub is_matched : List ℕ → Bool
is_matched entry = eqb (get_or entry 1 0) 1

-- the first that is matched, of what was found, or 0
abbrev pub index_of : Option (List ℕ) → ℕ
index_of found = unwrap_or (option_map (λ entry. get_or entry 0 0) found) 0

abbrev entries_of : List (List ℕ) → List JournalEntry
entries_of arrays = map (λ a. journal_from a 0) arrays

first-matched : (arrays : List (List ℕ)) → index_of (find is_matched arrays) ≡ starter_of (matched_in (entries_of arrays))
first-matched [] = refl
first-matched (a ∷ arrays) = go (eqb (get_or a 1 0) 1) (first-matched arrays)
  where
    go : (b : Bool) → index_of (find is_matched arrays) ≡ starter_of (matched_in (entries_of arrays))
        → index_of (cond b (Some a) (find is_matched arrays)) ≡ starter_of (keep b (get_or a 0 0 ∷ []) ++ matched_in (entries_of arrays))
    go true h = refl
    go false h = h

pub starter-found : (words : List ℕ) → index_of (find is_matched (first_chunks 2 (length words / 2) words))
    ≡ starter_of (matched_in (journal_list words))
starter-found words =
    first-matched (first_chunks 2 (length words / 2) words)
    ∙ ap (λ (es : List JournalEntry). starter_of (matched_in es)) (journal-arrays words)

-- the last member of a list is the first from its end on
starter-append : (l r : List ℕ) → 0 < length l → starter_of (l ++ r) ≡ starter_of l
starter-append [] r h = absurd (omega arith)
starter-append (x ∷ l) r h = refl

starter-reverse : (ms : List ℕ) → starter_of (reverse ms) ≡ closer_of ms
starter-reverse [] = refl
starter-reverse (m ∷ []) = refl
starter-reverse (m ∷ n ∷ ms) =
    ap starter_of (reverse_onto (n ∷ ms) m [])
    ∙ starter-append (reverse (n ∷ ms)) (m ∷ []) (omega (arith, length-reverse (n ∷ ms)))
    ∙ starter-reverse (n ∷ ms)

matched-reverse : (arrays : List (List ℕ)) → matched_in (entries_of (reverse arrays)) ≡ reverse (matched_in (entries_of arrays))
matched-reverse [] = refl
matched-reverse (a ∷ arrays) =
    ap (λ (l : List (List ℕ)). matched_in (entries_of l)) (reverse_onto arrays a [])
    ∙ ap matched_in (map-append (λ a. journal_from a 0) (reverse arrays) (a ∷ []))
    ∙ matched-append (entries_of (reverse arrays)) (entries_of (a ∷ []))
    ∙ ap (λ (l : List ℕ). l ++ matched_in (entries_of (a ∷ []))) (matched-reverse arrays)
    ∙ go (eqb (get_or a 1 0) 1)
  where
    ms : List ℕ
    ms = matched_in (entries_of arrays)

    go : (b : Bool) → reverse ms ++ (keep b (get_or a 0 0 ∷ []) ++ []) ≡ reverse (keep b (get_or a 0 0 ∷ []) ++ ms)
    go true = sym (reverse_onto ms (get_or a 0 0) [])
    go false = append-nil (reverse ms)

pub closer-found : (words : List ℕ) → index_of (find is_matched (reverse (first_chunks 2 (length words / 2) words)))
    ≡ closer_of (matched_in (journal_list words))
closer-found words =
    let arrays = first_chunks 2 (length words / 2) words in
    first-matched (reverse arrays)
    ∙ ap starter_of (matched-reverse arrays)
    ∙ starter-reverse (matched_in (entries_of arrays))
    ∙ ap (λ (es : List JournalEntry). closer_of (matched_in es)) (journal-arrays words)
