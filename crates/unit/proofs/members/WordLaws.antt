-- Entries of the journal and data entries, and the numbers that they are written as. Assumes nothing.
use Prim.Native.Nat.{ℕ, zero, suc, ◌+◌, ◌*◌, ◌-◌, ◌≤◌}
use mathlib.Core.Path.{◌≡◌, refl, sym, ap, ◌∙◌}
use mathlib.Core.List.{List, [], ◌∷◌, ◌++◌}
use native.Mathlib.Omega.{arith}
use lib.ListN.{length, take, drop, length-drop}
use lib.Seq.{take_at, drop-append-le}
use Rattle.reading.specs.declared.DataEntry.{DataEntry}
use Rattle.reading.specs.declared.JournalEntry.{JournalEntry}
use Rattle.reading.specs.Lists.{over}
use Rattle.reading.specs.Outcome.{at_free_end}
use Rattle.reading.specs.Records.{journal_from, journal_list, journal_words, data_from, data_list, data_words}
use Rattle.lists.proofs.RecordLaws.{records-cons}

-- the journal
pub journal-cons : (x y : ℕ) (rest : List ℕ) → journal_list (x ∷ y ∷ rest) ≡ record { index = x; verdict = y } ∷ journal_list rest
unfolding journal_list
journal-cons x y rest = records-cons 2 journal_from (x ∷ y ∷ rest) rest (omega arith) next
  where
    next : (i : ℕ) → journal_from (x ∷ y ∷ rest) (suc i) ≡ journal_from rest i
    next i =
        let e : 2 * suc i ≡ suc (suc (2 * i)) = omega arith in
        let f : 2 * suc i + 1 ≡ suc (suc (2 * i + 1)) = omega arith in
        rw (f, e)

pub length-journal-words : (es : List JournalEntry) → length (journal_words es) ≡ 2 * length es
length-journal-words [] = refl
length-journal-words (e ∷ es) = omega (arith, length-journal-words es)

pub journal-words-append : (es fs : List JournalEntry) → journal_words (es ++ fs) ≡ journal_words es ++ journal_words fs
journal-words-append [] fs = refl
journal-words-append (e ∷ es) fs = ap (λ (l : List ℕ). e.index ∷ e.verdict ∷ l) (journal-words-append es fs)

-- entries that are written, and what follows them
pub journal-append : (es : List JournalEntry) (rest : List ℕ) → journal_list (journal_words es ++ rest) ≡ es ++ journal_list rest
journal-append [] rest = refl
journal-append (e ∷ es) rest = journal-cons e.index e.verdict (journal_words es ++ rest)
    ∙ ap (λ (l : List JournalEntry). e ∷ l) (journal-append es rest)

pub journal-written : (es : List JournalEntry) → journal_list (journal_words es) ≡ es
unfolding journal_list
journal-written [] = refl
journal-written (e ∷ es) = journal-cons e.index e.verdict (journal_words es)
    ∙ ap (λ (l : List JournalEntry). e ∷ l) (journal-written es)

pub journal-drop : (k : ℕ) (words : List ℕ) → 2 * k ≤ length words → journal_list (drop (2 * k) words) ≡ drop k (journal_list words)
journal-drop zero words h = refl
journal-drop (suc k) [] h = absurd (omega arith)
journal-drop (suc k) (x ∷ []) h = absurd (omega arith)
journal-drop (suc k) (x ∷ y ∷ rest) h =
    let e : 2 * suc k ≡ suc (suc (2 * k)) = omega arith in
    rw (e, journal-cons x y rest) (journal-drop k rest (omega arith))

pub journal-over : (words : List ℕ) (es : List JournalEntry) → 2 * length es ≤ length words
    → journal_list (over words (journal_words es)) ≡ over (journal_list words) es
journal-over words es h = journal-append es (drop (length (journal_words es)) words)
    ∙ ap (λ (l : List JournalEntry). es ++ l)
    (ap (λ (n : ℕ). journal_list (drop n words)) (length-journal-words es) ∙ journal-drop (length es) words h)

-- the part of the journal from the entry f to the last one, which is lent as `&journal[2 * f..2 * k]`
pub journal-part : (words : List ℕ) (es : List JournalEntry) (rest : List ℕ) (f k : ℕ)
    → words ≡ journal_words es ++ rest → k ≡ length es → f ≤ k
    → journal_list (take (2 * k - 2 * f) (drop (2 * f) words)) ≡ drop f es
journal-part words es rest f k w n h =
    let m : length (journal_words es) ≡ 2 * k = length-journal-words es ∙ ap (λ (i : ℕ). 2 * i) (sym n) in
    let d : drop (2 * f) (journal_words es ++ rest) ≡ drop (2 * f) (journal_words es) ++ rest =
    drop-append-le (2 * f) (journal_words es) rest (omega arith) in
    let t : take (2 * k - 2 * f) (drop (2 * f) (journal_words es) ++ rest) ≡ drop (2 * f) (journal_words es) =
    take_at (drop (2 * f) (journal_words es)) rest (2 * k - 2 * f) (omega (arith, length-drop (2 * f) (journal_words es))) in
    ap (λ (l : List ℕ). journal_list (take (2 * k - 2 * f) l)) (ap (drop (2 * f)) w ∙ d) ∙ ap journal_list t
    ∙ journal-drop f (journal_words es) (omega arith) ∙ ap (drop f) (journal-written es)

-- the data entries
pub data-cons : (a b c d : ℕ) (rest : List ℕ)
    → data_list (a ∷ b ∷ c ∷ d ∷ rest) ≡ record { present = a; id = b; phase = c; index = d } ∷ data_list rest
unfolding data_list
data-cons a b c d rest = records-cons 4 data_from (a ∷ b ∷ c ∷ d ∷ rest) rest (omega arith) next
  where
    next : (i : ℕ) → data_from (a ∷ b ∷ c ∷ d ∷ rest) (suc i) ≡ data_from rest i
    next i =
        let e : 4 * suc i ≡ suc (suc (suc (suc (4 * i)))) = omega arith in
        let f : 4 * suc i + 1 ≡ suc (suc (suc (suc (4 * i + 1)))) = omega arith in
        let g : 4 * suc i + 2 ≡ suc (suc (suc (suc (4 * i + 2)))) = omega arith in
        let h : 4 * suc i + 3 ≡ suc (suc (suc (suc (4 * i + 3)))) = omega arith in
        rw (h, g, f, e)

pub length-data-words : (es : List DataEntry) → length (data_words es) ≡ 4 * length es
length-data-words [] = refl
length-data-words (e ∷ es) = omega (arith, length-data-words es)

pub data-words-append : (es fs : List DataEntry) → data_words (es ++ fs) ≡ data_words es ++ data_words fs
data-words-append [] fs = refl
data-words-append (e ∷ es) fs =
    ap (λ (l : List ℕ). e.present ∷ e.id ∷ e.phase ∷ e.index ∷ l) (data-words-append es fs)

pub data-append : (es : List DataEntry) (rest : List ℕ) → data_list (data_words es ++ rest) ≡ es ++ data_list rest
data-append [] rest = refl
data-append (e ∷ es) rest = data-cons e.present e.id e.phase e.index (data_words es ++ rest)
    ∙ ap (λ (l : List DataEntry). e ∷ l) (data-append es rest)

pub data-drop : (k : ℕ) (words : List ℕ) → 4 * k ≤ length words → data_list (drop (4 * k) words) ≡ drop k (data_list words)
data-drop zero words h = refl
data-drop (suc k) [] h = absurd (omega arith)
data-drop (suc k) (a ∷ []) h = absurd (omega arith)
data-drop (suc k) (a ∷ b ∷ []) h = absurd (omega arith)
data-drop (suc k) (a ∷ b ∷ c ∷ []) h = absurd (omega arith)
data-drop (suc k) (a ∷ b ∷ c ∷ d ∷ rest) h =
    let e : 4 * suc k ≡ suc (suc (suc (suc (4 * k)))) = omega arith in
    rw (e, data-cons a b c d rest) (data-drop k rest (omega arith))

pub data-take : (k : ℕ) (words more : List ℕ) → 4 * k ≤ length words
    → data_list (take (4 * k) words ++ more) ≡ take k (data_list words) ++ data_list more
data-take zero words more h = refl
data-take (suc k) [] more h = absurd (omega arith)
data-take (suc k) (a ∷ []) more h = absurd (omega arith)
data-take (suc k) (a ∷ b ∷ []) more h = absurd (omega arith)
data-take (suc k) (a ∷ b ∷ c ∷ []) more h = absurd (omega arith)
data-take (suc k) (a ∷ b ∷ c ∷ d ∷ rest) more h =
    let e : 4 * suc k ≡ suc (suc (suc (suc (4 * k)))) = omega arith in
    rw (e, data-cons a b c d rest, data-cons a b c d (take (4 * k) rest ++ more))
    (ap (λ (l : List DataEntry). record { present = a; id = b; phase = c; index = d } ∷ l) (data-take k rest more (omega arith)))

pub data-over : (words : List ℕ) (es : List DataEntry) → 4 * length es ≤ length words
    → data_list (over words (data_words es)) ≡ over (data_list words) es
data-over words es h = data-append es (drop (length (data_words es)) words)
    ∙ ap (λ (l : List DataEntry). es ++ l)
    (ap (λ (n : ℕ). data_list (drop n words)) (length-data-words es) ∙ data-drop (length es) words h)

pub data-free-end : (used : ℕ) (words : List ℕ) (es : List DataEntry) → 4 * (used + length es) ≤ length words
    → data_list (at_free_end (4 * used) words (data_words es)) ≡ at_free_end used (data_list words) es
data-free-end used words es h =
    let left : List ℕ = drop (4 * used) words in
    data-take used words (over left (data_words es)) (omega arith)
    ∙ ap (λ (l : List DataEntry). take used (data_list words) ++ l)
    (data-over left es (omega (arith, length-drop (4 * used) words)))
    ∙ ap (λ (l : List DataEntry). take used (data_list words) ++ over l es) (data-drop used words (omega arith))
