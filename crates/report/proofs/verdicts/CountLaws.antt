-- Entries of a journal, counted one after the other. Assumes nothing.
use Prim.Native.Nat.{ℕ, suc, ◌+◌, ◌*◌, ◌/◌, ◌^◌, ◌≤◌, ◌<◌}
use mathlib.Core.Path.{◌≡◌, ap}
use mathlib.Core.Bool.{Bool, true, false, cond}
use mathlib.Core.List.{List, [], ◌∷◌}
use native.Mathlib.Omega.{arith}
use mir.Syntax.{w64}
use mir.Val.{Fits}
use borrow.Author.Tests.{eq-eqb, ne_eqb}
use lib.Dec.{eqb}
use lib.ListN.{length, drop, get_or}
use Rattle.reading.specs.declared.JournalEntry.{JournalEntry}
use Rattle.reading.specs.Records.{journal_from, journal_list}
use Rattle.reading.specs.Report.{entries_with}
use Rattle.lists.proofs.RecordLaws.{length-records, drop-records, records-end}

one-or-none : (b : Bool) → cond b 1 0 ≤ 1
one-or-none true = omega arith
one-or-none false = omega arith

-- no more than there are
few : (n : ℕ) (es : List JournalEntry) → entries_with n es ≤ length es
few n [] = omega arith
few n (e ∷ es) = omega (arith, one-or-none (eqb e.verdict n), few n es)

module _ (words : List ℕ) where
  -- so many were counted of those with a verdict's number, before the entry k
  abbrev pub Counted : ℕ → ℕ → ℕ → Type 0
  Counted n count k = count + entries_with n (drop k (journal_list words)) ≡ entries_with n (journal_list words)

  -- one entry more, whose verdict is v
  module _ (n count k v : ℕ) (h : k < length words / 2) (is : v ≡ get_or words (2 * k + 1) 0) (c : Counted n count k) where
    pub counted-more : Counted n (count + cond (eqb v n) 1 0) (k + 1)
    unfolding journal_list
    counted-more =
        let one : k + 1 ≡ suc k = omega arith in
        let rest = entries_with n (drop (suc k) (journal_list words)) in
        let e : entries_with n (drop k (journal_list words)) ≡ cond (eqb (get_or words (2 * k + 1) 0) n) 1 0 + rest
        = ap (entries_with n) (drop-records 2 journal_from words k h) in
        rw (one, is) (omega (arith, c, e))

    -- one that has that number, and one that has another
    pub counted-hit : v ≡ n → Counted n (count + 1) (k + 1)
    counted-hit e = rw (eq-eqb v n e) at counted-more

    pub counted-other : (v ≡ n → ⊥) → Counted n count (k + 1)
    counted-other e = let z : count + 0 ≡ count = omega arith in rw (ne_eqb v n e, z) at counted-more

  -- all after the last
  pub counted-all : (n count k : ℕ) → length words / 2 ≤ k → Counted n count k → count ≡ entries_with n (journal_list words)
  unfolding journal_list
  counted-all n count k h c =
      let e : entries_with n (drop k (journal_list words)) ≡ 0 = ap (entries_with n) (records-end 2 journal_from words k h) in
      omega (arith, c, e)

  -- no count is greater than the number of entries, which are in memory
  pub counted-fits : (n count k one : ℕ) → Counted n count k → one ≤ 1 → 8 * length words < 2 ^ 64 → Fits w64 (count + one)
  unfolding journal_list
  counted-fits n count k one c e small = omega (arith, c, few n (journal_list words), length-records 2 journal_from words)

-- what a verdict adds is one or nothing
pub one_at_most : (v n one : ℕ) → one ≡ cond (eqb v n) 1 0 → one ≤ 1
one_at_most v n one e = omega (arith, e, one-or-none (eqb v n))
