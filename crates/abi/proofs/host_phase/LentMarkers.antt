-- The call on unpacked markers is the call on the records: up to 257 they are the same list, and above that both calls are refused
-- with the same number. Assumes nothing.
use Prim.Native.Nat.{ℕ, zero, suc, ◌+◌, ◌*◌, ◌<◌, ◌≤◌}
use mathlib.Core.Path.{◌≡◌, refl, sym, ◌∙◌, ap, subst}
use mathlib.Core.Bool.{Bool, true, false, cond, ◌||◌}
use mathlib.Core.List.{List, [], ◌∷◌, ◌++◌}
use native.Mathlib.Omega.{arith}
use borrow.Author.Tests.{lt-ltb, ltb-true, ltb-false, ne_eqb}
use lib.Dec.{ltb}
use lib.ListN.{length, take, replicate}
use lib.Seq.{take-length, length-take-le}
use Rattle.reading.specs.declared.CallSettings.{CallSettings}
use Rattle.reading.specs.declared.Marker.{Marker}
use Rattle.reading.specs.Lists.{over}
use Rattle.reading.specs.Records.{marker_from, marker_list, journal_words, data_words, given_of, LentLists}
use Rattle.reading.specs.Call.{Given, Call, rule_count}
use Rattle.reading.specs.Refusals.{refusal_of, refused1, refused2}
use Rattle.reading.specs.Walk.{Visit, journal_of, data_of}
use Rattle.reading.specs.Report.{no_report}
use Rattle.reading.specs.Outcome.{Outcome, visits_of, outcome_of, at_free_end, transaction_after, lists_after}
use Rattle.reading.specs.Demand3.{Demand3}
use Rattle.lists.proofs.RecordLaws.{records-cons}
use Rattle.theorems.specs.Demands.{demand3}
use Rattle.control.specs.ControlsStruct.{Became}
use Rattle.apply.specs.AddedRanges.{adds_ranges}
use Rattle.abi.specs.MarkerWords.{marker_words, words_of}
use Rattle.transaction.specs.declared.types.Transaction.{Transaction}
use Rattle.transaction.specs.declared.types.Phase.{Phase}
use Rattle.transaction.specs.RunPhase.{Ran, outcome_found, call_of}
use Rattle.transaction.proofs.Promise.{refused-visits}
use Rattle.abi.specs.HostCall.{lent_words}

-- THE NUMBERS OF MARKERS

marker-cons : (x y z : ℕ) (rest : List ℕ) → marker_list (x ∷ y ∷ z ∷ rest) ≡ record { name = record { start = x; len = y }; position = z } ∷ marker_list rest
unfolding marker_list
marker-cons x y z rest = records-cons 3 marker_from (x ∷ y ∷ z ∷ rest) rest (omega arith) next
  where
    next : (i : ℕ) → marker_from (x ∷ y ∷ z ∷ rest) (suc i) ≡ marker_from rest i
    next i =
        let e : 3 * suc i ≡ suc (suc (suc (3 * i))) = omega arith in
        let f : 3 * suc i + 1 ≡ suc (suc (suc (3 * i + 1))) = omega arith in
        let g : 3 * suc i + 2 ≡ suc (suc (suc (3 * i + 2))) = omega arith in
        rw (g, f, e)

-- the numbers of records stand for those records
markers-back : (ms : List Marker) → marker_list (marker_words ms) ≡ ms
unfolding marker_list
markers-back [] = refl
markers-back (m ∷ ms) = marker-cons m.name.start m.name.len m.position (marker_words ms) ∙ ap (λ (l : List Marker). m ∷ l) (markers-back ms)

-- the numbers of the first k records are the first numbers of all
first-words : (k : ℕ) (ms : List Marker) (rest : List ℕ) → k ≤ length ms → take (3 * k) (marker_words ms ++ rest) ≡ marker_words (take k ms)
first-words zero ms rest h = refl
first-words (suc k) [] rest h = absurd (omega arith)
first-words (suc k) (m ∷ ms) rest h =
    let e : 3 * suc k ≡ suc (suc (suc (3 * k))) = omega arith in
    rw e (ap (λ (l : List ℕ). m.name.start ∷ m.name.len ∷ m.position ∷ l) (first-words k ms rest (omega arith)))

take-take : (n k : ℕ) (l : List ℕ) → n ≤ k → take n (take k l) ≡ take n l
take-take zero k l h = refl
take-take (suc n) zero l h = absurd (omega arith)
take-take (suc n) (suc k) [] h = refl
take-take (suc n) (suc k) (x ∷ l) h = ap (λ (z : List ℕ). x ∷ z) (take-take n k l (omega arith))

first-markers : (k : ℕ) (ms : List Marker) → k ≤ length ms → k ≤ 257 → marker_list (take (3 * k) (words_of ms)) ≡ take k ms
unfolding words_of
first-markers k ms h b =
    ap marker_list (take-take (3 * k) 771 (marker_words ms ++ replicate 771 0) (omega arith) ∙ first-words k ms (replicate 771 0) h) ∙ markers-back (take k ms)

pub few_words : (n : ℕ) → lent_words n ≤ 771
few_words n = by (ltb 257 n) refl
  where
    by : (b : Bool) → ltb 257 n ≡ b → cond b 771 (3 * n) ≤ 771
    by true e = omega arith
    by false e = omega (arith, ltb-false 257 n e)

-- CALLS THAT ARE REFUSED

-- what is found after a refused call, by its number and by what was lent but for the markers
unvisited : Call → ℕ → Outcome
unvisited q n = record {
  answer = n;
  error = 0;
  visits = 0;
  report = no_report;
  transaction = transaction_after q.given q.transaction [];
  lists = lists_after q.given q.transaction q.lists [];
}

refused-outcome : (q : Call) → (refusal_of q ≡ 0 → ⊥) → outcome_of q ≡ unvisited q (refusal_of q)
unfolding outcome_of unvisited
refused-outcome q h = rw (ne_eqb (refusal_of q) 0 h, refused-visits q h)

-- more than 256 markers: refusal 1 or 2
many-refused : (q : Call) → 256 < length q.given.markers → refusal_of q ≡ cond (refused1 q) 1 2
unfolding refusal_of refused2
many-refused q h =
    by (refused1 q) (ltb 512 (rule_count q.given)) (ltb 4096 (length q.given.actions)) (ltb 256 (length q.given.markers)) (lt-ltb 256 (length q.given.markers) h) (ltb 65536 (length q.given.text)) _
  where
    by : (a x y z : Bool) → z ≡ true → (w : Bool) (n : ℕ) → cond a 1 (cond (x || y || z || w) 2 n) ≡ cond a 1 2
    by true x y z e w n = refl
    by false true y z e w n = refl
    by false false true z e w n = refl
    by false false false z e w n = ap (λ (b : Bool). cond (b || w) 2 n) e

one-or-two : (b : Bool) → ◌≡◌ {A = ℕ} (cond b 1 2) 0 → ⊥
one-or-two true e = omega arith
one-or-two false e = omega arith

module _ (call : CallSettings) (rules actions text outcomes : List ℕ) (t : Transaction) (l : LentLists) (r : Phase) (l' : LentLists) where
  abbrev given : List Marker → Given
  given ms = given_of call rules actions ms text outcomes

  abbrev Left : List Marker → Type 0
  Left ms = Ran (given ms) t l r l'

  -- what a call with many markers leaves, a call with other many markers leaves too
  ran_many : (ms ms' : List Marker) → 256 < length ms → 256 < length ms' → Left ms → Left ms'
  unfolding unvisited refused1
  ran_many ms ms' h g ran =
      record {
        outcome = found;
        journal-numbers = ran.journal-numbers ∙ ap (λ (vs : List Visit). over l.journal (journal_words (journal_of vs))) (none ∙ sym none');
        data-numbers = ran.data-numbers
            ∙ ap (λ (vs : List Visit). at_free_end (4 * t.entries) l.entries (data_words (data_of (given ms) vs))) none
            ∙ sym (ap (λ (vs : List Visit). at_free_end (4 * t.entries) l.entries (data_words (data_of (given ms') vs))) none');
        controls = subst (λ (b : Bool). Became b t.controls r.transaction.controls (outcome_of q').transaction.controls)
            (ap (adds_ranges (given ms)) none ∙ sym (ap (adds_ranges (given ms')) none'))
            (subst (λ (o : Outcome). Became (adds_ranges (given ms) (visits_of q)) t.controls r.transaction.controls o.transaction.controls) same
            ran.controls);
        refused = λ n. ran.refused away;
        demand3 = subst (λ (o : Outcome). Demand3 q' o) (sym found) (demand3 q');
      }
    where
      q : Call
      q = call_of (given ms) t l

      q' : Call
      q' = call_of (given ms') t l

      number : refusal_of q ≡ refusal_of q'
      number = many-refused q h ∙ sym (many-refused q' g)

      away : refusal_of q ≡ 0 → ⊥
      away e = one-or-two (refused1 q) (sym (many-refused q h) ∙ e)

      away' : refusal_of q' ≡ 0 → ⊥
      away' e = away (number ∙ e)

      none : visits_of q ≡ []
      none = refused-visits q away

      none' : visits_of q' ≡ []
      none' = refused-visits q' away'

      same : outcome_of q ≡ outcome_of q'
      same = refused-outcome q away ∙ ap (unvisited q) number ∙ sym (refused-outcome q' away')

      found : outcome_found r l' ≡ outcome_of q'
      found = ran.outcome ∙ same

  -- what the call on the first numbers of unpacked markers leaves, the call on the records leaves
  pub ran-lent : (ms : List Marker) (words : List ℕ) → words ≡ take (lent_words (length ms)) (words_of ms) → Left (marker_list words) → Left ms
  ran-lent ms words e ran = by (ltb 257 (length ms)) refl
    where
      read : (k : ℕ) → lent_words (length ms) ≡ 3 * k → k ≤ length ms → k ≤ 257 → Left (take k ms)
      read k n h b = subst Left (ap marker_list (e ∙ ap (λ (j : ℕ). take j (words_of ms)) n) ∙ first-markers k ms h b) ran

      by : (b : Bool) → ltb 257 (length ms) ≡ b → Left ms
      by false o =
          let h : length ms ≤ 257 = ltb-false 257 (length ms) o in
          subst Left (take-length ms) (read (length ms) (ap (λ (c : Bool). cond c 771 (3 * length ms)) o) (omega arith) h)
      by true o =
          let h : 257 < length ms = ltb-true 257 (length ms) o in
          let n : length (take 257 ms) ≡ 257 = length-take-le 257 ms (omega arith) in
          ran_many (take 257 ms) ms (omega (arith, n)) (omega arith)
          (read 257 (ap (λ (c : Bool). cond c 771 (3 * length ms)) o) (omega arith) (omega arith))
