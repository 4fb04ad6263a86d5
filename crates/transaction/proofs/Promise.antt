-- What the phase call promises, from what its parts leave: a refused call, one with nothing to do, and one that was walked.
use Rattle.std.specs.Prelude.{Option, None}
use Prim.Native.Nat.{ℕ, ◌+◌, ◌*◌, ◌/◌, ◌≤◌}
use mathlib.Core.Path.{◌≡◌, refl, sym, ap, subst, ◌∙◌}
use mathlib.Core.Bool.{Bool, true, false, not, cond, ◌||◌}
use mathlib.Core.List.{List, []}
use native.Mathlib.Omega.{arith}
use borrow.Author.Tests.{ne_eqb, ltb-false, eqb-true}
use lib.ListN.{length, take, drop, replicate, length-append, take-append-drop}
use lib.Seq.{take_at}
use lib.Dec.{ltb, eqb}
use Rattle.reading.specs.declared.Intervention.{Intervention}
use Rattle.reading.specs.Lists.{keep, over}
use Rattle.reading.specs.Controls.{is_off}
use Rattle.reading.specs.declared.Report.{Report}
use Rattle.reading.specs.Records.{LentLists, data_from, data_list, data_words, journal_from, journal_list, journal_words}
use Rattle.reading.specs.Call as reading
use Rattle.reading.specs.Report.{report_by, report_of}
use Rattle.reading.specs.Call.{Given, Call, rule_count, mode_under}
use Rattle.reading.specs.Walk.{Visit, walk, walk_of, start, is_stopped, nothing_to_do, journal_of, ids_of, data_of}
use Rattle.reading.specs.Walk.{controls_after, allowed_by, intervention_by, answer_by, error_index_by}
use Rattle.reading.specs.Refusals.{refusal_of, refused1, refused2, refused3, refused4, refused5}
use Rattle.reading.specs.Refusals.{refused6, refused7, refused8, refused9}
use Rattle.reading.specs.Outcome.{visits_of, outcome_of, at_free_end, if_none}
use Rattle.reading.specs.Demand3.{Demand3}
use Rattle.lists.proofs.Tests.{or-false}
use Rattle.theorems.specs.Demands.{AsLent, demand3, refused-as-lent, idle-as-lent}
use Rattle.theorems.specs.Demands.{none-held, or-none, refused-answer, idle-answer, accepted-answer}
use Rattle.theorems.specs.WithinLimits.{Passed, passed, next_one, Free, not-seventh, ranges-given, targets-given}
use Rattle.theorems.specs.WalkRanges.{accepted-form}
use Rattle.theorems.specs.WithinLimits.{accepted-visits, ids-within, data-within, visits-within, length-journal}
use Rattle.lists.proofs.RecordLaws.{length-records}
use Rattle.theorems.specs.Reported.{report-told}
use Rattle.unit.proofs.members.WordLaws.{journal-over, journal-written, data-free-end, length-journal-words}
use Rattle.control.specs.ControlsStruct.{controls_of}
use Rattle.apply.specs.AddedRanges.{adds_ranges}
use Rattle.apply.specs.Codes.{codes_of}
use Rattle.refusals.specs.FirstRefusal.{first_of_seven}
use Rattle.refusals.proofs.first.LentLaws.{one_same, one-past}
use Rattle.transaction.specs.declared.types.Transaction.{Transaction}
use Rattle.transaction.specs.declared.types.Phase.{Phase}
use Rattle.transaction.specs.RunPhase.{transaction_of, call_of, answer_without, outcome_found, Ran}
use Rattle.transaction.specs.WalkRules.{WalkLists, walk_lists, fresh, visits_from, Ready, Walked}
use Rattle.transaction.proofs.Turns.{true-false}

-- THE FIRST REFUSAL, BY ITS PARTS

not-false : (b : Bool) → not b ≡ false → b ≡ true
not-false true e = refl
not-false false e = absurd (let y : ◌≡◌ {A = ℕ} 0 1 = cc in omega arith)

few-actions : (q : Call) → refused2 q ≡ false → length q.given.actions ≤ 4096
unfolding refused2
few-actions q e =
    let rules : Bool = ltb 512 (rule_count q.given) in
    let actions : Bool = ltb 4096 (length q.given.actions) in
    let markers : Bool = ltb 256 (length q.given.markers) in
    let p1 = or-false (rules || actions || markers) (ltb 65536 (length q.given.text)) e in
    let p2 = or-false (rules || actions) markers p1.0 in
    ltb-false 4096 (length q.given.actions) (or-false rules actions p2.0).1

as-many-outcomes : (q : Call) → refused4 q ≡ false → length q.given.outcomes ≡ rule_count q.given
unfolding refused4
as-many-outcomes q e = eqb-true (length q.given.outcomes) (rule_count q.given) (not-false (eqb (length q.given.outcomes) (rule_count q.given)) e)

module _ (q : Call) where
  -- what the first seven leave to the last two
  abbrev pub last_two : ℕ
  last_two = cond (refused8 q) 8 (cond (refused9 q) 9 0)

  pub seven-first : (first_of_seven q ≡ 0 → ⊥) → refusal_of q ≡ first_of_seven q
  unfolding first_of_seven refusal_of
  seven-first =
      one_same (refused1 q) 1 _ _ (one_same (refused2 q) 2 _ _ (one_same (refused3 q) 3 _ _ (one_same (refused4 q) 4 _ _
      (one_same (refused5 q) 5 _ _ (one_same (refused6 q) 6 _ _ (one_same (refused7 q) 7 last_two 0 (λ h. absurd (h refl))))))))

  pub past-seven : first_of_seven q ≡ 0 → refusal_of q ≡ last_two
  unfolding first_of_seven refusal_of
  past-seven =
      one-past (refused1 q) 0 _ _ _ (one-past (refused2 q) 1 _ _ _ (one-past (refused3 q) 2 _ _ _ (one-past (refused4 q) 3 _ _ _
      (one-past (refused5 q) 4 _ _ _ (one-past (refused6 q) 5 _ _ _ (one-past (refused7 q) 6 last_two 0 last_two (λ h. refl)))))))

  -- what the codes need before refusals 8 and 9 are tested
  pub few-of-seven : first_of_seven q ≡ 0 → length q.given.actions ≤ 4096
  unfolding first_of_seven
  few-of-seven e =
      let p1 = next_one (refused1 q) 0 _ e in
      let p2 = next_one (refused2 q) 1 _ p1.1 in
      few-actions q p2.0

-- THE PROMISE

-- of the lists of a call, those that the walk writes
abbrev pub lists_of_walk : LentLists → WalkLists
lists_of_walk l = walk_lists l.ids l.entries l.journal

-- what is to do: not allowed, not stopped, and the mode not Off
pub record Busy (g : Given) (t : reading.Transaction) : Type 0 where
  pub unallowed : t.allowed ≡ false
  pub unstopped : t.intervention ≡ None
  pub not-off : is_off (mode_under g t.controls) ≡ false

pub busy : (g : Given) (t : reading.Transaction) → nothing_to_do g t ≡ false → Busy g t
busy g t h =
    let allowed : Bool = t.allowed in
    let stopped : Bool = is_stopped t.intervention in
    let off : Bool = is_off (mode_under g t.controls) in
    let p1 = or-false (allowed || stopped || off) (eqb (rule_count g) 0) h in
    let p2 = or-false (allowed || stopped) off p1.0 in
    let p3 = or-false allowed stopped p2.0 in
    record { unallowed = p3.0; unstopped = none-held t.intervention p3.1; not-off = p2.1 }

-- then nothing but its controls and counts tells a transaction from a new one
pub fresh-is : (t : Transaction) → t.allowed ≡ false → t.intervention ≡ None → t ≡ fresh t
fresh-is t a n = λ i. record {
  controls = t.controls;
  allowed = a i;
  intervention = n i;
  ids = t.ids;
  entries = t.entries;
}

pub refused-visits : (q : Call) → (refusal_of q ≡ 0 → ⊥) → visits_of q ≡ []
unfolding visits_of
refused-visits q h = ap (λ (b : Bool). keep b (walk_of q.given q.transaction)) (ne_eqb (refusal_of q) 0 h)

-- the whole walk, by whether there is something to do
walk-by : (g : Given) (t : reading.Transaction) (b : Bool) → nothing_to_do g t ≡ b
    → walk_of g t ≡ keep (not b) (walk (rule_count g) g (start t))
unfolding walk_of
walk-by g t b h = ap (λ (b : Bool). keep (not b) (walk (rule_count g) g (start t))) h

no-error : (q : Call) → visits_of q ≡ [] → (outcome_of q).error ≡ 0
unfolding outcome_of
no-error q e = ap error_index_by e

pub length-data-list : (words : List ℕ) → length (data_list words) ≡ length words / 4
unfolding data_list
length-data-list words = length-records 4 data_from words

pub length-journal-list : (words : List ℕ) → length (journal_list words) ≡ length words / 2
unfolding journal_list
length-journal-list words = length-records 2 journal_from words

module _ (g : Given) (t : Transaction) (l : LentLists) where
  abbrev q : Call
  q = call_of g t l

  abbrev entry : reading.Transaction
  entry = transaction_of t

  abbrev as_lent : ℕ → Phase
  as_lent k = record { answer = answer_without k; transaction = t }

  ran-as-lent : (k : ℕ) → k ≡ (outcome_of q).answer → AsLent q (outcome_of q) → visits_of q ≡ [] → Ran g t l (as_lent k) l
  ran-as-lent k a same v =
      let o : outcome_found (as_lent k) l ≡ outcome_of q =
      (λ i. record {
        answer = a i;
        error = sym (no-error q v) i;
        visits = sym same.visits i;
        report = sym same.report i;
        transaction = sym same.transaction i;
        lists = sym same.lists i;
      }) in
      record {
        outcome = o;
        journal-numbers = ap (λ (vs : List Visit). over l.journal (journal_words (journal_of vs))) (sym v);
        data-numbers =
            sym (take-append-drop (4 * t.entries) l.entries)
            ∙ ap (λ (vs : List Visit). at_free_end (4 * t.entries) l.entries (data_words (data_of g vs))) (sym v);
        controls = record {
          meaning = ap (λ x. x.controls) (sym same.transaction);
          kept = λ z. record { count = refl; starts = refl; ends = refl };
          cleared = λ z. absurd (true-false (sym z ∙ ap (adds_ranges g) v));
          phases = refl;
          positions = refl;
        };
        refused = λ h. refl;
        demand3 = subst (λ x. Demand3 q x) (sym o) (demand3 q);
      }

  pub ran-refused : (k : ℕ) → k ≡ refusal_of q → (k ≡ 0 → ⊥) → Ran g t l (as_lent k) l
  ran-refused k e h =
      let n : refusal_of q ≡ 0 → ⊥ = (λ z. h (e ∙ z)) in
      ran-as-lent k (e ∙ sym (refused-answer q n)) (refused-as-lent q n) (refused-visits q n)

  pub ran-idle : refusal_of q ≡ 0 → nothing_to_do g entry ≡ true → Ran g t l (as_lent 0) l
  ran-idle e h =
      ran-as-lent 0 (sym (idle-answer q e h)) (idle-as-lent q e h) (accepted-visits q e ∙ walk-by g entry true h)

  module _ (e : refusal_of q ≡ 0) (h : nothing_to_do g entry ≡ false) where
    walk_is : walk_of g entry ≡ visits_from g t
    walk_is = walk-by g entry false h

    visits-are : visits_of q ≡ visits_from g t
    visits-are = accepted-visits q e ∙ walk_is

    controls-are : (outcome_of q).transaction.controls ≡ controls_after (controls_of t.controls) (visits_from g t)
    unfolding outcome_of
    controls-are = ap (λ (vs : List Visit). controls_after (controls_of t.controls) vs) visits-are

    pub ready_of : (codes : List ℕ) → codes ≡ over (replicate 4096 0) (codes_of g.text g.actions) → Ready g t codes (lists_of_walk l)
    ready_of codes coded =
        let p : Passed q = passed q e in
        let f : Free q = not-seventh q p.seventh in
        record {
          outcomes = as-many-outcomes q p.fourth;
          actions = few-actions q p.second;
          digested = coded;
          ids-room = f.ids;
          entries-room = omega (arith, f.data-entries, length-data-list l.entries);
          journal-room = omega (arith, f.journal, length-journal-list l.journal);
          visits-few = rw walk_is at (visits-within g entry);
          ids-few = rw walk_is at (ids-within g entry);
          data-few = rw walk_is at (data-within g entry);
          ranges = rw walk_is at (ranges-given q e);
          targets = rw walk_is at (targets-given q e);
          merged = accepted-form q e;
          not-off = (busy g entry h).not-off;
        }

    module _ (r : Phase) (l' : LentLists) (w : Walked g t (lists_of_walk l) r (lists_of_walk l')) where
      abbrev vs : List Visit
      vs = visits_from g t

      back : vs ≡ visits_of q
      back = sym visits-are

      visits-room : 2 * r.answer.visits ≤ length l.journal
      visits-room =
          let f : Free q = not-seventh q (passed q e).seventh in
          omega (arith, w.visits, ap length walk_is, visits-within g entry, f.journal, length-journal-list l.journal)

      -- the journal's entries, as many as were answered
      pub visited-within : 2 * r.answer.visits ≤ length l'.journal
      visited-within =
          let j : length l'.journal ≡ length (over l.journal (journal_words (journal_of vs))) = ap length w.journal-numbers in
          omega (
            arith,
            w.visits,
            length-append (journal_words (journal_of vs)) (drop (length (journal_words (journal_of vs))) l.journal),
            length-journal-words (journal_of vs),
            length-journal vs,
          )

      journal-told : journal_list (take (2 * r.answer.visits) l'.journal) ≡ journal_of vs
      journal-told =
          let n : length (journal_words (journal_of vs)) ≡ 2 * r.answer.visits
          = omega (arith, w.visits, length-journal-words (journal_of vs), length-journal vs) in
          ap (λ (words : List ℕ). journal_list (take (2 * r.answer.visits) words)) w.journal-numbers
          ∙ (ap journal_list (take_at (journal_words (journal_of vs)) (drop (length (journal_words (journal_of vs))) l.journal) (2 * r.answer.visits) n)
          ∙ journal-written (journal_of vs))

      journal-is : journal_list l'.journal ≡ over (journal_list l.journal) (journal_of vs)
      journal-is =
          ap journal_list w.journal-numbers
          ∙ journal-over l.journal (journal_of vs) (omega (arith, length-journal vs, w.visits, visits-room))

      data_is : data_list l'.entries ≡ at_free_end t.entries (data_list l.entries) (data_of g vs)
      data_is =
          let f : Free q = not-seventh q (passed q e).seventh in
          ap data_list w.data-numbers
          ∙ data-free-end t.entries l.entries (data_of g vs)
          (omega (
            arith,
            ap (λ (m : List Visit). length (data_of g m)) walk_is,
            data-within g entry,
            f.data-entries,
            length-data-list l.entries,
          ))

      -- with the report that the journal tells
      module _ (told : Report) (told_is : told ≡ report_of g (journal_list (take (2 * r.answer.visits) l'.journal))) where
        abbrev reported : Phase
        reported = record {
          answer = record { answer = r.answer.answer; error = r.answer.error; visits = r.answer.visits; report = told };
          transaction = r.transaction;
        }

        outcome-is : outcome_found reported l' ≡ outcome_of q
        unfolding outcome_of
        outcome-is =
            let y : Busy g entry = busy g entry h in
            let answer : r.answer.answer ≡ (outcome_of q).answer =
            w.answer ∙ (ap answer_by (sym walk_is) ∙ sym (accepted-answer q e)) in
            let error : r.answer.error ≡ (outcome_of q).error = w.error ∙ ap error_index_by back in
            let visits : r.answer.visits ≡ (outcome_of q).visits = w.visits ∙ ap length back in
            let report : told ≡ (outcome_of q).report =
            told_is
            ∙ (ap (report_of g) (journal-told ∙ ap journal_of (sym walk_is))
            ∙ (sym (report-told g entry) ∙ (ap (report_by g) walk_is ∙ ap (report_by g) back))) in
            let found : journal_list l'.journal ≡ (outcome_of q).lists.journal =
            journal-is ∙ ap (λ (m : List Visit). over (journal_list l.journal) (journal_of m)) back in
            let listed : l'.ids ≡ (outcome_of q).lists.ids =
            w.ids-listed ∙ ap (λ (m : List Visit). at_free_end t.ids l.ids (ids_of g m)) back in
            let kept : data_list l'.entries ≡ (outcome_of q).lists.data-entries =
            data_is ∙ ap (λ (m : List Visit). at_free_end t.entries (data_list l.entries) (data_of g m)) back in
            let controls : controls_of r.transaction.controls ≡ (outcome_of q).transaction.controls =
            w.controls.meaning ∙ sym controls-are in
            let allowed : r.transaction.allowed ≡ (outcome_of q).transaction.allowed =
            w.allowed ∙ (ap allowed_by back ∙ ap (λ (x : Bool). x || allowed_by (visits_of q)) (sym y.unallowed)) in
            let stop : r.transaction.intervention ≡ (outcome_of q).transaction.intervention =
            w.intervention ∙ (ap intervention_by back ∙ (sym (or-none (intervention_by (visits_of q)))
            ∙ ap (λ (i : Option Intervention). if_none (intervention_by (visits_of q)) i) (sym y.unstopped))) in
            let ids-used : r.transaction.ids ≡ (outcome_of q).transaction.ids =
            w.ids-used ∙ ap (λ (m : List Visit). t.ids + length (ids_of g m)) back in
            let data-used : r.transaction.entries ≡ (outcome_of q).transaction.data-entries =
            w.data-used ∙ ap (λ (m : List Visit). t.entries + length (data_of g m)) back in
            (λ i. record {
              answer = answer i;
              error = error i;
              visits = visits i;
              report = report i;
              transaction = record {
                controls = controls i;
                allowed = allowed i;
                intervention = stop i;
                ids = ids-used i;
                data-entries = data-used i;
              };
              lists = record { ids = listed i; data-entries = kept i; journal = found i };
            })

        pub ran-walked : Ran g t l reported l'
        ran-walked =
            record {
              outcome = outcome-is;
              journal-numbers = w.journal-numbers ∙ ap (λ (m : List Visit). over l.journal (journal_words (journal_of m))) back;
              data-numbers = w.data-numbers
                  ∙ ap (λ (m : List Visit). at_free_end (4 * t.entries) l.entries (data_words (data_of g m))) back;
              controls = rw (controls-are, ← back) w.controls;
              refused = λ n. absurd (n e);
              demand3 = subst (λ x. Demand3 q x) (sym outcome-is) (demand3 q);
            }
