-- What the loop of `walk_rules` has written after some visits, how far the walk then is, and what one turn adds. Assumes nothing.
use Rattle.std.specs.Prelude.{Option, None}
use Prim.Native.Nat.{ℕ, ◌+◌, ◌-◌, ◌*◌, ◌≤◌}
use mathlib.Core.Path.{◌≡◌, refl, sym, ap, ◌∙◌}
use mathlib.Core.Bool.{Bool, false, cond}
use mathlib.Core.List.{List, [], ◌++◌, append_assoc, append-nil}
use native.Mathlib.Omega.{arith}
use native.Mathlib.Nat.{sub-zero}
use lib.ListN.{length, take, drop, length-append, take-append-drop}
use lib.Seq.{length-take-le, drop-drop}
use Rattle.reading.specs.declared.Intervention.{Intervention}
use Rattle.reading.specs.Records.{data_words, journal_words, matched_in}
use Rattle.reading.specs.Controls.{is_off}
use Rattle.reading.specs.Call.{Given, rule_count, mode_under}
use Rattle.reading.specs.Directive.{range_count, target_count}
use Rattle.reading.specs.Walk.{Visit, journal_of, closed_in, ids_of, data_of, controls_after, allowed_by}
use Rattle.reading.specs.Walk.{intervention_by, answer_by, error_index_by, walk}
use Rattle.theorems.specs.MergedRanges.{Merged}
use Rattle.theorems.specs.WithinLimits.{length-journal, units_give}
use Rattle.control.specs.declared.state.Controls.{Controls}
use Rattle.control.specs.ControlsStruct.{controls_of, Became}
use Rattle.control.proofs.Chained.{became-same}
use Rattle.control.proofs.state.HeldLaws.{ranges-length}
use Rattle.apply.specs.AddedRanges.{adds_ranges}
use Rattle.unit.proofs.members.WordLaws.{length-journal-words, length-data-words}
use Rattle.unit.specs.declared.visit.State.{State}
use Rattle.unit.specs.VisitRule.{entry_by}
use Rattle.intervention.specs.declared.decide.Ending.{Ending}
use Rattle.transaction.specs.declared.types.Transaction.{Transaction}
use Rattle.transaction.specs.WalkRules.{walk_lists, visits_from, Ready, is_errs, is_allows, ended_by, Walked}
use Rattle.transaction.proofs.Turns.{walk_end, ids-append, data-append}
use Rattle.transaction.proofs.Turns.{Going, answer-after, error-after}
use Rattle.transaction.proofs.Turns.{allowed-after, intervention-after, given-append}
use Rattle.transaction.proofs.Parts.{whole_length}

-- what the three lists hold after the visits `done`
pub record Written (q : Given) (t : Transaction) (ids₀ entries₀ journal₀ : List ℕ) (done : List Visit)
    (ids entries journal : List ℕ)
    (visits listed written : ℕ) : Type 0 where
  pub count : length done ≡ visits
  pub journal-is : journal ≡ journal_words (journal_of done) ++ drop (2 * visits) journal₀
  pub ids-are : ids ≡ (take t.ids ids₀ ++ ids_of q done) ++ drop listed ids₀
  pub listed-is : listed ≡ t.ids + length (ids_of q done)
  pub entries-are : entries ≡ (take (4 * t.entries) entries₀ ++ data_words (data_of q done)) ++ drop (4 * written) entries₀
  pub written_is : written ≡ t.entries + length (data_of q done)

-- how far the walk is
pub record Sofar (q : Given) (t : Transaction) (ids₀ entries₀ journal₀ : List ℕ) (ids entries journal : List ℕ) (c : Controls)
    (added : Bool) (s : State)
    (visits listed written : ℕ) : Type 0 where
  -- the visits so far, and the members of the open chain
  pub done : List Visit
  pub members : List ℕ
  pub whole : visits_from q t ≡ done ++ walk (rule_count q - visits) q
      (record { next = s.next; members = members; controls = controls_of c })
  pub going : Going done
  pub lists : Written q t ids₀ entries₀ journal₀ done ids entries journal visits listed written
  pub controls : Became (adds_ranges q done) t.controls c (controls_after (controls_of t.controls) done)
  -- whether ranges were added
  pub added_is : added ≡ adds_ranges q done
  -- at most what was held and what the closed units gave, and in the merged form
  pub held-ranges : length (controls_of c).ranges ≤ length (controls_of t.controls).ranges + units_give q range_count (closed_in done)
  pub held-targets : length (controls_of c).targets ≤ length (controls_of t.controls).targets + units_give q target_count (closed_in done)
  pub merged : Merged (controls_of c).ranges
  pub not-off : is_off (mode_under q (controls_of c)) ≡ false
  pub agree : matched_in (drop (entry_by s visits) (journal_of done)) ≡ members
  pub entry : entry_by s visits ≤ visits
  pub ahead : visits ≤ s.next

pub sofar-none : (q : Given) (t : Transaction) (codes ids entries journal : List ℕ)
    → Ready q t codes (walk_lists ids entries journal)
    → Sofar q t ids entries journal ids entries journal t.controls false (record { next = 0; chain = None }) 0 t.ids
    t.entries
sofar-none q t codes ids entries journal ready =
    record {
      done = [];
      members = [];
      whole = rw sub-zero;
      going = tt;
      lists = record {
        count = refl;
        journal-is = refl;
        ids-are = rw (append-nil (take t.ids ids), take-append-drop t.ids ids);
        listed-is = omega arith;
        entries-are = rw (append-nil (take (4 * t.entries) entries), take-append-drop (4 * t.entries) entries);
        written_is = omega arith;
      };
      controls = became-same t.controls;
      added_is = refl;
      held-ranges = omega arith;
      held-targets = omega arith;
      merged = ready.merged;
      not-off = ready.not-off;
      agree = refl;
      entry = omega arith;
      ahead = omega arith;
    }

-- ROOM AND LENGTHS

module _ (q : Given) (t : Transaction) (codes ids₀ entries₀ journal₀ : List ℕ) (ready : Ready q t codes (walk_lists ids₀ entries₀ journal₀))
    (done rest : List Visit) (whole : visits_from q t ≡ done ++ rest) where
  visits-room : length done + length rest ≤ rule_count q
  visits-room = omega (arith, length-append done rest, ap length whole, ready.visits-few)

  ids-room : length (ids_of q done) + length (ids_of q rest) ≤ rule_count q
  ids-room =
      let z : length (ids_of q (visits_from q t)) ≡ length (ids_of q done ++ ids_of q rest) = ap length
      (ap (ids_of q) whole ∙ ids-append q done rest) in
      omega (arith, length-append (ids_of q done) (ids_of q rest), ready.ids-few)

  data-room : length (data_of q done) + length (data_of q rest) ≤ rule_count q
  data-room =
      let z : length (data_of q (visits_from q t)) ≡ length (data_of q done ++ data_of q rest) = ap length
      (ap (data_of q) whole ∙ data-append q done rest) in
      omega (arith, length-append (data_of q done) (data_of q rest), ready.data-few)

  module _ (ids entries journal : List ℕ) (visits listed written : ℕ)
      (w : Written q t ids₀ entries₀ journal₀ done ids entries journal visits listed written) where
    pub journal-done : length (journal_words (journal_of done)) ≡ 2 * visits
    journal-done = omega (arith, length-journal-words (journal_of done), length-journal done, w.count)

    pub journal-inside : 2 * visits + 2 * length rest ≤ length journal₀
    journal-inside = omega (arith, visits-room, w.count, ready.journal-room)

    pub ids-done : length (take t.ids ids₀ ++ ids_of q done) ≡ listed
    ids-done =
        omega (
          arith,
          length-append (take t.ids ids₀) (ids_of q done),
          length-take-le t.ids ids₀ (omega (arith, ready.ids-room)),
          w.listed-is,
        )

    pub ids-inside : listed + length (ids_of q rest) ≤ length ids₀
    ids-inside = omega (arith, ids-room, w.listed-is, ready.ids-room)

    pub entries-done : length (take (4 * t.entries) entries₀ ++ data_words (data_of q done)) ≡ 4 * written
    entries-done =
        omega (
          arith,
          length-append (take (4 * t.entries) entries₀) (data_words (data_of q done)),
          length-data-words (data_of q done),
          length-take-le (4 * t.entries) entries₀ (omega (arith, ready.entries-room)),
          w.written_is,
        )

    pub entries-inside : 4 * written + 4 * length (data_of q rest) ≤ length entries₀
    entries-inside = omega (arith, data-room, w.written_is, ready.entries-room)

    pub journal-length : length journal ≡ length journal₀
    journal-length =
        rw w.journal-is (whole_length (journal_words (journal_of done)) journal₀ (2 * visits) journal-done
        (omega (arith, journal-inside)))

    pub ids-length : length ids ≡ length ids₀
    ids-length =
        rw w.ids-are (whole_length (take t.ids ids₀ ++ ids_of q done) ids₀ listed ids-done (omega (arith, ids-inside)))

    pub entries-length : length entries ≡ length entries₀
    entries-length =
        rw w.entries-are
        (whole_length (take (4 * t.entries) entries₀ ++ data_words (data_of q done)) entries₀ (4 * written) entries-done
        (omega (arith, entries-inside)))

-- the lists at the head of a turn, and the ranges that are held
module _ (q : Given) (t : Transaction) (codes ids₀ entries₀ journal₀ : List ℕ) (ready : Ready q t codes (walk_lists ids₀ entries₀ journal₀))
    (ids entries journal : List ℕ) (c : Controls) (added : Bool) (s : State) (visits listed written : ℕ)
    (so : Sofar q t ids₀ entries₀ journal₀ ids entries journal c added s visits listed written) where
  abbrev left : List Visit
  left = walk (rule_count q - visits) q (record { next = s.next; members = so.members; controls = controls_of c })

  pub journal-same : length journal ≡ length journal₀
  journal-same =
      journal-length q t codes ids₀ entries₀ journal₀ ready so.done left so.whole ids entries journal visits listed written
      so.lists

  pub ids-same : length ids ≡ length ids₀
  ids-same = ids-length q t codes ids₀ entries₀ journal₀ ready so.done left so.whole ids entries journal visits listed
      written so.lists

  pub entries-same : length entries ≡ length entries₀
  entries-same =
      entries-length q t codes ids₀ entries₀ journal₀ ready so.done left so.whole ids entries journal visits listed written
      so.lists

  pub few-ranges : c.ranges ≤ 256
  few-ranges =
      omega (
        arith,
        ranges-length c,
        so.held-ranges,
        ready.ranges,
        ap (λ (vs : List Visit). units_give q range_count (closed_in vs)) so.whole,
        given-append q range_count so.done left,
      )

-- THE END

-- what is written at the end is what is promised
pub finished : (q : Given) (t : Transaction) (ids₀ entries₀ journal₀ ids entries journal : List ℕ) (c : Controls)
    (visits listed written last : ℕ) (e : Ending)
    (stop : Option Intervention)
    → Written q t ids₀ entries₀ journal₀ (visits_from q t) ids entries journal visits listed written
    → Became (adds_ranges q (visits_from q t)) t.controls c (controls_after (controls_of t.controls) (visits_from q t))
    → cond (is_errs e) 10 0 ≡ answer_by (visits_from q t) → cond (is_errs e) last 0 ≡ error_index_by (visits_from q t)
    → is_allows e ≡ allowed_by (visits_from q t) → stop ≡ intervention_by (visits_from q t)
    → Walked q t (walk_lists ids₀ entries₀ journal₀) (ended_by e last visits listed written stop c) (walk_lists ids entries journal)
finished q t ids₀ entries₀ journal₀ ids entries journal c visits listed written last e stop w b a x l i =
    record {
      answer = a;
      error = x;
      visits = sym w.count;
      journal-numbers =
          let n : 2 * visits ≡ length (journal_words (journal_of (visits_from q t))) =
          omega (arith, length-journal-words (journal_of (visits_from q t)), length-journal (visits_from q t), w.count) in
          w.journal-is ∙ ap (λ (k : ℕ). journal_words (journal_of (visits_from q t)) ++ drop k journal₀) n;
      ids-listed =
          rw (w.ids-are, w.listed-is, ← drop-drop (length (ids_of q (visits_from q t))) t.ids ids₀)
          (append_assoc (take t.ids ids₀) (ids_of q (visits_from q t))
          (drop (length (ids_of q (visits_from q t))) (drop t.ids ids₀)));
      data-numbers =
          let d = data_words (data_of q (visits_from q t)) in
          let n : 4 * written ≡ 4 * t.entries + length d = omega
          (arith, length-data-words (data_of q (visits_from q t)), w.written_is) in
          rw (w.entries-are, n, ← drop-drop (length d) (4 * t.entries) entries₀)
          (append_assoc (take (4 * t.entries) entries₀) d (drop (length d) (drop (4 * t.entries) entries₀)));
      ids-used = w.listed-is;
      data-used = w.written_is;
      controls = b;
      allowed = l;
      intervention = i;
    }

pub sofar-end : (q : Given) (t : Transaction) (ids₀ entries₀ journal₀ ids entries journal : List ℕ) (c : Controls) (added : Bool) (s : State)
    (visits listed written : ℕ)
    → Sofar q t ids₀ entries₀ journal₀ ids entries journal c added s visits listed written → rule_count q ≤ s.next
    → Walked q t (walk_lists ids₀ entries₀ journal₀) (ended_by Ending.GoesOn 0 visits listed written None c)
    (walk_lists ids entries journal)
sofar-end q t ids₀ entries₀ journal₀ ids entries journal c added s visits listed written so h =
    let e : visits_from q t ≡ so.done ++ [] =
    rw (← walk_end (rule_count q - visits) q (record { next = s.next; members = so.members; controls = controls_of c }) h)
    so.whole in
    let d : visits_from q t ≡ so.done = e ∙ append-nil so.done in
    finished q t ids₀ entries₀ journal₀ ids entries journal c visits listed written 0 Ending.GoesOn None
    (rw d so.lists)
    (rw d so.controls)
    (rw e (sym (answer-after so.done [] so.going)))
    (rw e (sym (error-after so.done [] so.going)))
    (rw e (sym (allowed-after so.done [] so.going)))
    (rw e (sym (intervention-after so.done [] so.going)))
