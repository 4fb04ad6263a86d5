-- One turn of the loop of `walk_rules`, of what its callees gave. Assumes nothing.
use Rattle.std.specs.Prelude.{Option, None, Some, is_some, unwrap_or}
use Prim.Native.Nat.{ℕ, zero, suc, ◌+◌, ◌-◌, ◌*◌, ◌/◌, ◌≤◌, ◌<◌, ◌^◌, min}
use mathlib.Core.Path.{◌≡◌, refl, sym, ap, ap₂, subst, ◌∙◌}
use mathlib.Core.Bool.{Bool, true, false, not, cond, ◌||◌, ◌&&◌}
use mathlib.Core.List.{List, [], ◌∷◌, ◌++◌, append_assoc, append-nil}
use native.Mathlib.Omega.{arith}
use native.Mathlib.Nat.{add-zero}
use mir.Syntax.{w64}
use mir.Val.{Fits}
use lib.Dec.{eqb}
use lib.ListN.{length, take, drop, get_or, length-append, length-take, drop_of_length-le, take-append-drop}
use lib.Seq.{drop-append-le, take_all}
use Rattle.reading.specs.declared.DisruptiveOutcome.{DisruptiveOutcome}
use Rattle.reading.specs.declared.DataEntry.{DataEntry}
use Rattle.reading.specs.declared.Intervention.{Intervention}
use Rattle.reading.specs.declared.JournalEntry.{JournalEntry}
use Rattle.reading.specs.declared.RuleEngineMode.{RuleEngineMode}
use Rattle.reading.specs.declared.Verdict.{Verdict}
use Rattle.reading.specs.Lists.{any, keep, over, gather, total}
use Rattle.reading.specs.Directive.{Directive, range_count, target_count}
use Rattle.reading.specs.Refusals.{rule_total}
use Rattle.reading.specs.Numbers.{verdict_number}
use Rattle.reading.specs.Outcome.{at_free_end}
use Rattle.reading.specs.Reading.{rust}
use Rattle.reading.specs.Records.{data_words, journal_words, journal_list, matched_in, rule_list}
use Rattle.reading.specs.Controls.{is_off, is_on}
use Rattle.reading.specs.Walk as defined
use Rattle.reading.specs.Walk.{gives_allow, is_error}
use Rattle.reading.specs.Controls as plain
use Rattle.reading.specs.Call.{Given, rule_count, mode_under, is_link, no_rule}
use Rattle.reading.specs.Units.{unit_ids, unit_data, unit_controls, unit_flow, unit_disruptive, unit_intervention, is_allow}
use Rattle.reading.specs.Units.{is_stopping}
use Rattle.reading.specs.Walk.{Visit, is_last, entry_of, journal_of, closed_in, ids_of, data_of, controls_after, walk, verdict_at, visit_at}
use Rattle.reading.specs.Walk.{after_flow}
use Rattle.lists.proofs.Tests.{or-false, or-false-is}
use Rattle.theorems.specs.WithinLimits.{length-journal, units_give, visit-ranges, visit-targets, give-append}
use Rattle.theorems.specs.WalkRanges.{visit-merged}
use Rattle.theorems.specs.Rising.{goes-ahead}
use Rattle.control.specs.declared.state.Controls.{Controls}
use Rattle.control.specs.ControlsStruct.{controls_of, Became}
use Rattle.control.proofs.Chained.{became-then}
use Rattle.apply.specs.declared.append.ControlCounts.{ControlCounts}
use Rattle.apply.specs.Append.{struct_of, Changed}
use Rattle.apply.specs.UnitCodes.{unit_by_codes}
use Rattle.apply.specs.UnitChanges.{unit_adds}
use Rattle.apply.specs.AddedRanges.{unit_removes, adds_ranges}
use Rattle.apply.proofs.append.ChangedLaws.{changed-same, changed-as, changed-became}
use Rattle.apply.proofs.run.StepLaws.{Grown}
use Rattle.apply.proofs.run.Fits.{source_of, unit-fits, unit-removes}
use Rattle.lists.proofs.RecordLaws.{length-rules}
use Rattle.unit.proofs.members.MatchedLaws.{matched-append}
use Rattle.unit.proofs.members.WordLaws.{length-journal-words, journal-words-append, data-words-append, length-data-words}
use Rattle.unit.proofs.members.WordLaws.{journal-part}
use Rattle.unit.specs.declared.visit.State.{State}
use Rattle.unit.specs.declared.visit.VisitOutcome.{VisitOutcome}
use Rattle.unit.specs.VisitRule.{entry_by, found_at}
use Rattle.unit.specs.VisitRule as visit
use Rattle.unit.specs.declared.close.UnitOutcome.{UnitOutcome}
use Rattle.unit.specs.CloseUnit.{Wrote}
use Rattle.intervention.specs.declared.decide.Ending.{Ending}
use Rattle.intervention.specs.EndOfVisit.{end_by}
use Rattle.intervention.specs.BuildIntervention.{intervention_at_end}
use Rattle.transaction.specs.declared.types.Transaction.{Transaction}
use Rattle.transaction.specs.declared.types.WalkState.{WalkState}
use Rattle.transaction.specs.declared.types.End.{End}
use Rattle.transaction.specs.declared.types.AfterUnit.{AfterUnit}
use Rattle.transaction.specs.WalkRules.{walk_lists, visits_from, Ready, is_going, is_errs, is_allows, ended_by, Walked}
use Rattle.transaction.specs.WalkRules.{Room, moved_by, left_by, UnitClosed}
use Rattle.transaction.proofs.Turns.{walk_step, walk-off, walk-clip, journal-more, ids-append, data-append, controls-append}
use Rattle.transaction.proofs.Turns.{going_more, answer-after, error-after, allowed-after, intervention-after}
use Rattle.transaction.proofs.Turns.{visit-grows, given-append, adds-append, true-false}
use Rattle.transaction.proofs.Parts.{whole_length, free-length, put-free}
use Rattle.transaction.proofs.Found.{entry-is, closed_is, controls-is, next-is, unit-begun, chain-begun, closes-matched, members-are}
use Rattle.transaction.proofs.Ends.{kind_of, end_of, last-kind, error_kind, allow-kind, ending-is, stopping-is}
use Rattle.transaction.proofs.Progress.{Written, Sofar, finished, journal-done, journal-inside, journal-length, ids-done}
use Rattle.transaction.proofs.Progress.{ids-inside, ids-length, entries-done, entries-inside, entries-length}

-- what a unit gives, if a visit closes it; `part` are the matched entries that the code looks at
new-of : {A : Type 0} (give : List ℕ → List A) (closes : Bool) (part unit : List ℕ) (closed : List (List ℕ)) → closed ≡ keep
    closes (unit ∷ [])
    → (closes ≡ true → part ≡ unit) → keep closes (give part) ≡ gather give (closed ++ [])
new-of give true part unit closed e h = rw (e, append-nil (give unit)) (ap give (h refl))
new-of give false part unit closed e h = rw e

take_none : {A : Type 0} (n : ℕ) → take {A = A} n [] ≡ []
take_none zero = refl
take_none (suc n) = refl

-- what a visit gives: what its unit does, if it closes one
pub record Gave (q : Given) (closes : Bool) (unit : List ℕ) (past : ℕ) (ids entries : List ℕ) (u : UnitOutcome) (ids' entries' : List ℕ)
    : Type 0 where
  pub id-count : u.ids ≡ length (take (length ids) (keep closes (unit_ids q unit)))
  pub ids-are : ids' ≡ over ids (take (length ids) (keep closes (unit_ids q unit)))
  pub entry-count : u.entries ≡ length (take (length entries / 4) (keep closes (unit_data q unit)))
  pub entries-are : entries' ≡ over entries (data_words (take (length entries / 4) (keep closes (unit_data q unit))))
  pub next-is : u.next ≡ cond closes (min (after_flow q past (unit_flow q unit)) (rule_count q)) past
  pub disruptive-is : u.disruptive ≡ cond closes (unit_disruptive q unit) DisruptiveOutcome.Nothing

gave-unit : (q : Given) (closes : Bool) (unit : List ℕ) (past : ℕ) (ids entries : List ℕ) (u : UnitOutcome) (ids' entries' : List ℕ)
    → closes ≡ true → Wrote q unit past ids entries u ids' entries' → Gave q closes unit past ids entries u ids' entries'
gave-unit q closes unit past ids entries u ids' entries' e w = record {
  id-count = rw e w.id-count;
  ids-are = rw e w.ids-are;
  entry-count = rw e w.entry-count;
  entries-are = rw e w.entries-are;
  next-is = rw e w.next-is;
  disruptive-is = rw e w.disruptive-is;
}

-- a unit lists no more than there is room for
pub wrote-few : (q : Given) (unit : List ℕ) (past : ℕ) (ids entries : List ℕ) (u : UnitOutcome) (ids' entries' : List ℕ)
    → Wrote q unit past ids entries u ids' entries' → (u.ids ≤ length ids) × (4 * u.entries ≤ length entries)
wrote-few q unit past ids entries u ids' entries' w = (
  omega (arith, w.id-count, length-take (length ids) (unit_ids q unit)),
  omega (arith, w.entry-count, length-take (length entries / 4) (unit_data q unit)),
)

-- of a visit that closes no unit
abbrev nothing : ℕ → UnitOutcome
nothing past = record { ids = 0; entries = 0; next = past; disruptive = DisruptiveOutcome.Nothing }

gave-none : (q : Given) (closes : Bool) (unit : List ℕ) (past : ℕ) (ids entries : List ℕ) → closes ≡ false
    → Gave q closes unit past ids entries (nothing past) ids entries
gave-none q closes unit past ids entries e = record {
  id-count = rw (e, take_none {A = ℕ} (length ids));
  ids-are = rw (e, take_none {A = ℕ} (length ids));
  entry-count = rw (e, take_none {A = DataEntry} (length entries / 4));
  entries-are = rw (e, take_none {A = DataEntry} (length entries / 4));
  next-is = rw e;
  disruptive-is = rw e;
}

-- what is left of a walk by whether a unit was its last
left-on : (last : Bool) (e : Ending) (at : WalkState) (stop : Option Intervention) (next : WalkState)
    → left_by last e at stop ≡ AfterUnit.GoesOn next → (last ≡ false) × (at ≡ next)
left-on true e at stop next h = absurd (let z : ◌≡◌ {A = ℕ} 0 1 = cc in omega arith)
left-on false e at stop next h = (refl, cc)

left_end : (last : Bool) (e : Ending) (at : WalkState) (stop : Option Intervention) (end : End)
    → left_by last e at stop ≡ AfterUnit.Ends end → (last ≡ true) × (record { ending = e; at = at; stop = stop } ≡ end)
left_end true e at stop end h = (refl, cc)
left_end false e at stop end h = absurd (let z : ◌≡◌ {A = ℕ} 0 1 = cc in omega arith)

-- what the code makes of how a unit leaves the phase, and of whether it is the last
module _ (mode : RuleEngineMode) (d : DisruptiveOutcome) (at : WalkState) (i : Intervention) (e : Ending) (e-is : e ≡ end_by d mode)
    (last : Bool) (last-is : last ≡ (not (is_going e) || is_off mode)) where
  abbrev left_so : AfterUnit
  left_so = left_by (not (is_going (end_by d mode)) || is_off mode) (end_by d mode) at (intervention_at_end (end_by d mode) i)

  pub unit_ends : last ≡ true → (stop : Option Intervention) → stop ≡ intervention_at_end e i
      → AfterUnit.Ends (record { ending = e; at = at; stop = stop }) ≡ left_so
  unit_ends h stop stop_is = rw (← e-is, ← last-is, h, stop_is)

  pub unit-goes-on : last ≡ false → AfterUnit.GoesOn at ≡ left_so
  unit-goes-on h = rw (← e-is, ← last-is, h)

-- a closed unit is no error, so no index is given
no_index : (i k : ℕ) (a b : Bool)
    → cond (is_errs (cond a Ending.Allows (cond b Ending.Stops Ending.GoesOn))) i 0
    ≡ cond (is_errs (cond a Ending.Allows (cond b Ending.Stops Ending.GoesOn))) k 0
no_index i k true b = refl
no_index i k false true = refl
no_index i k false false = refl

-- what is known where a turn's rule has been visited: the call, how far the walk was, and what was found
pub record Turning : Type 0 where
  pub q : Given
  pub t : Transaction
  pub codes : List ℕ
  pub ids₀ : List ℕ
  pub entries₀ : List ℕ
  pub journal₀ : List ℕ
  pub ready : Ready q t codes (walk_lists ids₀ entries₀ journal₀)
  pub reading : q.reading ≡ rust
  pub ids : List ℕ
  pub entries : List ℕ
  pub journal : List ℕ
  pub c : Controls
  pub added : Bool
  pub s : State
  pub visits : ℕ
  pub listed : ℕ
  pub written : ℕ
  pub so : Sofar q t ids₀ entries₀ journal₀ ids entries journal c added s visits listed written
  pub inside : s.next < rule_count q
  pub found : Verdict
  pub found-is : found ≡ verdict_at q (controls_of c) s.next
  pub w : VisitOutcome
  pub w-is : w ≡ found_at q.rules s visits found

module _ (turn : Turning) where
  abbrev q : Given
  q = turn.q

  abbrev t : Transaction
  t = turn.t

  abbrev codes : List ℕ
  codes = turn.codes

  abbrev ids₀ : List ℕ
  ids₀ = turn.ids₀

  abbrev entries₀ : List ℕ
  entries₀ = turn.entries₀

  abbrev journal₀ : List ℕ
  journal₀ = turn.journal₀

  abbrev ready : Ready q t codes (walk_lists ids₀ entries₀ journal₀)
  ready = turn.ready

  abbrev reading : q.reading ≡ rust
  reading = turn.reading

  abbrev ids : List ℕ
  ids = turn.ids

  abbrev entries : List ℕ
  entries = turn.entries

  abbrev journal : List ℕ
  journal = turn.journal

  abbrev c : Controls
  c = turn.c

  abbrev added : Bool
  added = turn.added

  abbrev s : State
  s = turn.s

  abbrev visits : ℕ
  visits = turn.visits

  abbrev listed : ℕ
  listed = turn.listed

  abbrev written : ℕ
  written = turn.written

  abbrev so : Sofar q t ids₀ entries₀ journal₀ ids entries journal c added s visits listed written
  so = turn.so

  abbrev inside : s.next < rule_count q
  inside = turn.inside

  abbrev found : Verdict
  found = turn.found

  abbrev found-is : found ≡ verdict_at q (controls_of c) s.next
  found-is = turn.found-is

  abbrev w : VisitOutcome
  w = turn.w

  abbrev w-is : w ≡ found_at q.rules s visits found
  w-is = turn.w-is

  -- whether the visit closes a unit
  abbrev closing : Bool
  closing = is_some w.closes

  abbrev st : defined.State
  st = record { next = s.next; members = so.members; controls = controls_of c }

  abbrev v : Visit
  v = visit_at q st

  abbrev unit : List ℕ
  unit = so.members ++ (s.next ∷ [])

  abbrev tail : List Visit
  tail = keep (not (is_last v.ending)) (walk (rule_count q - (visits + 1)) q v.after)

  step : visits_from q t ≡ so.done ++ (v ∷ tail)
  step =
      let n : rule_count q - visits ≡ suc (rule_count q - (visits + 1)) = omega (arith, so.ahead) in
      so.whole
      ∙ (ap (λ (k : ℕ). so.done ++ walk k q st) n ∙ ap (λ (l : List Visit). so.done ++ l)
      (walk_step (rule_count q - (visits + 1)) q st inside so.not-off))

  abbrev done' : List Visit
  done' = so.done ++ (v ∷ [])

  -- what is held, what the visit's unit gives and what later ones give
  given_by : (given : Directive → ℕ)
      → units_give q given (closed_in (visits_from q t)) ≡ units_give q given (closed_in so.done) + (units_give q given v.closed + units_give q given (closed_in tail))
  given_by given =
      ap (λ (vs : List Visit). units_give q given (closed_in vs)) step
      ∙ (given-append q given so.done (v ∷ tail)
      ∙ ap (λ (n : ℕ). units_give q given (closed_in so.done) + n) (give-append q given v.closed (closed_in tail)))

  given-now : (given : Directive → ℕ) → units_give q given (closed_in done') ≡ units_give q given (closed_in so.done) + units_give q given v.closed
  given-now given =
      given-append q given so.done (v ∷ [])
      ∙ ap (λ (us : List (List ℕ)). units_give q given (closed_in so.done) + units_give q given us) (append-nil v.closed)

  ranges-now : length v.after.controls.ranges ≤ length (controls_of c).ranges + units_give q range_count v.closed
  unfolding visit_at
  ranges-now = visit-ranges q st (verdict_at q (controls_of c) s.next) (is_link q s.next)

  targets-now : length v.after.controls.targets ≤ length (controls_of c).targets + units_give q target_count v.closed
  unfolding visit_at
  targets-now = visit-targets q st (verdict_at q (controls_of c) s.next) (is_link q s.next)

  visit-grown : Grown (controls_of c) v.after.controls
  unfolding visit_at
  visit-grown = visit-grows q st (verdict_at q (controls_of c) s.next) (is_link q s.next)

  goes : s.next < v.after.next
  unfolding visit_at
  goes = goes-ahead q st (verdict_at q (controls_of c) s.next) (is_link q s.next) inside

  -- whether the visit's unit adds ranges
  abbrev adds : Bool
  adds = any (unit_removes q) v.closed

  adds-now : adds_ranges q done' ≡ (adds_ranges q so.done || adds)
  adds-now =
      adds-append q so.done (v ∷ [])
      ∙ ap (λ (us : List (List ℕ)). adds_ranges q so.done || any (unit_removes q) us) (append-nil v.closed)

  -- ROOM
  ids-start : listed ≤ length ids
  ids-start =
      omega (
        arith,
        ids-inside q t codes ids₀ entries₀ journal₀ ready so.done (v ∷ tail) step ids entries journal visits listed written
            so.lists,
        ids-length q t codes ids₀ entries₀ journal₀ ready so.done (v ∷ tail) step ids entries journal visits listed written
            so.lists,
      )

  entries-start : 4 * written ≤ length entries
  entries-start =
      omega (
        arith,
        entries-inside q t codes ids₀ entries₀ journal₀ ready so.done (v ∷ tail) step ids entries journal visits listed written
            so.lists,
        entries-length q t codes ids₀ entries₀ journal₀ ready so.done (v ∷ tail) step ids entries journal visits listed written
            so.lists,
      )

  pub journal-next : 2 * visits + 2 ≤ length journal
  journal-next =
      omega (
        arith,
        journal-inside q t codes ids₀ entries₀ journal₀ ready so.done (v ∷ tail) step ids entries journal visits listed written
            so.lists,
        journal-length q t codes ids₀ entries₀ journal₀ ready so.done (v ∷ tail) step ids entries journal visits listed written
            so.lists,
      )

  as-lent-journal : length journal ≡ length journal₀
  as-lent-journal = journal-length q t codes ids₀ entries₀ journal₀ ready so.done (v ∷ tail) step ids entries journal visits listed written so.lists

  as-lent-ids : length ids ≡ length ids₀
  as-lent-ids = ids-length q t codes ids₀ entries₀ journal₀ ready so.done (v ∷ tail) step ids entries journal visits listed written so.lists

  as-lent-entries : length entries ≡ length entries₀
  as-lent-entries = entries-length q t codes ids₀ entries₀ journal₀ ready so.done (v ∷ tail) step ids entries journal visits listed written so.lists

  -- the journal is in memory
  pub visits-fit : 8 * length journal₀ < 2 ^ 64 → Fits w64 (visits + 1)
  visits-fit small = omega (arith, journal-next, as-lent-journal)

  module _ (journal' : List ℕ) (journal-is : journal' ≡ at_free_end (2 * visits) journal (s.next ∷ verdict_number found ∷ [])) where
    journal-now : journal' ≡ journal_words (journal_of done') ++ drop (2 * (visits + 1)) journal₀
    journal-now =
        let d = journal-done q t codes ids₀ entries₀ journal₀ ready so.done (v ∷ tail) step ids entries journal visits listed
        written so.lists in
        let r = journal-inside q t codes ids₀ entries₀ journal₀ ready so.done (v ∷ tail) step ids entries journal visits listed
        written so.lists in
        let p : journal' ≡ (journal_words (journal_of so.done) ++ (s.next ∷ verdict_number found ∷ [])) ++ drop (2 * visits + 2)
        journal₀ = journal-is ∙ put-free (journal_words (journal_of so.done)) journal₀ journal (2 * visits)
        so.lists.journal-is d (omega (arith, r)) (s.next ∷ verdict_number found ∷ []) in
        let e : journal_words (journal_of done') ≡ journal_words (journal_of so.done) ++ (s.next ∷ verdict_number found ∷ []) =
        ap journal_words (journal-more so.done v)
        ∙ (journal-words-append (journal_of so.done) (entry_of v ∷ [])
        ∙ ap (λ (x : JournalEntry). journal_words (journal_of so.done) ++ journal_words (x ∷ []))
        (entry-is q reading so.members (controls_of c) s visits inside found found-is w w-is)) in
        let k : 2 * visits + 2 ≡ 2 * (visits + 1) = omega arith in
        p ∙ ap₂ (λ (l : List ℕ) (n : ℕ). l ++ drop n journal₀) (sym e) k

    abbrev part : List ℕ
    part = matched_in (journal_list (take (2 * (visits + 1) - 2 * entry_by s visits) (drop (2 * entry_by s visits) journal')))

    length-done : length (journal_of so.done) ≡ visits
    length-done = length-journal so.done ∙ so.lists.count

    length-now : length (journal_of done') ≡ visits + 1
    length-now = omega (arith, length-journal done', length-append so.done (v ∷ []), so.lists.count)

    -- the matched entries of the chain, with this visit
    since-now : matched_in (drop (entry_by s visits) (journal_of done')) ≡ so.members ++ keep (eqb (verdict_number found) 1)
        (s.next ∷ [])
    since-now =
        let d : drop (entry_by s visits) (journal_of done') ≡ drop (entry_by s visits) (journal_of so.done) ++ (entry_of v ∷ []) =
        ap (drop (entry_by s visits)) (journal-more so.done v)
        ∙ drop-append-le (entry_by s visits) (journal_of so.done) (entry_of v ∷ []) (omega (arith, length-done, so.entry)) in
        ap matched_in d
        ∙ (matched-append (drop (entry_by s visits) (journal_of so.done)) (entry_of v ∷ [])
        ∙ (ap₂ (λ (a b : List ℕ). a ++ b) so.agree
        (append-nil (keep (eqb (entry_of v).verdict 1) ((entry_of v).index ∷ []))
        ∙ ap (λ (x : JournalEntry). keep (eqb x.verdict 1) (x.index ∷ []))
        (entry-is q reading so.members (controls_of c) s visits inside found found-is w w-is))))

    part-start : entry_by s visits ≤ visits + 1
    part-start = omega (arith, so.entry)

    part-since : part ≡ so.members ++ keep (eqb (verdict_number found) 1) (s.next ∷ [])
    part-since =
        ap matched_in (journal-part journal' (journal_of done') (drop (2 * (visits + 1)) journal₀) (entry_by s visits) (visits + 1)
        journal-now (sym length-now) part-start)
        ∙ since-now

    pub journal-long : length journal' ≡ length journal₀
    journal-long =
        rw journal-now (whole_length (journal_words (journal_of done')) journal₀ (2 * (visits + 1))
        (omega (arith, length-journal-words (journal_of done'), length-now)) (omega (arith, journal-next, as-lent-journal)))

    part_end : 2 * (visits + 1) ≤ length journal'
    part_end = omega (arith, journal-long, journal-next, as-lent-journal)

    -- a visit that closes a unit closes the one that the code looks at
    unit-part : closing ≡ true → part ≡ unit
    unit-part e =
        part-since
        ∙ ap (λ (x : Verdict). so.members ++ keep (eqb (verdict_number x) 1) (s.next ∷ []))
        (closes-matched q reading so.members (controls_of c) s visits inside found found-is w w-is e)

    closed-now : v.closed ≡ keep closing (unit ∷ [])
    closed-now = closed_is q reading so.members (controls_of c) s visits inside found found-is w w-is

    -- THE CONTROLS
    controls-now : v.after.controls ≡ cond closing (unit_controls q unit (controls_of c)) (controls_of c)
    controls-now = controls-is q reading so.members (controls_of c) s visits inside found found-is w w-is

    coded_now : closing ≡ true → unit_by_codes (source_of q) codes q.rules part (controls_of c) ≡ v.after.controls
    coded_now e =
        let a : unit_controls q unit (controls_of c) ≡ v.after.controls = sym
        (controls-now ∙ ap (λ (b : Bool). cond b (unit_controls q unit (controls_of c)) (controls_of c)) e) in
        let alone : v.closed ≡ unit ∷ [] = closed-now ∙ ap (λ (b : Bool). keep b (unit ∷ [])) e in
        let one : (given : Directive → ℕ) → units_give q given v.closed ≡ total (λ m. rule_total q given (get_or q.rules m no_rule)) unit
        = (λ given. ap (units_give q given) alone ∙ add-zero (total (λ m. rule_total q given (get_or q.rules m no_rule)) unit)) in
        ap (λ (ms : List ℕ). unit_by_codes (source_of q) codes q.rules ms (controls_of c)) (unit-part e)
        ∙ (unit-fits q codes 4096 ready.digested unit (controls_of c)
        (record {
          for-ranges = omega (arith, so.held-ranges, ready.ranges, given_by range_count, one range_count);
          for-targets = omega (arith, so.held-targets, ready.targets, given_by target_count, one target_count);
        }) ∙ a)

    coded-adds : closing ≡ true → unit_adds codes q.rules part ≡ adds
    coded-adds e =
        ap (unit_adds codes q.rules) (unit-part e)
        ∙ (unit-removes q codes 4096 ready.digested unit
        ∙ (sym (or-false-is (unit_removes q unit)) ∙ sym (ap (any (unit_removes q)) (closed-now ∙ ap (λ (b : Bool). keep b (unit ∷ [])) e))))

    -- THE LISTS
    module _ (u : UnitOutcome) (il el : List ℕ)
        (u-is : Gave q closing part w.after.next (drop listed ids) (drop (4 * written) entries) u il el) where
      abbrev ids' : List ℕ
      ids' = take listed ids ++ il

      abbrev entries' : List ℕ
      entries' = take (4 * written) entries ++ el

      new-ids : keep closing (unit_ids q part) ≡ ids_of q (v ∷ [])
      new-ids = new-of (unit_ids q) closing part unit v.closed closed-now unit-part

      new-data : keep closing (unit_data q part) ≡ data_of q (v ∷ [])
      new-data = new-of (unit_data q) closing part unit v.closed closed-now unit-part

      ids-room : listed + length (ids_of q (v ∷ [])) ≤ length ids₀
      ids-room =
          let r = ids-inside q t codes ids₀ entries₀ journal₀ ready so.done (v ∷ tail) step ids entries journal visits listed
          written so.lists in
          let z : length (ids_of q (v ∷ tail)) ≡ length (ids_of q (v ∷ []) ++ ids_of q tail) = ap length (ids-append q (v ∷ []) tail)
          in
          omega (arith, r, length-append (ids_of q (v ∷ [])) (ids_of q tail))

      data-room : 4 * written + 4 * length (data_of q (v ∷ [])) ≤ length entries₀
      data-room =
          let r = entries-inside q t codes ids₀ entries₀ journal₀ ready so.done (v ∷ tail) step ids entries journal visits
          listed written so.lists in
          let z : length (data_of q (v ∷ tail)) ≡ length (data_of q (v ∷ []) ++ data_of q tail) = ap length
          (data-append q (v ∷ []) tail) in
          omega (arith, r, length-append (data_of q (v ∷ [])) (data_of q tail))

      ids-size : length (take t.ids ids₀ ++ ids_of q so.done) ≡ listed
      ids-size = ids-done q t codes ids₀ entries₀ journal₀ ready so.done (v ∷ tail) step ids entries journal visits listed
          written so.lists

      entries-size : length (take (4 * t.entries) entries₀ ++ data_words (data_of q so.done)) ≡ 4 * written
      entries-size = entries-done q t codes ids₀ entries₀ journal₀ ready so.done (v ∷ tail) step ids entries journal visits
          listed written so.lists

      -- all of them fit
      ids-fit : take (length (drop listed ids)) (keep closing (unit_ids q part)) ≡ ids_of q
          (v ∷ [])
      ids-fit =
          let f = free-length (take t.ids ids₀ ++ ids_of q so.done) ids₀ ids listed so.lists.ids-are ids-size
          (omega (arith, ids-room)) in
          ap (take (length (drop listed ids))) new-ids
          ∙ take_all (length (drop listed ids)) (ids_of q (v ∷ [])) (omega (arith, f, ids-room))

      data-fit : take (length (drop (4 * written) entries) / 4)
          (keep closing (unit_data q part)) ≡ data_of q (v ∷ [])
      data-fit =
          let f = free-length (take (4 * t.entries) entries₀ ++ data_words (data_of q so.done)) entries₀ entries (4 * written)
          so.lists.entries-are entries-size
          (omega (arith, data-room)) in
          ap (take (length (drop (4 * written) entries) / 4)) new-data
          ∙ take_all (length (drop (4 * written) entries) / 4) (data_of q (v ∷ []))
          (omega (arith, f, data-room))

      id-count : u.ids ≡ length (ids_of q (v ∷ []))
      id-count = u-is.id-count ∙ ap length ids-fit

      entry-count : u.entries ≡ length (data_of q (v ∷ []))
      entry-count = u-is.entry-count ∙ ap length data-fit

      ids-now : ids' ≡ (take t.ids ids₀ ++ ids_of q done') ++ drop (listed + u.ids) ids₀
      ids-now =
          let p = ap (λ (l : List ℕ). take listed ids ++ l) (u-is.ids-are ∙ ap (over (drop listed ids)) ids-fit)
          ∙ put-free (take t.ids ids₀ ++ ids_of q so.done) ids₀ ids listed so.lists.ids-are ids-size
          (omega (arith, ids-room)) (ids_of q (v ∷ [])) in
          let e : (take t.ids ids₀ ++ ids_of q so.done) ++ ids_of q (v ∷ []) ≡ take t.ids ids₀ ++ ids_of q done' =
          append_assoc (take t.ids ids₀) (ids_of q so.done) (ids_of q (v ∷ []))
          ∙ ap (λ (l : List ℕ). take t.ids ids₀ ++ l) (sym (ids-append q so.done (v ∷ []))) in
          p ∙ ap₂ (λ (l : List ℕ) (n : ℕ). l ++ drop n ids₀) e (ap (λ (n : ℕ). listed + n) (sym id-count))

      entries-now : entries' ≡ (take (4 * t.entries) entries₀ ++ data_words (data_of q done')) ++ drop (4 * (written + u.entries))
          entries₀
      entries-now =
          let p = ap (λ (l : List ℕ). take (4 * written) entries ++ l)
          (u-is.entries-are ∙ ap (λ (l : List DataEntry). over (drop (4 * written) entries) (data_words l)) data-fit)
          ∙ put-free (take (4 * t.entries) entries₀ ++ data_words (data_of q so.done)) entries₀ entries (4 * written)
          so.lists.entries-are entries-size (omega (arith, data-room)) (data_words (data_of q (v ∷ []))) in
          let e : (take (4 * t.entries) entries₀ ++ data_words (data_of q so.done)) ++ data_words (data_of q (v ∷ [])) ≡ take
          (4 * t.entries) entries₀ ++ data_words (data_of q done') =
          append_assoc (take (4 * t.entries) entries₀) (data_words (data_of q so.done)) (data_words (data_of q (v ∷ [])))
          ∙ ap (λ (l : List ℕ). take (4 * t.entries) entries₀ ++ l)
          (sym (data-words-append (data_of q so.done) (data_of q (v ∷ []))) ∙ ap data_words
          (sym (data-append q so.done (v ∷ [])))) in
          let k : 4 * written + length (data_words (data_of q (v ∷ []))) ≡ 4 * (written + u.entries) = omega
          (arith, length-data-words (data_of q (v ∷ [])), entry-count) in
          p ∙ ap₂ (λ (l : List ℕ) (n : ℕ). l ++ drop n entries₀) e k

      written-now : Written q t ids₀ entries₀ journal₀ done' ids' entries' journal' (visits + 1) (listed + u.ids)
          (written + u.entries)
      written-now =
          record {
            count = omega (arith, length-append so.done (v ∷ []), so.lists.count);
            journal-is = journal-now;
            ids-are = ids-now;
            listed-is =
                let z : length (ids_of q done') ≡ length (ids_of q so.done ++ ids_of q (v ∷ [])) = ap length
                (ids-append q so.done (v ∷ [])) in
                omega (arith, length-append (ids_of q so.done) (ids_of q (v ∷ [])), id-count, so.lists.listed-is);
            entries-are = entries-now;
            written_is =
                let z : length (data_of q done') ≡ length (data_of q so.done ++ data_of q (v ∷ [])) = ap length
                (data-append q so.done (v ∷ [])) in
                omega (arith, length-append (data_of q so.done) (data_of q (v ∷ [])), entry-count, so.lists.written_is);
          }

      -- the lists keep their lengths
      whole-now : visits_from q t ≡ done' ++ tail
      whole-now = step ∙ sym (append_assoc so.done (v ∷ []) tail)

      ids-kept : length ids' ≡ length ids₀
      ids-kept =
          ids-length q t codes ids₀ entries₀ journal₀ ready done' tail whole-now ids' entries' journal' (visits + 1)
          (listed + u.ids) (written + u.entries) written-now

      entries-kept : length entries' ≡ length entries₀
      entries-kept =
          entries-length q t codes ids₀ entries₀ journal₀ ready done' tail whole-now ids' entries' journal' (visits + 1)
          (listed + u.ids) (written + u.entries) written-now

      visit-next : v.after.next ≡ cond closing (after_flow q w.after.next (unit_flow q unit)) w.after.next
      visit-next = next-is q reading so.members (controls_of c) s visits inside found found-is w w-is

      -- the code goes no further than after the last rule
      next-by : (b : Bool) → closing ≡ b → u.next ≡ cond b (min v.after.next (rule_count q)) v.after.next
      next-by true d =
          u-is.next-is
          ∙ (ap₂ (λ (b : Bool) (ms : List ℕ). cond b (min (after_flow q w.after.next (unit_flow q ms)) (rule_count q))
          w.after.next) d (unit-part d)
          ∙ ap (λ (n : ℕ). min n (rule_count q))
          (sym (visit-next ∙ ap (λ (b : Bool). cond b (after_flow q w.after.next (unit_flow q unit)) w.after.next) d)))
      next-by false d =
          u-is.next-is
          ∙ (ap (λ (b : Bool). cond b (min (after_flow q w.after.next (unit_flow q part)) (rule_count q)) w.after.next) d
          ∙ sym (visit-next ∙ ap (λ (b : Bool). cond b (after_flow q w.after.next (unit_flow q unit)) w.after.next) d))

      next_past : (b : Bool) (n : ℕ) → n ≡ cond b (min v.after.next (rule_count q)) v.after.next → s.next < n
      next_past true n d = omega (arith, goes)
      next_past false n d = omega (arith, goes)

      next_more : s.next < u.next
      next_more = next_past closing u.next (next-by closing refl)

      -- fewer rules are left
      fewer-left : (n : ℕ) → s.next < n → n - u.next < n - s.next
      fewer-left n h = omega (arith, next_more)

      -- HOW THE TURN ENDS
      module _ (added' : Bool) (c' : Controls) (c'-is : Changed adds added c added' c' v.after.controls) (e : Ending)
          (e-is : e ≡ end_of found u.disruptive (mode_under q (controls_of c'))) where
        became-now : Became (adds_ranges q done') t.controls c' (controls_after (controls_of t.controls) done')
        became-now =
            let z : controls_after (controls_of t.controls) done' ≡ v.after.controls = controls-append
            (controls_of t.controls) so.done (v ∷ []) in
            let g : Grown (controls_after (controls_of t.controls) so.done) v.after.controls = subst
            (λ (x : plain.Controls). Grown x v.after.controls) so.controls.meaning visit-grown in
            rw (z, adds-now)
            (became-then so.controls (changed-became c'-is (λ x. so.controls.cleared (sym so.added_is ∙ x))) g)

        added-now : added' ≡ adds_ranges q done'
        added-now = c'-is.flag ∙ (ap (λ (b : Bool). b || adds) so.added_is ∙ sym adds-now)

        disruptive-now : u.disruptive ≡ cond closing (unit_disruptive q unit) DisruptiveOutcome.Nothing
        disruptive-now = u-is.disruptive-is ∙ go closing refl
          where
            go : (b : Bool) → closing ≡ b → cond b (unit_disruptive q part) DisruptiveOutcome.Nothing ≡ cond b
                (unit_disruptive q unit) DisruptiveOutcome.Nothing
            go true d = ap (unit_disruptive q) (unit-part d)
            go false d = refl

        kind-is : kind_of v.ending ≡ e
        kind-is =
            ending-is q reading so.members (controls_of c) s visits inside found found-is w w-is u.disruptive disruptive-now
            ∙ (ap (λ (x : plain.Controls). end_of found u.disruptive (mode_under q x)) (sym c'-is.meaning) ∙ sym e-is)

        last-is : is_last v.ending ≡ not (is_going e)
        last-is = last-kind v.ending ∙ ap (λ (x : Ending). not (is_going x)) kind-is

        -- the walk ends where the visit is the last or the mode is Off after it
        tail_none : (a b : Bool) → not (is_going e) ≡ a → is_off (mode_under q (controls_of c')) ≡ b → (a || b) ≡ true → tail ≡ []
        tail_none true b ea eb h =
            ap (λ (x : Bool). keep (not x) (walk (rule_count q - (visits + 1)) q v.after)) (last-is ∙ ea)
        tail_none false b ea eb h =
            let off : is_off (mode_under q v.after.controls) ≡ true = ap (λ (x : plain.Controls). is_off (mode_under q x))
            (sym c'-is.meaning) ∙ (eb ∙ h) in
            ap (keep (not (is_last v.ending))) (walk-off (rule_count q - (visits + 1)) q v.after off) ∙ none
            (not (is_last v.ending))
          where
            none : (x : Bool) → keep {A = Visit} x [] ≡ []
            none true = refl
            none false = refl

        sofar-last : (last : ℕ) → cond (is_errs e) last 0 ≡ cond (is_errs e) s.next 0
            → (stop : Option Intervention) → stop ≡ intervention_at_end e (unit_intervention q part)
            → (not (is_going e) || is_off (mode_under q (controls_of c'))) ≡ true
            → Walked q t (walk_lists ids₀ entries₀ journal₀)
            (ended_by e last (visits + 1) (listed + u.ids) (written + u.entries) stop c') (walk_lists ids' entries' journal')
        sofar-last last last-is-so stop stop_is h =
            let d : visits_from q t ≡ done' =
            step ∙ ap (λ (l : List Visit). so.done ++ (v ∷ l))
            (tail_none (not (is_going e)) (is_off (mode_under q (controls_of c'))) refl refl h) in
            let errs : is_errs e ≡ is_error v.ending = ap is_errs (sym kind-is) ∙ sym (error_kind v.ending) in
            let gives : is_allows e ≡ gives_allow v.ending = ap is_allows (sym kind-is) ∙ sym (allow-kind v.ending) in
            finished q t ids₀ entries₀ journal₀ ids' entries' journal' c' (visits + 1) (listed + u.ids) (written + u.entries)
            last e stop
            (rw d written-now)
            (rw d became-now)
            (rw (d, answer-after so.done (v ∷ []) so.going) (ap (λ (b : Bool). cond b 10 0) errs))
            (rw (d, error-after so.done (v ∷ []) so.going) (last-is-so ∙ (ap (λ (b : Bool). cond b s.next 0) errs ∙ index-now)))
            (rw (d, allowed-after so.done (v ∷ []) so.going) (gives ∙ sym (or-false-is (gives_allow v.ending))))
            (rw (d, intervention-after so.done (v ∷ []) so.going)
            (stop_is ∙ (ap (λ (x : Ending). intervention_at_end x (unit_intervention q part)) (sym kind-is)
            ∙ sym (stopping-is q reading so.members (controls_of c) s visits inside found found-is w w-is
            (unit_intervention q part) (λ x. ap (unit_intervention q) (unit-part x))))))
          where
            index-now : cond (is_error v.ending) s.next 0 ≡ cond (is_error v.ending) v.index 0
            index-now =
                ap (λ (x : JournalEntry). cond (is_error v.ending) x.index 0)
                (sym (entry-is q reading so.members (controls_of c) s visits inside found found-is w w-is))

        sofar-more : (not (is_going e) || is_off (mode_under q (controls_of c'))) ≡ false
            → Sofar q t ids₀ entries₀ journal₀ ids' entries' journal' c' added'
            (record { next = u.next; chain = w.after.chain })
            (visits + 1) (listed + u.ids) (written + u.entries)
        sofar-more h =
            record {
              done = done';
              members = v.after.members;
              whole =
                  step ∙ (ap (λ (l : List Visit). so.done ++ (v ∷ l))
                  (ap (λ (b : Bool). keep (not b) (walk rest-count q v.after)) going_on ∙ rest-is)
                  ∙ sym (append_assoc so.done (v ∷ []) (walk rest-count q after-state)));
              going = going_more so.done v so.going going_on;
              lists = written-now;
              controls = became-now;
              added_is = added-now;
              held-ranges = rw c'-is.meaning (omega (arith, so.held-ranges, ranges-now, given-now range_count));
              held-targets = rw c'-is.meaning (omega (arith, so.held-targets, targets-now, given-now target_count));
              merged = rw c'-is.meaning (visit-merged q st so.merged);
              not-off = both.1;
              agree = agree-now w.after.chain refl;
              entry = entry-now w.after.chain refl;
              ahead = ahead-now;
            }
          where
            both : (not (is_going e) ≡ false) × (is_off (mode_under q (controls_of c')) ≡ false)
            both = or-false (not (is_going e)) (is_off (mode_under q (controls_of c'))) h

            going_on : is_last v.ending ≡ false
            going_on = last-is ∙ both.0

            rest-count : ℕ
            rest-count = rule_count q - (visits + 1)

            after-state : defined.State
            after-state = record { next = u.next; members = v.after.members; controls = controls_of c' }

            walk-by : (b : Bool) (n : ℕ) → n ≡ cond b (min v.after.next (rule_count q)) v.after.next
                → walk rest-count q v.after ≡ walk rest-count q
                (record { next = n; members = v.after.members; controls = v.after.controls })
            walk-by true n d = rw d (sym (walk-clip rest-count q v.after.next v.after.members v.after.controls))
            walk-by false n d = rw d

            rest-is : walk rest-count q v.after ≡ walk rest-count q after-state
            rest-is =
                walk-by closing u.next (next-by closing refl)
                ∙ ap (λ (x : plain.Controls). walk rest-count q
                (record { next = u.next; members = v.after.members; controls = x })) (sym c'-is.meaning)

            ahead-now : visits + 1 ≤ u.next
            ahead-now = omega (arith, next_more, so.ahead)

            none_open : is_some s.chain ≡ false → so.members ≡ []
            none_open = go s.chain refl
              where
                go : (o : Option ℕ) → s.chain ≡ o → is_some o ≡ false → so.members ≡ []
                go (Some n) d h = absurd (true-false h)
                go None d h =
                    let z : length (journal_of so.done) ≤ visits = omega (arith, length-done) in
                    sym so.agree ∙ (ap (λ (o : Option ℕ). matched_in (drop (unwrap_or o visits) (journal_of so.done))) d ∙ ap
                    matched_in (drop_of_length-le (journal_of so.done) z))

            chain-is : keep (is_some w.after.chain) (matched_in (drop (entry_by s visits) (journal_of done'))) ≡ v.after.members
            chain-is =
                members-are q reading so.members (controls_of c) s visits inside found found-is w w-is
                (matched_in (drop (entry_by s visits) (journal_of done'))) since-now none_open

            begun-now : (n : ℕ) → w.after.chain ≡ Some n → n ≡ entry_by s visits
            begun-now = chain-begun q reading so.members (controls_of c) s visits inside found found-is w w-is

            agree-now : (o : Option ℕ) → w.after.chain ≡ o → matched_in
                (drop (unwrap_or o (visits + 1)) (journal_of done')) ≡ v.after.members
            agree-now (Some n) d =
                ap (λ (n : ℕ). matched_in (drop n (journal_of done'))) (begun-now n d)
                ∙ (ap (λ (o : Option ℕ). keep (is_some o) (matched_in (drop (entry_by s visits) (journal_of done')))) (sym d) ∙ chain-is)
            agree-now None d =
                let z : length (journal_of done') ≤ visits + 1 = omega (arith, length-now) in
                ap matched_in (drop_of_length-le (journal_of done') z)
                ∙ (ap (λ (o : Option ℕ). keep (is_some o) (matched_in (drop (entry_by s visits) (journal_of done')))) (sym d) ∙ chain-is)

            entry-now : (o : Option ℕ) → w.after.chain ≡ o → unwrap_or o (visits + 1) ≤ visits + 1
            entry-now (Some n) d = omega (arith, begun-now n d, so.entry)
            entry-now None d = omega arith

    -- A VISIT THAT CLOSES NO UNIT
    module _ (waits : closing ≡ false) where
      gave-nothing : Gave q closing part w.after.next (drop listed ids) (drop (4 * written) entries) (nothing w.after.next)
          (drop listed ids) (drop (4 * written) entries)
      gave-nothing = gave-none q closing part w.after.next (drop listed ids) (drop (4 * written) entries) waits

      controls-same : Changed adds added c added c v.after.controls
      controls-same =
          changed-as
          (sym (ap (any (unit_removes q)) (closed-now ∙ ap (λ (b : Bool). keep b (unit ∷ [])) waits)))
          (sym (controls-now ∙ ap (λ (b : Bool). cond b (unit_controls q unit (controls_of c)) (controls_of c)) waits))
          (changed-same added c)

      -- it leads on, where its rule had no error
      pub sofar-on : visit.is_error found ≡ false
          → Sofar q t ids₀ entries₀ journal₀ ids entries journal' c added w.after (visits + 1) listed written
      sofar-on h =
          rw (take-append-drop listed ids, take-append-drop (4 * written) entries, add-zero listed, add-zero written) at
          (sofar-more (nothing w.after.next) (drop listed ids) (drop (4 * written) entries) gave-nothing added c controls-same
          Ending.GoesOn (rw h) so.not-off)

      pub fewer-left-on : (n : ℕ) → s.next < n → n - w.after.next < n - s.next
      fewer-left-on = fewer-left (nothing w.after.next) (drop listed ids) (drop (4 * written) entries) gave-nothing

    -- A RULE ERROR
    unclosed : visit.is_error found ≡ true → closing ≡ false
    unclosed h = not-closed closing refl
      where
        not-closed : (b : Bool) → closing ≡ b → b ≡ false
        not-closed false d = refl
        not-closed true d =
            absurd (true-false (sym h ∙ ap visit.is_error
            (closes-matched q reading so.members (controls_of c) s visits inside found found-is w w-is d)))

    pub sofar-error : visit.is_error found ≡ true
        → Walked q t (walk_lists ids₀ entries₀ journal₀) (ended_by Ending.Errs s.next (visits + 1) listed written None c)
        (walk_lists ids entries journal')
    sofar-error h =
        rw (take-append-drop listed ids, take-append-drop (4 * written) entries, add-zero listed, add-zero written) at
        (sofar-last (nothing w.after.next) (drop listed ids) (drop (4 * written) entries) (gave-nothing (unclosed h)) added c (controls-same (unclosed h))
        Ending.Errs (rw h) s.next refl None refl refl)

    -- A VISIT THAT CLOSES A UNIT
    module _ (first : ℕ) (begins : w.closes ≡ Some first) (counts : ControlCounts) (starts ends phases positions : List ℕ)
        (c-is : c ≡ struct_of counts starts ends phases positions) (added_is : added ≡ counts.added) where
      abbrev at : WalkState
      at = record { state = w.after; visits = visits + 1; ids = listed; entries = written; counts = counts }

      closes : closing ≡ true
      closes = ap is_some begins

      first-is : first ≡ entry_by s visits
      first-is = unit-begun q reading so.members (controls_of c) s visits inside found found-is w w-is first begins

      pub room-closed : Room at first ids entries journal'
      room-closed = record { begun = omega (arith, first-is, part-start); visits = part_end; ids-used = ids-start; entries-used = entries-start }

      module _ (r : AfterUnit) (ids₁ entries₁ starts₁ ends₁ phases₁ positions₁ : List ℕ)
          (left-so : UnitClosed q codes at first ids entries journal' starts ends phases positions r ids₁ entries₁ starts₁ ends₁ phases₁ positions₁)
        where
          x : UnitClosed q codes at (entry_by s visits) ids entries journal' starts ends phases positions r ids₁ entries₁ starts₁ ends₁ phases₁ positions₁
          x = subst (λ (n : ℕ). UnitClosed q codes at n ids entries journal' starts ends phases positions r ids₁ entries₁ starts₁ ends₁ phases₁ positions₁)
              first-is left-so

          abbrev u : UnitOutcome
          u = x.gave

          gave : Gave q closing part w.after.next (drop listed ids) (drop (4 * written) entries) u x.free-ids
              x.free-entries
          gave = gave-unit q closing part w.after.next (drop listed ids) (drop (4 * written) entries) u x.free-ids
              x.free-entries closes x.wrote

          -- what holds of the two lists as they are written holds of those that are found
          put : (P : List ℕ → List ℕ → Type 0) → P (take listed ids ++ x.free-ids) (take (4 * written) entries ++ x.free-entries)
              → P ids₁ entries₁
          put P p =
              subst (λ (l : List ℕ). P l entries₁) (sym x.ids-are)
              (subst (P (take listed ids ++ x.free-ids)) (sym x.entries-are) p)

          abbrev c₁ : Controls
          c₁ = struct_of x.counts starts₁ ends₁ phases₁ positions₁

          changed-unit : Changed adds added c x.counts.added c₁ v.after.controls
          changed-unit =
              changed-as (coded-adds closes) (coded_now closes)
              (subst (λ (f : Bool). Changed (unit_adds codes q.rules part) f c x.counts.added c₁ (unit_by_codes (source_of q) codes q.rules part (controls_of c)))
              (sym added_is)
              (subst (λ (y : Controls). Changed (unit_adds codes q.rules part) counts.added y x.counts.added c₁
              (unit_by_codes (source_of q) codes q.rules part (controls_of y))) (sym c-is) x.turned))

          abbrev mode : RuleEngineMode
          mode = mode_under q (controls_of c₁)

          abbrev e : Ending
          e = end_by u.disruptive mode

          end-now : e ≡ end_of found u.disruptive mode
          end-now =
              ap (λ (y : Verdict). end_of y u.disruptive mode)
              (sym (closes-matched q reading so.members (controls_of c) s visits inside found found-is w w-is closes))

          pub ids-closed : length ids₁ ≡ length ids₀
          ids-closed = ap length x.ids-are ∙ ids-kept u x.free-ids x.free-entries gave

          pub entries-closed : length entries₁ ≡ length entries₀
          entries-closed = ap length x.entries-are ∙ entries-kept u x.free-ids x.free-entries gave

          module _ (next : WalkState) (goes_on : r ≡ AfterUnit.GoesOn next) where
            left : ((not (is_going e) || is_off mode) ≡ false) × (moved_by at u x.counts ≡ next)
            left = left-on (not (is_going e) || is_off mode) e (moved_by at u x.counts) (intervention_at_end e (unit_intervention q part)) next
                (sym x.left_is ∙ goes_on)

            pub sofar-closed : Sofar q t ids₀ entries₀ journal₀ ids₁ entries₁ journal'
                (struct_of next.counts starts₁ ends₁ phases₁ positions₁) next.counts.added next.state next.visits next.ids next.entries
            sofar-closed =
                put (λ (l m : List ℕ). Sofar q t ids₀ entries₀ journal₀ l m journal'
                (struct_of next.counts starts₁ ends₁ phases₁ positions₁) next.counts.added next.state next.visits next.ids next.entries)
                (subst (λ (n : WalkState). Sofar q t ids₀ entries₀ journal₀ (take listed ids ++ x.free-ids)
                (take (4 * written) entries ++ x.free-entries) journal'
                (struct_of n.counts starts₁ ends₁ phases₁ positions₁) n.counts.added n.state n.visits n.ids n.entries) left.1
                (sofar-more u x.free-ids x.free-entries gave x.counts.added c₁ changed-unit e end-now left.0))

            pub fewer-left-closed : (n : ℕ) → s.next < n → n - next.state.next < n - s.next
            fewer-left-closed n h =
                subst (λ (y : WalkState). n - y.state.next < n - s.next) left.1
                (fewer-left u x.free-ids x.free-entries gave n h)

          pub walked-closed : (end : End) → r ≡ AfterUnit.Ends end
              → Walked q t (walk_lists ids₀ entries₀ journal₀)
              (ended_by end.ending end.at.state.next end.at.visits end.at.ids end.at.entries end.stop
              (struct_of end.at.counts starts₁ ends₁ phases₁ positions₁)) (walk_lists ids₁ entries₁ journal')
          walked-closed end ends_so =
              let l = left_end (not (is_going e) || is_off mode) e (moved_by at u x.counts) (intervention_at_end e (unit_intervention q part)) end
              (sym x.left_is ∙ ends_so) in
              put (λ (l m : List ℕ). Walked q t (walk_lists ids₀ entries₀ journal₀)
              (ended_by end.ending end.at.state.next end.at.visits end.at.ids end.at.entries end.stop
              (struct_of end.at.counts starts₁ ends₁ phases₁ positions₁)) (walk_lists l m journal'))
              (subst (λ (y : End). Walked q t (walk_lists ids₀ entries₀ journal₀)
              (ended_by y.ending y.at.state.next y.at.visits y.at.ids y.at.entries y.stop
              (struct_of y.at.counts starts₁ ends₁ phases₁ positions₁)) (walk_lists (take listed ids ++ x.free-ids)
              (take (4 * written) entries ++ x.free-entries) journal')) l.1
              (sofar-last u x.free-ids x.free-entries gave x.counts.added c₁ changed-unit e end-now u.next
              (no_index u.next s.next (is_allow u.disruptive) (is_stopping u.disruptive && is_on mode))
              (intervention_at_end e (unit_intervention q part)) refl l.0))

-- the rule that the loop stands at, by the code's test
pub inside-rules : (rules : List ℕ) (i : ℕ) → i < length rules / 5 → i < length (rule_list rules)
inside-rules rules i h = omega (arith, length-rules rules)

pub past-rules : (rules : List ℕ) (i : ℕ) → length rules / 5 ≤ i → length (rule_list rules) ≤ i
past-rules rules i h = omega (arith, length-rules rules)

-- room in the journal for the visit to come
pub journal-ahead : (q : Given) (t : Transaction) (codes ids₀ entries₀ journal₀ : List ℕ) → Ready q t codes (walk_lists ids₀ entries₀ journal₀)
    → q.reading ≡ rust → (ids entries journal : List ℕ) (c : Controls) (added : Bool) (s : State) (visits listed written : ℕ)
    → Sofar q t ids₀ entries₀ journal₀ ids entries journal c added s visits listed written → s.next < rule_count q
    → 2 * visits + 2 ≤ length journal
journal-ahead q t codes ids₀ entries₀ journal₀ ready reading ids entries journal c added s visits listed written so inside =
    journal-next (record {
      q = q;
      t = t;
      codes = codes;
      ids₀ = ids₀;
      entries₀ = entries₀;
      journal₀ = journal₀;
      ready = ready;
      reading = reading;
      ids = ids;
      entries = entries;
      journal = journal;
      c = c;
      added = added;
      s = s;
      visits = visits;
      listed = listed;
      written = written;
      so = so;
      inside = inside;
      found = verdict_at q (controls_of c) s.next;
      found-is = refl;
      w = found_at q.rules s visits (verdict_at q (controls_of c) s.next);
      w-is = refl;
    })
