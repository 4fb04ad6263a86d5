-- What the walk's function asks, and what it leaves. Only functions that the phase call is made of cite this.
use Rattle.std.specs.Prelude.{ℕ, ◌+◌, ◌-◌, ◌*◌, ◌≤◌, ◌≡◌, Bool, true, false, cond, not, ◌||◌, List, ◌++◌, length, take, drop, replicate, Option, None}
use Rattle.reading.specs.declared.Intervention.{Intervention}
use Rattle.reading.specs.declared.RuleEngineMode.{RuleEngineMode}
use Rattle.reading.specs.Lists.{over}
use Rattle.reading.specs.Records.{data_words, journal_words, journal_list, matched_in}
use Rattle.reading.specs.Controls.{is_off}
use Rattle.reading.specs.Call.{Given, rule_count, mode_under}
use Rattle.reading.specs.Units.{unit_intervention}
use Rattle.reading.specs.Directive.{range_count, target_count}
use Rattle.reading.specs.Walk.{Visit, walk, start, journal_of, closed_in, ids_of, data_of, controls_after, allowed_by, intervention_by, answer_by, error_index_by}
use Rattle.reading.specs.Report.{no_report}
use Rattle.reading.specs.Outcome.{at_free_end}
use Rattle.theorems.specs.MergedRanges.{Merged}
use Rattle.theorems.specs.WithinLimits.{units_give}
use Rattle.control.specs.declared.state.Controls.{Controls}
use Rattle.control.specs.ControlsStruct.{controls_of, Became}
use Rattle.apply.specs.Codes.{codes_of}
use Rattle.apply.specs.declared.append.ControlCounts.{ControlCounts}
use Rattle.apply.specs.Append.{struct_of}
use Rattle.apply.specs.UnitCodes.{unit_by_codes}
use Rattle.apply.specs.UnitChanges.{unit_adds}
use Rattle.apply.specs.AddedRanges.{adds_ranges}
use Rattle.apply.specs.ApplyUnit.{Turned}
use Rattle.unit.specs.declared.close.UnitOutcome.{UnitOutcome}
use Rattle.unit.specs.CloseUnit.{Wrote}
use Rattle.intervention.specs.declared.decide.Ending.{Ending}
use Rattle.intervention.specs.EndOfVisit.{end_by}
use Rattle.intervention.specs.BuildIntervention.{intervention_at_end}
use Rattle.transaction.specs.declared.types.Transaction.{Transaction}
use Rattle.transaction.specs.declared.types.Phase.{Phase}
use Rattle.transaction.specs.declared.types.WalkState.{WalkState}
use Rattle.transaction.specs.declared.types.AfterUnit.{AfterUnit}
use Rattle.transaction.specs.RunPhase.{transaction_of}

-- a transaction without allow and intervention
abbrev pub fresh : Transaction → Transaction
fresh t = record { controls = t.controls; allowed = false; intervention = None; ids = t.ids; entries = t.entries }

-- the lists that the walk writes, as numbers
pub record WalkLists : Type 0 where
  pub ids : List ℕ
  pub entries : List ℕ
  pub journal : List ℕ

abbrev pub walk_lists : List ℕ → List ℕ → List ℕ → WalkLists
walk_lists ids entries journal = record { ids = ids; entries = entries; journal = journal }

-- all visits from the first rule on
abbrev pub visits_from : Given → Transaction → List Visit
visits_from g t = walk (rule_count g) g (start (transaction_of t))

-- an accepted call with something to do: what the walk needs of it. `codes` are the actions' codes.
pub record Ready (g : Given) (t : Transaction) (codes : List ℕ) (l : WalkLists) : Type 0 where
  pub outcomes : length g.outcomes ≡ rule_count g
  pub actions : length g.actions ≤ 4096
  pub digested : codes ≡ over (replicate 4096 0) (codes_of g.text g.actions)
  pub ids-room : t.ids + rule_count g ≤ length l.ids
  pub entries-room : 4 * (t.entries + rule_count g) ≤ length l.entries
  pub journal-room : 2 * rule_count g ≤ length l.journal
  pub visits-few : length (visits_from g t) ≤ rule_count g
  pub ids-few : length (ids_of g (visits_from g t)) ≤ rule_count g
  pub data-few : length (data_of g (visits_from g t)) ≤ rule_count g
  -- what is held and what all closed units give, as it is written
  pub ranges : length (controls_of t.controls).ranges + units_give g range_count (closed_in (visits_from g t)) ≤ 256
  pub targets : length (controls_of t.controls).targets + units_give g target_count (closed_in (visits_from g t)) ≤ 64
  pub merged : Merged (controls_of t.controls).ranges
  pub not-off : is_off (mode_under g (controls_of t.controls)) ≡ false

-- whether the walk goes on, unless the mode is Off
abbrev pub is_going : Ending → Bool
is_going Ending.GoesOn = true
is_going Ending.Allows = false
is_going Ending.Errs = false
is_going Ending.Stops = false

-- whether it ends with a rule error
abbrev pub is_errs : Ending → Bool
is_errs Ending.GoesOn = false
is_errs Ending.Allows = false
is_errs Ending.Errs = true
is_errs Ending.Stops = false

-- whether it ends with an allow
abbrev pub is_allows : Ending → Bool
is_allows Ending.GoesOn = false
is_allows Ending.Allows = true
is_allows Ending.Errs = false
is_allows Ending.Stops = false

-- the answer of a walk that ended so at the rule `last`, but for what is told besides
abbrev pub ended_by : Ending → ℕ → ℕ → ℕ → ℕ → Option Intervention → Controls → Phase
ended_by e last visits ids entries stop c = record {
  answer = record { answer = cond (is_errs e) 10 0; error = cond (is_errs e) last 0; visits = visits; report = no_report };
  transaction = record { controls = c; allowed = is_allows e; intervention = stop; ids = ids; entries = entries };
}

-- of a transaction without allow and intervention
pub record Walked (g : Given) (t : Transaction) (l : WalkLists) (r : Phase) (l' : WalkLists) : Type 0 where
  pub answer : r.answer.answer ≡ answer_by (visits_from g t)
  pub error : r.answer.error ≡ error_index_by (visits_from g t)
  pub visits : r.answer.visits ≡ length (visits_from g t)
  pub journal-numbers : l'.journal ≡ over l.journal (journal_words (journal_of (visits_from g t)))
  pub ids-listed : l'.ids ≡ at_free_end t.ids l.ids (ids_of g (visits_from g t))
  pub data-numbers : l'.entries ≡ at_free_end (4 * t.entries) l.entries (data_words (data_of g (visits_from g t)))
  pub ids-used : r.transaction.ids ≡ t.ids + length (ids_of g (visits_from g t))
  pub data-used : r.transaction.entries ≡ t.entries + length (data_of g (visits_from g t))
  pub controls : Became (adds_ranges g (visits_from g t)) t.controls r.transaction.controls
      (controls_after (controls_of t.controls) (visits_from g t))
  pub allowed : r.transaction.allowed ≡ allowed_by (visits_from g t)
  pub intervention : r.transaction.intervention ≡ intervention_by (visits_from g t)

-- how far the walk is before the first rule
abbrev pub start_of : Transaction → WalkState
start_of t = record {
  state = record { next = 0; chain = None };
  visits = 0;
  ids = t.ids;
  entries = t.entries;
  counts = record { settings = t.controls.settings; ranges = t.controls.ranges; targets = t.controls.targets; added = false };
}

-- A CLOSED UNIT. `at` is how far the walk is with the visit of the closing rule, before the unit's flow, and `first` the place in the
-- journal of the unit's first entry.

-- what closing a unit asks: its entries are in the journal, and no list is shorter than what of it is in use
pub record Room (at : WalkState) (first : ℕ) (ids entries journal : List ℕ) : Type 0 where
  pub begun : first ≤ at.visits
  pub visits : 2 * at.visits ≤ length journal
  pub ids-used : at.ids ≤ length ids
  pub entries-used : 4 * at.entries ≤ length entries

-- the unit's members: the matched entries of the journal from its first one on
abbrev pub members_at : WalkState → ℕ → List ℕ → List ℕ
members_at at first journal = matched_in (journal_list (take (2 * at.visits - 2 * first) (drop (2 * first) journal)))

-- how far the walk is after a unit that gave so much, with these settings and counts of the controls
abbrev pub moved_by : WalkState → UnitOutcome → ControlCounts → WalkState
moved_by at gave counts = record {
  state = record { next = gave.next; chain = at.state.chain };
  visits = at.visits;
  ids = at.ids + gave.ids;
  entries = at.entries + gave.entries;
  counts = counts;
}

-- where the walk is left so: it ends, where this was the last visit
abbrev pub left_by : Bool → Ending → WalkState → Option Intervention → AfterUnit
left_by last e at stop = cond last (AfterUnit.Ends (record { ending = e; at = at; stop = stop })) (AfterUnit.GoesOn at)

-- the same by the mode after the unit's controls, the unit's last disruptive action and its intervention
abbrev pub left_under : RuleEngineMode → Given → List ℕ → WalkState → UnitOutcome → ControlCounts → AfterUnit
left_under mode g unit at gave counts =
    let e = end_by gave.disruptive mode in
    left_by (not (is_going e) || is_off mode) e (moved_by at gave counts) (intervention_at_end e (unit_intervention g unit))

-- what closing a unit leaves: `gave` is what the unit gave, and `held` the settings and counts after its controls
pub record UnitClosed (g : Given) (codes : List ℕ) (at : WalkState) (first : ℕ) (ids entries journal starts ends phases positions : List ℕ) (r : AfterUnit)
    (ids' entries' starts' ends' phases' positions' : List ℕ) : Type 0 where
  pub gave : UnitOutcome
  pub counts : ControlCounts
  -- the free ends of the two lists after it
  pub free-ids : List ℕ
  pub free-entries : List ℕ
  pub wrote : Wrote g (members_at at first journal) at.state.next (drop at.ids ids) (drop (4 * at.entries) entries) gave free-ids
      free-entries
  pub ids-are : ids' ≡ take at.ids ids ++ free-ids
  pub entries-are : entries' ≡ take (4 * at.entries) entries ++ free-entries
  pub turned : Turned (unit_adds codes g.rules (members_at at first journal)) at.counts starts ends phases positions counts starts' ends' phases' positions'
      (unit_by_codes (record { phase = g.settings.phase; text = g.text; actions = g.actions }) codes g.rules (members_at at first journal)
      (controls_of (struct_of at.counts starts ends phases positions)))
  pub left_is : r ≡ left_under (mode_under g (controls_of (struct_of counts starts' ends' phases' positions'))) g (members_at at first journal) at gave counts
