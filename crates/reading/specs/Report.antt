-- What a phase tells besides: how many of its visits found each verdict, and the first unsupported directive of its closed units.
-- Defined twice, by the walk's visits and by a journal alone; `report-told` in crates/theorems says that the two are the same.
use Rattle.std.specs.Prelude.{ℕ, Bool, true, false, cond, List, [], ◌∷◌, map, eqb}
use Rattle.reading.specs.declared.Verdict.{Verdict}
use Rattle.reading.specs.declared.JournalEntry.{JournalEntry}
use Rattle.reading.specs.declared.UnsupportedAt.{UnsupportedAt}
use Rattle.reading.specs.declared.Report.{Report}
use Rattle.reading.specs.Lists.{total, gather}
use Rattle.reading.specs.Numbers.{reason_number}
use Rattle.reading.specs.Directive.{reasons_of}
use Rattle.reading.specs.Actions.{controls_in, directive_in}
use Rattle.reading.specs.Call.{Given, actions_at}
use Rattle.reading.specs.Walk.{Visit}
use Rattle.reading.specs.Replay.{units_of}

-- 02: "or none"; no reason has the number 0
abbrev pub none_unsupported : UnsupportedAt
none_unsupported = record { index = 0; reason = 0 }

-- the first of several, else the other
abbrev pub first_or : List UnsupportedAt → UnsupportedAt → UnsupportedAt
first_or [] other = other
first_or (u ∷ us) other = u

-- a call without a visit, a refused one too. 02: "or none, as after a refusal"
abbrev pub no_report : Report
no_report = record { missed = 0; matched = 0; removed = 0; errors = 0; unsupported = none_unsupported }

-- OF A CLOSED UNIT

-- the unsupported directives of a member in the order of its actions, each as "the rule index and reason". The index is the member's
-- (docs/DECISIONS.md, D69).
unfoldable pub member_unsupported : Given → ℕ → List UnsupportedAt
member_unsupported g m =
    gather (λ p. map (λ r. record { index = m; reason = reason_number r }) (reasons_of (directive_in g.text p))) (controls_in (actions_at g m))

-- of its members, in their order
abbrev pub unit_unsupported : Given → List ℕ → List UnsupportedAt
unit_unsupported g unit = gather (member_unsupported g) unit

-- BY THE WALK

abbrev pub same_verdict : Verdict → Verdict → Bool
same_verdict Verdict.Missed Verdict.Missed = true
same_verdict Verdict.Missed Verdict.Matched = false
same_verdict Verdict.Missed Verdict.Removed = false
same_verdict Verdict.Missed Verdict.Error = false
same_verdict Verdict.Matched Verdict.Missed = false
same_verdict Verdict.Matched Verdict.Matched = true
same_verdict Verdict.Matched Verdict.Removed = false
same_verdict Verdict.Matched Verdict.Error = false
same_verdict Verdict.Removed Verdict.Missed = false
same_verdict Verdict.Removed Verdict.Matched = false
same_verdict Verdict.Removed Verdict.Removed = true
same_verdict Verdict.Removed Verdict.Error = false
same_verdict Verdict.Error Verdict.Missed = false
same_verdict Verdict.Error Verdict.Matched = false
same_verdict Verdict.Error Verdict.Removed = false
same_verdict Verdict.Error Verdict.Error = true

-- the visits that found a verdict
abbrev pub visits_with : Verdict → List Visit → ℕ
visits_with verdict vs = total (λ v. cond (same_verdict verdict v.verdict) 1 0) vs

-- 02: "the first unsupported directive in its closed units": that of the first visit whose unit has one
abbrev pub unsupported_by : Given → List Visit → UnsupportedAt
unsupported_by g [] = none_unsupported
unsupported_by g (v ∷ vs) = first_or (gather (unit_unsupported g) v.closed) (unsupported_by g vs)

abbrev pub report_by : Given → List Visit → Report
report_by g vs = record {
  missed = visits_with Verdict.Missed vs;
  matched = visits_with Verdict.Matched vs;
  removed = visits_with Verdict.Removed vs;
  errors = visits_with Verdict.Error vs;
  unsupported = unsupported_by g vs;
}

-- BY A JOURNAL

-- the entries with a verdict's number
abbrev pub entries_with : ℕ → List JournalEntry → ℕ
entries_with verdict journal = total (λ e. cond (eqb e.verdict verdict) 1 0) journal

-- 01: "0 missed, 1 matched, 2 removed, 3 error"
unfoldable pub report_with : List JournalEntry → UnsupportedAt → Report
report_with journal unsupported = record {
  missed = entries_with 0 journal;
  matched = entries_with 1 journal;
  removed = entries_with 2 journal;
  errors = entries_with 3 journal;
  unsupported = unsupported;
}

-- the first of all that the journal's closed units have
abbrev pub unsupported_in : Given → List JournalEntry → UnsupportedAt
unsupported_in g journal = first_or (gather (unit_unsupported g) (units_of g journal)) none_unsupported

abbrev pub report_of : Given → List JournalEntry → Report
report_of g journal = report_with journal (unsupported_in g journal)
