-- What the phase call is given and what it leaves, for the structs and the lists of numbers of the code.
use Rattle.std.specs.Prelude.{ℕ, ◌*◌, ◌≡◌}
use Rattle.reading.specs.Lists.{over}
use Rattle.reading.specs.Records.{LentLists, lists_of, data_words, journal_words}
use Rattle.reading.specs.Call.{Given, Call}
use Rattle.reading.specs.Call as reading
use Rattle.reading.specs.Refusals.{refusal_of}
use Rattle.reading.specs.Walk.{journal_of, data_of}
use Rattle.reading.specs.Report.{no_report}
use Rattle.reading.specs.Outcome.{Outcome, visits_of, outcome_of, at_free_end}
use Rattle.reading.specs.Demand3.{Demand3}
use Rattle.control.specs.ControlsStruct.{controls_of, Became}
use Rattle.apply.specs.AddedRanges.{adds_ranges}
use Rattle.transaction.specs.declared.types.Transaction.{Transaction}
use Rattle.transaction.specs.declared.types.Answer.{Answer}
use Rattle.transaction.specs.declared.types.Phase.{Phase}

-- the transaction that a struct holds
abbrev pub transaction_of : Transaction → reading.Transaction
transaction_of t = record {
  controls = controls_of t.controls;
  allowed = t.allowed;
  intervention = t.intervention;
  ids = t.ids;
  data-entries = t.entries;
}

-- the call on what is given, a transaction, and lists of numbers
abbrev pub call_of : Given → Transaction → LentLists → Call
call_of g t l = record { given = g; transaction = transaction_of t; lists = lists_of l }

-- the answer of a call without a visit
abbrev pub answer_without : ℕ → Answer
answer_without n = record { answer = n; error = 0; visits = 0; report = no_report }

-- what is found after the call
abbrev pub outcome_found : Phase → LentLists → Outcome
outcome_found r l = record {
  answer = r.answer.answer;
  error = r.answer.error;
  visits = r.answer.visits;
  report = r.answer.report;
  transaction = transaction_of r.transaction;
  lists = lists_of l;
}

-- THE PROMISE OF THE PHASE CALL. g is what it is given, t the transaction at entry and l the lists as lent; r and l' are what is
-- found.
pub record Ran (g : Given) (t : Transaction) (l : LentLists) (r : Phase) (l' : LentLists) : Type 0 where
  -- answer, error index, what is told besides, journal and its count, ids, data entries, controls, allow and intervention are those
  -- of 01, for refused calls too
  pub outcome : outcome_found r l' ≡ outcome_of (call_of g t l)
  -- the same of every single number of the two lists of records, also of one that is after the last whole record
  pub journal-numbers : l'.journal ≡ over l.journal (journal_words (journal_of (visits_of (call_of g t l))))
  pub data-numbers : l'.entries ≡ at_free_end (4 * t.entries) l.entries (data_words (data_of g (visits_of (call_of g t l))))
  -- and of the places of the controls' arrays that are not in use: those after the ranges are as found, or 0 where a closed unit added ranges
  pub controls : Became (adds_ranges g (visits_of (call_of g t l))) t.controls r.transaction.controls (outcome_of (call_of g t l)).transaction.controls
  -- 01: "transaction and lists are found exactly as lent"
  pub refused : (refusal_of (call_of g t l) ≡ 0 → ⊥) → r.transaction ≡ t
  -- demand 3, of the journal that is found
  pub demand3 : Demand3 (call_of g t l) (outcome_found r l')
