-- The whole outcome of a phase call, refused or not, from the call alone.
use Rattle.std.specs.Prelude.{ℕ, ◌+◌, cond, ◌||◌, List, ◌++◌, length, take, drop, Option, Some, None}
use Rattle.reading.specs.declared.Intervention.{Intervention}
use Rattle.reading.specs.declared.Report.{Report}
use Rattle.reading.specs.Lists.{keep, over}
use Rattle.reading.specs.Call.{Given, Call, Transaction, Lists}
use Rattle.reading.specs.Refusals.{refusal_of, is_accepted}
use Rattle.reading.specs.Walk.{Visit, walk_of, journal_of, ids_of, data_of, controls_after, allowed_by, intervention_by, answer_by, error_index_by}
use Rattle.reading.specs.Report.{report_by}

-- the visits of a call: a refused one has none, so that whatever follows from them is as found
unfoldable pub visits_of : Call → List Visit
visits_of q = keep (is_accepted q) (walk_of q.given q.transaction)

-- a list whose first `used` entries stay, with new entries at its free end. 01: "Ids and data entries are written at the
-- free end of the lent list. Entries not written stay as found"
abbrev pub at_free_end : {A : Type 0} → ℕ → List A → List A → List A
at_free_end used found new = take used found ++ over (drop used found) new

abbrev pub if_none : Option Intervention → Option Intervention → Option Intervention
if_none None held = held
if_none (Some i) held = Some i

pub record Outcome : Type 0 where
  -- 0, 10, or the number of a refusal, and the index of the rule that had the error
  pub answer : ℕ
  pub error : ℕ
  -- how many entries the journal holds, and what is told besides
  pub visits : ℕ
  pub report : Report
  pub transaction : Transaction
  pub lists : Lists

-- the transaction after visits
abbrev pub transaction_after : Given → Transaction → List Visit → Transaction
transaction_after g t vs = record {
  controls = controls_after t.controls vs;
  allowed = t.allowed || allowed_by vs;
  intervention = if_none (intervention_by vs) t.intervention;
  ids = t.ids + length (ids_of g vs);
  data-entries = t.data-entries + length (data_of g vs);
}

-- the lists after visits
abbrev pub lists_after : Given → Transaction → Lists → List Visit → Lists
lists_after g t lent vs = record {
  ids = at_free_end t.ids lent.ids (ids_of g vs);
  data-entries = at_free_end t.data-entries lent.data-entries (data_of g vs);
  journal = over lent.journal (journal_of vs);
}

unfoldable pub outcome_of : Call → Outcome
outcome_of q =
    let vs = visits_of q in
    record {
      answer = cond (is_accepted q) (answer_by vs) (refusal_of q);
      error = error_index_by vs;
      visits = length vs;
      report = report_by q.given vs;
      transaction = transaction_after q.given q.transaction vs;
      lists = lists_after q.given q.transaction q.lists vs;
    }
