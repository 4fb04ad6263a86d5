-- Demand 3 as one claim about the whole journal that is found after a call, for a call and what was found after it.
use Rattle.std.specs.Prelude.{ℕ, suc, ◌+◌, ◌≤◌, ◌<◌, ◌≡◌, List, [], ◌∷◌, ◌⊎◌, true, false, length, take}
use Rattle.reading.specs.declared.JournalEntry.{JournalEntry}
use Rattle.reading.specs.declared.Intervention.{Intervention}
use Rattle.reading.specs.Controls.{is_on}
use Rattle.reading.specs.Call.{Given, Call, Transaction, rule_count, mode_under}
use Rattle.reading.specs.Units.{unit_disruptive, unit_intervention, is_stopping}
use Rattle.reading.specs.Walk.{walk_of, journal_of, is_stopped}
use Rattle.reading.specs.Replay.{last_closed, replayed_ids, replayed_data, replayed_controls, replayed_allow, replayed_intervention}
use Rattle.reading.specs.Report.{report_of}
use Rattle.reading.specs.Outcome.{Outcome, at_free_end}

-- entries whose indexes are at least `from`, below `n`, and each greater than the one before it
abbrev pub Rises : ℕ → ℕ → List JournalEntry → Type 0
Rises n from [] = Unit {0}
Rises n from (e ∷ es) = (from ≤ e.index) × (e.index < n) × Rises n (suc e.index) es

-- the journal found: as many entries as were answered, from the start of its list
abbrev pub found_journal : Outcome → List JournalEntry
found_journal o = take o.visits o.lists.journal

pub record Accounted (q : Call) (o : Outcome) : Type 0 where
  -- "its journal holds exactly the visits of demand 2's walk, each as rule index and verdict, in order"
  pub visits : o.visits ≡ length (walk_of q.given q.transaction)
  pub journal : found_journal o ≡ journal_of (walk_of q.given q.transaction)
  -- what is told besides is told by that journal; of it the first unsupported directive by the journal's closed units alone. 02: "What is
  -- found after a phase now includes this pair."
  pub report : o.report ≡ report_of q.given (found_journal o)
  -- "the indexes strictly rising"
  pub rising : Rises (rule_count q.given) 0 (found_journal o)
  -- "Ids, data, controls and allow are then those at entry plus what 01's closed units of that whole journal give, in order."
  pub ids : o.lists.ids ≡ at_free_end q.transaction.ids q.lists.ids (replayed_ids q.given (found_journal o))
  pub ids-used : o.transaction.ids ≡ q.transaction.ids + length (replayed_ids q.given (found_journal o))
  pub data-entries : o.lists.data-entries ≡ at_free_end q.transaction.data-entries q.lists.data-entries (replayed_data q.given (found_journal o))
  pub data-used : o.transaction.data-entries ≡ q.transaction.data-entries + length (replayed_data q.given (found_journal o))
  pub controls : o.transaction.controls ≡ replayed_controls q.given q.transaction (found_journal o)
  pub allow : o.transaction.allowed ≡ replayed_allow q.given (found_journal o)
  -- "An intervention is then found exactly when the last visit closed a unit .."
  pub intervention : o.transaction.intervention ≡ replayed_intervention q.given q.transaction (found_journal o)

-- "if it answered 0 or 10 and was entered with no allow and no intervention"
abbrev pub Demand3 : Call → Outcome → Type 0
Demand3 q o =
    (o.answer ≡ 0) ⊎ (o.answer ≡ 10) → q.transaction.allowed ≡ false → is_stopped q.transaction.intervention ≡ false → Accounted q o

-- a journal whose last entry closes a unit that stops the request with the intervention i: its starter's last disruptive
-- action is deny, block, redirect or drop, and the mode after its controls is On
pub record StoppedBy (g : Given) (t : Transaction) (journal : List JournalEntry) (i : Intervention) : Type 0 where
  pub unit : List ℕ
  pub closed-last : last_closed g journal ≡ unit ∷ []
  pub stopping : is_stopping (unit_disruptive g unit) ≡ true
  pub mode-on : is_on (mode_under g (replayed_controls g t journal)) ≡ true
  pub built : i ≡ unit_intervention g unit
