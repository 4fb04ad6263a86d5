-- What the phase call promises a host, that lends its transaction as a record of numbers and its markers as records.
use Rattle.std.specs.Prelude.{ℕ, ◌*◌, ◌/◌, ◌≡◌, true, false, cond, List, eqb, ltb, take}
use Rattle.reading.specs.Records.{LentLists}
use Rattle.reading.specs.Call.{Given, Call}
use Rattle.reading.specs.Controls.{bad_controls}
use Rattle.reading.specs.Refusals.{refused1, refused2, refused3, refused4}
use Rattle.control.specs.ControlsStruct.{controls_of}
use Rattle.refusals.specs.declared.first.Sizes.{Sizes}
use Rattle.abi.specs.declared.marker_words.MarkerWords.{MarkerWords}
use Rattle.transaction.specs.declared.types.Answer.{Answer}
use Rattle.transaction.specs.declared.types.Phase.{Phase}
use Rattle.transaction.specs.RunPhase.{call_of, answer_without, Ran}
use Rattle.abi.specs.declared.host_phase.HostTransaction.{HostTransaction}
use Rattle.abi.specs.HostRecord.{known, from_host, to_host}

-- how many numbers of unpacked markers are read: those of the first 257
abbrev pub lent_words : ℕ → ℕ
lent_words count = cond (ltb 257 count) 771 (3 * count)

-- those numbers
abbrev pub lent_part : MarkerWords → List ℕ
lent_part markers = take (lent_words markers.count) markers.words

-- the answer and the transaction that are found after the call
abbrev pub phase_found : Answer → HostTransaction → Phase
phase_found a h = record { answer = a; transaction = from_host h }

-- A record with a number that is not known is refused with 5, for it holds "an unknown kind, flag or outcome"; "the first that
-- applies is the answer", so refusals 1 to 4 go before.
unfoldable pub unknown_answer : Call → ℕ
unknown_answer q =
    cond (refused1 q) 1
    (cond (refused2 q) 2
    (cond (refused3 q) 3
    (cond (refused4 q) 4 5)))

-- 01: "transaction and lists are found exactly as lent"
pub record Refused (h : HostTransaction) (q : Call) (l : LentLists) (a : Answer) (h' : HostTransaction) (l' : LentLists) : Type 0 where
  pub answer : a ≡ answer_without (unknown_answer q)
  pub transaction : h' ≡ h
  pub lists : l' ≡ l

-- THE PROMISE TO A HOST. g is what the call is given, h the record and l the lists as lent; a, h' and l' are what is found.
pub record HostRan (h : HostTransaction) (g : Given) (l : LentLists) (a : Answer) (h' : HostTransaction) (l' : LentLists) : Type 0 where
  -- every number is known: the phase call's own promise, of the transaction that the record stands for
  pub ran : known h ≡ true → Ran g (from_host h) l (phase_found a h') l'
  -- and of each number of the record: a call without a visit, refused or idle, leaves it as lent, any other writes it anew
  pub record_is : known h ≡ true → h' ≡ cond (eqb a.visits 0) h (to_host (from_host h'))
  -- a number is not known
  pub refused : known h ≡ false → Refused h (call_of g (from_host h) l) l a h' l'

-- what the record counts, and how many entries lists of so many numbers have: four to a data entry
abbrev pub sizes_of : HostTransaction → ℕ → ℕ → Sizes
sizes_of h ids entries = record {
  bad_controls = bad_controls (controls_of (from_host h).controls);
  ids_used = h.ids;
  entries_used = h.entries;
  ids = ids;
  entries = entries / 4;
}
