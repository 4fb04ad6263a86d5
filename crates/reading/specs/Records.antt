-- Lists of records that are lent as one flat list of numbers, so many to a record.
use Rattle.std.specs.Prelude.{ℕ, zero, suc, ◌+◌, ◌*◌, ◌/◌, List, [], ◌∷◌, ◌++◌, length, get_or, eqb}
use Rattle.reading.specs.declared.CallSettings.{CallSettings}
use Rattle.reading.specs.declared.Rule.{Rule}
use Rattle.reading.specs.declared.Action.{Action}
use Rattle.reading.specs.declared.Marker.{Marker}
use Rattle.reading.specs.declared.DataEntry.{DataEntry}
use Rattle.reading.specs.declared.JournalEntry.{JournalEntry}
use Rattle.reading.specs.Lists.{keep}
use Rattle.reading.specs.Reading.{rust}
use Rattle.reading.specs.Call.{Given, Lists}

module _ {A : Type 0} where
  -- the values of a function at 0, 1, 2 and on, so many
  abbrev pub values : (ℕ → A) → ℕ → List A
  values f zero = []
  values f (suc n) = f zero ∷ values (λ i. f (suc i)) n

  -- one record for each whole group of `width` numbers; what is left after the last group is no record
  abbrev pub record_list : ℕ → (List ℕ → ℕ → A) → List ℕ → List A
  record_list width record_at words = values (record_at words) (length words / width)

-- the action at an index, six numbers: kind, number, start and length of the text, start and length of the value
abbrev pub action_at : List ℕ → ℕ → Action
action_at words i = record {
  kind = get_or words (6 * i) 0;
  number = get_or words (6 * i + 1) 0;
  text = record { start = get_or words (6 * i + 2) 0; len = get_or words (6 * i + 3) 0 };
  value = record { start = get_or words (6 * i + 4) 0; len = get_or words (6 * i + 5) 0 };
}

-- the actions that a lent list of numbers stands for
unfoldable pub action_list : List ℕ → List Action
action_list words = record_list 6 action_at words

-- a rule, five numbers: whether it has an id, the id, the link flag, first action and action count
abbrev pub rule_from : List ℕ → ℕ → Rule
rule_from words i = record {
  present = get_or words (5 * i) 0;
  id = get_or words (5 * i + 1) 0;
  link = get_or words (5 * i + 2) 0;
  first = get_or words (5 * i + 3) 0;
  count = get_or words (5 * i + 4) 0;
}

unfoldable pub rule_list : List ℕ → List Rule
rule_list words = record_list 5 rule_from words

-- a marker, three numbers: start and length of its name, and its position
abbrev pub marker_from : List ℕ → ℕ → Marker
marker_from words i = record {
  name = record { start = get_or words (3 * i) 0; len = get_or words (3 * i + 1) 0 };
  position = get_or words (3 * i + 2) 0;
}

unfoldable pub marker_list : List ℕ → List Marker
marker_list words = record_list 3 marker_from words

-- a data entry, four numbers: whether it has an id, the id, the phase and the rule index
abbrev pub data_from : List ℕ → ℕ → DataEntry
data_from words i = record {
  present = get_or words (4 * i) 0;
  id = get_or words (4 * i + 1) 0;
  phase = get_or words (4 * i + 2) 0;
  index = get_or words (4 * i + 3) 0;
}

unfoldable pub data_list : List ℕ → List DataEntry
data_list words = record_list 4 data_from words

-- a journal entry, two numbers: the rule index and the verdict
abbrev pub journal_from : List ℕ → ℕ → JournalEntry
journal_from words i = record { index = get_or words (2 * i) 0; verdict = get_or words (2 * i + 1) 0 }

unfoldable pub journal_list : List ℕ → List JournalEntry
journal_list words = record_list 2 journal_from words

-- the numbers of entries that are written
abbrev pub data_words : List DataEntry → List ℕ
data_words [] = []
data_words (e ∷ es) = e.present ∷ e.id ∷ e.phase ∷ e.index ∷ data_words es

abbrev pub journal_words : List JournalEntry → List ℕ
journal_words [] = []
journal_words (e ∷ es) = e.index ∷ e.verdict ∷ journal_words es

-- the matched rules among journal entries, by their indexes. 01: "1 matched"
abbrev pub matched_in : List JournalEntry → List ℕ
matched_in [] = []
matched_in (e ∷ es) = keep (eqb e.verdict 1) (e.index ∷ []) ++ matched_in es

-- A CALL IN NUMBERS

-- what a call is given, in the Rust's reading: its settings, rules and actions as numbers, markers, text and outcomes
abbrev pub given_of : CallSettings → List ℕ → List ℕ → List Marker → List ℕ → List ℕ → Given
given_of settings rules actions markers text outcomes = record {
  reading = rust;
  settings = settings;
  rules = rule_list rules;
  actions = action_list actions;
  markers = markers;
  text = text;
  outcomes = outcomes;
}

-- the lists that are written, as numbers
pub record LentLists : Type 0 where
  pub ids : List ℕ
  pub entries : List ℕ
  pub journal : List ℕ

abbrev pub lent : List ℕ → List ℕ → List ℕ → LentLists
lent ids entries journal = record { ids = ids; entries = entries; journal = journal }

abbrev pub lists_of : LentLists → Lists
lists_of l = record { ids = l.ids; data-entries = data_list l.entries; journal = journal_list l.journal }
