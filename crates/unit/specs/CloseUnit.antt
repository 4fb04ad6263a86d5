-- What closing a unit answers and writes.
use Rattle.std.specs.Prelude.{ℕ, ◌+◌, ◌*◌, ◌/◌, min, ◌≡◌, List, [], ◌∷◌, ltb, eqb, length, take, get_or, Option}
use Rattle.std.proofs.lemmas.List.Edits.{sets}
use Rattle.reading.specs.declared.Rule.{Rule}
use Rattle.reading.specs.declared.DataEntry.{DataEntry}
use Rattle.reading.specs.Lists.{keep, over}
use Rattle.reading.specs.Records.{data_words}
use Rattle.reading.specs.Numbers.{present_number, number_or_zero}
use Rattle.reading.specs.Call.{Given, rule_count, no_rule, record_id}
use Rattle.reading.specs.Units.{own_or, unit_ids, unit_data, unit_flow, unit_disruptive}
use Rattle.reading.specs.Walk.{after_flow}
use Rattle.unit.specs.declared.close.UnitOutcome.{UnitOutcome}

-- a data entry of an id or none
abbrev pub entry_with : Option ℕ → ℕ → ℕ → DataEntry
entry_with id phase m = record { present = present_number id; id = number_or_zero id; phase = phase; index = m }

-- new entries, where a list of numbers has a place for an entry at w
abbrev pub fitting : List ℕ → ℕ → List DataEntry → List DataEntry
fitting words w new = keep (ltb w (length words / 4)) new

-- at most one entry written at w, and the next place
pub record Put (new : List DataEntry) (w : ℕ) (before : List ℕ) (next : ℕ) (after : List ℕ) : Type 0 where
  pub next-is : next ≡ w + length (fitting before w new)
  pub words : after ≡ sets before (4 * w) (data_words (fitting before w new))

-- the data entries of members, given the starter's id or none
abbrev pub member_entry : ℕ → Option ℕ → List Rule → List ℕ → ℕ → List DataEntry
member_entry phase starter rules outcomes m =
    keep (eqb (get_or outcomes m 0) 2) (entry_with (own_or (record_id (get_or rules m no_rule)) starter) phase m ∷ [])

-- so many data entries written from the start of a list, as many as fit
pub record Listed (all : List DataEntry) (before : List ℕ) (count : ℕ) (after : List ℕ) : Type 0 where
  pub count-is : count ≡ length (take (length before / 4) all)
  pub words : after ≡ over before (data_words (take (length before / 4) all))

-- Of a closed unit; `past` is the index after its closing rule. Ids and data entries are written from the start of the lent
-- parts, as many as fit; an accepted call has room for all.
pub record Wrote (g : Given) (unit : List ℕ) (past : ℕ) (ids entries : List ℕ) (r : UnitOutcome) (ids' entries' : List ℕ) : Type 0 where
  pub id-count : r.ids ≡ length (take (length ids) (unit_ids g unit))
  pub ids-are : ids' ≡ over ids (take (length ids) (unit_ids g unit))
  pub entry-count : r.entries ≡ length (take (length entries / 4) (unit_data g unit))
  pub entries-are : entries' ≡ over entries (data_words (take (length entries / 4) (unit_data g unit)))
  pub next-is : r.next ≡ min (after_flow g past (unit_flow g unit)) (rule_count g)
  pub disruptive-is : r.disruptive ≡ unit_disruptive g unit
