-- A phase call: what it is given, the transaction at entry, and the lists that are written. Walk, units and replay are functions of
-- the first two.
use Rattle.std.specs.Prelude.{ℕ, Bool, cond, List, length, get_or, eqb, Option, Some, None}
use Rattle.reading.specs.declared.Intervention.{Intervention}
use Rattle.reading.specs.declared.RuleEngineMode.{RuleEngineMode}
use Rattle.reading.specs.declared.CallSettings.{CallSettings}
use Rattle.reading.specs.declared.Rule.{Rule}
use Rattle.reading.specs.declared.Action.{Action}
use Rattle.reading.specs.declared.Marker.{Marker}
use Rattle.reading.specs.declared.DataEntry.{DataEntry}
use Rattle.reading.specs.declared.JournalEntry.{JournalEntry}
use Rattle.reading.specs.Numbers.{mode_of_number}
use Rattle.reading.specs.Controls.{Controls, mode_or}
use Rattle.reading.specs.Actions.{Placed, actions_of}
use Rattle.reading.specs.Reading.{Reading}

-- what a call is given, and the program never writes
pub record Given : Type 0 where
  pub reading : Reading
  -- the phase's number, the number of the rule set's mode, and the caller's default status
  pub settings : CallSettings
  -- the records, the text that they point into, and the outcomes
  pub rules : List Rule
  pub actions : List Action
  pub markers : List Marker
  pub text : List ℕ
  pub outcomes : List ℕ

-- 01: "A transaction holds the controls, the allowed flag, an intervention or none, and how many matched ids and data
-- entries are in use"
pub record Transaction : Type 0 where
  pub controls : Controls
  pub allowed : Bool
  pub intervention : Option Intervention
  pub ids : ℕ
  pub data-entries : ℕ

-- the lists that are lent to be written: matched ids, matched data, and the journal
pub record Lists : Type 0 where
  pub ids : List ℕ
  pub data-entries : List DataEntry
  pub journal : List JournalEntry

pub record Call : Type 0 where
  pub given : Given
  pub transaction : Transaction
  pub lists : Lists

abbrev pub rule_count : Given → ℕ
rule_count g = length g.rules

-- what stands where there is no rule: no index of a walk is such
abbrev pub no_rule : Rule
no_rule = record { present = 0; id = 0; link = 0; first = 0; count = 0 }

unfoldable pub rule_at : Given → ℕ → Rule
rule_at g i = get_or g.rules i no_rule

-- 01: "link flag, 0 or 1 (`is_chain`)"
unfoldable pub is_link : Given → ℕ → Bool
is_link g i = eqb (rule_at g i).link 1

-- 01: "id (64 bits) or none"
abbrev pub record_id : Rule → Option ℕ
record_id r = cond (eqb r.present 1) (Some r.id) None

unfoldable pub id_at : Given → ℕ → Option ℕ
id_at g i = record_id (rule_at g i)

unfoldable pub outcome_at : Given → ℕ → ℕ
outcome_at g i = get_or g.outcomes i 0

unfoldable pub actions_at : Given → ℕ → List Placed
actions_at g i = actions_of g.actions (rule_at g i)

-- the mode in force under given controls
abbrev pub mode_under : Given → Controls → RuleEngineMode
mode_under g c = mode_or (mode_of_number g.settings.mode) c.mode
