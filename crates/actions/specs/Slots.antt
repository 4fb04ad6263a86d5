-- How the last action of each sort is kept: a list of marks, one to a slot. Only private functions cite this.
use Rattle.std.specs.Prelude.{ℕ, zero, suc, cond, List, get_or, leb, eqb, Option, Some, None}
use Rattle.reading.specs.declared.Place.{Place}
use Rattle.reading.specs.declared.Action.{Action}
use Rattle.reading.specs.declared.RuleMetadata.{RuleMetadata}
use Rattle.reading.specs.Actions.{Placed, number_in}
use Rattle.reading.specs.Walk.{no_action}

-- 1 for the disruptive kinds 1 to 6, 7 for the flow kinds 7 to 10, its own for each metadata kind 11 to 18, else 0
unfoldable pub slot_of : ℕ → ℕ
slot_of kind =
    cond (eqb kind 0) 0
    (cond (leb kind 6) 1
    (cond (leb kind 10) 7
    (cond (leb kind 18) kind 0)))

-- the action at a position
abbrev pub placed_at : List Action → ℕ → Placed
placed_at actions position = record { position = position; action = get_or actions position no_action }

-- the action that a mark stands for: 0 is none, else the mark is one more than the position
abbrev pub marked : List Action → ℕ → Option Placed
marked actions zero = None
marked actions (suc position) = Some (placed_at actions position)

-- the place that a mark stands for
abbrev pub marked_place : ℕ → ℕ → Option Place
marked_place phase zero = None
marked_place phase (suc position) = Some (record { phase = phase; position = position })

-- the metadata that a list of marks stands for
abbrev pub marked_metadata : List Action → ℕ → List ℕ → RuleMetadata
marked_metadata actions phase last = record {
  id = number_in (marked actions (get_or last 11 0));
  msg = marked_place phase (get_or last 12 0);
  logdata = marked_place phase (get_or last 13 0);
  rev = marked_place phase (get_or last 14 0);
  ver = marked_place phase (get_or last 15 0);
  severity = number_in (marked actions (get_or last 16 0));
  maturity = number_in (marked actions (get_or last 17 0));
  accuracy = number_in (marked actions (get_or last 18 0));
}
