-- Demand 3: what a journal's closed units give, from its entries, what the call was given and the transaction at entry alone. The walk is not mentioned.
use Rattle.std.specs.Prelude.{ℕ, Bool, not, cond, ◌&&◌, List, [], ◌∷◌, ◌++◌, eqb, Option, Some, None}
use Rattle.reading.specs.declared.Intervention.{Intervention}
use Rattle.reading.specs.declared.JournalEntry.{JournalEntry}
use Rattle.reading.specs.declared.DataEntry.{DataEntry}
use Rattle.reading.specs.Lists.{keep, any, gather}
use Rattle.reading.specs.Controls.{Controls, is_on}
use Rattle.reading.specs.Call.{Given, Transaction, is_link, mode_under}
use Rattle.reading.specs.Units.{unit_ids, unit_data, unit_controls, unit_disruptive, unit_intervention, is_allow, is_stopping}

-- the matched links since the last break, after one more entry. 01: "Breaks: a missed entry, a removed link, a closed
-- unit."; a removed rule that is not a link by the reading
abbrev pub held_after : Given → List ℕ → JournalEntry → List ℕ
held_after g held e =
    cond (eqb e.verdict 0) []
    (cond (eqb e.verdict 1) (keep (is_link g e.index) (held ++ (e.index ∷ [])))
    (cond (eqb e.verdict 2) (keep (not (is_link g e.index) && not g.reading.breaks) held) held))

-- the unit that an entry closes, none or one. 01: "the matched links since the last break, then a matched rule that is not a link"
abbrev pub closed_by : Given → List ℕ → JournalEntry → List (List ℕ)
closed_by g held e = keep (eqb e.verdict 1 && not (is_link g e.index)) ((held ++ (e.index ∷ [])) ∷ [])

-- the units that entries close, where the matched links since the last break are `held`
abbrev pub units_from : Given → List ℕ → List JournalEntry → List (List ℕ)
units_from g held [] = []
units_from g held (e ∷ es) = closed_by g held e ++ units_from g (held_after g held e) es

-- the closed units of a whole journal, in order
unfoldable pub units_of : Given → List JournalEntry → List (List ℕ)
units_of g journal = units_from g [] journal

-- the unit that the last of the entries closes, none or one
abbrev pub last_closed_from : Given → List ℕ → List JournalEntry → List (List ℕ)
last_closed_from g held [] = []
last_closed_from g held (e ∷ []) = closed_by g held e
last_closed_from g held (e ∷ f ∷ es) = last_closed_from g (held_after g held e) (f ∷ es)

unfoldable pub last_closed : Given → List JournalEntry → List (List ℕ)
last_closed g journal = last_closed_from g [] journal

-- the controls after units, one after the other
abbrev pub units_controls : Given → List (List ℕ) → Controls → Controls
units_controls g [] c = c
units_controls g (u ∷ us) c = units_controls g us (unit_controls g u c)

abbrev pub unit_allows : Given → List ℕ → Bool
unit_allows g unit = is_allow (unit_disruptive g unit)

-- the intervention of a unit, with the controls after it
abbrev pub unit_stop : Given → List ℕ → Controls → Option Intervention
unit_stop g unit c =
    cond (is_stopping (unit_disruptive g unit) && is_on (mode_under g c)) (Some (unit_intervention g unit)) None

abbrev pub stop_of : Given → List (List ℕ) → Controls → Option Intervention
stop_of g [] c = None
stop_of g (u ∷ us) c = unit_stop g u c

-- WHAT A JOURNAL GIVES

abbrev pub replayed_ids : Given → List JournalEntry → List ℕ
replayed_ids g journal = gather (unit_ids g) (units_of g journal)

abbrev pub replayed_data : Given → List JournalEntry → List DataEntry
replayed_data g journal = gather (unit_data g) (units_of g journal)

abbrev pub replayed_controls : Given → Transaction → List JournalEntry → Controls
replayed_controls g t journal = units_controls g (units_of g journal) t.controls

abbrev pub replayed_allow : Given → List JournalEntry → Bool
replayed_allow g journal = any (unit_allows g) (units_of g journal)

-- "exactly when the last visit closed a unit whose starter's last disruptive action is deny, block, redirect or drop, with
-- mode On after that unit's controls; it is then the one 01 builds from that unit". The last visit's unit is the last
-- unit, so the controls after it are those after all units (`last-closed-is-last` in crates/theorems).
abbrev pub replayed_intervention : Given → Transaction → List JournalEntry → Option Intervention
replayed_intervention g t journal = stop_of g (last_closed g journal) (replayed_controls g t journal)
