-- What a closed unit gives, from its members and the call. A unit is the list of its members' indexes, in order.
-- 01: "A unit is the matched links since the last break, then a matched rule that is not a link; its first member is the starter."
use Rattle.std.specs.Prelude.{ℕ, Bool, true, false, cond, List, [], ◌∷◌, ◌++◌, eqb, Option, Some, None}
use Rattle.reading.specs.declared.Place.{Place}
use Rattle.reading.specs.declared.RuleIdRange.{RuleIdRange}
use Rattle.reading.specs.declared.DataEntry.{DataEntry}
use Rattle.reading.specs.declared.DisruptiveOutcome.{DisruptiveOutcome}
use Rattle.reading.specs.declared.FlowOutcome.{FlowOutcome}
use Rattle.reading.specs.declared.Intervention.{Intervention}
use Rattle.reading.specs.Lists.{gather, keep}
use Rattle.reading.specs.Numbers.{list_of, present_number, number_or_zero}
use Rattle.reading.specs.Directive.{ranges_of}
use Rattle.reading.specs.Controls.{Controls, applied}
use Rattle.reading.specs.Actions.{Placed, controls_in, directive_in, last_disruptive, last_flow, metadata_of, last_status}
use Rattle.reading.specs.Call.{Given, id_at, outcome_at, actions_at}

-- the first member; no unit is without one, and 0 stands where there is none
abbrev pub starter_of : List ℕ → ℕ
starter_of [] = 0
starter_of (m ∷ ms) = m

-- the last member, which closed the unit; 0 likewise
abbrev pub closer_of : List ℕ → ℕ
closer_of [] = 0
closer_of (m ∷ []) = m
closer_of (m ∷ n ∷ ms) = closer_of (n ∷ ms)

-- 01: "A closed unit gives the starter's id if any"
abbrev pub unit_ids : Given → List ℕ → List ℕ
unit_ids g unit = list_of (id_at g (starter_of unit))

-- 01: "own id, else the starter's, else none"
abbrev pub own_or : Option ℕ → Option ℕ → Option ℕ
own_or None starter = starter
own_or (Some own) starter = Some own

-- 01: "Data entry: id or none, phase, rule index"
abbrev pub data_entry : Given → ℕ → ℕ → DataEntry
data_entry g starter m =
    let id = own_or (id_at g m) (id_at g starter) in
    record { present = present_number id; id = number_or_zero id; phase = g.settings.phase; index = m }

-- "one data entry for each member with outcome 2"
abbrev pub member_data : Given → ℕ → ℕ → List DataEntry
member_data g starter m = keep (eqb (outcome_at g m) 2) (data_entry g starter m ∷ [])

abbrev pub unit_data : Given → List ℕ → List DataEntry
unit_data g unit = gather (member_data g (starter_of unit)) unit

-- the controls after control actions, in their order
abbrev pub action_controls : Given → List Placed → Controls → Controls
action_controls g [] c = c
action_controls g (p ∷ ps) c =
    action_controls g ps (applied c (record { phase = g.settings.phase; position = p.position }) (directive_in g.text p))

unfoldable pub rule_controls : Given → ℕ → Controls → Controls
rule_controls g m c = action_controls g (controls_in (actions_at g m)) c

-- "all members' controls in order"
abbrev pub unit_controls : Given → List ℕ → Controls → Controls
unit_controls g [] c = c
unit_controls g (m ∷ ms) c = unit_controls g ms (rule_controls g m c)

-- the ranges that a unit's directives add, as they are written, in order: 02, "the plain list of all ranges accepted"
unfoldable pub member_ranges : Given → ℕ → List RuleIdRange
member_ranges g m = gather (λ p. ranges_of (directive_in g.text p)) (controls_in (actions_at g m))

abbrev pub unit_ranges : Given → List ℕ → List RuleIdRange
unit_ranges g unit = gather (member_ranges g) unit

-- 01: "Flow, disruptive action and metadata are the starter's."
unfoldable pub unit_flow : Given → List ℕ → FlowOutcome
unit_flow g unit = last_flow (actions_at g (starter_of unit))

unfoldable pub unit_disruptive : Given → List ℕ → DisruptiveOutcome
unit_disruptive g unit = last_disruptive (actions_at g (starter_of unit))

-- "and allow if that is the starter's last disruptive action"
abbrev pub is_allow : DisruptiveOutcome → Bool
is_allow DisruptiveOutcome.Nothing = false
is_allow DisruptiveOutcome.Deny = false
is_allow DisruptiveOutcome.Block = false
is_allow DisruptiveOutcome.Pass = false
is_allow DisruptiveOutcome.Allow = true
is_allow (DisruptiveOutcome.Redirect at) = false
is_allow DisruptiveOutcome.Drop = false

-- 01: "the four stopping actions": deny, block, redirect, drop
abbrev pub is_stopping : DisruptiveOutcome → Bool
is_stopping DisruptiveOutcome.Nothing = false
is_stopping DisruptiveOutcome.Deny = true
is_stopping DisruptiveOutcome.Block = true
is_stopping DisruptiveOutcome.Pass = false
is_stopping DisruptiveOutcome.Allow = false
is_stopping (DisruptiveOutcome.Redirect at) = true
is_stopping DisruptiveOutcome.Drop = true

-- THE INTERVENTION that 01 builds from a unit

-- 01: "Redirect has status 302, drop 444 with the connection dropped, block the caller's default status"; deny by the reading.
-- 0 stands for what does not stop; it is never asked there
abbrev pub stop_status : Given → List Placed → DisruptiveOutcome → ℕ
stop_status g ps DisruptiveOutcome.Nothing = 0
stop_status g ps DisruptiveOutcome.Deny = g.reading.status (last_status ps)
stop_status g ps DisruptiveOutcome.Block = g.settings.default_status
stop_status g ps DisruptiveOutcome.Pass = 0
stop_status g ps DisruptiveOutcome.Allow = 0
stop_status g ps (DisruptiveOutcome.Redirect at) = 302
stop_status g ps DisruptiveOutcome.Drop = 444

abbrev pub drops : DisruptiveOutcome → Bool
drops DisruptiveOutcome.Nothing = false
drops DisruptiveOutcome.Deny = false
drops DisruptiveOutcome.Block = false
drops DisruptiveOutcome.Pass = false
drops DisruptiveOutcome.Allow = false
drops (DisruptiveOutcome.Redirect at) = false
drops DisruptiveOutcome.Drop = true

-- 01: "Addresses .. are likewise kept as phase and action position."
abbrev pub address_of : ℕ → DisruptiveOutcome → Option Place
address_of phase DisruptiveOutcome.Nothing = None
address_of phase DisruptiveOutcome.Deny = None
address_of phase DisruptiveOutcome.Block = None
address_of phase DisruptiveOutcome.Pass = None
address_of phase DisruptiveOutcome.Allow = None
address_of phase (DisruptiveOutcome.Redirect at) = Some (record { phase = phase; position = at })
address_of phase DisruptiveOutcome.Drop = None

-- "then the starter's metadata id, if any and different"
abbrev pub if_different : Option ℕ → Option ℕ → Option ℕ
if_different None id = id
if_different (Some n) None = None
if_different (Some n) (Some id) = cond (eqb n id) None (Some id)

-- 01: "The id list holds the closing rule's id, if any, then the starter's metadata id, if any and different. The log is
-- the starter's msg; the starter's metadata and the phase are held too."
unfoldable pub unit_intervention : Given → List ℕ → Intervention
unit_intervention g unit =
    let ps = actions_at g (starter_of unit) in
    let d = last_disruptive ps in
    let metadata = metadata_of g.settings.phase ps in
    record {
      status = stop_status g ps d;
      url = address_of g.settings.phase d;
      log = metadata.msg;
      closing = id_at g (closer_of unit);
      starter = if_different (id_at g (closer_of unit)) metadata.id;
      phase = g.settings.phase;
      drop = drops d;
      metadata = metadata;
    }

-- an intervention's id list
abbrev pub intervention_ids : Intervention → List ℕ
intervention_ids i = list_of i.closing ++ list_of i.starter
