-- What a rule's actions come to (`execute_actions`).
use Rattle.std.specs.Prelude.{ℕ, suc, Bool, cond, ◌&&◌, List, [], ◌∷◌, ◌++◌, take, drop, leb, eqb, Option, Some, None}
use Rattle.reading.specs.declared.Place.{Place}
use Rattle.reading.specs.declared.Action.{Action}
use Rattle.reading.specs.declared.DisruptiveOutcome.{DisruptiveOutcome}
use Rattle.reading.specs.declared.FlowOutcome.{FlowOutcome}
use Rattle.reading.specs.declared.RuleMetadata.{RuleMetadata}
use Rattle.reading.specs.declared.Rule.{Rule}
use Rattle.reading.specs.Lists.{keep}
use Rattle.reading.specs.Text.{part_of}
use Rattle.reading.specs.Directive.{Directive, directive_of}

-- an action with its position in the whole lent action list
pub record Placed : Type 0 where
  pub position : ℕ
  pub action : Action

abbrev pub placed_from : ℕ → List Action → List Placed
placed_from at [] = []
placed_from at (a ∷ rest) = record { position = at; action = a } ∷ placed_from (suc at) rest

-- 01: "first action and action count"
unfoldable pub actions_of : List Action → Rule → List Placed
actions_of actions r = placed_from r.first (take r.count (drop r.first actions))

abbrev pub kind_of : Placed → ℕ
kind_of p = p.action.kind

-- the last action whose kind passes the test, or the one found before; each takes the place of an earlier one
abbrev pub last_from : Option Placed → (ℕ → Bool) → List Placed → Option Placed
last_from found test [] = found
last_from found test (p ∷ ps) = last_from (cond (test (kind_of p)) (Some p) found) test ps

unfoldable pub last_of : (ℕ → Bool) → List Placed → Option Placed
last_of test ps = last_from None test ps

-- 01: "(deny, block, pass, allow, redirect, drop)": kinds 1 to 6
abbrev pub is_disruptive : ℕ → Bool
is_disruptive kind = leb 1 kind && leb kind 6

-- chain, skip, skipAfter, multiMatch: kinds 7 to 10
abbrev pub is_flow : ℕ → Bool
is_flow kind = leb 7 kind && leb kind 10

-- the outcome of a disruptive action: kinds 1 deny, 2 block, 3 pass, 4 allow, 5 redirect, 6 drop
abbrev pub disruptive_by : Option Placed → DisruptiveOutcome
disruptive_by None = DisruptiveOutcome.Nothing
disruptive_by (Some p) =
    cond (eqb (kind_of p) 1) DisruptiveOutcome.Deny
    (cond (eqb (kind_of p) 2) DisruptiveOutcome.Block
    (cond (eqb (kind_of p) 3) DisruptiveOutcome.Pass
    (cond (eqb (kind_of p) 4) DisruptiveOutcome.Allow
    (cond (eqb (kind_of p) 5) (DisruptiveOutcome.Redirect p.position) DisruptiveOutcome.Drop))))

-- 01: "The last disruptive action (deny, block, pass, allow, redirect, drop) wins"
unfoldable pub last_disruptive : List Placed → DisruptiveOutcome
last_disruptive ps = disruptive_by (last_of is_disruptive ps)

-- the outcome of a flow action: kinds 7 chain, 8 skip, 9 skipAfter, 10 multiMatch, which is none
abbrev pub flow_by : Option Placed → FlowOutcome
flow_by None = FlowOutcome.Continue
flow_by (Some p) =
    cond (eqb (kind_of p) 7) FlowOutcome.Chain
    (cond (eqb (kind_of p) 8) (FlowOutcome.Skip p.action.number)
    (cond (eqb (kind_of p) 9) (FlowOutcome.SkipAfter p.position) FlowOutcome.Continue))

-- 01: "and so does the last flow action: "skip:2,multiMatch" skips none"
unfoldable pub last_flow : List Placed → FlowOutcome
last_flow ps = flow_by (last_of is_flow ps)

-- THE SAME IN 01'S NUMBERS, said of the records: the enums have no part in it, so a promise that gives an enum's number and value
-- by these determines the enum's case (Numbers.disruptive_kind and the three below it).

-- 01: "1 deny, 2 block, 3 pass, 4 allow, 5 redirect, 6 drop"; 0 where there is none
abbrev pub kind_in : Option Placed → ℕ
kind_in None = 0
kind_in (Some p) = kind_of p

unfoldable pub last_disruptive_kind : List Placed → ℕ
last_disruptive_kind ps = kind_in (last_of is_disruptive ps)

-- a redirect's value is its position, where its text is found; the other kinds have none
abbrev pub redirect_in : Option Placed → ℕ
redirect_in None = 0
redirect_in (Some p) = cond (eqb (kind_of p) 5) p.position 0

unfoldable pub last_disruptive_value : List Placed → ℕ
last_disruptive_value ps = redirect_in (last_of is_disruptive ps)

-- 01: "7 chain, 8 skip .., 9 skipAfter, 10 multiMatch"; the last of these is read as none, 0
abbrev pub flow_kind_in : Option Placed → ℕ
flow_kind_in None = 0
flow_kind_in (Some p) = cond (eqb (kind_of p) 10) 0 (kind_of p)

unfoldable pub last_flow_kind : List Placed → ℕ
last_flow_kind ps = flow_kind_in (last_of is_flow ps)

-- a skip's value is its number, a skipAfter's its position
abbrev pub flow_value_in : Option Placed → ℕ
flow_value_in None = 0
flow_value_in (Some p) = cond (eqb (kind_of p) 8) p.action.number (cond (eqb (kind_of p) 9) p.position 0)

unfoldable pub last_flow_value : List Placed → ℕ
last_flow_value ps = flow_value_in (last_of is_flow ps)

-- the number, or the place, of the last action of one kind
abbrev pub number_in : Option Placed → Option ℕ
number_in None = None
number_in (Some p) = Some p.action.number

abbrev pub place_in : ℕ → Option Placed → Option Place
place_in phase None = None
place_in phase (Some p) = Some (record { phase = phase; position = p.position })

abbrev pub last_number : ℕ → List Placed → Option ℕ
last_number kind ps = number_in (last_of (eqb kind) ps)

abbrev pub last_place : ℕ → ℕ → List Placed → Option Place
last_place phase kind ps = place_in phase (last_of (eqb kind) ps)

-- 01: "Metadata keeps the last of each kind": 11 id, 12 msg, 13 logdata, 14 rev, 15 ver, 16 severity, 17 maturity, 18 accuracy
unfoldable pub metadata_of : ℕ → List Placed → RuleMetadata
metadata_of phase ps = record {
  id = last_number 11 ps;
  msg = last_place phase 12 ps;
  logdata = last_place phase 13 ps;
  rev = last_place phase 14 ps;
  ver = last_place phase 15 ps;
  severity = last_number 16 ps;
  maturity = last_number 17 ps;
  accuracy = last_number 18 ps;
}

-- 20 status. 01: "a status action does nothing"; only the manual's reading asks for it.
abbrev pub last_status : List Placed → Option ℕ
last_status ps = last_number 20 ps

-- 19 ctl: a rule's control actions in their order
abbrev pub controls_in : List Placed → List Placed
controls_in [] = []
controls_in (p ∷ ps) = keep (eqb (kind_of p) 19) (p ∷ []) ++ controls_in ps

-- 01: "19 ctl (directive, value)"
unfoldable pub directive_in : List ℕ → Placed → Directive
directive_in text p = directive_of (part_of text p.action.text) (part_of text p.action.value)
