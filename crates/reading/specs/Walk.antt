-- Demand 2's walk: the visits of a phase, from what the call was given and the transaction at entry alone.
use Rattle.std.specs.Prelude.{ℕ, zero, suc, ◌+◌, Bool, true, false, not, cond, ◌&&◌, ◌||◌, List, [], ◌∷◌, ◌++◌, drop, get_or, ltb, eqb, Option, Some, None}
use Rattle.reading.specs.declared.Verdict.{Verdict}
use Rattle.reading.specs.declared.Rule.{Rule}
use Rattle.reading.specs.declared.Action.{Action}
use Rattle.reading.specs.declared.RuleIdRange.{RuleIdRange}
use Rattle.reading.specs.declared.DisruptiveOutcome.{DisruptiveOutcome}
use Rattle.reading.specs.declared.FlowOutcome.{FlowOutcome}
use Rattle.reading.specs.declared.Intervention.{Intervention}
use Rattle.reading.specs.declared.JournalEntry.{JournalEntry}
use Rattle.reading.specs.declared.DataEntry.{DataEntry}
use Rattle.reading.specs.Lists.{keep, gather}
use Rattle.reading.specs.Text.{part_of}
use Rattle.reading.specs.Numbers.{verdict_number}
use Rattle.reading.specs.Controls.{Controls, is_removed, is_on, is_off}
use Rattle.reading.specs.Markers.{marker_position}
use Rattle.reading.specs.Reading.{jumps}
use Rattle.reading.specs.Call.{Given, Transaction, rule_count, is_link, id_at, outcome_at, mode_under}
use Rattle.reading.specs.Units.{unit_ids, unit_data, unit_controls, unit_ranges, unit_flow, unit_disruptive, unit_intervention, is_allow, is_stopping}

-- 01: "it keeps the next index, the open chain's members and the controls so far". No members: no chain is open.
pub record State : Type 0 where
  pub next : ℕ
  pub members : List ℕ
  pub controls : Controls

-- how a visit leaves the phase. 01: "A visit that gives allow or an intervention, or meets outcome 3 at a rule not removed, is the last."
pub data Ending : Type 0 where
  goes_on allows errs : Ending
  stops : Intervention → Ending

abbrev pub is_last : Ending → Bool
is_last goes_on = false
is_last allows = true
is_last errs = true
is_last (stops i) = true

-- one visit: the rule's index, what it is found to be, the unit that it closes, none or one, what the walk keeps after
-- it, and whether it is the last
pub record Visit : Type 0 where
  pub index : ℕ
  pub verdict : Verdict
  pub closed : List (List ℕ)
  pub after : State
  pub ending : Ending

-- "Outcome per rule: 0 missed, 1 matched without a variable, 2 matched with one, 3 rule error."
abbrev pub verdict_by : ℕ → Verdict
verdict_by outcome = cond (eqb outcome 0) Verdict.Missed (cond (eqb outcome 3) Verdict.Error Verdict.Matched)

-- a removed rule's outcome is not looked at
unfoldable pub verdict_at : Given → Controls → ℕ → Verdict
verdict_at g c i = cond (is_removed c.ranges (id_at g i)) Verdict.Removed (verdict_by (outcome_at g i))

-- how many rules there are from here through the first that is not a link
abbrev pub chain_rest : List Rule → ℕ
chain_rest [] = 0
chain_rest (r ∷ rs) = cond (eqb r.link 1) (suc (chain_rest rs)) 1

-- 01: "passes everything through the chain's closing rule": the index after it, or after the last rule
unfoldable pub after_chain : Given → ℕ → ℕ
after_chain g i = i + chain_rest (drop i g.rules)

-- 01: "skipAfter goes to the marker only if its position is greater than the index after the closing rule [the reading
-- says which]; otherwise the phase's rest is passed."
abbrev pub jump_from : Given → ℕ → Option ℕ → ℕ
jump_from g after None = rule_count g
jump_from g after (Some position) = cond (jumps g.reading position after) position (rule_count g)

-- what stands where there is no action: no position of a rule's action is such
abbrev pub no_action : Action
no_action = record { kind = 0; number = 0; text = record { start = 0; len = 0 }; value = record { start = 0; len = 0 } }

-- the marker name of the skipAfter action at a position
abbrev pub marker_name : Given → ℕ → List ℕ
marker_name g position = part_of g.text (get_or g.actions position no_action).text

-- the next index after a closing rule, given the index after it. 01: "Skip n passes n indexes; links count singly.", and
-- "A chain action that is the last flow action has no effect at closing."
abbrev pub after_flow : Given → ℕ → FlowOutcome → ℕ
after_flow g after FlowOutcome.Continue = after
after_flow g after FlowOutcome.Chain = after
after_flow g after (FlowOutcome.Skip n) = after + n
after_flow g after (FlowOutcome.SkipAfter position) = jump_from g after (marker_position g.text g.markers (marker_name g position))

-- 01: "Allow takes effect in any mode; the four stopping actions only in On, tested after the unit's own controls."
abbrev pub ending_by : Given → List ℕ → Controls → DisruptiveOutcome → Ending
ending_by g unit c d =
    cond (is_allow d) allows
    (cond (is_stopping d && is_on (mode_under g c)) (stops (unit_intervention g unit)) goes_on)

-- a unit closes, with the controls c after it
abbrev pub closing : Given → State → List ℕ → Controls → Visit
closing g st unit c = record {
  index = st.next;
  verdict = Verdict.Matched;
  closed = unit ∷ [];
  after = record { next = after_flow g (suc st.next) (unit_flow g unit); members = []; controls = c };
  ending = ending_by g unit c (unit_disruptive g unit);
}

-- a visit that closes no unit
abbrev pub passing : ℕ → Verdict → ℕ → List ℕ → Controls → Ending → Visit
passing i verdict next members c ending = record {
  index = i;
  verdict = verdict;
  closed = [];
  after = record { next = next; members = members; controls = c };
  ending = ending;
}

-- the visit of a rule, by what it is found to be and by whether it is a link
abbrev pub visit_by : Given → State → Verdict → Bool → Visit
-- "A missed rule, where it is a link or a chain is open, breaks the chain and likewise passes its rest." A rule that is
-- no link has no rest but itself.
visit_by g st Verdict.Missed link = passing st.next Verdict.Missed (after_chain g st.next) [] st.controls goes_on
-- "A matched link holds its controls and waits."
visit_by g st Verdict.Matched true =
    passing st.next Verdict.Matched (suc st.next) (st.members ++ (st.next ∷ [])) st.controls goes_on
-- "A matched rule that is not a link closes the unit: its id is listed, controls apply, then flow, then the disruptive action."
visit_by g st Verdict.Matched false =
    closing g st (st.members ++ (st.next ∷ [])) (unit_controls g (st.members ++ (st.next ∷ [])) st.controls)
-- "A removed link breaks the open chain and passes everything through the chain's closing rule."
visit_by g st Verdict.Removed true = passing st.next Verdict.Removed (after_chain g st.next) [] st.controls goes_on
-- "A removed rule that is not a link is passed alone: an open chain stays open [in the Rust's reading], and the next rule
-- visited belongs to it."
visit_by g st Verdict.Removed false =
    passing st.next Verdict.Removed (suc st.next) (keep (not g.reading.breaks) st.members) st.controls goes_on
-- "Answer 10 ..: a visited rule that was not removed had outcome 3"
visit_by g st Verdict.Error link = passing st.next Verdict.Error (suc st.next) st.members st.controls errs

unfoldable pub visit_at : Given → State → Visit
visit_at g st = visit_by g st (verdict_at g st.controls st.next) (is_link g st.next)

-- whether there is a visit. 01: "Off is tested before each visit and ends the phase."
abbrev pub is_visited : Given → State → Bool
is_visited g st = ltb st.next (rule_count g) && not (is_off (mode_under g st.controls))

-- the visits from a state on, at most so many
unfoldable pub walk : ℕ → Given → State → List Visit
walk zero g st = []
walk (suc k) g st =
    let v = visit_at g st in
    let rest = walk k g v.after in
    keep (is_visited g st) (v ∷ keep (not (is_last v.ending)) rest)

abbrev pub is_stopped : Option Intervention → Bool
is_stopped None = false
is_stopped (Some i) = true

-- 01: "Nothing is done if already allowed or stopped, if the mode is Off, or if there are no rules."
abbrev pub nothing_to_do : Given → Transaction → Bool
nothing_to_do g t =
    t.allowed
    || is_stopped t.intervention
    || is_off (mode_under g t.controls)
    || eqb (rule_count g) 0

-- 01: "Otherwise, from index 0"
abbrev pub start : Transaction → State
start t = record { next = 0; members = []; controls = t.controls }

-- each visit goes on to a greater index, so there are at most as many as rules (`walk-complete` in crates/theorems)
unfoldable pub walk_of : Given → Transaction → List Visit
walk_of g t = keep (not (nothing_to_do g t)) (walk (rule_count g) g (start t))

-- WHAT THE VISITS COME TO

abbrev pub entry_of : Visit → JournalEntry
entry_of v = record { index = v.index; verdict = verdict_number v.verdict }

-- "One entry a visit": rule index and verdict
abbrev pub journal_of : List Visit → List JournalEntry
journal_of [] = []
journal_of (v ∷ vs) = entry_of v ∷ journal_of vs

abbrev pub closed_in : List Visit → List (List ℕ)
closed_in [] = []
closed_in (v ∷ vs) = v.closed ++ closed_in vs

abbrev pub ids_of : Given → List Visit → List ℕ
ids_of g vs = gather (unit_ids g) (closed_in vs)

abbrev pub data_of : Given → List Visit → List DataEntry
data_of g vs = gather (unit_data g) (closed_in vs)

-- the controls after visits that began with c
abbrev pub controls_after : Controls → List Visit → Controls
controls_after c [] = c
controls_after c (v ∷ vs) = controls_after v.after.controls vs

-- the ranges that the closed units add, as they are written
abbrev pub ranges_by : Given → List Visit → List RuleIdRange
ranges_by g vs = gather (unit_ranges g) (closed_in vs)

abbrev pub gives_allow : Ending → Bool
gives_allow goes_on = false
gives_allow allows = true
gives_allow errs = false
gives_allow (stops i) = false

abbrev pub allowed_by : List Visit → Bool
allowed_by [] = false
allowed_by (v ∷ vs) = gives_allow v.ending || allowed_by vs

-- the intervention that an ending gives, else the other
abbrev pub intervention_or : Ending → Option Intervention → Option Intervention
intervention_or goes_on other = other
intervention_or allows other = other
intervention_or errs other = other
intervention_or (stops i) other = Some i

abbrev pub intervention_by : List Visit → Option Intervention
intervention_by [] = None
intervention_by (v ∷ vs) = intervention_or v.ending (intervention_by vs)

abbrev pub is_error : Ending → Bool
is_error goes_on = false
is_error allows = false
is_error errs = true
is_error (stops i) = false

-- 01: "Answer 10 is no refusal: a visited rule that was not removed had outcome 3; its index is given". With answer 0 the
-- index is 0 (docs/DECISIONS.md, D51).
abbrev pub answer_by : List Visit → ℕ
answer_by [] = 0
answer_by (v ∷ vs) = cond (is_error v.ending) 10 (answer_by vs)

abbrev pub error_index_by : List Visit → ℕ
error_index_by [] = 0
error_index_by (v ∷ vs) = cond (is_error v.ending) v.index (error_index_by vs)
