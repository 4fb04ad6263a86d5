-- Manual and Rust side by side: each pair of docs/DIFFERENCES.md at its smallest case, what either side gives there, and cases where
-- the two agree. One table.
use Rattle.std.specs.Prelude.{ℕ, ◌≡◌, refl, List, [], ◌∷◌, Bool, true, false, cond, ◌&&◌, length, eqb, Option, Some, None}
use Prim.Native.String.{String}
use Rattle.reading.specs.declared.Intervention.{Intervention}
use Rattle.reading.specs.declared.RuleEngineMode.{RuleEngineMode}
use Rattle.reading.specs.declared.Verdict.{Verdict}
use Rattle.reading.specs.declared.DisruptiveOutcome.{DisruptiveOutcome}
use Rattle.reading.specs.declared.FlowOutcome.{FlowOutcome}
use Rattle.reading.specs.Numbers.{flow_kind}
use Rattle.reading.specs.Text.{ascii, same, trim_start, before, trim_end, trim, fold, all_digits, value_from, digits, without_plus, number_of, index_of, on_first, split_on, one_id, ids_to, ids_from, id_part, any_bad, ranges_in}
use Rattle.reading.specs.Directive.{is_supported, ranges_of, range_count, directive_of}
use Rattle.reading.specs.Controls.{Controls, no_controls, is_removed}
use Rattle.reading.specs.Ranges.{add_range, add_ranges}
use Rattle.reading.specs.Actions.{Placed, actions_of, last_of, last_disruptive, last_flow, last_status, directive_in}
use Rattle.reading.specs.Markers.{marker_position}
use Rattle.reading.specs.Reading.{Reading, rust, manual, jumps, rust_adjacent, manual_adjacent, rust_breaks, manual_breaks, rust_status, manual_status}
use Rattle.reading.specs.Call.{Given, Transaction, rule_at, is_link, actions_at}
use Rattle.reading.specs.Units.{rule_controls, unit_disruptive, unit_intervention}
use Rattle.reading.specs.Walk.{after_chain, jump_from, after_flow, visit_by}
use Rattle.reading.specs.Manual.{manual_jumps, after_rule, manual_target, rust_target, manual_skip, rust_skip, manual_acts, rust_acts, manual_redirect_status, rust_redirect_status, manual_matched, rust_link, rust_closed, manual_flow, rust_flow, manual_enters, rust_enters, manual_stops, rust_stops, manual_removal, rust_removal, manual_names, rust_names, manual_takes_id, rust_takes_id, manual_takes_metadata, rust_takes_metadata, manual_takes_number, rust_takes_number}
use Rattle.reading.specs.Cases.Build.{deny, allow, chain, multi_match, redirect, skip_after, msg, skip, status, ctl, Act, Written, Named, rule, link, no_id, marker, call_with}

-- A ROW: the point, what the manual's side and the Rust's give, and what they should

pub record Difference : Type 0 where
  pub point : String
  pub manual-gives : ℕ
  pub manual-should : ℕ
  pub rust-gives : ℕ
  pub rust-should : ℕ

abbrev bit : Bool → ℕ
bit b = cond b 1 0

-- numbers, and tests
abbrev numbers : String → ℕ → ℕ → ℕ → ℕ → Difference
numbers point m m-should r r-should =
    record { point = point; manual-gives = m; manual-should = m-should; rust-gives = r; rust-should = r-should }

abbrev tests : String → Bool → Bool → Bool → Bool → Difference
tests point m m-should r r-should = numbers point (bit m) (bit m-should) (bit r) (bit r-should)

-- a case where the two agree
abbrev alike : String → ℕ → ℕ → ℕ → Difference
alike point m r should = numbers point m should r should

abbrev alike_tests : String → Bool → Bool → Bool → Difference
alike_tests point m r should = alike point (bit m) (bit r) (bit should)

pub all_as_stated : List Difference → Bool
all_as_stated [] = true
all_as_stated (d ∷ ds) = eqb d.manual-gives d.manual-should && eqb d.rust-gives d.rust-should && all_as_stated ds

-- THE CASES: what a call of some rules and markers is given, in phase 2 and mode On

abbrev under : Reading → List Written → List Named → Given
under reading ws ms = (call_with reading RuleEngineMode.On no_controls false ws ms).given

abbrev given : List Written → List Named → Given
given ws ms = under rust ws ms

-- without rules, in a phase
abbrev in_phase : ℕ → Given
in_phase phase = record {
  reading = rust;
  settings = record { phase = phase; mode = 0; default_status = 500 };
  rules = [];
  actions = [];
  markers = [];
  text = [];
  outcomes = [];
}

-- one rule, and its actions
abbrev one : List Act → Given
one acts = given (rule 10 acts ∷ []) []

abbrev acting : List Act → List Placed
acting acts = actions_at (one acts) 0

-- a transaction that is allowed, one that is stopped, and one that is neither
abbrev entered : Bool → Option Intervention → Transaction
entered allowed i = record { controls = no_controls; allowed = allowed; intervention = i; ids = 0; data-entries = 0 }

abbrev allowed : Transaction
allowed = entered true None

abbrev stopped : Transaction
stopped = entered false (Some (unit_intervention (one (deny ∷ [])) (0 ∷ [])))

abbrev untouched : Transaction
untouched = entered false None

-- Q13: how many links are held after the removed closing rule 42
abbrev held_after_removed : Reading → ℕ
held_after_removed reading =
    length (visit_by (under reading (link 41 [] ∷ rule 42 [] ∷ []) []) (record { next = 1; members = 0 ∷ []; controls = no_controls }) Verdict.Removed false).after.members

-- Q9
abbrev chain_ahead : Given
chain_ahead = given (rule 70 (skip 1 ∷ []) ∷ link 71 [] ∷ rule 72 [] ∷ rule 73 [] ∷ []) []

-- Q18, and whether 43 is then removed
abbrev link_removes : Given
link_removes = given (link 41 (ctl "ruleRemoveById" "43" ∷ []) ∷ rule 42 [] ∷ rule 43 [] ∷ []) []

abbrev removes43 : Controls → Bool
removes43 c = is_removed c.ranges (Some 43)

-- the next index after a rule at 1 with these actions that closes a chain
abbrev next_by : (List Placed → FlowOutcome) → List Act → ℕ
next_by flow acts = after_flow (one acts) 2 (flow (acting acts))

-- 30 skipAfter 32; 31; 32; a no-id rule; 33: where a name leads from the index after 30. 5 is the rule count, where the rest is passed.
abbrev leads : (Given → List ℕ → Option ℕ) → List Named → String → ℕ
leads target ms name =
    let g = given (rule 30 [] ∷ rule 31 [] ∷ rule 32 [] ∷ no_id [] ∷ rule 33 [] ∷ []) ms in
    jump_from g 1 (target g (ascii name))

-- 20 link; a rule without an id that has a msg
abbrev member : Given
member = given (link 20 [] ∷ no_id (msg "x" ∷ []) ∷ []) []

pub differences : List Difference
differences =
    -- skipAfter to a marker directly after the closing rule (Q7, C8): a marker at 1, the index after it
    tests "skipAfter adjacent" manual_adjacent true rust_adjacent false
    ∷ tests "skipAfter adjacent" (manual_jumps 1 1) true (jumps rust 1 1) false
    ∷ tests "skipAfter adjacent" (jumps manual 1 1) true (jumps rust 1 1) false
    ∷ alike_tests "skipAfter ahead" (manual_jumps 2 1) (jumps rust 2 1) true
    ∷ alike_tests "skipAfter back" (manual_jumps 0 1) (jumps rust 0 1) false
    -- status of deny (Q1, C15; Q2)
    ∷ numbers "deny, status 406" (manual_status (last_status (acting (deny ∷ status 406 ∷ [])))) 406 (rust_status (last_status (acting (deny ∷ status 406 ∷ [])))) 403
    ∷ numbers "deny, status 200" (manual_status (Some 200)) 200 (rust_status (Some 200)) 403
    ∷ alike "deny" (manual_status None) (rust_status None) 403
    -- a removed closing rule of an open chain (Q13, C10)
    ∷ tests "removed closing rule" manual_breaks true rust_breaks false
    ∷ numbers "removed closing rule" (held_after_removed manual) 0 (held_after_removed rust) 1
    -- skip over a chain (Q9, C16): from index 1 on
    ∷ numbers "skip 1 over a chain" (manual_skip chain_ahead 1 1) 3 (rust_skip 1 1) 2
    ∷ numbers "skip 2 over a chain and a rule" (manual_skip chain_ahead 1 2) 4 (rust_skip 1 2) 3
    ∷ alike "skip 1 over a rule" (manual_skip chain_ahead 3 1) (rust_skip 3 1) 4
    ∷ alike "skip 0" (manual_skip chain_ahead 1 0) (rust_skip 1 0) 1
    -- allow in DetectionOnly (Q22, C4)
    ∷ tests "allow, DetectionOnly" (manual_acts RuleEngineMode.DetectionOnly (unit_disruptive (one (allow ∷ [])) (0 ∷ []))) false (rust_acts RuleEngineMode.DetectionOnly (unit_disruptive (one (allow ∷ [])) (0 ∷ []))) true
    ∷ tests "allow, Off" (manual_acts RuleEngineMode.Off DisruptiveOutcome.Allow) false (rust_acts RuleEngineMode.Off DisruptiveOutcome.Allow) true
    ∷ alike_tests "allow, On" (manual_acts RuleEngineMode.On DisruptiveOutcome.Allow) (rust_acts RuleEngineMode.On DisruptiveOutcome.Allow) true
    ∷ alike_tests "deny, On" (manual_acts RuleEngineMode.On DisruptiveOutcome.Deny) (rust_acts RuleEngineMode.On DisruptiveOutcome.Deny) true
    ∷ alike_tests "deny, DetectionOnly" (manual_acts RuleEngineMode.DetectionOnly DisruptiveOutcome.Deny) (rust_acts RuleEngineMode.DetectionOnly DisruptiveOutcome.Deny) false
    ∷ alike_tests "pass, On" (manual_acts RuleEngineMode.On DisruptiveOutcome.Pass) (rust_acts RuleEngineMode.On DisruptiveOutcome.Pass) false
    -- status of redirect (Q5)
    ∷ numbers "redirect, status 301" (manual_redirect_status (last_status (acting (redirect "a" ∷ status 301 ∷ [])))) 301 (rust_redirect_status (last_status (acting (redirect "a" ∷ status 301 ∷ [])))) 302
    ∷ numbers "redirect, status 303" (manual_redirect_status (Some 303)) 303 (rust_redirect_status (Some 303)) 302
    ∷ numbers "redirect, status 307" (manual_redirect_status (Some 307)) 307 (rust_redirect_status (Some 307)) 302
    ∷ alike "redirect, status 302" (manual_redirect_status (Some 302)) (rust_redirect_status (Some 302)) 302
    ∷ alike "redirect, status 308" (manual_redirect_status (Some 308)) (rust_redirect_status (Some 308)) 302
    ∷ alike "redirect" (manual_redirect_status None) (rust_redirect_status None) 302
    -- ctl of a link (Q18): after 41, and where the chain closes
    ∷ tests "ctl of a link" (removes43 (manual_matched link_removes 0 no_controls)) true (removes43 (rust_link link_removes 0 no_controls)) false
    ∷ alike_tests "ctl of a closed chain" (removes43 (manual_matched link_removes 1 (manual_matched link_removes 0 no_controls))) (removes43 (rust_closed link_removes (0 ∷ 1 ∷ []) (rust_link link_removes 0 no_controls))) true
    ∷ alike_tests "no ctl" (removes43 (manual_matched link_removes 1 no_controls)) (removes43 (rust_closed link_removes (1 ∷ []) no_controls)) false
    -- multiMatch after skip (Q10), and chain after skip: the next index
    ∷ numbers "skip 1, multiMatch" (next_by manual_flow (skip 1 ∷ multi_match ∷ [])) 3 (next_by rust_flow (skip 1 ∷ multi_match ∷ [])) 2
    ∷ numbers "skip 1, chain" (next_by manual_flow (skip 1 ∷ chain ∷ [])) 3 (next_by rust_flow (skip 1 ∷ chain ∷ [])) 2
    ∷ numbers "skipAfter, chain" (flow_kind (manual_flow (acting (skip_after "A" ∷ chain ∷ [])))) 9 (flow_kind (rust_flow (acting (skip_after "A" ∷ chain ∷ [])))) 7
    ∷ alike "chain, skip 1" (next_by manual_flow (chain ∷ skip 1 ∷ [])) (next_by rust_flow (chain ∷ skip 1 ∷ [])) 3
    ∷ alike "skip 2, skip 1" (next_by manual_flow (skip 2 ∷ skip 1 ∷ [])) (next_by rust_flow (skip 2 ∷ skip 1 ∷ [])) 3
    ∷ alike "neither" (next_by manual_flow []) (next_by rust_flow []) 2
    -- phase 5 after a stop and after an allow
    ∷ tests "phase 5 after a stop" (manual_enters (in_phase 5) stopped) true (rust_enters stopped) false
    ∷ tests "phase 5 after an allow" (manual_enters (in_phase 5) allowed) true (rust_enters allowed) false
    ∷ alike_tests "phase 3 after a stop" (manual_enters (in_phase 3) stopped) (rust_enters stopped) false
    ∷ alike_tests "phase 3 after an allow" (manual_enters (in_phase 3) allowed) (rust_enters allowed) false
    ∷ alike_tests "phase 3" (manual_enters (in_phase 3) untouched) (rust_enters untouched) true
    -- stopping in phase 5
    ∷ tests "a stop in phase 5" (manual_stops (in_phase 5)) false (rust_stops (in_phase 5)) true
    ∷ alike_tests "a stop in phase 4" (manual_stops (in_phase 4)) (rust_stops (in_phase 4)) true
    -- comma lists in ruleRemoveById
    ∷ numbers "1,2" (range_count (manual_removal (ascii "1,2"))) 0 (range_count (rust_removal (ascii "1,2"))) 2
    ∷ alike "1" (range_count (manual_removal (ascii "1"))) (range_count (rust_removal (ascii "1"))) 1
    ∷ alike_tests "40-43" (is_removed (ranges_of (manual_removal (ascii "40-43"))) (Some 43)) (is_removed (ranges_of (rust_removal (ascii "40-43"))) (Some 43)) true
    ∷ alike_tests "43-40" (is_supported (manual_removal (ascii "43-40"))) (is_supported (rust_removal (ascii "43-40"))) false
    ∷ alike_tests "no id" (is_supported (manual_removal [])) (is_supported (rust_removal [])) false
    -- a rule id as the name of a skipAfter
    ∷ numbers "skipAfter 32" (leads manual_target [] "32") 3 (leads rust_target [] "32") 5
    ∷ alike "no rule and no marker" (leads manual_target [] "34") (leads rust_target [] "34") 5
    ∷ alike "no rule has the id 0" (leads manual_target [] "0") (leads rust_target [] "0") 5
    ∷ alike "a marker" (leads manual_target (marker "A" 2 ∷ []) "A") (leads rust_target (marker "A" 2 ∷ []) "A") 2
    ∷ alike "a marker and a rule" (leads manual_target (marker "32" 2 ∷ []) "32") (leads rust_target (marker "32" 2 ∷ []) "32") 2
    -- names of ctl directives
    ∷ tests "auditEngine" (manual_names (ascii "auditEngine")) true (rust_names (ascii "auditEngine")) false
    ∷ tests "auditLogParts" (manual_names (ascii "auditLogParts")) true (rust_names (ascii "auditLogParts")) false
    ∷ tests "ruleRemoveByTag" (manual_names (ascii "ruleRemoveByTag")) true (rust_names (ascii "ruleRemoveByTag")) false
    ∷ tests "ruleRemoveByMsg" (manual_names (ascii "ruleRemoveByMsg")) true (rust_names (ascii "ruleRemoveByMsg")) false
    ∷ tests "ruleRemoveTargetByTag" (manual_names (ascii "ruleRemoveTargetByTag")) true (rust_names (ascii "ruleRemoveTargetByTag")) false
    ∷ tests "ruleRemoveTargetByMsg" (manual_names (ascii "ruleRemoveTargetByMsg")) true (rust_names (ascii "ruleRemoveTargetByMsg")) false
    ∷ tests "forceRequestBodyVariable" (manual_names (ascii "forceRequestBodyVariable")) true (rust_names (ascii "forceRequestBodyVariable")) false
    ∷ alike_tests "ruleEngine" (manual_names (ascii "ruleEngine")) (rust_names (ascii " RULEENGINE")) true
    ∷ alike_tests "ruleRemoveById" (manual_names (ascii "ruleRemoveById")) (rust_names (ascii "ruleRemoveById")) true
    ∷ alike_tests "ruleRemoveTargetById" (manual_names (ascii "ruleRemoveTargetById")) (rust_names (ascii "ruleRemoveTargetById")) true
    ∷ alike_tests "requestBodyAccess" (manual_names (ascii "requestBodyAccess")) (rust_names (ascii "requestBodyAccess")) true
    ∷ alike_tests "requestBodyProcessor" (manual_names (ascii "requestBodyProcessor")) (rust_names (ascii "requestBodyProcessor")) true
    ∷ alike_tests "rule" (manual_names (ascii "rule")) (rust_names (ascii "rule")) false
    -- a rule without an id, alone and as a later member
    ∷ tests "a no-id rule" (manual_takes_id false (rule_at member 1)) false (rust_takes_id (rule_at member 1)) true
    ∷ alike_tests "a no-id member" (manual_takes_id (is_link member 0) (rule_at member 1)) (rust_takes_id (rule_at member 1)) true
    ∷ alike_tests "a rule with an id" (manual_takes_id false (rule_at member 0)) (rust_takes_id (rule_at member 0)) true
    -- metadata in a later member: its msg, its first kind and its last
    ∷ tests "msg of a member" (manual_takes_metadata (is_link member 0) 12) false (rust_takes_metadata (is_link member 0) 12) true
    ∷ tests "id of a member" (manual_takes_metadata true 11) false (rust_takes_metadata true 11) true
    ∷ tests "accuracy of a member" (manual_takes_metadata true 18) false (rust_takes_metadata true 18) true
    ∷ alike_tests "msg of a starter" (manual_takes_metadata false 12) (rust_takes_metadata false 12) true
    ∷ alike_tests "multiMatch of a member" (manual_takes_metadata true 10) (rust_takes_metadata true 10) true
    ∷ alike_tests "ctl of a member" (manual_takes_metadata true 19) (rust_takes_metadata true 19) true
    -- the numbers of severity, maturity and accuracy: the first that the manual does not take, and the last that it does
    ∷ tests "severity 8" (manual_takes_number 16 8) false (rust_takes_number 16 8) true
    ∷ tests "maturity 0" (manual_takes_number 17 0) false (rust_takes_number 17 0) true
    ∷ tests "maturity 10" (manual_takes_number 17 10) false (rust_takes_number 17 10) true
    ∷ tests "accuracy 0" (manual_takes_number 18 0) false (rust_takes_number 18 0) true
    ∷ tests "accuracy 255" (manual_takes_number 18 255) false (rust_takes_number 18 255) true
    ∷ alike_tests "severity 0" (manual_takes_number 16 0) (rust_takes_number 16 0) true
    ∷ alike_tests "severity 7" (manual_takes_number 16 7) (rust_takes_number 16 7) true
    ∷ alike_tests "severity 256" (manual_takes_number 16 256) (rust_takes_number 16 256) false
    ∷ alike_tests "maturity 1" (manual_takes_number 17 1) (rust_takes_number 17 1) true
    ∷ alike_tests "accuracy 9" (manual_takes_number 18 9) (rust_takes_number 18 9) true
    ∷ alike_tests "status 65535" (manual_takes_number 20 65535) (rust_takes_number 20 65535) true
    ∷ alike_tests "status 65536" (manual_takes_number 20 65536) (rust_takes_number 20 65536) false
    ∷ []

-- every row holds
pub difference-table : all_as_stated differences ≡ true
unfolding differences all_as_stated same trim_start before trim_end trim fold all_digits value_from digits without_plus number_of index_of on_first split_on one_id ids_to ids_from id_part any_bad ranges_in directive_of add_range add_ranges is_removed actions_of last_of last_disruptive last_flow directive_in marker_position rule_at is_link actions_at rule_controls unit_disruptive after_chain after_rule manual_skip
difference-table = refl
