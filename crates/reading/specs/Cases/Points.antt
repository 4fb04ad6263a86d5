-- The open points of docs/DECISIONS.md at their smallest telling inputs, as one table. Rows are named after the decision.
use Rattle.std.specs.Prelude.{ℕ, ◌≡◌, refl, List, [], ◌∷◌, ◌++◌, map, true, false, take, replicate, Some, None}
use Prim.Native.String.{String}
use Rattle.reading.specs.declared.RuleEngineMode.{RuleEngineMode}
use Rattle.reading.specs.declared.BodyAccess.{BodyAccess}
use Rattle.reading.specs.declared.BodyProcessor.{BodyProcessor}
use Rattle.reading.specs.declared.CallSettings.{CallSettings}
use Rattle.reading.specs.declared.Rule.{Rule}
use Rattle.reading.specs.declared.Action.{Action}
use Rattle.reading.specs.declared.Marker.{Marker}
use Rattle.reading.specs.Lists.{gather}
use Rattle.reading.specs.Text.{largest, same, trim_start, before, trim_end, trim, fold, all_digits, value_from, digits, without_plus, number_of, index_of, on_first, split_on, one_id, ids_to, ids_from, id_part, any_bad, ranges_in}
use Rattle.reading.specs.Directive.{directive_of}
use Rattle.reading.specs.Controls.{Controls, no_controls, is_removed, bad_controls}
use Rattle.reading.specs.Ranges.{add_range, add_ranges}
use Rattle.reading.specs.Actions.{actions_of, last_of, last_disruptive, last_flow, metadata_of, directive_in}
use Rattle.reading.specs.Markers.{marker_position}
use Rattle.reading.specs.Reading.{rust}
use Rattle.reading.specs.Call.{Given, Call, rule_at, is_link, id_at, outcome_at, actions_at}
use Rattle.reading.specs.Refusals.{refused1, refused2, refused3, refused4, refused5, refused6, refused7, refused8, refused9, rule_total, refusal_of}
use Rattle.reading.specs.Units.{rule_controls, unit_flow, unit_disruptive, unit_intervention}
use Rattle.reading.specs.Walk.{verdict_at, after_chain, visit_at, walk, walk_of}
use Rattle.reading.specs.Replay.{units_of, last_closed}
use Rattle.reading.specs.Report.{report_with, member_unsupported}
use Rattle.reading.specs.Outcome.{visits_of, outcome_of}
use Rattle.reading.specs.Cases.Build.{apart, deny, block, pass, allow, drop, chain, multi_match, redirect, skip_after, msg, skip, id, status, ctl, Written, Row, none, stopped, stopped_with, Told, row_of, row, removal, settling, switching, targeting, failing, refused, leaving, rule, link, no_id, no_id_link, with_outcome, missed, in_error, marker, range, holding, call_with, call_in, call, call_holding, call_manual, with_journal, with_data, with_ids, with_room, nothing, matched, miss, removed, error, entry, no_id_entry, lent_data, same_ids, same_visits, same_data, same_stop, same_report, holds, all_hold}

-- WHAT IS HELD AT ENTRY

abbrev in_mode : RuleEngineMode → Controls
in_mode m = record { mode = Some m; ranges = []; targets = []; access = None; processor = None }

-- A CALL WITH OTHER RECORDS OR LISTS

abbrev with_given : Given → Call → Call
with_given g q = record { given = g; transaction = q.transaction; lists = q.lists }

-- other numbers, records and texts
abbrev with_settings : CallSettings → Call → Call
with_settings settings q = with_given (record {
  reading = q.given.reading;
  settings = settings;
  rules = q.given.rules;
  actions = q.given.actions;
  markers = q.given.markers;
  text = q.given.text;
  outcomes = q.given.outcomes;
}) q

abbrev with_records : List Rule → List Action → List Marker → List ℕ → List ℕ → Call → Call
with_records rules actions markers text outcomes q = with_given (record {
  reading = q.given.reading;
  settings = q.given.settings;
  rules = rules;
  actions = actions;
  markers = markers;
  text = text;
  outcomes = outcomes;
}) q

-- the same call with other outcomes, with one action more that no rule points to, and with other rules
abbrev with_outcomes : List ℕ → Call → Call
with_outcomes outcomes q = with_records q.given.rules q.given.actions q.given.markers q.given.text outcomes q

abbrev with_action : Action → Call → Call
with_action a q = with_records q.given.rules (q.given.actions ++ (a ∷ [])) q.given.markers q.given.text q.given.outcomes q

abbrev with_rules : List Rule → Call → Call
with_rules rules q = with_records rules q.given.actions q.given.markers q.given.text (map (λ r. 2) rules) q

abbrev with_text : List ℕ → Call → Call
with_text text q = with_records q.given.rules q.given.actions q.given.markers text q.given.outcomes q

abbrev with_marker : ℕ → ℕ → ℕ → Call → Call
with_marker start len position q =
    with_records q.given.rules q.given.actions
    (q.given.markers ++ (record { name = record { start = start; len = len }; position = position } ∷ [])) q.given.text q.given.outcomes q

-- in another phase, with a rule set of another mode
abbrev in_phase : ℕ → Call → Call
in_phase phase q = with_settings (record { phase = phase; mode = q.given.settings.mode; default_status = q.given.settings.default_status }) q

abbrev with_mode : ℕ → Call → Call
with_mode mode q = with_settings (record { phase = q.given.settings.phase; mode = mode; default_status = q.given.settings.default_status }) q

abbrev action : ℕ → ℕ → ℕ → ℕ → ℕ → ℕ → Action
action kind number start len start' len' =
    record { kind = kind; number = number; text = record { start = start; len = len }; value = record { start = start'; len = len' } }

-- a rule without an id whose actions are `count` from `first` on
abbrev sharing : ℕ → ℕ → Rule
sharing first count = record { present = 0; id = 0; link = 0; first = first; count = count }

-- so many times the same
abbrev times : {A : Type 0} → ℕ → A → List A
times n a = replicate n a

-- the call with its first action so many times over, all of them its first rule's, and then other actions; all point at the one text
abbrev repeating : ℕ → List Rule → List Action → Call → Call
repeating n rules others q =
    with_records (sharing 0 n ∷ rules) (gather (times n) (take 1 q.given.actions) ++ others) [] q.given.text q.given.outcomes q

abbrev target : Written
target = no_id (ctl "ruleRemoveTargetById" "1;A" ∷ [])

-- 0 stands for a supported directive
abbrev told : String → String → ℕ → Told
told directive value reason = record { directive = directive; value = value; reason = reason }

abbrev removes : String → ℕ → Told
removes value reason = told "ruleRemoveById" value reason

pub directives : List Told
directives =
    -- D1: six blanks are trimmed at both ends and nowhere else
    told "\t ruleEngine \r\n" " on\t" 0
    ∷ told "rule Engine" "On" 7
    ∷ told "" "On" 7
    ∷ told "\u{1f}ruleEngine" "On" 7
    ∷ told "RULEENGINE" "dETECTIONoNLY" 0
    ∷ told "ruleEngine" "Detection" 1
    ∷ told "requestBodyAccess" "off" 0
    ∷ told "requestBodyAccess" "DetectionOnly" 4
    ∷ told "requestBodyProcessor" "xml" 0
    ∷ told "requestBodyProcessor" "yaml" 5
    ∷ told "auditEngine" "On" 6
    ∷ told "auditLogParts" "+E" 6
    -- D2: both numbers of a range are trimmed
    ∷ removes "5 - 7" 0
    ∷ removes "+5-+7" 0
    ∷ removes "5-6-7" 2
    ∷ removes "-5" 2
    ∷ removes "5-" 2
    ∷ removes "+-5" 2
    ∷ removes "+ 5" 2
    -- D3: the value is limited, the count of digits is not
    ∷ removes "000000000000000000001" 0
    ∷ removes "18446744073709551615" 0
    ∷ removes "18446744073709551616" 2
    ∷ removes "184467440737095516150" 2
    -- D4: no part, and equal ends
    ∷ removes "" 2
    ∷ removes " , ," 2
    ∷ removes "5-5" 0
    ∷ removes "1,,2," 0
    -- D8: the text before the ";" need not be a number
    ∷ told "ruleRemoveTargetById" " x ;y" 0
    ∷ told "ruleRemoveTargetById" "1;" 3
    ∷ told "ruleRemoveTargetById" ";ARGS" 3
    ∷ told "ruleRemoveTargetById" "1 ARGS" 3
    ∷ told "ruleRemoveTargetById" "1;A;B" 0
    ∷ []

pub points : List Row
points =
    -- the directives above, with a call without rules
    removal "D1" (call [] []) nothing 0 [] [] directives
    -- a target counts, whatever its id text
    ∷ targeting "D8" (call (rule 10 (ctl "ruleRemoveTargetById" " x ;y" ∷ []) ∷ []) []) (record { visits = matched 0 ∷ []; ids = 10 ∷ []; data-entries = entry 10 0 ∷ []; allowed = false; stop = none }) 1
    -- a range that is held already changes nothing
    ∷ leaving (range 7 7 ∷ []) (row "D11" (call_holding (range 7 7 ∷ []) (rule 10 (ctl "ruleRemoveById" "7,7" ∷ ctl "ruleRemoveById" "7" ∷ []) ∷ [])) (record { visits = matched 0 ∷ []; ids = 10 ∷ []; data-entries = entry 10 0 ∷ []; allowed = false; stop = none }))
    -- a held range with start above end
    ∷ refused "D15" (call_holding (range 5 4 ∷ []) (rule 5 [] ∷ [])) 3
    -- the mode in force is the one the controls hold, if any
    ∷ row "D24a" (call_with rust RuleEngineMode.Off (in_mode RuleEngineMode.On) false (rule 10 [] ∷ []) []) (record { visits = matched 0 ∷ []; ids = 10 ∷ []; data-entries = entry 10 0 ∷ []; allowed = false; stop = none })
    ∷ row "D24b" (call_with rust RuleEngineMode.On (in_mode RuleEngineMode.Off) false (rule 10 [] ∷ []) []) nothing
    -- already allowed
    ∷ row "D24c" (call_with rust RuleEngineMode.On no_controls true (rule 10 (deny ∷ []) ∷ []) []) (record { visits = []; ids = []; data-entries = []; allowed = true; stop = none })
    -- mode Off
    ∷ row "D25" (call_in RuleEngineMode.Off (rule 10 (deny ∷ []) ∷ []) []) nothing
    -- a removed rule's outcome is not looked at
    ∷ removal "D26" (call_holding (range 10 10 ∷ []) (in_error (rule 10 []) ∷ [])) (record { visits = removed 0 ∷ []; ids = []; data-entries = []; allowed = false; stop = none }) 1 (10 ∷ []) [] []
    -- a missed link passes the rest of its chain
    ∷ row "D27" (call (missed (link 1 []) ∷ link 2 [] ∷ rule 3 [] ∷ rule 4 [] ∷ []) []) (record { visits = miss 0 ∷ matched 3 ∷ []; ids = 4 ∷ []; data-entries = entry 4 3 ∷ []; allowed = false; stop = none })
    -- the next rule visited belongs to the open chain
    ∷ removal "D28" (call_holding (range 2 2 ∷ []) (link 1 [] ∷ rule 2 [] ∷ missed (link 3 []) ∷ rule 4 [] ∷ rule 5 [] ∷ [])) (record { visits = matched 0 ∷ removed 1 ∷ miss 2 ∷ matched 4 ∷ []; ids = 5 ∷ []; data-entries = entry 5 4 ∷ []; allowed = false; stop = none }) 1 (2 ∷ []) [] []
    -- and may close it
    ∷ removal "D28b" (call_holding (range 2 2 ∷ []) (link 1 [] ∷ rule 2 [] ∷ link 3 [] ∷ rule 4 [] ∷ [])) (record { visits = matched 0 ∷ removed 1 ∷ matched 2 ∷ matched 3 ∷ []; ids = 1 ∷ []; data-entries = entry 1 0 ∷ entry 3 2 ∷ entry 4 3 ∷ []; allowed = false; stop = none }) 1 (2 ∷ []) [] []
    -- a removed link breaks it
    ∷ removal "D28c" (call_holding (range 2 2 ∷ []) (link 1 (deny ∷ []) ∷ link 2 [] ∷ rule 3 [] ∷ rule 4 [] ∷ [])) (record { visits = matched 0 ∷ removed 1 ∷ matched 3 ∷ []; ids = 4 ∷ []; data-entries = entry 4 3 ∷ []; allowed = false; stop = none }) 1 (2 ∷ []) [] []
    -- the listed id is the starter's
    ∷ row "D29" (call (no_id_link [] ∷ rule 21 [] ∷ []) []) (record { visits = matched 0 ∷ matched 1 ∷ []; ids = []; data-entries = no_id_entry 0 ∷ entry 21 1 ∷ []; allowed = false; stop = none })
    -- ids repeat
    ∷ row "D30" (call (rule 1 [] ∷ rule 1 [] ∷ []) []) (record { visits = matched 0 ∷ matched 1 ∷ []; ids = 1 ∷ 1 ∷ []; data-entries = entry 1 0 ∷ entry 1 1 ∷ []; allowed = false; stop = none })
    -- the rule's id and the id action's
    ∷ row "D31a" (call ((record { id = Some 10; link = 0; outcome = 2; acts = (id 11 ∷ deny ∷ []) }) ∷ []) []) (record { visits = matched 0 ∷ []; ids = 10 ∷ []; data-entries = entry 10 0 ∷ []; allowed = false; stop = stopped 403 (10 ∷ 11 ∷ []) })
    ∷ row "D31b" (call (no_id (id 11 ∷ deny ∷ []) ∷ []) []) (record { visits = matched 0 ∷ []; ids = []; data-entries = no_id_entry 0 ∷ []; allowed = false; stop = stopped 403 (11 ∷ []) })
    ∷ row "D31c" (call ((record { id = Some 20; link = 1; outcome = 2; acts = (deny ∷ []) }) ∷ no_id [] ∷ []) []) (record { visits = matched 0 ∷ matched 1 ∷ []; ids = 20 ∷ []; data-entries = entry 20 0 ∷ entry 20 1 ∷ []; allowed = false; stop = stopped 403 [] })
    -- the last id action counts
    ∷ row "D31d" (call ((record { id = Some 10; link = 0; outcome = 2; acts = (id 11 ∷ id 12 ∷ deny ∷ []) }) ∷ []) []) (record { visits = matched 0 ∷ []; ids = 10 ∷ []; data-entries = entry 10 0 ∷ []; allowed = false; stop = stopped 403 (10 ∷ 12 ∷ []) })
    -- a member without an id takes the starter's
    ∷ row "D32" (call (link 20 [] ∷ no_id [] ∷ []) []) (record { visits = matched 0 ∷ matched 1 ∷ []; ids = 20 ∷ []; data-entries = entry 20 0 ∷ entry 20 1 ∷ []; allowed = false; stop = none })
    -- outcome 1 gives no data entry
    ∷ row "D32b" (call (with_outcome 1 (link 20 []) ∷ rule 21 [] ∷ []) []) (record { visits = matched 0 ∷ matched 1 ∷ []; ids = 20 ∷ []; data-entries = entry 21 1 ∷ []; allowed = false; stop = none })
    -- a chain that breaks has written nothing
    ∷ row "D33" (call (link 20 [] ∷ missed (rule 21 []) ∷ []) []) (record { visits = matched 0 ∷ miss 1 ∷ []; ids = []; data-entries = []; allowed = false; stop = none })
    -- nor one that stays open
    ∷ row "D33b" (call (rule 19 [] ∷ link 20 (deny ∷ ctl "ruleEngine" "Off" ∷ []) ∷ []) []) (record { visits = matched 0 ∷ matched 1 ∷ []; ids = 19 ∷ []; data-entries = entry 19 0 ∷ []; allowed = false; stop = none })
    -- an action that two members share acts for each
    ∷ targeting "D34" (with_rules (record { present = 0; id = 0; link = 1; first = 0; count = 1 } ∷ sharing 0 1 ∷ []) (with_outcomes (2 ∷ 2 ∷ []) (call (no_id (ctl "ruleRemoveTargetById" "1;A" ∷ []) ∷ no_id [] ∷ []) []))) (record { visits = matched 0 ∷ matched 1 ∷ []; ids = []; data-entries = no_id_entry 0 ∷ no_id_entry 1 ∷ []; allowed = false; stop = none }) 2
    -- and its ranges are one
    ∷ leaving (range 7 9 ∷ []) (row "D34b" (with_rules (record { present = 0; id = 0; link = 1; first = 0; count = 1 } ∷ sharing 0 1 ∷ []) (with_outcomes (2 ∷ 2 ∷ []) (call (no_id (ctl "ruleRemoveById" "7-9" ∷ []) ∷ no_id [] ∷ []) []))) (record { visits = matched 0 ∷ matched 1 ∷ []; ids = []; data-entries = no_id_entry 0 ∷ no_id_entry 1 ∷ []; allowed = false; stop = none }))
    -- only the mode after all of a unit's controls counts
    ∷ switching RuleEngineMode.On
    (row "D35" (call_in RuleEngineMode.DetectionOnly (rule 10 (ctl "ruleEngine" "Off" ∷ ctl "ruleEngine" "On" ∷ deny ∷ []) ∷ []) []) (record { visits = matched 0 ∷ []; ids = 10 ∷ []; data-entries = entry 10 0 ∷ []; allowed = false; stop = stopped 403 (10 ∷ []) }))
    -- a mode that any member sets counts
    ∷ switching RuleEngineMode.DetectionOnly
    (row "D36a" (call (link 1 (deny ∷ []) ∷ rule 2 (ctl "ruleEngine" "DetectionOnly" ∷ []) ∷ []) []) (record { visits = matched 0 ∷ matched 1 ∷ []; ids = 1 ∷ []; data-entries = entry 1 0 ∷ entry 2 1 ∷ []; allowed = false; stop = none }))
    ∷ switching RuleEngineMode.On
    (row "D36b" (call_in RuleEngineMode.DetectionOnly (link 1 (deny ∷ []) ∷ rule 2 (ctl "ruleEngine" "On" ∷ []) ∷ []) []) (record { visits = matched 0 ∷ matched 1 ∷ []; ids = 1 ∷ []; data-entries = entry 1 0 ∷ entry 2 1 ∷ []; allowed = false; stop = stopped 403 (2 ∷ 1 ∷ []) }))
    -- a link's controls wait
    ∷ removal "D36c" (call (link 1 (ctl "ruleRemoveById" "2" ∷ []) ∷ rule 2 [] ∷ rule 2 [] ∷ []) []) (record { visits = matched 0 ∷ matched 1 ∷ removed 2 ∷ []; ids = 1 ∷ []; data-entries = entry 1 0 ∷ entry 2 1 ∷ []; allowed = false; stop = none }) 1 (2 ∷ []) (1 ∷ []) []
    -- allow takes effect in Off
    ∷ switching RuleEngineMode.Off
    (row "D37" (call (rule 10 (ctl "ruleEngine" "Off" ∷ allow ∷ []) ∷ rule 11 [] ∷ []) []) (record { visits = matched 0 ∷ []; ids = 10 ∷ []; data-entries = entry 10 0 ∷ []; allowed = true; stop = none }))
    -- a stop leaves flow without effect
    ∷ row "D38" (call (rule 10 (skip 1 ∷ deny ∷ []) ∷ rule 11 [] ∷ rule 12 [] ∷ []) []) (record { visits = matched 0 ∷ []; ids = 10 ∷ []; data-entries = entry 10 0 ∷ []; allowed = false; stop = stopped 403 (10 ∷ []) })
    -- pass is a disruptive action
    ∷ row "D39a" (call (rule 10 (deny ∷ pass ∷ []) ∷ []) []) (record { visits = matched 0 ∷ []; ids = 10 ∷ []; data-entries = entry 10 0 ∷ []; allowed = false; stop = none })
    ∷ row "D39b" (call (rule 10 (allow ∷ pass ∷ []) ∷ []) []) (record { visits = matched 0 ∷ []; ids = 10 ∷ []; data-entries = entry 10 0 ∷ []; allowed = false; stop = none })
    -- the address of a redirect
    ∷ row "D40a" (call (rule 10 (redirect "a" ∷ redirect "b" ∷ []) ∷ []) []) (record { visits = matched 0 ∷ []; ids = 10 ∷ []; data-entries = entry 10 0 ∷ []; allowed = false; stop = stopped_with 302 (10 ∷ []) (Some 2) None false })
    ∷ row "D40b" (call (rule 10 (redirect "a" ∷ deny ∷ []) ∷ []) []) (record { visits = matched 0 ∷ []; ids = 10 ∷ []; data-entries = entry 10 0 ∷ []; allowed = false; stop = stopped 403 (10 ∷ []) })
    ∷ row "D40c" (call (rule 10 (deny ∷ redirect "a" ∷ []) ∷ []) []) (record { visits = matched 0 ∷ []; ids = 10 ∷ []; data-entries = entry 10 0 ∷ []; allowed = false; stop = stopped_with 302 (10 ∷ []) (Some 2) None false })
    -- drop
    ∷ row "D40d" (call (rule 10 (drop ∷ []) ∷ []) []) (record { visits = matched 0 ∷ []; ids = 10 ∷ []; data-entries = entry 10 0 ∷ []; allowed = false; stop = stopped_with 444 (10 ∷ []) None None true })
    -- block has the caller's default status
    ∷ row "D41" (call (rule 10 (block ∷ status 406 ∷ []) ∷ []) []) (record { visits = matched 0 ∷ []; ids = 10 ∷ []; data-entries = entry 10 0 ∷ []; allowed = false; stop = stopped 500 (10 ∷ []) })
    -- a position counts in the whole action list
    ∷ row "D42" (call (rule 10 [] ∷ rule 11 (redirect "a" ∷ []) ∷ []) []) (record { visits = matched 0 ∷ matched 1 ∷ []; ids = 10 ∷ 11 ∷ []; data-entries = entry 10 0 ∷ entry 11 1 ∷ []; allowed = false; stop = stopped_with 302 (11 ∷ []) (Some 2) None false })
    -- the last body access and processor win
    ∷ settling (Some BodyAccess.Off) (Some BodyProcessor.Json) None
    (row "last-wins" (call (rule 10 (ctl "requestBodyAccess" "On" ∷ ctl "requestBodyProcessor" "XML" ∷ ctl "requestBodyAccess" "off" ∷ ctl "requestBodyProcessor" "json" ∷ []) ∷ []) [])
    (record { visits = matched 0 ∷ []; ids = 10 ∷ []; data-entries = entry 10 0 ∷ []; allowed = false; stop = none }))
    -- the log is the starter's msg
    ∷ row "D44a" (call (link 1 (deny ∷ []) ∷ rule 2 (msg "x" ∷ []) ∷ []) []) (record { visits = matched 0 ∷ matched 1 ∷ []; ids = 1 ∷ []; data-entries = entry 1 0 ∷ entry 2 1 ∷ []; allowed = false; stop = stopped 403 (2 ∷ 1 ∷ []) })
    ∷ row "D44b" (call (link 1 (msg "w" ∷ deny ∷ msg "x" ∷ []) ∷ rule 2 [] ∷ []) []) (record { visits = matched 0 ∷ matched 1 ∷ []; ids = 1 ∷ []; data-entries = entry 1 0 ∷ entry 2 1 ∷ []; allowed = false; stop = stopped_with 403 (2 ∷ 1 ∷ []) None (Some 3) false })
    -- the latest record of a name decides
    ∷ row "D45a" (call (rule 30 (skip_after "A" ∷ []) ∷ rule 31 [] ∷ rule 32 [] ∷ []) (marker "A" 2 ∷ marker "A" 0 ∷ [])) (record { visits = matched 0 ∷ []; ids = 30 ∷ []; data-entries = entry 30 0 ∷ []; allowed = false; stop = none })
    -- an empty name is a name
    ∷ row "D45b" (call (rule 30 (skip_after "" ∷ []) ∷ rule 31 [] ∷ rule 32 [] ∷ []) (marker "" 2 ∷ [])) (record { visits = matched 0 ∷ matched 2 ∷ []; ids = 30 ∷ 32 ∷ []; data-entries = entry 30 0 ∷ entry 32 2 ∷ []; allowed = false; stop = none })
    -- the latest, also where it is the first that can be used
    ∷ row "D45c" (call (rule 30 (skip_after "A" ∷ []) ∷ rule 31 [] ∷ rule 32 [] ∷ rule 33 [] ∷ []) (marker "A" 2 ∷ marker "B" 0 ∷ marker "A" 3 ∷ [])) (record { visits = matched 0 ∷ matched 3 ∷ []; ids = 30 ∷ 33 ∷ []; data-entries = entry 30 0 ∷ entry 33 3 ∷ []; allowed = false; stop = none })
    -- names are neither folded nor trimmed
    ∷ row "D46a" (call (rule 30 (skip_after "a" ∷ []) ∷ rule 31 [] ∷ rule 32 [] ∷ []) (marker "A" 2 ∷ [])) (record { visits = matched 0 ∷ []; ids = 30 ∷ []; data-entries = entry 30 0 ∷ []; allowed = false; stop = none })
    ∷ row "D46b" (call (rule 30 (skip_after " A" ∷ []) ∷ rule 31 [] ∷ rule 32 [] ∷ []) (marker "A" 2 ∷ [])) (record { visits = matched 0 ∷ []; ids = 30 ∷ []; data-entries = entry 30 0 ∷ []; allowed = false; stop = none })
    -- a marker at the rule count
    ∷ row "D47" (call (rule 30 (skip_after "A" ∷ []) ∷ rule 31 [] ∷ []) (marker "A" 2 ∷ [])) (record { visits = matched 0 ∷ []; ids = 30 ∷ []; data-entries = entry 30 0 ∷ []; allowed = false; stop = none })
    -- a jump into a chain makes the link landed on a starter
    ∷ row "D48" (call (rule 1 (skip_after "A" ∷ []) ∷ rule 2 [] ∷ link 3 (deny ∷ []) ∷ rule 4 [] ∷ []) (marker "A" 2 ∷ [])) (record { visits = matched 0 ∷ matched 2 ∷ matched 3 ∷ []; ids = 1 ∷ 3 ∷ []; data-entries = entry 1 0 ∷ entry 3 2 ∷ entry 4 3 ∷ []; allowed = false; stop = stopped 403 (4 ∷ 3 ∷ []) })
    -- the flow is the starter's
    ∷ row "D48b" (call (link 1 (skip 1 ∷ []) ∷ rule 2 (skip 2 ∷ []) ∷ rule 3 [] ∷ rule 4 [] ∷ []) []) (record { visits = matched 0 ∷ matched 1 ∷ matched 3 ∷ []; ids = 1 ∷ 4 ∷ []; data-entries = entry 1 0 ∷ entry 2 1 ∷ entry 4 3 ∷ []; allowed = false; stop = none })
    -- skip:2,multiMatch skips none, and so does skip:1,chain
    ∷ row "D48c" (call (rule 1 (skip 2 ∷ multi_match ∷ []) ∷ rule 2 (skip 1 ∷ chain ∷ []) ∷ rule 3 [] ∷ []) []) (record { visits = matched 0 ∷ matched 1 ∷ matched 2 ∷ []; ids = 1 ∷ 2 ∷ 3 ∷ []; data-entries = entry 1 0 ∷ entry 2 1 ∷ entry 3 2 ∷ []; allowed = false; stop = none })
    -- a skip may pass the last rule
    ∷ row "D48d" (call (rule 1 (skip 4294967295 ∷ []) ∷ rule 2 [] ∷ []) []) (record { visits = matched 0 ∷ []; ids = 1 ∷ []; data-entries = entry 1 0 ∷ []; allowed = false; stop = none })
    -- Off set by the last rule
    ∷ switching RuleEngineMode.Off
    (row "D49" (call (rule 10 (ctl "ruleEngine" "Off" ∷ []) ∷ []) []) (record { visits = matched 0 ∷ []; ids = 10 ∷ []; data-entries = entry 10 0 ∷ []; allowed = false; stop = none }))
    -- an error at a rule that an earlier unit removed
    ∷ removal "D50a" (call (rule 1 (ctl "ruleRemoveById" "2" ∷ []) ∷ in_error (rule 2 []) ∷ []) []) (record { visits = matched 0 ∷ removed 1 ∷ []; ids = 1 ∷ []; data-entries = entry 1 0 ∷ []; allowed = false; stop = none }) 1 (2 ∷ []) (1 ∷ []) []
    -- an error at a rule that is passed
    ∷ row "D50b" (call (rule 1 (skip 1 ∷ []) ∷ in_error (rule 2 []) ∷ []) []) (record { visits = matched 0 ∷ []; ids = 1 ∷ []; data-entries = entry 1 0 ∷ []; allowed = false; stop = none })
    -- the index of the rule with the error, and all closed units stand
    ∷ failing "D51a" (call (rule 10 [] ∷ in_error (rule 11 []) ∷ rule 12 [] ∷ []) []) 1 (record { visits = matched 0 ∷ error 1 ∷ []; ids = 10 ∷ []; data-entries = entry 10 0 ∷ []; allowed = false; stop = none })
    -- an error in an open chain
    ∷ failing "D51b" (call (link 1 [] ∷ in_error (link 2 []) ∷ rule 3 [] ∷ []) []) 1 (record { visits = matched 0 ∷ error 1 ∷ []; ids = []; data-entries = []; allowed = false; stop = none })
    -- 1: phase 0 and 6, mode 3; it comes before 2
    ∷ refused "D13a" (in_phase 0 (call (rule 10 [] ∷ []) [])) 1
    ∷ refused "D13b" (in_phase 6 (call (rule 10 [] ∷ []) [])) 1
    ∷ refused "D13c" (with_mode 3 (with_rules (times 513 (sharing 0 0)) (call [] []))) 1
    -- 2: one more than 512 rules, 4,096 actions and 256 markers
    ∷ refused "D13d" (with_rules (times 513 (sharing 0 0)) (call [] [])) 2
    ∷ refused "D13e" (with_records [] (times 4097 (action 0 0 0 0 0 0)) [] [] [] (call [] [])) 2
    ∷ refused "D13f" (with_records [] [] (times 257 (record { name = record { start = 0; len = 0 }; position = 0 })) [] [] (call [] [])) 2
    ∷ refused "D13g" (with_text (times 65537 65) (call [] [])) 2
    -- each of these limits itself is taken; the mode is Off, so that nothing is done
    ∷ row "D13h" (with_mode 2 (with_room 513 513 512 (with_rules (times 512 (sharing 0 0)) (call [] [])))) nothing
    ∷ row "D13i" (with_records [] (times 4096 (action 0 0 0 0 0 0)) [] [] [] (call [] [])) nothing
    ∷ row "D13j" (with_records [] [] (times 256 (record { name = record { start = 0; len = 0 }; position = 0 })) [] [] (call [] [])) nothing
    ∷ row "D13k" (with_text (times 65536 127) (call [] [])) nothing
    -- and so are phases 1 and 5
    ∷ row "D13l" (in_phase 1 (call [] [])) nothing
    ∷ row "D13m" (in_phase 5 (call [] [])) nothing
    -- 3: more in use than a list has
    ∷ refused "D14a" (with_ids [] (call [] [])) 3
    ∷ refused "D14b" (with_data [] (call [] [])) 3
    -- more than 256 ranges held
    ∷ refused "D14c" (call_with rust RuleEngineMode.On (holding (apart 257)) false [] []) 3
    -- an equal count is fine for 3
    ∷ row "D14d" (with_data (lent_data ∷ []) (with_ids (9 ∷ []) (call [] []))) nothing
    -- and then 7 decides
    ∷ refused "D14e" (with_ids (9 ∷ []) (call (rule 10 [] ∷ []) [])) 7
    -- 4 comes before 5
    ∷ refused "D16" (with_outcomes (9 ∷ 9 ∷ []) (call (rule 10 [] ∷ []) [])) 4
    -- 5: a part that ends after its text; (end, 0) is inside
    ∷ refused "D17a" (with_action (action 0 0 1 0 0 0) (call [] [])) 5
    ∷ row "D17b" (with_action (action 0 0 0 0 0 0) (call [] [])) nothing
    ∷ refused "D17c" (with_rules (sharing 1 0 ∷ []) (call [] [])) 5
    -- no sum wraps
    ∷ refused "D17d" (with_text (65 ∷ []) (with_action (action 0 0 largest 1 0 0) (call [] []))) 5
    ∷ refused "D17e" (with_text (65 ∷ []) (with_action (action 0 0 1 largest 0 0) (call [] []))) 5
    -- 5 reads records that no rule points to
    ∷ refused "D18a" (with_action (action 21 0 0 0 0 0) (call [] [])) 5
    -- a kind without a number has no limit for it
    ∷ row "D18b" (with_action (action 1 largest 0 0 0 0) (call [] [])) nothing
    -- both parts must lie inside the text
    ∷ refused "D18c" (with_action (action 12 0 0 0 0 1) (call [] [])) 5
    -- a number above the limit of its kind
    ∷ refused "D18d" (with_action (action 8 4294967296 0 0 0 0) (call [] [])) 5
    ∷ refused "D18e" (with_action (action 18 256 0 0 0 0) (call [] [])) 5
    ∷ refused "D18f" (with_action (action 20 65536 0 0 0 0) (call [] [])) 5
    -- the limit of each kind is taken
    ∷ row "D18m" (with_action (action 20 65535 0 0 0 0) (with_action (action 17 255 0 0 0 0) (with_action (action 8 4294967295 0 0 0 0) (call [] [])))) nothing
    ∷ refused "D18n" (with_action (action 16 256 0 0 0 0) (call [] [])) 5
    -- an unknown flag, and an unknown outcome
    ∷ refused "D18g" (with_rules (record { present = 2; id = 0; link = 0; first = 0; count = 0 } ∷ []) (call [] [])) 5
    ∷ refused "D18h" (with_rules (record { present = 0; id = 0; link = 2; first = 0; count = 0 } ∷ []) (call [] [])) 5
    ∷ refused "D18i" (with_outcomes (4 ∷ []) (call (rule 10 [] ∷ []) [])) 5
    -- a marker above the rule count, and one whose name is outside
    ∷ refused "D18j" (with_marker 0 0 2 (call (rule 10 [] ∷ []) [])) 5
    ∷ refused "D18k" (with_marker 0 1 0 (call [] [])) 5
    -- 6: a byte of 80, after 5 and before 7
    ∷ refused "D18l" (with_text (128 ∷ []) (with_journal [] (call (rule 10 [] ∷ []) []))) 6
    -- 7: one free entry for each rule in each list
    ∷ refused "D19a" (with_data (lent_data ∷ []) (call (with_outcome 1 (rule 10 []) ∷ []) [])) 7
    ∷ refused "D19b" (with_journal [] (call (rule 10 [] ∷ []) [])) 7
    -- 8: counted rule by rule, a shared action for each
    ∷ refused "D20a" (with_room 5 5 5 (with_rules (sharing 0 1 ∷ sharing 0 1 ∷ []) (call_with rust RuleEngineMode.On (holding (apart 255)) false (no_id (ctl "ruleRemoveById" "7" ∷ []) ∷ []) []))) 8
    -- an action that is part of no rule does not count
    ∷ removal "D20b" (with_rules [] (call_with rust RuleEngineMode.On (holding (apart 256)) false (no_id (ctl "ruleRemoveById" "7" ∷ []) ∷ []) [])) nothing 256 [] [] []
    -- rules that are missed count
    ∷ refused "D20c" (call_with rust RuleEngineMode.On (holding (apart 256)) false (missed (rule 10 (ctl "ruleRemoveById" "7" ∷ [])) ∷ []) []) 8
    -- 256 in all are taken
    ∷ removal "D20d" (call_holding (apart 255) (rule 10 (ctl "ruleRemoveById" "7" ∷ []) ∷ []))
    (record { visits = matched 0 ∷ []; ids = 10 ∷ []; data-entries = entry 10 0 ∷ []; allowed = false; stop = none })
    256 (7 ∷ 1492 ∷ 2000 ∷ []) (10 ∷ 1490 ∷ 1999 ∷ []) []
    -- and so are 64 targets
    ∷ targeting "D20e" (repeating 64 [] [] (call (target ∷ []) []))
    (record { visits = matched 0 ∷ []; ids = []; data-entries = no_id_entry 0 ∷ []; allowed = false; stop = none }) 64
    -- 9: targets, and 8 comes first
    ∷ refused "D22a" (repeating 65 [] [] (call (target ∷ []) [])) 9
    ∷ refused "D22b" (repeating 65 (sharing 65 1 ∷ []) (action 19 0 23 14 37 1 ∷ []) (call_holding (apart 256) (target ∷ no_id (ctl "ruleRemoveById" "7" ∷ []) ∷ []))) 8
    -- a call that would do nothing is refused too
    ∷ row_of "D23" (with_journal [] (call_with rust RuleEngineMode.On no_controls true (rule 10 [] ∷ []) [])) 7 0 (record { visits = []; ids = []; data-entries = []; allowed = true; stop = none }) 0 0 [] [] []
    -- the manual's reading: deny has the starter's last status action as its status
    ∷ row "D77a" (call_manual (rule 10 (deny ∷ status 406 ∷ []) ∷ []) []) (record { visits = matched 0 ∷ []; ids = 10 ∷ []; data-entries = entry 10 0 ∷ []; allowed = false; stop = stopped 406 (10 ∷ []) })
    ∷ row "D77b" (call_manual (link 1 (deny ∷ []) ∷ rule 2 (status 406 ∷ []) ∷ []) []) (record { visits = matched 0 ∷ matched 1 ∷ []; ids = 1 ∷ []; data-entries = entry 1 0 ∷ entry 2 1 ∷ []; allowed = false; stop = stopped 403 (2 ∷ 1 ∷ []) })
    ∷ row "D77c" (call_manual (rule 1 (status 406 ∷ deny ∷ status 0 ∷ []) ∷ []) []) (record { visits = matched 0 ∷ []; ids = 1 ∷ []; data-entries = entry 1 0 ∷ []; allowed = false; stop = stopped 0 (1 ∷ []) })
    -- block is as in 01
    ∷ row "D77d" (call_manual (rule 10 (block ∷ status 406 ∷ []) ∷ []) []) (record { visits = matched 0 ∷ []; ids = 10 ∷ []; data-entries = entry 10 0 ∷ []; allowed = false; stop = stopped 500 (10 ∷ []) })
    -- a removed closing rule breaks the chain
    ∷ removal "D78" (call_manual (rule 40 (ctl "ruleRemoveById" "42" ∷ []) ∷ link 41 (deny ∷ []) ∷ rule 42 [] ∷ rule 43 [] ∷ []) []) (record { visits = matched 0 ∷ matched 1 ∷ removed 2 ∷ matched 3 ∷ []; ids = 40 ∷ 43 ∷ []; data-entries = entry 40 0 ∷ entry 43 3 ∷ []; allowed = false; stop = none }) 1 (42 ∷ []) [] []
    -- a marker directly after is jumped to
    ∷ row "D79a" (call_manual (rule 30 (skip_after "A" ∷ []) ∷ rule 31 (deny ∷ []) ∷ []) (marker "A" 1 ∷ [])) (record { visits = matched 0 ∷ matched 1 ∷ []; ids = 30 ∷ 31 ∷ []; data-entries = entry 30 0 ∷ entry 31 1 ∷ []; allowed = false; stop = stopped 403 (31 ∷ []) })
    -- a smaller position is not
    ∷ row "D79b" (call_manual (rule 30 (skip_after "A" ∷ []) ∷ rule 31 [] ∷ []) (marker "A" 0 ∷ [])) (record { visits = matched 0 ∷ []; ids = 30 ∷ []; data-entries = entry 30 0 ∷ []; allowed = false; stop = none })
    -- 8 counts the phase's own ranges as they are written, also where they are covered already, or would merge
    ∷ refused "D81a" (repeating 256 [] [] (call_holding (range 0 largest ∷ []) (no_id (ctl "ruleRemoveById" "1" ∷ []) ∷ []))) 8
    ∷ leaving (range 0 largest ∷ []) (row "D81b" (repeating 255 [] [] (call_holding (range 0 largest ∷ []) (no_id (ctl "ruleRemoveById" "1" ∷ []) ∷ []))) (record { visits = matched 0 ∷ []; ids = []; data-entries = no_id_entry 0 ∷ []; allowed = false; stop = none }))
    ∷ refused "D81c" (call_holding (apart 256) (rule 10 (ctl "ruleRemoveById" "2001" ∷ []) ∷ [])) 8
    -- 3: ranges that touch, that overlap, with equal starts, that are not sorted, with start above end, and after one that ends at the greatest number
    ∷ refused "D82a" (call_holding (range 1 2 ∷ range 3 4 ∷ []) (rule 10 [] ∷ [])) 3
    ∷ refused "D82b" (call_holding (range 1 5 ∷ range 3 4 ∷ []) (rule 10 [] ∷ [])) 3
    ∷ refused "D82c" (call_holding (range 1 2 ∷ range 1 2 ∷ []) (rule 10 [] ∷ [])) 3
    ∷ refused "D82d" (call_holding (range 4 5 ∷ range 1 2 ∷ []) (rule 10 [] ∷ [])) 3
    ∷ refused "D82e" (call_holding (range 1 2 ∷ range 5 4 ∷ []) (rule 10 [] ∷ [])) 3
    ∷ refused "D82f" (call_holding (range 3 largest ∷ range 5 5 ∷ []) (rule 10 [] ∷ [])) 3
    -- an id between two is enough, and one may end at the greatest number
    ∷ leaving (range 1 2 ∷ range 4 5 ∷ []) (row "D82g" (call_holding (range 1 2 ∷ range 4 5 ∷ []) (rule 10 [] ∷ [])) (record { visits = matched 0 ∷ []; ids = 10 ∷ []; data-entries = entry 10 0 ∷ []; allowed = false; stop = none }))
    ∷ leaving (range largest largest ∷ []) (row "D82h" (call_holding (range largest largest ∷ []) (rule 10 [] ∷ [])) (record { visits = matched 0 ∷ []; ids = 10 ∷ []; data-entries = entry 10 0 ∷ []; allowed = false; stop = none }))
    -- 3 comes after 2 and before 4, also of a call that would do nothing
    ∷ refused "D82i" (with_text (times 65537 65) (call_holding (range 1 2 ∷ range 3 4 ∷ []) [])) 2
    ∷ refused "D82j" (with_outcomes [] (call_holding (range 1 2 ∷ range 3 4 ∷ []) (rule 10 [] ∷ []))) 3
    ∷ refused "D82k" (call_holding (range 1 2 ∷ range 3 4 ∷ []) []) 3
    -- "5-7 and 8-9 become 5-9", in either order, of one directive, and of two units
    ∷ leaving (range 5 9 ∷ []) (row "D84a" (call (rule 10 (ctl "ruleRemoveById" "5-7,8-9" ∷ []) ∷ []) []) (record { visits = matched 0 ∷ []; ids = 10 ∷ []; data-entries = entry 10 0 ∷ []; allowed = false; stop = none }))
    ∷ leaving (range 5 9 ∷ []) (row "D84b" (call (rule 10 (ctl "ruleRemoveById" "8-9,5-7" ∷ []) ∷ []) []) (record { visits = matched 0 ∷ []; ids = 10 ∷ []; data-entries = entry 10 0 ∷ []; allowed = false; stop = none }))
    ∷ leaving (range 5 9 ∷ []) (row "D84c" (call (rule 1 (ctl "ruleRemoveById" "8-9" ∷ []) ∷ rule 2 (ctl "ruleRemoveById" "5-7" ∷ []) ∷ []) []) (record { visits = matched 0 ∷ matched 1 ∷ []; ids = 1 ∷ 2 ∷ []; data-entries = entry 1 0 ∷ entry 2 1 ∷ []; allowed = false; stop = none }))
    -- one that lies apart comes to its place, and one that bridges others makes them one
    ∷ leaving (range 1 1 ∷ range 5 5 ∷ range 8 8 ∷ []) (row "D84d" (call_holding (range 1 1 ∷ range 8 8 ∷ []) (rule 10 (ctl "ruleRemoveById" "5" ∷ []) ∷ [])) (record { visits = matched 0 ∷ []; ids = 10 ∷ []; data-entries = entry 10 0 ∷ []; allowed = false; stop = none }))
    ∷ leaving (range 1 9 ∷ []) (row "D84e" (call_holding (range 1 1 ∷ range 4 5 ∷ range 8 9 ∷ []) (rule 10 (ctl "ruleRemoveById" "2-7" ∷ []) ∷ [])) (record { visits = matched 0 ∷ []; ids = 10 ∷ []; data-entries = entry 10 0 ∷ []; allowed = false; stop = none }))
    -- at the greatest number
    ∷ leaving (range 18446744073709551614 largest ∷ []) (row "D84f" (call_holding (range largest largest ∷ []) (rule 10 (ctl "ruleRemoveById" "18446744073709551614" ∷ []) ∷ [])) (record { visits = matched 0 ∷ []; ids = 10 ∷ []; data-entries = entry 10 0 ∷ []; allowed = false; stop = none }))
    -- the visits are those that the plain list gives
    ∷ leaving (range 6 9 ∷ []) (row "D117" (call_holding (range 6 7 ∷ []) (rule 5 (ctl "ruleRemoveById" "8-9" ∷ []) ∷ rule 8 [] ∷ rule 4 [] ∷ [])) (record { visits = matched 0 ∷ removed 1 ∷ matched 2 ∷ []; ids = 5 ∷ 4 ∷ []; data-entries = entry 5 0 ∷ entry 4 2 ∷ []; allowed = false; stop = none }))
    ∷ []

-- every row holds
pub point-table : all_hold points ≡ true
unfolding points directives all_hold holds same_ids same_visits same_data same_stop same_report report_with member_unsupported same trim_start before trim_end trim fold all_digits value_from digits without_plus number_of index_of on_first split_on one_id ids_to ids_from id_part any_bad ranges_in directive_of add_range add_ranges is_removed bad_controls actions_of last_of last_disruptive last_flow metadata_of directive_in marker_position rule_at is_link id_at outcome_at actions_at refused1 refused2 refused3 refused4 refused5 refused6 refused7 refused8 refused9 rule_total refusal_of rule_controls unit_flow unit_disruptive unit_intervention verdict_at after_chain visit_at walk walk_of visits_of outcome_of units_of last_closed
point-table = refl
