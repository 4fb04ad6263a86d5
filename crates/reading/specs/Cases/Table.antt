-- C1 to C16 of 01 as one table, and one proof that the definitions give what every row states.
use Rattle.std.specs.Prelude.{ℕ, ◌≡◌, refl, List, [], ◌∷◌, true, false}
use Prim.Native.String.{String}
use Rattle.reading.specs.declared.RuleEngineMode.{RuleEngineMode}
use Rattle.reading.specs.Text.{same, trim_start, before, trim_end, trim, fold, all_digits, value_from, digits, without_plus, number_of, index_of, on_first, split_on, one_id, ids_to, ids_from, id_part, any_bad, ranges_in}
use Rattle.reading.specs.Directive.{directive_of}
use Rattle.reading.specs.Controls.{is_removed, bad_controls}
use Rattle.reading.specs.Ranges.{add_range, add_ranges}
use Rattle.reading.specs.Actions.{actions_of, last_of, last_disruptive, last_flow, metadata_of, directive_in}
use Rattle.reading.specs.Markers.{marker_position}
use Rattle.reading.specs.Call.{rule_at, is_link, id_at, outcome_at, actions_at}
use Rattle.reading.specs.Refusals.{refused1, refused2, refused3, refused4, refused5, refused6, refused7, refused8, refused9, rule_total, refusal_of}
use Rattle.reading.specs.Units.{rule_controls, unit_flow, unit_disruptive, unit_intervention}
use Rattle.reading.specs.Walk.{verdict_at, after_chain, visit_at, walk, walk_of}
use Rattle.reading.specs.Replay.{units_of, last_closed}
use Rattle.reading.specs.Report.{report_with, member_unsupported}
use Rattle.reading.specs.Outcome.{visits_of, outcome_of}
use Rattle.reading.specs.Cases.Build.{deny, pass, allow, skip, skip_after, ctl, status, Row, none, stopped, Told, row, removal, switching, passing_over, rule, link, no_id, missed, marker, call, call_in, matched, miss, removed, entry, same_ids, same_visits, same_data, same_stop, same_report, holds, all_hold}

abbrev told : String → ℕ → Told
told value reason = record { directive = "ruleRemoveById"; value = value; reason = reason }

pub cases : List Row
cases =
    -- C1 no rules: answer 0, empty journal
    row "C1" (call [] [])
    (record { visits = []; ids = []; data-entries = []; allowed = false; stop = none })
    -- C2 10 deny: ids 10; 403 with ids 10
    ∷ row "C2" (call (rule 10 (deny ∷ []) ∷ []) [])
    (record { visits = matched 0 ∷ []; ids = 10 ∷ []; data-entries = entry 10 0 ∷ []; allowed = false; stop = stopped 403 (10 ∷ []) })
    -- C3 as C2, DetectionOnly: ids 10, no intervention
    ∷ row "C3" (call_in RuleEngineMode.DetectionOnly (rule 10 (deny ∷ []) ∷ []) [])
    (record { visits = matched 0 ∷ []; ids = 10 ∷ []; data-entries = entry 10 0 ∷ []; allowed = false; stop = none })
    -- C4 DetectionOnly; 10 allow, 11 deny: allowed, ids 10, one visit
    ∷ row "C4" (call_in RuleEngineMode.DetectionOnly (rule 10 (allow ∷ []) ∷ rule 11 (deny ∷ []) ∷ []) [])
    (record { visits = matched 0 ∷ []; ids = 10 ∷ []; data-entries = entry 10 0 ∷ []; allowed = true; stop = none })
    -- C5 20 link deny; no-id pass: ids 20; 403 with ids 20
    ∷ row "C5" (call (link 20 (deny ∷ []) ∷ no_id (pass ∷ []) ∷ []) [])
    (record { visits = matched 0 ∷ matched 1 ∷ []; ids = 20 ∷ []; data-entries = entry 20 0 ∷ entry 20 1 ∷ []; allowed = false; stop = stopped 403 (20 ∷ []) })
    -- C6 as C5, closing rule has id 21: ids 20; 403 with ids 21, 20
    ∷ row "C6" (call (link 20 (deny ∷ []) ∷ rule 21 (pass ∷ []) ∷ []) [])
    (record { visits = matched 0 ∷ matched 1 ∷ []; ids = 20 ∷ []; data-entries = entry 20 0 ∷ entry 21 1 ∷ []; allowed = false; stop = stopped 403 (21 ∷ 20 ∷ []) })
    -- C7 20 link deny; 21 missed; 22 deny: ids 22; one data entry
    ∷ row "C7" (call (link 20 (deny ∷ []) ∷ missed (rule 21 []) ∷ rule 22 (deny ∷ []) ∷ []) [])
    (record { visits = matched 0 ∷ miss 1 ∷ matched 2 ∷ []; ids = 22 ∷ []; data-entries = entry 22 2 ∷ []; allowed = false; stop = stopped 403 (22 ∷ []) })
    -- C8 30 skipAfter A; 31 deny; A at 1: 31 not visited
    ∷ row "C8" (call (rule 30 (skip_after "A" ∷ []) ∷ rule 31 (deny ∷ []) ∷ []) (marker "A" 1 ∷ []))
    (record { visits = matched 0 ∷ []; ids = 30 ∷ []; data-entries = entry 30 0 ∷ []; allowed = false; stop = none })
    -- C9 30 skipAfter A; 31; 32; A at 2: visits 0, 2
    ∷ row "C9" (call (rule 30 (skip_after "A" ∷ []) ∷ rule 31 [] ∷ rule 32 [] ∷ []) (marker "A" 2 ∷ []))
    (record { visits = matched 0 ∷ matched 2 ∷ []; ids = 30 ∷ 32 ∷ []; data-entries = entry 30 0 ∷ entry 32 2 ∷ []; allowed = false; stop = none })
    -- C10 40 removes 42; 41 link deny; 42; 43: ids 40, 41; 403 with ids 43, 41
    ∷ removal "C10" (call (rule 40 (ctl "ruleRemoveById" "42" ∷ []) ∷ link 41 (deny ∷ []) ∷ rule 42 [] ∷ rule 43 [] ∷ []) [])
    (record { visits = matched 0 ∷ matched 1 ∷ removed 2 ∷ matched 3 ∷ []; ids = 40 ∷ 41 ∷ []; data-entries = entry 40 0 ∷ entry 41 1 ∷ entry 43 3 ∷ []; allowed = false; stop = stopped 403 (43 ∷ 41 ∷ []) })
    1 (42 ∷ []) (41 ∷ 43 ∷ []) (told "42" 0 ∷ [])
    -- C11 50 ruleEngine=DetectionOnly, deny: no intervention
    ∷ switching RuleEngineMode.DetectionOnly
    (row "C11" (call (rule 50 (ctl "ruleEngine" "DetectionOnly" ∷ deny ∷ []) ∷ []) [])
    (record { visits = matched 0 ∷ []; ids = 50 ∷ []; data-entries = entry 50 0 ∷ []; allowed = false; stop = none }))
    -- C12 60 ruleEngine=Off; 61 deny: one visit
    ∷ switching RuleEngineMode.Off
    (row "C12" (call (rule 60 (ctl "ruleEngine" "Off" ∷ []) ∷ rule 61 (deny ∷ []) ∷ []) [])
    (record { visits = matched 0 ∷ []; ids = 60 ∷ []; data-entries = entry 60 0 ∷ []; allowed = false; stop = none }))
    -- C13 "942100-942999": 942999 removed, 943000 not
    ∷ removal "C13" (call (rule 1 (ctl "ruleRemoveById" "942100-942999" ∷ []) ∷ rule 942999 [] ∷ rule 943000 [] ∷ []) [])
    (record { visits = matched 0 ∷ removed 1 ∷ matched 2 ∷ []; ids = 1 ∷ 943000 ∷ []; data-entries = entry 1 0 ∷ entry 943000 2 ∷ []; allowed = false; stop = none })
    1 (942100 ∷ 942999 ∷ []) (942099 ∷ 943000 ∷ []) (told "942100-942999" 0 ∷ [])
    -- C14 "," and "1,5-4": unsupported, 1 not removed
    ∷ passing_over 0 2
    (removal "C14" (call (rule 8 (ctl "ruleRemoveById" "," ∷ ctl "ruleRemoveById" "1,5-4" ∷ []) ∷ rule 1 [] ∷ []) [])
    (record { visits = matched 0 ∷ matched 1 ∷ []; ids = 8 ∷ 1 ∷ []; data-entries = entry 8 0 ∷ entry 1 1 ∷ []; allowed = false; stop = none })
    0 [] (1 ∷ 4 ∷ 5 ∷ []) (told "," 2 ∷ told "1,5-4" 2 ∷ []))
    -- C15 10 deny, status 406: 403
    ∷ row "C15" (call (rule 10 (deny ∷ status 406 ∷ []) ∷ []) [])
    (record { visits = matched 0 ∷ []; ids = 10 ∷ []; data-entries = entry 10 0 ∷ []; allowed = false; stop = stopped 403 (10 ∷ []) })
    -- C16 70 skip 1; 71 link; 72 deny: ids 70, 72; 403
    ∷ row "C16" (call (rule 70 (skip 1 ∷ []) ∷ link 71 [] ∷ rule 72 (deny ∷ []) ∷ []) [])
    (record { visits = matched 0 ∷ matched 2 ∷ []; ids = 70 ∷ 72 ∷ []; data-entries = entry 70 0 ∷ entry 72 2 ∷ []; allowed = false; stop = stopped 403 (72 ∷ []) })
    ∷ []

-- every row holds
pub table : all_hold cases ≡ true
unfolding cases all_hold holds same_ids same_visits same_data same_stop same_report report_with member_unsupported same trim_start before trim_end trim fold all_digits value_from digits without_plus number_of index_of on_first split_on one_id ids_to ids_from id_part any_bad ranges_in directive_of add_range add_ranges is_removed bad_controls actions_of last_of last_disruptive last_flow metadata_of directive_in marker_position rule_at is_link id_at outcome_at actions_at refused1 refused2 refused3 refused4 refused5 refused6 refused7 refused8 refused9 rule_total refusal_of rule_controls unit_flow unit_disruptive unit_intervention verdict_at after_chain visit_at walk walk_of visits_of outcome_of units_of last_closed
table = refl
