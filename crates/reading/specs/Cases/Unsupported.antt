-- Request A.2 at its smallest telling inputs: what a phase tells of an unsupported directive. Rows are named after the decision.
use Rattle.std.specs.Prelude.{◌≡◌, refl, List, [], ◌∷◌, true, false}
use Rattle.reading.specs.declared.RuleEngineMode.{RuleEngineMode}
use Rattle.reading.specs.Text.{same, trim_start, before, trim_end, trim, fold, all_digits, value_from, digits, without_plus, number_of, index_of, on_first, split_on, one_id, ids_to, ids_from, id_part, any_bad, ranges_in}
use Rattle.reading.specs.Directive.{directive_of}
use Rattle.reading.specs.Controls.{is_removed, bad_controls}
use Rattle.reading.specs.Ranges.{add_range, add_ranges}
use Rattle.reading.specs.Actions.{actions_of, last_of, last_disruptive, last_flow, metadata_of, directive_in}
use Rattle.reading.specs.Markers.{marker_position}
use Rattle.reading.specs.Reading.{manual}
use Rattle.reading.specs.Call.{rule_at, is_link, id_at, outcome_at, actions_at}
use Rattle.reading.specs.Refusals.{refused1, refused2, refused3, refused4, refused5, refused6, refused7, refused8, refused9, rule_total, refusal_of}
use Rattle.reading.specs.Units.{rule_controls, unit_flow, unit_disruptive, unit_intervention}
use Rattle.reading.specs.Walk.{verdict_at, after_chain, visit_at, walk, walk_of}
use Rattle.reading.specs.Replay.{units_of, last_closed}
use Rattle.reading.specs.Report.{report_with, member_unsupported}
use Rattle.reading.specs.Outcome.{visits_of, outcome_of}
use Rattle.reading.specs.Cases.Build.{deny, allow, ctl, Row, none, stopped, row, removal, switching, passing_over, failing, refused, rule, link, missed, in_error, range, holding, call_with, call_in, call, call_holding, with_journal, nothing, matched, miss, removed, error, entry, same_ids, same_visits, same_data, same_stop, same_report, holds, all_hold}

pub passed_over : List Row
passed_over =
    -- R69: the index is the member's
    passing_over 1 7 (row "D69a" (call (link 1 [] ∷ rule 2 (ctl "foo" "1" ∷ []) ∷ []) []) (record { visits = matched 0 ∷ matched 1 ∷ []; ids = 1 ∷ []; data-entries = entry 1 0 ∷ entry 2 1 ∷ []; allowed = false; stop = none }))
    -- R69: a chain that a miss breaks
    ∷ row "D69b" (call (link 1 (ctl "foo" "1" ∷ []) ∷ missed (rule 2 []) ∷ []) []) (record { visits = matched 0 ∷ miss 1 ∷ []; ids = []; data-entries = []; allowed = false; stop = none })
    -- R69: a unit that stops the request, and one that allows it
    ∷ passing_over 0 6 (row "D69c" (call (rule 10 (ctl "auditEngine" "On" ∷ deny ∷ []) ∷ rule 11 (ctl "foo" "1" ∷ []) ∷ []) []) (record { visits = matched 0 ∷ []; ids = 10 ∷ []; data-entries = entry 10 0 ∷ []; allowed = false; stop = stopped 403 (10 ∷ []) }))
    ∷ passing_over 0 7 (row "D69d" (call (rule 10 (ctl "foo" "1" ∷ allow ∷ []) ∷ []) []) (record { visits = matched 0 ∷ []; ids = 10 ∷ []; data-entries = entry 10 0 ∷ []; allowed = true; stop = none }))
    -- the first: of units, of members, of actions
    ∷ passing_over 1 4 (row "D69e" (call (rule 10 [] ∷ rule 11 (ctl "requestBodyAccess" "maybe" ∷ []) ∷ rule 12 (ctl "foo" "1" ∷ []) ∷ []) []) (record { visits = matched 0 ∷ matched 1 ∷ matched 2 ∷ []; ids = 10 ∷ 11 ∷ 12 ∷ []; data-entries = entry 10 0 ∷ entry 11 1 ∷ entry 12 2 ∷ []; allowed = false; stop = none }))
    ∷ passing_over 0 5 (row "D69f" (call (link 1 (ctl "requestBodyProcessor" "yaml" ∷ []) ∷ rule 2 (ctl "foo" "1" ∷ []) ∷ []) []) (record { visits = matched 0 ∷ matched 1 ∷ []; ids = 1 ∷ []; data-entries = entry 1 0 ∷ entry 2 1 ∷ []; allowed = false; stop = none }))
    ∷ passing_over 0 3 (row "D69g" (call (rule 10 (ctl "ruleRemoveTargetById" "1 ARGS" ∷ ctl "foo" "1" ∷ []) ∷ []) []) (record { visits = matched 0 ∷ []; ids = 10 ∷ []; data-entries = entry 10 0 ∷ []; allowed = false; stop = none }))
    -- a supported directive before it is not told
    ∷ passing_over 0 1 (switching RuleEngineMode.DetectionOnly (row "D69h" (call (rule 10 (ctl "ruleEngine" "DetectionOnly" ∷ ctl "ruleEngine" "Maybe" ∷ []) ∷ []) []) (record { visits = matched 0 ∷ []; ids = 10 ∷ []; data-entries = entry 10 0 ∷ []; allowed = false; stop = none })))
    -- after a broken chain
    ∷ passing_over 2 2 (row "D69i" (call (link 1 (ctl "foo" "1" ∷ []) ∷ missed (rule 2 []) ∷ rule 3 (ctl "ruleRemoveById" "1,5-4" ∷ []) ∷ []) []) (record { visits = matched 0 ∷ miss 1 ∷ matched 2 ∷ []; ids = 3 ∷ []; data-entries = entry 3 2 ∷ []; allowed = false; stop = none }))
    -- of a missed rule, and of a removed one
    ∷ row "D69j" (call (missed (rule 10 (ctl "foo" "1" ∷ [])) ∷ []) []) (record { visits = miss 0 ∷ []; ids = []; data-entries = []; allowed = false; stop = none })
    ∷ removal "D69k" (call_holding (range 10 10 ∷ []) (rule 10 (ctl "foo" "1" ∷ []) ∷ [])) (record { visits = removed 0 ∷ []; ids = []; data-entries = []; allowed = false; stop = none }) 1 (10 ∷ []) [] []
    -- a chain that an error leaves open, and a unit before an error
    ∷ failing "D69l" (call (link 1 (ctl "foo" "1" ∷ []) ∷ in_error (rule 2 []) ∷ []) []) 1 (record { visits = matched 0 ∷ error 1 ∷ []; ids = []; data-entries = []; allowed = false; stop = none })
    ∷ passing_over 0 7 (failing "D69m" (call (rule 1 (ctl "foo" "1" ∷ []) ∷ in_error (rule 2 []) ∷ []) []) 1 (record { visits = matched 0 ∷ error 1 ∷ []; ids = 1 ∷ []; data-entries = entry 1 0 ∷ []; allowed = false; stop = none }))
    -- R119: a chain whose closing rule is removed stays open, and closes at the next rule or never
    ∷ removal "D119a" (call_holding (range 2 2 ∷ []) (link 1 (ctl "foo" "1" ∷ []) ∷ rule 2 [] ∷ [])) (record { visits = matched 0 ∷ removed 1 ∷ []; ids = []; data-entries = []; allowed = false; stop = none }) 1 (2 ∷ []) [] []
    ∷ passing_over 0 7 (removal "D119b" (call_holding (range 2 2 ∷ []) (link 1 (ctl "foo" "1" ∷ []) ∷ rule 2 [] ∷ rule 3 [] ∷ [])) (record { visits = matched 0 ∷ removed 1 ∷ matched 2 ∷ []; ids = 1 ∷ []; data-entries = entry 1 0 ∷ entry 3 2 ∷ []; allowed = false; stop = none }) 1 (2 ∷ []) [] [])
    -- a removed link breaks it
    ∷ removal "D119c" (call_holding (range 2 2 ∷ []) (link 1 (ctl "foo" "1" ∷ []) ∷ link 2 [] ∷ rule 3 [] ∷ rule 4 [] ∷ [])) (record { visits = matched 0 ∷ removed 1 ∷ matched 3 ∷ []; ids = 4 ∷ []; data-entries = entry 4 3 ∷ []; allowed = false; stop = none }) 1 (2 ∷ []) [] []
    -- the manual's reading: so does a removed closing rule
    ∷ removal "D119d" (call_with manual RuleEngineMode.On (holding (range 2 2 ∷ [])) false (link 1 (ctl "foo" "1" ∷ []) ∷ rule 2 [] ∷ rule 3 [] ∷ []) []) (record { visits = matched 0 ∷ removed 1 ∷ matched 2 ∷ []; ids = 3 ∷ []; data-entries = entry 3 2 ∷ []; allowed = false; stop = none }) 1 (2 ∷ []) [] []
    -- R120: a refused call, and a call with nothing to do
    ∷ refused "D120a" (with_journal [] (call (rule 10 (ctl "foo" "1" ∷ []) ∷ []) [])) 7
    ∷ row "D120b" (call_in RuleEngineMode.Off (rule 10 (ctl "foo" "1" ∷ []) ∷ []) []) nothing
    ∷ []

-- every row holds
pub unsupported-table : all_hold passed_over ≡ true
unfolding passed_over all_hold holds same_ids same_visits same_data same_stop same_report report_with member_unsupported same trim_start before trim_end trim fold all_digits value_from digits without_plus number_of index_of on_first split_on one_id ids_to ids_from id_part any_bad ranges_in directive_of add_range add_ranges is_removed bad_controls actions_of last_of last_disruptive last_flow metadata_of directive_in marker_position rule_at is_link id_at outcome_at actions_at refused1 refused2 refused3 refused4 refused5 refused6 refused7 refused8 refused9 rule_total refusal_of rule_controls unit_flow unit_disruptive unit_intervention verdict_at after_chain visit_at walk walk_of visits_of outcome_of units_of last_closed
unsupported-table = refl
