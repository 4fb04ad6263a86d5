-- The directive reader, the questions to the controls, additions to them and lent records at their open points, and the numbers of
-- what an action comes to, as tables.
use Rattle.std.specs.Prelude.{ℕ, ◌≡◌, refl, List, [], ◌∷◌, map, Bool, true, false, ◌&&◌, length, replicate, eqb, Some, None}
use Rattle.reading.specs.declared.RuleEngineMode.{RuleEngineMode}
use Rattle.reading.specs.declared.BodyAccess.{BodyAccess}
use Rattle.reading.specs.declared.Place.{Place}
use Rattle.reading.specs.declared.Action.{Action}
use Rattle.reading.specs.Numbers.{mode_number, access_number, read_number, read_value, disruptive_kind, disruptive_value, flow_kind, flow_value}
use Rattle.reading.specs.Text.{ascii, same, trim_start, before, trim_end, trim, fold, all_digits, value_from, digits, without_plus, number_of, index_of, on_first, split_on, one_id, ids_to, ids_from, id_part, any_bad, ranges_in}
use Rattle.reading.specs.Directive.{directive_of, reader_answer, ReaderOutcome, reader_outcome}
use Rattle.reading.specs.Controls.{Controls, is_removed, bad_controls, ask_mode, ask_removed, ask_target_count, ask_target, ask_access, add_range_answer, add_target_answer, with_range, with_target}
use Rattle.reading.specs.Ranges.{add_range}
use Rattle.reading.specs.Actions.{Placed, last_of, last_disruptive, last_flow, last_disruptive_kind, last_disruptive_value, last_flow_kind, last_flow_value}
use Rattle.reading.specs.Records.{action_at, action_list}
use Rattle.reading.specs.Cases.Build.{eq_bool, range, apart, all_true}

-- THE READER: the answer, the form of the directive with its number, and both lists

pub record Read : Type 0 where
  name : List ℕ
  value : List ℕ
  starts : List ℕ
  ends : List ℕ
  answer : ℕ
  form : ℕ
  value_of : ℕ
  starts-found : List ℕ
  ends_found : List ℕ

unfoldable read_holds : Read → ReaderOutcome → Bool
read_holds r o =
    eqb o.answer r.answer
    && eqb (read_number o.directive) r.form
    && eqb (read_value o.directive) r.value_of
    && same o.starts r.starts-found
    && same o.ends r.ends_found

-- ruleRemoveById with a value, on lists that hold nines
abbrev removing : List ℕ → ℕ → ℕ → ℕ → ℕ → List ℕ → List ℕ → Read
removing value room answer form value_of starts-found ends_found = record {
  name = ascii "ruleRemoveById";
  value = value;
  starts = replicate room 9;
  ends = replicate room 9;
  answer = answer;
  form = form;
  value_of = value_of;
  starts-found = starts-found;
  ends_found = ends_found;
}

-- any directive, on lists without an entry
abbrev reading : List ℕ → List ℕ → ℕ → ℕ → ℕ → Read
reading name value answer form value_of =
    record { name = name; value = value; starts = []; ends = []; answer = answer; form = form; value_of = value_of; starts-found = []; ends_found = [] }

pub reads : List Read
reads =
    -- D5: an unsupported directive leaves the list as found, also where good parts come first
    removing (ascii "1,5-4") 1 0 0 2 (9 ∷ []) (9 ∷ [])
    -- 7 leaves it as lent, and is only for supported directives
    ∷ removing (ascii "1,2") 1 7 0 0 (9 ∷ []) (9 ∷ [])
    ∷ removing (ascii "1,5-4") 0 0 0 2 [] []
    ∷ removing (ascii "1,5-7") 2 0 2 2 (1 ∷ 5 ∷ []) (1 ∷ 7 ∷ [])
    -- ranges go to the start of the lists, and the rest is as found
    ∷ removing (ascii " 3 - 4 ,") 3 0 2 1 (3 ∷ 9 ∷ 9 ∷ []) (4 ∷ 9 ∷ 9 ∷ [])
    -- D83: they stay as they are read, neither sorted nor merged
    ∷ removing (ascii "5-7,8-9") 2 0 2 2 (5 ∷ 8 ∷ []) (7 ∷ 9 ∷ [])
    ∷ removing (ascii "8-9,5-7,5-7") 3 0 2 3 (8 ∷ 5 ∷ 5 ∷ []) (9 ∷ 7 ∷ 7 ∷ [])
    -- D174: beside a refusal there is no reason, also where the directive would have one; D6: 2 is for one of the texts by itself, and comes first
    ∷ reading (replicate 65537 255) [] 2 0 0
    ∷ reading [] (replicate 65537 32) 2 0 0
    -- D7: a byte of 80 or more, in either text
    ∷ reading (255 ∷ []) [] 6 0 0
    ∷ removing (49 ∷ 128 ∷ []) 1 6 0 0 (9 ∷ []) (9 ∷ [])
    -- D8: a target is cut at its first ";"
    ∷ reading (ascii "ruleRemoveTargetById") (ascii " x ;y;z") 0 3 3
    ∷ reading (ascii "ruleEngine") (ascii "Off") 0 1 2
    ∷ reading (ascii "requestBodyAccess") (ascii " OFF ") 0 4 1
    ∷ reading (ascii "requestBodyProcessor") (ascii "JSON") 0 5 2
    -- D70: the reason goes by the name, whatever the value
    ∷ reading (ascii "ruleEngine") (ascii "1;ARGS") 0 0 1
    ∷ reading (ascii "ruleRemoveById") [] 0 0 2
    ∷ reading (ascii "ruleRemoveTargetById") (ascii "On") 0 0 3
    ∷ reading (ascii "requestBodyAccess") (ascii "DetectionOnly") 0 0 4
    ∷ reading (ascii "requestBodyProcessor") (ascii "On") 0 0 5
    ∷ reading (ascii " AUDITENGINE ") (ascii "On") 0 0 6
    ∷ reading (ascii "auditLogParts") [] 0 0 6
    ∷ reading [] (ascii "On") 0 0 7
    ∷ []

pub all_read : List Read → Bool
all_read [] = true
all_read (r ∷ rs) = read_holds r (reader_outcome r.name r.value r.starts r.ends) && all_read rs

pub read_table : all_read reads ≡ true
unfolding reads all_read read_holds reader_outcome reader_answer same trim_start before trim_end trim fold all_digits value_from digits without_plus number_of index_of on_first split_on one_id ids_to ids_from id_part any_bad ranges_in directive_of
read_table = refl

-- THE CONTROLS

abbrev place : ℕ → Place
place position = record { phase = 1; position = position }

abbrev holding : ℕ → ℕ → Controls
holding ranges targets = record {
  mode = Some RuleEngineMode.DetectionOnly;
  ranges = apart ranges;
  targets = replicate targets (place 4);
  access = Some BodyAccess.Off;
  processor = None;
}

-- D9: every question meets the whole of 3
abbrev questions : List Bool
questions =
    eqb (ask_removed (holding 0 65) (Some 1)).answer 3
    ∷ eqb (ask_mode RuleEngineMode.On (holding 0 65)).answer 3
    ∷ eqb (ask_target_count (holding 257 0)).answer 3
    ∷ eqb (ask_target (holding 257 1) 0).answer 3
    ∷ eqb (ask_access (holding 257 0)).answer 3
    ∷ eqb (ask_mode RuleEngineMode.On (holding 256 64)).answer 0
    ∷ eqb (mode_number (ask_mode RuleEngineMode.On (holding 256 64)).value) 1
    ∷ eq_bool (ask_removed (holding 1 0) (Some 2000)).value true
    ∷ eq_bool (ask_removed (holding 1 0) (Some 2001)).value false
    ∷ eq_bool (ask_removed (holding 1 0) None).value false
    ∷ eqb (ask_target_count (holding 0 64)).value 64
    ∷ eqb (access_number (ask_access (holding 0 0)).value) 1
    ∷ []

-- D10: a range gives 3, 5, 8 in this order, a target 3, 9
abbrev additions : List Bool
additions =
    eqb (add_range_answer (holding 0 65) (range 2 1)) 3
    ∷ eqb (add_range_answer (holding 256 0) (range 2 1)) 5
    ∷ eqb (add_range_answer (holding 256 0) (range 5 7)) 8
    ∷ eqb (add_range_answer (holding 255 64) (range 5 5)) 0
    ∷ eqb (add_target_answer (holding 257 64)) 3
    ∷ eqb (add_target_answer (holding 256 64)) 9
    ∷ eqb (add_target_answer (holding 256 63)) 0
    ∷ eqb (length (with_range (holding 255 0) (range 5 5)).ranges) 256
    ∷ eqb (length (with_range (holding 256 0) (range 5 5)).ranges) 256
    ∷ eqb (length (with_target (holding 0 64) (place 1)).targets) 64
    ∷ eqb (length (with_target (holding 0 63) (place 1)).targets) 64
    ∷ []

-- D137: six numbers to an action, and what is left over is none
abbrev lent-numbers : List ℕ
lent-numbers = 19 ∷ 0 ∷ 1 ∷ 2 ∷ 3 ∷ 4 ∷ 8 ∷ 5 ∷ 6 ∷ 7 ∷ 9 ∷ 10 ∷ 1 ∷ []

abbrev second : Action
second = action_at lent-numbers 1

abbrev records : List Bool
records =
    eqb (length (action_list lent-numbers)) 2
    ∷ eqb (length (action_list (1 ∷ 0 ∷ 0 ∷ 0 ∷ 0 ∷ []))) 0
    ∷ eqb second.kind 8
    ∷ eqb second.number 5
    ∷ eqb second.text.start 6
    ∷ eqb second.text.len 7
    ∷ eqb second.value.start 9
    ∷ eqb second.value.len 10
    ∷ []

-- THE ACTIONS: the number and the value of what one action comes to, for each kind from 0 to 10. It stands at position 3 and has the
-- number 5.
abbrev acting : ℕ → List Placed
acting kind =
    record { position = 3; action = record { kind = kind; number = 5; text = record { start = 0; len = 0 }; value = record { start = 0; len = 0 } } } ∷ []

abbrev for_each_kind : (List Placed → ℕ) → List ℕ → Bool
for_each_kind number expected = same (map (λ kind. number (acting kind)) (0 ∷ 1 ∷ 2 ∷ 3 ∷ 4 ∷ 5 ∷ 6 ∷ 7 ∷ 8 ∷ 9 ∷ 10 ∷ [])) expected

-- said of the enum's case, and of the record
abbrev outcomes : List Bool
outcomes =
    for_each_kind (λ ps. disruptive_kind (last_disruptive ps)) (0 ∷ 1 ∷ 2 ∷ 3 ∷ 4 ∷ 5 ∷ 6 ∷ 0 ∷ 0 ∷ 0 ∷ 0 ∷ [])
    ∷ for_each_kind last_disruptive_kind (0 ∷ 1 ∷ 2 ∷ 3 ∷ 4 ∷ 5 ∷ 6 ∷ 0 ∷ 0 ∷ 0 ∷ 0 ∷ [])
    ∷ for_each_kind (λ ps. disruptive_value (last_disruptive ps)) (0 ∷ 0 ∷ 0 ∷ 0 ∷ 0 ∷ 3 ∷ 0 ∷ 0 ∷ 0 ∷ 0 ∷ 0 ∷ [])
    ∷ for_each_kind last_disruptive_value (0 ∷ 0 ∷ 0 ∷ 0 ∷ 0 ∷ 3 ∷ 0 ∷ 0 ∷ 0 ∷ 0 ∷ 0 ∷ [])
    ∷ for_each_kind (λ ps. flow_kind (last_flow ps)) (0 ∷ 0 ∷ 0 ∷ 0 ∷ 0 ∷ 0 ∷ 0 ∷ 7 ∷ 8 ∷ 9 ∷ 0 ∷ [])
    ∷ for_each_kind last_flow_kind (0 ∷ 0 ∷ 0 ∷ 0 ∷ 0 ∷ 0 ∷ 0 ∷ 7 ∷ 8 ∷ 9 ∷ 0 ∷ [])
    ∷ for_each_kind (λ ps. flow_value (last_flow ps)) (0 ∷ 0 ∷ 0 ∷ 0 ∷ 0 ∷ 0 ∷ 0 ∷ 0 ∷ 5 ∷ 3 ∷ 0 ∷ [])
    ∷ for_each_kind last_flow_value (0 ∷ 0 ∷ 0 ∷ 0 ∷ 0 ∷ 0 ∷ 0 ∷ 0 ∷ 5 ∷ 3 ∷ 0 ∷ [])
    ∷ []

pub question-table : all_true questions ≡ true
unfolding all_true bad_controls is_removed
question-table = refl

pub addition-table : all_true additions ≡ true
unfolding all_true bad_controls add_range_answer add_target_answer add_range
addition-table = refl

pub record-table : all_true records ≡ true
unfolding all_true action_list
record-table = refl

pub outcome-table : all_true outcomes ≡ true
unfolding all_true same last_of last_disruptive last_flow last_disruptive_kind last_disruptive_value last_flow_kind last_flow_value
outcome-table = refl
