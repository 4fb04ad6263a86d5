-- Whether a unit adds ranges, by its directives: this decides what the controls' arrays hold after the ranges in use.
use Rattle.std.specs.Prelude.{ℕ, Bool, true, false, List}
use Rattle.reading.specs.Lists.{any}
use Rattle.reading.specs.Directive.{Directive, rule_engine, rule_remove_by_id, rule_remove_target_by_id, request_body_access, request_body_processor, unsupported}
use Rattle.reading.specs.Actions.{controls_in, directive_in}
use Rattle.reading.specs.Call.{Given, actions_at}
use Rattle.reading.specs.Walk.{Visit, closed_in}

-- a supported ruleRemoveById has at least one range
abbrev pub is_removal : Directive → Bool
is_removal (rule_engine m) = false
is_removal (rule_remove_by_id rs) = true
is_removal (rule_remove_target_by_id id target) = false
is_removal (request_body_access a) = false
is_removal (request_body_processor p) = false
is_removal (unsupported r) = false

unfoldable pub member_removes : Given → ℕ → Bool
member_removes g m = any (λ p. is_removal (directive_in g.text p)) (controls_in (actions_at g m))

abbrev pub unit_removes : Given → List ℕ → Bool
unit_removes g unit = any (member_removes g) unit

-- whether the closed units of some visits add ranges
abbrev pub adds_ranges : Given → List Visit → Bool
adds_ranges g vs = any (unit_removes g) (closed_in vs)
