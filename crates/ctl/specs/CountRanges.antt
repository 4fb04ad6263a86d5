-- What `count_ranges` answers, in terms of `removal_value`.
use Rattle.std.specs.Prelude.{ℕ, cond, eqb, length, Option, Some, None}
use Rattle.reading.specs.Directive.{Directive, rule_engine, rule_remove_by_id, rule_remove_target_by_id, request_body_access, request_body_processor, unsupported}

-- 01: "no part at all makes the whole directive unsupported"
abbrev pub count_of : ℕ → Option ℕ
count_of n = cond (eqb n 0) None (Some n)

-- how many ranges a directive has, where it is a supported ruleRemoveById
abbrev pub count_in : Directive → Option ℕ
count_in (rule_engine m) = None
count_in (rule_remove_by_id rs) = Some (length rs)
count_in (rule_remove_target_by_id id target) = None
count_in (request_body_access a) = None
count_in (request_body_processor p) = None
count_in (unsupported r) = None
