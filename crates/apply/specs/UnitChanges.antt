-- Whether the actions of a rule, and of a unit, change the controls, and whether they add ranges, by their codes.
use Rattle.std.specs.Prelude.{ℕ, Bool, List, ltb, take, drop, get_or}
use Rattle.reading.specs.declared.Rule.{Rule}
use Rattle.reading.specs.Lists.{any}
use Rattle.reading.specs.Call.{no_rule}

-- whether a rule has an action that changes the controls: the codes of other actions and of unsupported directives are at most 7
unfoldable pub rule_changes : List ℕ → Rule → Bool
rule_changes codes r = any (λ code. ltb 7 code) (take r.count (drop r.first codes))

abbrev pub unit_changes : List ℕ → List Rule → List ℕ → Bool
unit_changes codes rules members = any (λ m. rule_changes codes (get_or rules m no_rule)) members

-- whether a rule has an action that adds ranges: their codes are above 17
unfoldable pub rule_adds : List ℕ → Rule → Bool
rule_adds codes r = any (λ code. ltb 17 code) (take r.count (drop r.first codes))

abbrev pub unit_adds : List ℕ → List Rule → List ℕ → Bool
unit_adds codes rules members = any (λ m. rule_adds codes (get_or rules m no_rule)) members
