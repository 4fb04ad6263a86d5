-- 01: "Metadata keeps the last of each kind": the metadata of an intervention, field by field, as one table.
use Rattle.std.specs.Prelude.{ℕ, ◌≡◌, refl, List, [], ◌∷◌, Bool, true, false, ◌&&◌, eqb, Option, Some, None}
use Rattle.reading.specs.declared.Intervention.{Intervention}
use Rattle.reading.specs.declared.RuleMetadata.{RuleMetadata}
use Rattle.reading.specs.Numbers.{present_number, number_or_zero}
use Rattle.reading.specs.Controls.{is_removed, bad_controls}
use Rattle.reading.specs.Ranges.{add_range, add_ranges}
use Rattle.reading.specs.Actions.{actions_of, last_of, last_disruptive, last_flow, metadata_of}
use Rattle.reading.specs.Call.{rule_at, is_link, id_at, outcome_at, actions_at}
use Rattle.reading.specs.Refusals.{refused1, refused2, refused3, refused4, refused5, refused6, refused7, refused8, refused9, rule_total, refusal_of}
use Rattle.reading.specs.Units.{rule_controls, unit_flow, unit_disruptive, unit_intervention}
use Rattle.reading.specs.Walk.{verdict_at, after_chain, visit_at, walk, walk_of}
use Rattle.reading.specs.Outcome.{visits_of, outcome_of}
use Rattle.reading.specs.Cases.Build.{deny, msg, logdata, rev, ver, id, severity, maturity, accuracy, Act, Written, no_id, no_id_link, same_place, call}

-- what a row states: the numbers, and the places by their positions
pub record Kept : Type 0 where
  rules : List Written
  id : Option ℕ
  msg : Option ℕ
  logdata : Option ℕ
  rev : Option ℕ
  ver : Option ℕ
  severity : Option ℕ
  maturity : Option ℕ
  accuracy : Option ℕ

abbrev same_number : Option ℕ → Option ℕ → Bool
same_number a b = eqb (present_number a) (present_number b) && eqb (number_or_zero a) (number_or_zero b)

abbrev keeps : Kept → RuleMetadata → Bool
keeps k m =
    same_number m.id k.id
    && same_place m.msg k.msg
    && same_place m.logdata k.logdata
    && same_place m.rev k.rev
    && same_place m.ver k.ver
    && same_number m.severity k.severity
    && same_number m.maturity k.maturity
    && same_number m.accuracy k.accuracy

-- of the intervention that is found after the call
abbrev keeps_in : Kept → Option Intervention → Bool
keeps_in k None = false
keeps_in k (Some i) = keeps k i.metadata

pub all_kept : List Kept → Bool
all_kept [] = true
all_kept (k ∷ ks) = keeps_in k (outcome_of (call k.rules [])).transaction.intervention && all_kept ks

abbrev some : ℕ → Option ℕ
some n = Some n

abbrev nothing : Option ℕ
nothing = None

-- each of the eight twice, at positions 0 to 15, and then a deny
abbrev twice : List Act
twice =
    id 10 ∷ id 11
    ∷ msg "a" ∷ msg "b"
    ∷ logdata "c" ∷ logdata "d"
    ∷ rev "e" ∷ rev "f"
    ∷ ver "g" ∷ ver "h"
    ∷ severity 1 ∷ severity 2
    ∷ maturity 3 ∷ maturity 4
    ∷ accuracy 5 ∷ accuracy 6
    ∷ deny
    ∷ []

pub metadata : List Kept
metadata =
    -- the last of each kind
    record { rules = no_id twice ∷ []; id = some 11; msg = some 3; logdata = some 5; rev = some 7; ver = some 9; severity = some 2; maturity = some 4; accuracy = some 6 }
    -- a kind alone leaves the others without a value
    ∷ record { rules = no_id (severity 0 ∷ deny ∷ []) ∷ []; id = nothing; msg = nothing; logdata = nothing; rev = nothing; ver = nothing; severity = some 0; maturity = nothing; accuracy = nothing }
    -- a later member's are not used
    ∷ record { rules = no_id_link (deny ∷ ver "a" ∷ []) ∷ no_id twice ∷ []; id = nothing; msg = nothing; logdata = nothing; rev = nothing; ver = some 1; severity = nothing; maturity = nothing; accuracy = nothing }
    ∷ []

-- every row holds
pub metadata-table : all_kept metadata ≡ true
unfolding metadata all_kept add_range add_ranges is_removed bad_controls actions_of last_of last_disruptive last_flow metadata_of rule_at is_link id_at outcome_at actions_at refused1 refused2 refused3 refused4 refused5 refused6 refused7 refused8 refused9 rule_total refusal_of rule_controls unit_flow unit_disruptive unit_intervention verdict_at after_chain visit_at walk walk_of visits_of outcome_of
metadata-table = refl
