-- What a visit finds, in the structs of this crate.
use Rattle.std.specs.Prelude.{ℕ, ◌+◌, Bool, true, false, cond, List, ltb, eqb, length, drop, get_or, Option, None, Some, unwrap_or}
use Rattle.reading.specs.declared.Verdict.{Verdict}
use Rattle.reading.specs.declared.Rule.{Rule}
use Rattle.reading.specs.Call.{no_rule}
use Rattle.reading.specs.Walk.{chain_rest}
use Rattle.unit.specs.declared.visit.State.{State}
use Rattle.unit.specs.declared.visit.VisitOutcome.{VisitOutcome}

-- a visit that closes no unit
abbrev pub passed : Verdict → ℕ → Option ℕ → VisitOutcome
passed verdict next chain = record { verdict = verdict; closes = None; after = record { next = next; chain = chain } }

-- a rule that is found to be so, by whether it is a link; `past` is the index after it, `rest` that after its chain, `chain`
-- the place in the journal of the open chain's first entry, or none, and `first` that of the first entry of the chain with
-- this rule. Clause for clause as `visit_by` of the reading's Walk.
abbrev pub found_by : ℕ → ℕ → Option ℕ → ℕ → Verdict → Bool → VisitOutcome
found_by past rest chain first Verdict.Missed link = passed Verdict.Missed rest None
found_by past rest chain first Verdict.Matched true = passed Verdict.Matched past (Some first)
found_by past rest chain first Verdict.Matched false =
    record { verdict = Verdict.Matched; closes = Some first; after = record { next = past; chain = None } }
found_by past rest chain first Verdict.Removed true = passed Verdict.Removed rest None
found_by past rest chain first Verdict.Removed false = passed Verdict.Removed past chain
found_by past rest chain first Verdict.Error link = passed Verdict.Error past chain

-- the place in the journal of the open chain's first entry, else that of the entry to come
abbrev pub entry_by : State → ℕ → ℕ
entry_by at visits = unwrap_or at.chain visits

-- the visit of the rule that the walk stands at; where there is none, it stays there
unfoldable pub found_at : List Rule → State → ℕ → Verdict → VisitOutcome
found_at rules at visits found =
    cond (ltb at.next (length rules))
    (found_by (at.next + 1) (at.next + chain_rest (drop at.next rules)) at.chain (entry_by at visits) found
    (eqb (get_or rules at.next no_rule).link 1))
    (passed found at.next at.chain)

-- a rule error
abbrev pub is_error : Verdict → Bool
is_error Verdict.Missed = false
is_error Verdict.Matched = false
is_error Verdict.Removed = false
is_error Verdict.Error = true
