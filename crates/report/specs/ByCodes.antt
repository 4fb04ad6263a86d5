-- The first unsupported directive of a journal's closed units, by the codes of apply::codes. That the codes of a call's actions give
-- what the definitions say is proved in proofs/unsupported/Coded.antt: nobody needs to believe this page.
use Rattle.std.specs.Prelude.{ℕ, List, [], ◌∷◌, take, drop, get_or}
use Rattle.reading.specs.declared.JournalEntry.{JournalEntry}
use Rattle.reading.specs.declared.Rule.{Rule}
use Rattle.reading.specs.declared.UnsupportedAt.{UnsupportedAt}
use Rattle.reading.specs.Lists.{keep, gather}
use Rattle.reading.specs.Reading.{rust}
use Rattle.reading.specs.Call.{Given, no_rule}
use Rattle.reading.specs.Replay.{units_of}
use Rattle.reading.specs.Report.{none_unsupported, first_or}
use Rattle.apply.specs.Codes.{is_reason}

-- the unsupported directives of a rule's codes, each with the rule's index
unfoldable pub coded : List ℕ → ℕ → Rule → List UnsupportedAt
coded codes m r = gather (λ code. keep (is_reason code) (record { index = m; reason = code } ∷ [])) (take r.count (drop r.first codes))

abbrev pub member_coded : List ℕ → List Rule → ℕ → List UnsupportedAt
member_coded codes rules m = coded codes m (get_or rules m no_rule)

-- a call that is given rules alone: nothing else decides which units a journal closes
abbrev pub rules_alone : List Rule → Given
rules_alone rules = record {
  reading = rust;
  settings = record { phase = 0; mode = 0; default_status = 0 };
  rules = rules;
  actions = [];
  markers = [];
  text = [];
  outcomes = [];
}

unfoldable pub unsupported_by_codes : List ℕ → List Rule → List JournalEntry → UnsupportedAt
unsupported_by_codes codes rules journal = first_or (gather (gather (member_coded codes rules)) (units_of (rules_alone rules) journal)) none_unsupported
