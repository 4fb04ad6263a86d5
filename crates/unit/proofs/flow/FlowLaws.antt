-- Where the walk goes on after a closed unit, case by case. Assumes nothing.
use Rattle.std.specs.Prelude.{Option}
use Prim.Native.Nat.{ℕ, ◌+◌, min}
use mathlib.Core.Path.{◌≡◌, refl, sym, ◌∙◌}
use mathlib.Core.Logic.{◌⊎◌, inl, inr}
use mathlib.Core.List.{List}
use native.Mathlib.Omega.{arith}
use lib.ListN.{get_or}
use Rattle.reading.specs.declared.FlowOutcome.{FlowOutcome}
use Rattle.reading.specs.Reading.{rust}
use Rattle.reading.specs.declared.CallSettings.{CallSettings}
use Rattle.reading.specs.Records.{action_list, marker_list, given_of}
use Rattle.reading.specs.Text.{part_of}
use Rattle.reading.specs.Call.{Given, rule_count}
use Rattle.reading.specs.Markers.{marker_position}
use Rattle.reading.specs.Walk.{jump_from, after_flow, no_action}

-- what the callees gave, for a call with these lists
module _ (call : CallSettings) (rules actions markers text outcomes : List ℕ) (past n : ℕ)
    (count : n ≡ rule_count (given_of call rules actions (marker_list markers) text outcomes))
    (flow : FlowOutcome) (r : ℕ) where
  abbrev q : Given
  q = given_of call rules actions (marker_list markers) text outcomes

  pub flow-on : (flow ≡ FlowOutcome.Continue) ⊎ (flow ≡ FlowOutcome.Chain) → r ≡ min (past + 0) n
      → r ≡ min (after_flow q past flow) (rule_count q)
  flow-on (inl f) e = let z : past + 0 ≡ past = omega arith in e ∙ rw (f, z, count)
  flow-on (inr f) e = let z : past + 0 ≡ past = omega arith in e ∙ rw (f, z, count)

  pub flow-skip : (k : ℕ) → flow ≡ FlowOutcome.Skip k → r ≡ min (past + k) n → r ≡ min (after_flow q past flow) (rule_count q)
  flow-skip k f e = e ∙ rw (f, count)

  pub flow-after : (at : ℕ) → flow ≡ FlowOutcome.SkipAfter at → (found : Option ℕ)
      → found ≡ marker_position text (marker_list markers) (part_of text (get_or (action_list actions) at no_action).text)
      → ((p : Given) → p.reading ≡ rust → rule_count p ≡ n → r ≡ min (jump_from p past found) n)
      → r ≡ min (after_flow q past flow) (rule_count q)
  flow-after at f found g e = e q refl (sym count) ∙ rw (f, g, count)
