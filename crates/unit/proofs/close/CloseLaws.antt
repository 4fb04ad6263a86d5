-- What closing a unit comes to, of what the callees gave. Assumes nothing.
use Rattle.std.specs.Prelude.{Option}
use Prim.Native.Nat.{ℕ, min}
use mathlib.Core.Path.{◌≡◌, ap, ◌∙◌}
use mathlib.Core.List.{List}
use lib.ListN.{length, take, get_or}
use Rattle.reading.specs.declared.CallSettings.{CallSettings}
use Rattle.reading.specs.declared.Rule.{Rule}
use Rattle.reading.specs.declared.DisruptiveOutcome.{DisruptiveOutcome}
use Rattle.reading.specs.declared.FlowOutcome.{FlowOutcome}
use Rattle.reading.specs.Lists.{over, gather}
use Rattle.reading.specs.Numbers.{list_of}
use Rattle.reading.specs.Records.{rule_list, action_list, marker_list, journal_list, matched_in, given_of}
use Rattle.reading.specs.Actions.{actions_of, last_flow, last_disruptive}
use Rattle.reading.specs.Call.{Given, rule_count, no_rule, record_id, rule_at, id_at, outcome_at, actions_at}
use Rattle.reading.specs.Units.{starter_of, unit_data, unit_flow, unit_disruptive}
use Rattle.reading.specs.Walk.{after_flow}
use Rattle.unit.specs.CloseUnit.{member_entry, Listed, Wrote}

module _ (call : CallSettings) (rules actions markers text outcomes members : List ℕ) (past : ℕ) (ids entries : List ℕ)
  where
    abbrev q : Given
    q = given_of call rules actions (marker_list markers) text outcomes

    abbrev unit : List ℕ
    unit = matched_in (journal_list members)

    module _ (rule : Rule) (rule-is : rule ≡ get_or (rule_list rules) (starter_of unit) no_rule) (id : Option ℕ)
        (id-is : id ≡ record_id rule) where
      starter-id : id ≡ id_at q (starter_of unit)
      unfolding id_at rule_at
      starter-id = id-is ∙ ap record_id rule-is

      data_is : gather (member_entry call.phase id (rule_list rules) outcomes) unit ≡ unit_data q unit
      unfolding id_at rule_at outcome_at
      data_is = ap (λ (i : Option ℕ). gather (member_entry call.phase i (rule_list rules) outcomes) unit) starter-id

      flow-is : last_flow (actions_of (action_list actions) rule) ≡ unit_flow q unit
      unfolding unit_flow actions_at rule_at
      flow-is = ap (λ (r : Rule). last_flow (actions_of (action_list actions) r)) rule-is

      disruptive-is : last_disruptive (actions_of (action_list actions) rule) ≡ unit_disruptive q unit
      unfolding unit_disruptive actions_at rule_at
      disruptive-is = ap (λ (r : Rule). last_disruptive (actions_of (action_list actions) r)) rule-is

      pub closed-now : (listed written next : ℕ) (flow : FlowOutcome) (disruptive : DisruptiveOutcome) (ids' entries' : List ℕ)
          → listed ≡ length (take (length ids) (list_of id)) → ids' ≡ over ids (take (length ids) (list_of id))
          → Listed (gather (member_entry call.phase id (rule_list rules) outcomes) unit) entries written entries'
          → flow ≡ last_flow (actions_of (action_list actions) rule) → disruptive ≡ last_disruptive
          (actions_of (action_list actions) rule)
          → next ≡ min (after_flow q past flow) (rule_count q)
          → Wrote q unit past ids entries
          (record { ids = listed; entries = written; next = next; disruptive = disruptive }) ids' entries'
      closed-now listed written next flow disruptive ids' entries' a b l f d n =
          record {
            id-count = rw (← starter-id) a;
            ids-are = rw (← starter-id) b;
            entry-count = rw (← data_is) l.count-is;
            entries-are = rw (← data_is) l.words;
            next-is = rw (← flow-is, ← f) n;
            disruptive-is = d ∙ disruptive-is;
          }
