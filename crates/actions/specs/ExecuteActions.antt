-- What executing a rule's actions answers and leaves.
use Rattle.std.specs.Prelude.{ℕ, ◌≡◌, List, map, length, take}
use Rattle.reading.specs.Lists.{over}
use Rattle.reading.specs.Numbers.{disruptive_kind, disruptive_value, flow_kind, flow_value}
use Rattle.reading.specs.Actions.{Placed, last_disruptive, last_flow, last_disruptive_kind, last_disruptive_value, last_flow_kind, last_flow_value, metadata_of, controls_in}
use Rattle.actions.specs.declared.execute.RuleActions.{RuleActions}

-- where placed actions stand in the whole lent action list
abbrev pub positions_of : List Placed → List ℕ
positions_of ps = map (λ p. p.position) ps

-- Of a rule with the actions `ps`: what is answered, and what is left of the lent list `found`. The positions of the control
-- actions stand at its start in their order, as many as fit, and the rest is as found.
-- The two outcomes are said in 01's numbers, of the records, which determines them (`disruptive-determined`, `flow-determined` of crate
-- theorems); and as the cases that the walk is defined with.
pub record Executed (ps : List Placed) (phase : ℕ) (found : List ℕ) (r : RuleActions) (left : List ℕ) : Type 0 where
  pub disruptive-kind : disruptive_kind r.disruptive ≡ last_disruptive_kind ps
  pub disruptive-value : disruptive_value r.disruptive ≡ last_disruptive_value ps
  pub flow-kind : flow_kind r.flow ≡ last_flow_kind ps
  pub flow-value : flow_value r.flow ≡ last_flow_value ps
  pub disruptive : r.disruptive ≡ last_disruptive ps
  pub flow : r.flow ≡ last_flow ps
  pub metadata : r.metadata ≡ metadata_of phase ps
  pub controls : r.controls ≡ length (controls_in ps)
  pub positions : left ≡ over found (take (length found) (positions_of (controls_in ps)))
