-- The number and the value of what a rule's actions come to determine its case: a promise that gives both leaves nothing open.
use Rattle.std.specs.Prelude.{ℕ, ◌≡◌, refl, cond, eqb}
use Rattle.std.proofs.Common.{sym, ap, ◌∙◌}
use Rattle.reading.specs.declared.DisruptiveOutcome.{DisruptiveOutcome}
use Rattle.reading.specs.declared.FlowOutcome.{FlowOutcome}
use Rattle.reading.specs.Numbers.{disruptive_kind, disruptive_value, flow_kind, flow_value}

-- the case of a number and a value
abbrev disruptive_of : ℕ → ℕ → DisruptiveOutcome
disruptive_of kind value =
    cond (eqb kind 1) DisruptiveOutcome.Deny
    (cond (eqb kind 2) DisruptiveOutcome.Block
    (cond (eqb kind 3) DisruptiveOutcome.Pass
    (cond (eqb kind 4) DisruptiveOutcome.Allow
    (cond (eqb kind 5) (DisruptiveOutcome.Redirect value)
    (cond (eqb kind 6) DisruptiveOutcome.Drop DisruptiveOutcome.Nothing)))))

disruptive-back : (d : DisruptiveOutcome) → disruptive_of (disruptive_kind d) (disruptive_value d) ≡ d
disruptive-back DisruptiveOutcome.Nothing = refl
disruptive-back DisruptiveOutcome.Deny = refl
disruptive-back DisruptiveOutcome.Block = refl
disruptive-back DisruptiveOutcome.Pass = refl
disruptive-back DisruptiveOutcome.Allow = refl
disruptive-back (DisruptiveOutcome.Redirect at) = refl
disruptive-back DisruptiveOutcome.Drop = refl

pub disruptive-determined : (d e : DisruptiveOutcome) → disruptive_kind d ≡ disruptive_kind e → disruptive_value d ≡ disruptive_value e → d ≡ e
disruptive-determined d e kind value =
    sym (disruptive-back d)
    ∙ ap (λ (n : ℕ). disruptive_of n (disruptive_value d)) kind
    ∙ ap (disruptive_of (disruptive_kind e)) value
    ∙ disruptive-back e

abbrev flow_of : ℕ → ℕ → FlowOutcome
flow_of kind value =
    cond (eqb kind 7) FlowOutcome.Chain
    (cond (eqb kind 8) (FlowOutcome.Skip value)
    (cond (eqb kind 9) (FlowOutcome.SkipAfter value) FlowOutcome.Continue))

flow-back : (f : FlowOutcome) → flow_of (flow_kind f) (flow_value f) ≡ f
flow-back FlowOutcome.Continue = refl
flow-back FlowOutcome.Chain = refl
flow-back (FlowOutcome.Skip n) = refl
flow-back (FlowOutcome.SkipAfter at) = refl

pub flow-determined : (f g : FlowOutcome) → flow_kind f ≡ flow_kind g → flow_value f ≡ flow_value g → f ≡ g
flow-determined f g kind value =
    sym (flow-back f) ∙ ap (λ (n : ℕ). flow_of n (flow_value f)) kind ∙ ap (flow_of (flow_kind g)) value ∙ flow-back g
