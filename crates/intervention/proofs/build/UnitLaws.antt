-- The parts of a unit's intervention. Assumes nothing.
use Rattle.std.specs.Prelude.{Option, Some, None}
use Prim.Native.Nat.{ℕ}
use mathlib.Core.Path.{◌≡◌, refl, ap, ◌∙◌}
use mathlib.Core.Bool.{Bool}
use mathlib.Core.List.{List}
use borrow.Author.Tests.{eq-eqb, ne_eqb}
use lib.ListN.{get_or}
use Rattle.reading.specs.declared.Place.{Place}
use Rattle.reading.specs.declared.CallSettings.{CallSettings}
use Rattle.reading.specs.declared.Rule.{Rule}
use Rattle.reading.specs.declared.Marker.{Marker}
use Rattle.reading.specs.declared.DisruptiveOutcome.{DisruptiveOutcome}
use Rattle.reading.specs.declared.RuleMetadata.{RuleMetadata}
use Rattle.reading.specs.declared.Intervention.{Intervention}
use Rattle.reading.specs.Records.{rule_list, action_list, given_of}
use Rattle.reading.specs.Actions.{Placed, actions_of, last_disruptive, metadata_of}
use Rattle.reading.specs.Call.{Given, no_rule, record_id, rule_at, id_at, actions_at}
use Rattle.reading.specs.Units.{starter_of, closer_of, stop_status, drops, address_of, if_different, unit_intervention}
use Rattle.intervention.specs.BuildIntervention.{status_by}

pub redirected : (phase at : ℕ) (d : DisruptiveOutcome) → d ≡ DisruptiveOutcome.Redirect at
    → Some (record { phase = phase; position = at }) ≡ address_of phase d
redirected phase at d e = rw e

pub same_id : (first id : Option ℕ) (a b : ℕ) → first ≡ Some a → id ≡ Some b → a ≡ b
    → None ≡ if_different first id
same_id first id a b h k e = rw (h, k, eq-eqb a b e)

pub other-id : (first id : Option ℕ) (a b : ℕ) → first ≡ Some a → id ≡ Some b → (a ≡ b → ⊥)
    → Some b ≡ if_different first id
other-id first id a b h k e = rw (h, k, ne_eqb a b e)

-- interventions with the same parts
built : {s s' : ℕ} {u u' l l' : Option Place} {c c' o o' : Option ℕ} (phase : ℕ) {d d' : Bool} {m m' : RuleMetadata}
    → s ≡ s' → u ≡ u' → l ≡ l' → c ≡ c' → o ≡ o' → d ≡ d' → m ≡ m'
    → ◌≡◌ {A = Intervention}
    (record { status = s; url = u; log = l; closing = c; starter = o; phase = phase; drop = d; metadata = m })
    (record { status = s'; url = u'; log = l'; closing = c'; starter = o'; phase = phase; drop = d'; metadata = m' })
built phase hs hu hl hc ho hd hm = rw (hs, hu, hl, hc, ho, hd, hm)

module _ (call : CallSettings) (rules actions : List ℕ) (markers : List Marker) (text outcomes : List ℕ) where
  abbrev given : Given
  given = given_of call rules actions markers text outcomes

  abbrev phase : ℕ
  phase = call.phase

  -- the Rust's reading asks for no status action
  status-is : (ps : List Placed) (d : DisruptiveOutcome) → status_by d call.default_status ≡ stop_status given ps d
  status-is ps DisruptiveOutcome.Nothing = refl
  status-is ps DisruptiveOutcome.Deny = refl
  status-is ps DisruptiveOutcome.Block = refl
  status-is ps DisruptiveOutcome.Pass = refl
  status-is ps DisruptiveOutcome.Allow = refl
  status-is ps (DisruptiveOutcome.Redirect at) = refl
  status-is ps DisruptiveOutcome.Drop = refl

  -- the parts that the functions gave, of the rules `r` at the starter and `k` at the closing member
  pub unit-is : (unit : List ℕ)
      → {starter closer : ℕ} → starter ≡ starter_of unit → closer ≡ closer_of unit
      → {r k : Rule} → r ≡ get_or (rule_list rules) starter no_rule → k ≡ get_or (rule_list rules) closer no_rule
      → {d : DisruptiveOutcome} → d ≡ last_disruptive (actions_of (action_list actions) r)
      → {m : RuleMetadata} → m ≡ metadata_of phase (actions_of (action_list actions) r)
      → {c : Option ℕ} → c ≡ record_id k
      → {u : Option Place} → u ≡ address_of phase d
      → {o : Option ℕ} → o ≡ if_different c m.id
      → {s : ℕ} → s ≡ status_by d call.default_status
      → {b : Bool} → b ≡ drops d
      → ◌≡◌ {A = Intervention}
      (record { status = s; url = u; log = m.msg; closing = c; starter = o; phase = phase; drop = b; metadata = m })
      (unit_intervention given unit)
  unfolding unit_intervention id_at actions_at rule_at
  unit-is unit starter-is closer-is r-is k-is d-is m-is c-is u-is o_is s-is b-is =
      let ps = actions_at given (starter_of unit) in
      let rule = r-is ∙ ap (λ (n : ℕ). get_or (rule_list rules) n no_rule) starter-is in
      let closing = c-is ∙ ap record_id (k-is ∙ ap (λ (n : ℕ). get_or (rule_list rules) n no_rule) closer-is) in
      let disruptive = d-is ∙ ap (λ (x : Rule). last_disruptive (actions_of (action_list actions) x)) rule in
      let metadata = m-is ∙ ap (λ (x : Rule). metadata_of phase (actions_of (action_list actions) x)) rule in
      built phase
      (s-is ∙ rw disruptive (status-is ps (last_disruptive ps)))
      (u-is ∙ ap (address_of phase) disruptive)
      (ap (λ (x : RuleMetadata). x.msg) metadata)
      closing
      (o_is ∙ rw (closing, metadata))
      (b-is ∙ ap drops disruptive)
      metadata
