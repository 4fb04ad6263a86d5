-- What the loop over a rule's actions keeps.
use Prim.Native.Nat.{ℕ, ◌+◌, ◌-◌, ◌≤◌, ◌<◌, ◌/◌, ◌*◌, min}
use mathlib.Core.Path.{◌≡◌, refl, sym, ap, subst, ◌∙◌}
use mathlib.Core.Bool.{Bool, true, false, cond}
use mathlib.Core.List.{List, [], ◌∷◌, ◌++◌, append-nil, map-append}
use native.Mathlib.Omega.{arith}
use borrow.Author.Tests.{eq-eqb, ne_eqb}
use lib.Dec.{eqb}
use lib.ListN.{length, get_or, set, replicate, length-append, length-map}
use lib.Seq.{set_out}
use Rattle.reading.specs.declared.Action.{Action}
use Rattle.reading.specs.Lists.{keep}
use Rattle.reading.specs.declared.Rule.{Rule}
use Rattle.reading.specs.Numbers.{disruptive_kind, disruptive_value, flow_kind, flow_value}
use Rattle.reading.specs.Actions.{Placed, actions_of, kind_of, disruptive_by, last_disruptive, flow_by, last_flow, controls_in}
use Rattle.reading.specs.Records.{action_list}
use Rattle.actions.specs.declared.execute.RuleActions.{RuleActions}
use Rattle.actions.specs.ExecuteActions.{positions_of, Executed}
use Rattle.actions.specs.Slots.{slot_of, placed_at, marked, marked_metadata}
use Rattle.lists.proofs.RecordLaws.{length-actions, action-is}
use Rattle.actions.proofs.execute.PlacedLaws.{up_to, up-to-none, up-to-more, up-to-end, controls-more}
use Rattle.actions.proofs.execute.MarkLaws.{Marks, marks-none, marks-more, marks-disruptive, marks-flow, marks-metadata}
use Rattle.actions.proofs.execute.NumberLaws.{disruptive-kind, disruptive-value, flow-kind, flow-value}
use Rattle.actions.proofs.execute.ControlLaws.{fitting, fitting-none, fitting-more}

-- after the actions `done`: the marks, the number of control actions, and the list of their positions, which was `found`
pub record Sofar (actions : List Action) (found : List ℕ) (done : List Placed) (last controls : List ℕ) (n : ℕ) : Type 0 where
  pub marks : Marks actions done last
  pub count : n ≡ length (controls_in done)
  pub positions : controls ≡ fitting found (positions_of (controls_in done))

pub sofar-none : (actions : List Action) (found : List ℕ) (first : ℕ) → Sofar actions found (up_to actions first first)
    (replicate 19 0) found 0
sofar-none actions found first =
    rw (up-to-none actions first) (record { marks = marks-none actions; count = refl; positions = sym (fitting-none found) })

-- one action more, by what the calls of a turn gave: s is its slot, controls' the list after it and m how many it adds
sofar-more : (actions : List Action) (found : List ℕ) (done : List Placed) (last controls : List ℕ) (n i s : ℕ)
    (controls' : List ℕ) (m : ℕ)
    → s ≡ slot_of (kind_of (placed_at actions i))
    → controls' ≡ cond (eqb (kind_of (placed_at actions i)) 19) (set controls n i) controls
    → m ≡ cond (eqb (kind_of (placed_at actions i)) 19) 1 0
    → Sofar actions found done last controls n
    → Sofar actions found (done ++ placed_at actions i ∷ []) (set last s (i + 1)) controls' (n + m)
sofar-more actions found done last controls n i s controls' m slot put more so =
    record {
      marks = marks-more actions done last i s slot so.marks;
      count = ap (λ (k : ℕ). n + k) more ∙ (counted t ∙ ap length (sym with_it));
      positions = put ∙ (written t ∙ ap (λ (l : List Placed). fitting found (positions_of l)) (sym with_it));
    }
  where
    p : Placed
    p = placed_at actions i

    t : Bool
    t = eqb (kind_of p) 19

    before : List Placed
    before = controls_in done

    with_it : controls_in (done ++ p ∷ []) ≡ before ++ keep t (p ∷ [])
    with_it = controls-more done p

    counted : (b : Bool) → n + cond b 1 0 ≡ length (before ++ keep b (p ∷ []))
    counted true = omega (arith, so.count, length-append before (p ∷ []))
    counted false = omega (arith, so.count, ap length (append-nil before))

    written : (b : Bool) → cond b (set controls n i) controls ≡ fitting found (positions_of (before ++ keep b (p ∷ [])))
    written true =
        let here : n ≡ length (positions_of before) = so.count ∙ sym (length-map before _) in
        ap (λ (l : List ℕ). set l n i) so.positions
        ∙ (ap (λ (k : ℕ). set (fitting found (positions_of before)) k i) here
        ∙ (fitting-more found (positions_of before) i ∙ ap (fitting found) (sym (map-append (λ q. q.position) before (p ∷ [])))))
    written false = so.positions ∙ ap (λ (l : List Placed). fitting found (positions_of l)) (sym (append-nil before))

-- a turn of the loop: the kind of the action at i was read from the lent numbers
module _ (words found : List ℕ) (first i : ℕ) (last controls : List ℕ) (n s : ℕ) (low : first ≤ i) (high : i < length words / 6)
    (slot : s ≡ slot_of (get_or words (6 * i) 0))
    (so : Sofar (action_list words) found (up_to (action_list words) first i) last controls n) where
  sofar-turn : (controls' : List ℕ) (m : ℕ)
      → controls' ≡ cond (eqb (get_or words (6 * i) 0) 19) (set controls n i) controls
      → m ≡ cond (eqb (get_or words (6 * i) 0) 19) 1 0
      → Sofar (action_list words) found (up_to (action_list words) first (i + 1)) (set last s (i + 1)) controls' (n + m)
  sofar-turn controls' m put more =
      let actions = action_list words in
      let kind : get_or words (6 * i) 0 ≡ kind_of (placed_at actions i) = ap (λ (a : Action). a.kind) (sym (action-is words i high)) in
      subst
      (λ (done : List Placed). Sofar actions found done (set last s (i + 1)) controls' (n + m))
      (sym (up-to-more actions first i low (omega (arith, length-actions words))))
      (sofar-more actions found (up_to actions first i) last controls n i s controls' m
      (slot ∙ ap slot_of kind)
      (put ∙ ap (λ (k : ℕ). cond (eqb k 19) (set controls n i) controls) kind)
      (more ∙ ap (λ (k : ℕ). cond (eqb k 19) 1 0) kind)
      so)

  -- a control action, with a place for its position or none
  pub sofar-put : get_or words (6 * i) 0 ≡ 19
      → Sofar (action_list words) found (up_to (action_list words) first (i + 1)) (set last s (i + 1)) (set controls n i) (n + 1)
  sofar-put e = let t = eq-eqb (get_or words (6 * i) 0) 19 e in sofar-turn (set controls n i) 1 (rw t) (rw t)

  pub sofar-full : get_or words (6 * i) 0 ≡ 19 → length controls ≤ n
      → Sofar (action_list words) found (up_to (action_list words) first (i + 1)) (set last s (i + 1)) controls (n + 1)
  sofar-full e h = rw (set_out controls n i h) at (sofar-put e)

  pub sofar-other : (get_or words (6 * i) 0 ≡ 19 → ⊥)
      → Sofar (action_list words) found (up_to (action_list words) first (i + 1)) (set last s (i + 1)) controls n
  sofar-other ne =
      let t = ne_eqb (get_or words (6 * i) 0) 19 ne in
      let z : n + 0 ≡ n = omega arith in
      rw z at (sofar-turn controls 0 (rw t) (rw t))

-- after the rule's last action, with what is made of the marks
pub sofar-end : (words found : List ℕ) (rule : Rule) (phase i : ℕ) (last controls : List ℕ) (r : RuleActions)
    → i ≡ rule.first + min rule.count (length words / 6 - rule.first)
    → r.disruptive ≡ disruptive_by (marked (action_list words) (get_or last 1 0))
    → r.flow ≡ flow_by (marked (action_list words) (get_or last 7 0))
    → r.metadata ≡ marked_metadata (action_list words) phase last
    → Sofar (action_list words) found (up_to (action_list words) rule.first i) last controls r.controls
    → Executed (actions_of (action_list words) rule) phase found r controls
sofar-end words found rule phase i last controls r end disruptive flow metadata so =
    let actions = action_list words in
    let past : i ≡ rule.first + min rule.count (length actions - rule.first) = omega (arith, length-actions words) in
    let whole : Sofar actions found (actions_of actions rule) last controls r.controls
    = subst (λ (done : List Placed). Sofar actions found done last controls r.controls) (up-to-end actions rule i past) so in
    let ps = actions_of actions rule in
    let d : r.disruptive ≡ last_disruptive ps = disruptive ∙ marks-disruptive actions ps last whole.marks in
    let f : r.flow ≡ last_flow ps = flow ∙ marks-flow actions ps last whole.marks in
    record {
      disruptive-kind = ap disruptive_kind d ∙ disruptive-kind ps;
      disruptive-value = ap disruptive_value d ∙ disruptive-value ps;
      flow-kind = ap flow_kind f ∙ flow-kind ps;
      flow-value = ap flow_value f ∙ flow-value ps;
      disruptive = d;
      flow = f;
      metadata = metadata ∙ marks-metadata actions (actions_of actions rule) last whole.marks phase;
      controls = whole.count;
      positions = whole.positions;
    }
