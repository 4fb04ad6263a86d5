-- Refusals 8 and 9, counted by the actions' codes.
use Prim.Native.Nat.{ℕ, suc, ◌+◌, ◌≤◌, min}
use mathlib.Core.Path.{◌≡◌, refl, sym, ap, fun_ext, ◌∙◌}
use mathlib.Core.Bool.{Bool, true, false, cond}
use mathlib.Core.List.{List, [], ◌∷◌, ◌++◌, map}
use native.Mathlib.Omega.{arith}
use borrow.Author.Tests.{lt-ltb, le-ltb, ltb-true, ltb-false, ne_eqb}
use lib.Dec.{ltb, eqb}
use lib.ListN.{length, take, drop, length-map}
use lib.Seq.{take_all, take_at}
use Rattle.reading.specs.declared.Action.{Action}
use Rattle.reading.specs.declared.Rule.{Rule}
use Rattle.reading.specs.declared.RuleEngineMode.{RuleEngineMode}
use Rattle.reading.specs.declared.BodyAccess.{BodyAccess}
use Rattle.reading.specs.declared.BodyProcessor.{BodyProcessor}
use Rattle.reading.specs.declared.UnsupportedReason.{UnsupportedReason}
use Rattle.reading.specs.Lists.{keep, over, total}
use Rattle.reading.specs.Text.{part_of}
use Rattle.reading.specs.Limits.{most_ranges, most_targets}
use Rattle.reading.specs.Directive.{Directive, rule_engine, rule_remove_by_id, rule_remove_target_by_id}
use Rattle.reading.specs.Directive.{request_body_access, request_body_processor, unsupported}
use Rattle.reading.specs.Directive.{directive_of, without_lists, range_count, target_count}
use Rattle.reading.specs.Actions.{Placed, placed_from, actions_of, controls_in, directive_in}
use Rattle.reading.specs.Call.{Given, Call}
use Rattle.reading.specs.Refusals.{rule_total, refused8, refused9}
use Rattle.apply.specs.Codes.{code_of, code_at, codes_of}
use Rattle.refusals.specs.Totals.{ranges_of_code, targets_of_code, rule_weight, adds_beyond, limit_refusal}
use Rattle.apply.proofs.codes.TotalLaws.{take-map, drop-map, total-map}

-- what an action adds: so much by its directive if it is a ctl action, else nothing
abbrev added : (Directive → ℕ) → List ℕ → Action → ℕ
added code-count text a = cond (eqb a.kind 19) (code-count (directive_of (part_of text a.text) (part_of text a.value))) 0

-- a rule's total, over its actions without their positions
placed_total : (code-count : Directive → ℕ) (text : List ℕ) (at : ℕ) (l : List Action)
    → total (λ p. code-count (directive_in text p)) (controls_in (placed_from at l)) ≡ total (added code-count text) l
unfolding directive_in
placed_total code-count text at [] = refl
placed_total code-count text at (a ∷ l) = go (eqb a.kind 19) (placed_total code-count text (suc at) l)
  where
    p : Placed
    p = record { position = at; action = a }

    rest : List Placed
    rest = controls_in (placed_from (suc at) l)

    go : (t : Bool) → total (λ p. code-count (directive_in text p)) rest ≡ total (added code-count text) l
        → total (λ p. code-count (directive_in text p)) (keep t (p ∷ []) ++ rest)
        ≡ cond t (code-count (directive_of (part_of text a.text) (part_of text a.value))) 0 + total (added code-count text) l
    go true h = omega (arith, h)
    go false h = omega (arith, h)

rule-total : (q : Given) (code-count : Directive → ℕ) (r : Rule)
    → rule_total q code-count r ≡ total (added code-count q.text) (take r.count (drop r.first q.actions))
unfolding rule_total actions_of
rule-total q code-count r = placed_total code-count q.text r.first (take r.count (drop r.first q.actions))

-- equal as far as 257
abbrev Alike : ℕ → ℕ → Type 0
Alike a b = min a 257 ≡ min b 257

total-alike : {A : Type 0} (f g : A → ℕ) → ((x : A) → Alike (f x) (g x)) → (l : List A) → Alike (total f l) (total g l)
total-alike f g h [] = refl
total-alike f g h (x ∷ l) = omega (arith, h x, total-alike f g h l)

exceeds-alike : (held a b : ℕ) → Alike a b → ltb 256 (held + a) ≡ ltb 256 (held + b)
exceeds-alike held a b h = go (ltb 256 (held + b)) refl
  where
    go : (t : Bool) → ltb 256 (held + b) ≡ t → ltb 256 (held + a) ≡ t
    go true e = lt-ltb 256 (held + a) (omega (arith, ltb-true 256 (held + b) e))
    go false e = le-ltb 256 (held + a) (omega (arith, ltb-false 256 (held + b) e))

-- what a code says of an action's ranges and targets
module _ (value : List ℕ) where
  ranges-by : (d : Directive) → Alike (ranges_of_code (code_of (without_lists value d))) (range_count d)
  ranges-by (rule_engine RuleEngineMode.On) = refl
  ranges-by (rule_engine RuleEngineMode.DetectionOnly) = refl
  ranges-by (rule_engine RuleEngineMode.Off) = refl
  ranges-by (rule_remove_by_id rs) = omega arith
  ranges-by (rule_remove_target_by_id id target) = refl
  ranges-by (request_body_access BodyAccess.On) = refl
  ranges-by (request_body_access BodyAccess.Off) = refl
  ranges-by (request_body_processor BodyProcessor.Urlencoded) = refl
  ranges-by (request_body_processor BodyProcessor.Multipart) = refl
  ranges-by (request_body_processor BodyProcessor.Json) = refl
  ranges-by (request_body_processor BodyProcessor.Xml) = refl
  ranges-by (unsupported UnsupportedReason.ModeValue) = refl
  ranges-by (unsupported UnsupportedReason.IdList) = refl
  ranges-by (unsupported UnsupportedReason.TargetForm) = refl
  ranges-by (unsupported UnsupportedReason.BodyAccessValue) = refl
  ranges-by (unsupported UnsupportedReason.Processor) = refl
  ranges-by (unsupported UnsupportedReason.Audit) = refl
  ranges-by (unsupported UnsupportedReason.Unrecognised) = refl

  targets_by : (d : Directive) → targets_of_code (code_of (without_lists value d)) ≡ target_count d
  targets_by (rule_engine RuleEngineMode.On) = refl
  targets_by (rule_engine RuleEngineMode.DetectionOnly) = refl
  targets_by (rule_engine RuleEngineMode.Off) = refl
  targets_by (rule_remove_by_id rs) = let z = ne_eqb (18 + min (length rs) 257) 17 (λ e. omega arith) in rw z
  targets_by (rule_remove_target_by_id id target) = refl
  targets_by (request_body_access BodyAccess.On) = refl
  targets_by (request_body_access BodyAccess.Off) = refl
  targets_by (request_body_processor BodyProcessor.Urlencoded) = refl
  targets_by (request_body_processor BodyProcessor.Multipart) = refl
  targets_by (request_body_processor BodyProcessor.Json) = refl
  targets_by (request_body_processor BodyProcessor.Xml) = refl
  targets_by (unsupported UnsupportedReason.ModeValue) = refl
  targets_by (unsupported UnsupportedReason.IdList) = refl
  targets_by (unsupported UnsupportedReason.TargetForm) = refl
  targets_by (unsupported UnsupportedReason.BodyAccessValue) = refl
  targets_by (unsupported UnsupportedReason.Processor) = refl
  targets_by (unsupported UnsupportedReason.Audit) = refl
  targets_by (unsupported UnsupportedReason.Unrecognised) = refl

module _ (text : List ℕ) (a : Action) where
  ranges-coded : Alike (ranges_of_code (code_at text a)) (added range_count text a)
  unfolding code_at
  ranges-coded = go (eqb a.kind 19)
    where
      d : Directive
      d = directive_of (part_of text a.text) (part_of text a.value)

      go : (t : Bool) → Alike (ranges_of_code (cond t (code_of (without_lists (part_of text a.value) d)) 0))
          (cond t (range_count d) 0)
      go true = ranges-by (part_of text a.value) d
      go false = refl

  targets-coded : targets_of_code (code_at text a) ≡ added target_count text a
  unfolding code_at
  targets-coded = go (eqb a.kind 19)
    where
      d : Directive
      d = directive_of (part_of text a.text) (part_of text a.value)

      go : (t : Bool) → targets_of_code (cond t (code_of (without_lists (part_of text a.value) d)) 0) ≡ cond t (target_count d) 0
      go true = targets_by (part_of text a.value) d
      go false = refl

-- what a rule weighs by the codes of all actions
rule-coded : (q : Given) (w : ℕ → ℕ) (r : Rule)
    → rule_weight w (codes_of q.text q.actions) r ≡ total (λ a. w (code_at q.text a)) (take r.count (drop r.first q.actions))
rule-coded q w r =
    let code = code_at q.text in
    let part : take r.count (drop r.first (map code q.actions)) ≡ map code
    (take r.count (drop r.first q.actions))
    = ap (take r.count) (drop-map code r.first q.actions) ∙ take-map code r.count (drop r.first q.actions) in
    ap (total w) part ∙ total-map code w (take r.count (drop r.first q.actions))

module _ (q : Call) where
  abbrev codes : List ℕ
  codes = codes_of q.given.text q.given.actions

  abbrev ranges : ℕ
  ranges = length q.transaction.controls.ranges

  abbrev targets : ℕ
  targets = length q.transaction.controls.targets

  ranges-rule : (r : Rule) → Alike (rule_weight ranges_of_code codes r) (rule_total q.given range_count r)
  ranges-rule r =
      ap (λ (m : ℕ). min m 257) (rule-coded q.given ranges_of_code r)
      ∙ (total-alike _ _ (ranges-coded q.given.text) (take r.count (drop r.first q.given.actions))
      ∙ ap (λ (m : ℕ). min m 257) (sym (rule-total q.given range_count r)))

  targets-rule : (r : Rule) → rule_weight targets_of_code codes r ≡ rule_total q.given target_count r
  targets-rule r =
      rule-coded q.given targets_of_code r
      ∙ (ap (λ (w : Action → ℕ). total w (take r.count (drop r.first q.given.actions))) (fun_ext (targets-coded q.given.text))
      ∙ sym (rule-total q.given target_count r))

  ranges-exceed : adds_beyond ranges_of_code most_ranges ranges q.given.rules codes ≡ refused8 q
  unfolding refused8
  ranges-exceed = exceeds-alike ranges _ _ (total-alike _ _ ranges-rule q.given.rules)

  targets-exceed : adds_beyond targets_of_code most_targets targets q.given.rules codes ≡ refused9 q
  unfolding refused9
  targets-exceed = ap (λ (w : Rule → ℕ). ltb 64 (targets + total w q.given.rules)) (fun_ext targets-rule)

  -- refusals 8 and 9 by the codes of the actions are those of 01
  pub limit_is : length q.given.actions ≤ 4096
      → limit_refusal q.given.rules (take 4096 codes) ranges targets ≡ cond (refused8 q) 8 (cond (refused9 q) 9 0)
  limit_is few =
      let all : take 4096 codes ≡ codes = take_all 4096 codes (omega (arith, length-map q.given.actions (code_at q.given.text))) in
      rw (all, ranges-exceed, targets-exceed)

-- the codes that `write_codes` leaves where all fit, and the front that they are
module _ (text : List ℕ) (actions : List Action) (found : List ℕ) (room : length actions ≤ length found) where
  pub codes-fit : over found (take (length found) (codes_of text actions)) ≡ over found (codes_of text actions)
  codes-fit =
      ap (over found)
      (take_all (length found) (codes_of text actions) (omega (arith, length-map actions (code_at text))))

  pub codes-front : take (length actions) (over found (codes_of text actions)) ≡ codes_of text actions
  codes-front = take_at (codes_of text actions) _ (length actions) (length-map actions (code_at text))
