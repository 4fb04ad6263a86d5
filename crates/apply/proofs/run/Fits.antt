-- Without code: where what is held and what its directives give is within the limits, a unit's codes do what its directives do; a unit
-- without a change leaves the controls; and no unit takes a target away. Assumes nothing.
use Prim.Native.Nat.{ℕ, zero, suc, ◌+◌, ◌-◌, ◌≤◌, ◌<◌, min}
use mathlib.Core.Path.{◌≡◌, refl, sym, ap, ap₂, ◌∙◌}
use mathlib.Core.Bool.{Bool, true, false, cond, ◌||◌}
use mathlib.Core.List.{List, [], ◌∷◌, ◌++◌, map}
use native.Mathlib.Omega.{arith}
use native.Mathlib.Numerals.{add-one}
use borrow.Author.Tests.{lt-ltb, le-ltb, le-leb, lt-leb, ne_eqb, ltb-false}
use lib.Dec.{eqb, ltb}
use lib.ListN.{length, take, drop, get_or, replicate, length-append}
use lib.Seq.{drop-drop, get_or-drop}
use Rattle.reading.specs.declared.Action.{Action}
use Rattle.reading.specs.declared.Rule.{Rule}
use Rattle.reading.specs.declared.Place.{Place}
use Rattle.reading.specs.declared.RuleIdRange.{RuleIdRange}
use Rattle.reading.specs.declared.RuleEngineMode.{RuleEngineMode}
use Rattle.reading.specs.declared.BodyAccess.{BodyAccess}
use Rattle.reading.specs.declared.BodyProcessor.{BodyProcessor}
use Rattle.reading.specs.declared.UnsupportedReason.{UnsupportedReason}
use Rattle.reading.specs.Lists.{any, keep, total, over}
use Rattle.reading.specs.Text.{ascii, same, part_of, trim, fold, holds_byte, cut_before, cut_after}
use Rattle.reading.specs.Directive.{
  Directive,
  rule_engine,
  rule_remove_by_id,
  rule_remove_target_by_id,
  request_body_access,
  request_body_processor,
  unsupported,
  engine_value,
  access_value,
  processor_value,
  removal_value,
  target_value,
  other_named,
  directive_of,
  ranges_of,
  range_count,
  target_count,
  without_lists,
}
use Rattle.reading.specs.Ranges.{add_ranges}
use Rattle.reading.specs.Controls.{Controls, with_ranges, with_targets, add_target, applied}
use Rattle.reading.specs.Actions.{Placed, placed_from, actions_of, controls_in, directive_in}
use Rattle.reading.specs.Call.{Given, no_rule, rule_at, actions_at}
use Rattle.reading.specs.Units.{action_controls, rule_controls, unit_controls}
use Rattle.reading.specs.Walk.{no_action}
use Rattle.reading.specs.Refusals.{rule_total}
use Rattle.apply.specs.Codes.{code_of, code_at, codes_of}
use Rattle.control.specs.declared.state.Controls as held
use Rattle.control.specs.ControlsStruct.{controls_of}
use Rattle.apply.specs.UnitChanges.{rule_changes, unit_changes, rule_adds, unit_adds}
use Rattle.apply.specs.AddedRanges.{is_removal, member_removes, unit_removes}
use Rattle.apply.specs.Append.{Changed}
use Rattle.apply.proofs.append.ChangedLaws.{changed-same, changed-as}
use Rattle.apply.proofs.changes.CodeLaws.{is_change}
use Rattle.apply.specs.UnitCodes.{Source, applied_code, applied_codes, rule_by_codes, unit_by_codes}
use Rattle.theorems.specs.WithinLimits.{Counted, ranges-counted, targets-counted, member-count}
use Rattle.apply.specs.Append.{target_if_room, ranges_if_room}
use Rattle.lists.proofs.Tests.{or-false-is, any_append}
use Rattle.apply.proofs.run.StepLaws.{Grown}
use Rattle.apply.proofs.run.RuleLaws.{is_adding}

-- A CODE THAT CHANGES NOTHING

few-idle : (at : Place) (value : List ℕ) (code : ℕ) (c : Controls) → code ≤ 7 → applied_code at value code c ≡ c
unfolding applied_code
few-idle at value code c h =
    let no : (n : ℕ) → 7 < n → eqb code n ≡ false = λ n k. ne_eqb code n (λ e. omega (arith, e)) in
    rw (
      le-leb code 16 (omega arith),
      no 8 (omega arith),
      no 9 (omega arith),
      no 10 (omega arith),
      no 11 (omega arith),
      no 12 (omega arith),
      no 13 (omega arith),
      no 14 (omega arith),
      no 15 (omega arith),
      no 16 (omega arith),
    )

codes-idle : (s : Source) (i : ℕ) (codes : List ℕ) (c : Controls) → any is_change codes ≡ false → applied_codes s i codes c ≡ c
codes-idle s i [] c h = refl
codes-idle s i (code ∷ codes) c h = go (ltb 7 code) refl h (codes-idle s (suc i) codes c)
  where
    at : Place
    at = record { phase = s.phase; position = i }

    value : List ℕ
    value = part_of s.text (get_or s.actions i no_action).value

    go : (b : Bool) → ltb 7 code ≡ b → (b || any is_change codes) ≡ false
        → (any is_change codes ≡ false → applied_codes s (suc i) codes c ≡ c)
        → applied_codes s (suc i) codes (applied_code at value code c) ≡ c
    go true e r others = absurd (let z : ◌≡◌ {A = ℕ} 0 1 = cc in omega arith)
    go false e r others = ap (applied_codes s (suc i) codes) (few-idle at value code c (ltb-false 7 code e)) ∙ others r

rule-idle : (s : Source) (codes : List ℕ) (r : Rule) (c : Controls) → rule_changes codes r ≡ false → rule_by_codes s codes r c ≡ c
unfolding rule_changes rule_by_codes
rule-idle s codes r c h = codes-idle s r.first (take r.count (drop r.first codes)) c h

-- a unit without a change
pub unit-idle : (s : Source) (codes : List ℕ) (rules : List Rule) (ms : List ℕ) (c : Controls)
    → unit_changes codes rules ms ≡ false → unit_by_codes s codes rules ms c ≡ c
unit-idle s codes rules [] c h = refl
unit-idle s codes rules (m ∷ ms) c h = go (rule_changes codes (get_or rules m no_rule)) refl h (unit-idle s codes rules ms c)
  where
    go : (b : Bool) → rule_changes codes (get_or rules m no_rule) ≡ b → (b || unit_changes codes rules ms) ≡ false
        → (unit_changes codes rules ms ≡ false → unit_by_codes s codes rules ms c ≡ c)
        → unit_by_codes s codes rules ms (rule_by_codes s codes (get_or rules m no_rule) c) ≡ c
    go true e r others = absurd (let z : ◌≡◌ {A = ℕ} 0 1 = cc in omega arith)
    go false e r others =
        ap (unit_by_codes s codes rules ms) (rule-idle s codes (get_or rules m no_rule) c e) ∙ others r

-- a code that adds ranges is one that changes the controls
adding-changes : (code : ℕ) → ltb 7 code ≡ false → ltb 17 code ≡ false
adding-changes code e = le-ltb 17 code (omega (arith, ltb-false 7 code e))

-- where no element passes a test, none passes a stricter one
any-stricter : {A : Type 0} (wide strict : A → Bool) → ((x : A) → wide x ≡ false → strict x ≡ false) → (xs : List A) → any wide xs ≡ false
    → any strict xs ≡ false
any-stricter wide strict h [] e = refl
any-stricter wide strict h (x ∷ xs) e = go (wide x) refl e (any-stricter wide strict h xs)
  where
    go : (b : Bool) → wide x ≡ b → (b || any wide xs) ≡ false → (any wide xs ≡ false → any strict xs ≡ false) → (strict x || any strict xs) ≡ false
    go true d r others = absurd (let z : ◌≡◌ {A = ℕ} 0 1 = cc in omega arith)
    go false d r others = rw (h x d) (others r)

rule-adds-not : (codes : List ℕ) (r : Rule) → rule_changes codes r ≡ false → rule_adds codes r ≡ false
unfolding rule_changes rule_adds
rule-adds-not codes r e = any-stricter is_change (λ code. ltb 17 code) adding-changes (take r.count (drop r.first codes)) e

-- a unit without a change leaves the struct
pub unit-unchanged : (s : Source) (codes : List ℕ) (rules : List Rule) (ms : List ℕ) (added : Bool) (c : held.Controls)
    → unit_changes codes rules ms ≡ false
    → Changed (unit_adds codes rules ms) added c added c (unit_by_codes s codes rules ms (controls_of c))
unit-unchanged s codes rules ms added c e =
    changed-as
    (sym (any-stricter (λ m. rule_changes codes (get_or rules m no_rule)) (λ m. rule_adds codes (get_or rules m no_rule))
    (λ m. rule-adds-not codes (get_or rules m no_rule)) ms e))
    (sym (unit-idle s codes rules ms (controls_of c) e))
    (changed-same added c)

-- NO DIRECTIVE TAKES A TARGET AWAY

applied-grown : (c : Controls) (at : Place) (d : Directive) → Grown c (applied c at d)
applied-grown c at (rule_engine m) = omega arith
applied-grown c at (rule_remove_by_id rs) = omega arith
applied-grown c at (rule_remove_target_by_id id target) = omega (arith, length-append c.targets (at ∷ []))
applied-grown c at (request_body_access a) = omega arith
applied-grown c at (request_body_processor p) = omega arith
applied-grown c at (unsupported r) = omega arith

actions-grown : (q : Given) (ps : List Placed) (c : Controls) → Grown c (action_controls q ps c)
actions-grown q [] c = omega arith
actions-grown q (p ∷ ps) c =
    let d = applied c (record { phase = q.settings.phase; position = p.position }) (directive_in q.text p) in
    omega (
      arith,
      applied-grown c (record { phase = q.settings.phase; position = p.position }) (directive_in q.text p),
      actions-grown q ps d,
    )

rule-grows : (q : Given) (m : ℕ) (c : Controls) → Grown c (rule_controls q m c)
unfolding rule_controls
rule-grows q m c = actions-grown q (controls_in (actions_at q m)) c

pub grows : (q : Given) (ms : List ℕ) (c : Controls) → Grown c (unit_controls q ms c)
grows q [] c = omega arith
grows q (m ∷ ms) c =
    omega (arith, rule-grows q m c, grows q ms (rule_controls q m c))

-- THE RANGES OF A DIRECTIVE ARE THOSE OF ITS VALUE

-- 1 for ruleRemoveById
abbrev removing : Directive → ℕ
removing (rule_engine m) = 0
removing (rule_remove_by_id rs) = 1
removing (rule_remove_target_by_id id target) = 0
removing (request_body_access a) = 0
removing (request_body_processor p) = 0
removing (unsupported r) = 0

engine-no : (w : List ℕ) → removing (engine_value w) ≡ 0
engine-no w = go (same w (ascii "on")) (same w (ascii "off")) (same w (ascii "detectiononly"))
  where
    go : (a b d : Bool)
        → removing
        (cond a (rule_engine RuleEngineMode.On)
        (cond b (rule_engine RuleEngineMode.Off) (cond d (rule_engine RuleEngineMode.DetectionOnly) (unsupported UnsupportedReason.ModeValue))))
        ≡ 0
    go true b d = refl
    go false true d = refl
    go false false true = refl
    go false false false = refl

access-no : (w : List ℕ) → removing (access_value w) ≡ 0
access-no w = go (same w (ascii "on")) (same w (ascii "off"))
  where
    go : (a b : Bool)
        → removing (cond a (request_body_access BodyAccess.On) (cond b (request_body_access BodyAccess.Off) (unsupported UnsupportedReason.BodyAccessValue))) ≡ 0
    go true b = refl
    go false true = refl
    go false false = refl

processor-no : (w : List ℕ) → removing (processor_value w) ≡ 0
processor-no w = go (same w (ascii "urlencoded")) (same w (ascii "multipart")) (same w (ascii "json")) (same w (ascii "xml"))
  where
    go : (a b d e : Bool)
        → removing
        (cond a (request_body_processor BodyProcessor.Urlencoded)
        (cond b (request_body_processor BodyProcessor.Multipart)
        (cond d (request_body_processor BodyProcessor.Json)
        (cond e (request_body_processor BodyProcessor.Xml) (unsupported UnsupportedReason.Processor)))))
        ≡ 0
    go true b d e = refl
    go false true d e = refl
    go false false true e = refl
    go false false false true = refl
    go false false false false = refl

target-no : (value : List ℕ) → removing (target_value value) ≡ 0
target-no value =
    go (holds_byte 59 value) (eqb (length id) 0 || eqb (length target) 0)
  where
    id : List ℕ
    id = trim (cut_before 59 value)

    target : List ℕ
    target = trim (cut_after 59 value)

    go : (a b : Bool) → removing (cond a (cond b (unsupported UnsupportedReason.TargetForm) (rule_remove_target_by_id id target)) (unsupported UnsupportedReason.TargetForm)) ≡ 0
    go true true = refl
    go true false = refl
    go false b = refl

other-no : (name : List ℕ) → removing (other_named name) ≡ 0
other-no name = go (same name (ascii "auditengine")) (same name (ascii "auditlogparts"))
  where
    go : (a b : Bool)
        → removing (cond a (unsupported UnsupportedReason.Audit) (cond b (unsupported UnsupportedReason.Audit) (unsupported UnsupportedReason.Unrecognised))) ≡ 0
    go true b = refl
    go false true = refl
    go false false = refl

removal-is : (name value : List ℕ) (rs : List RuleIdRange) → directive_of name value ≡ rule_remove_by_id rs
    → ranges_of (removal_value (trim value)) ≡ rs
unfolding directive_of
removal-is name value rs e =
    go (same w (ascii "ruleengine")) (same w (ascii "ruleremovebyid")) (same w (ascii "ruleremovetargetbyid"))
    (same w (ascii "requestbodyaccess")) (same w (ascii "requestbodyprocessor")) e
  where
    w : List ℕ
    w = fold (trim name)

    v : List ℕ
    v = trim value

    -- a directive of another sort
    other : (d : Directive) → removing d ≡ 0 → d ≡ rule_remove_by_id rs → ranges_of (removal_value v) ≡ rs
    other d n h = absurd (omega (arith, n, ap removing h))

    go : (b1 b2 b3 b4 b5 : Bool)
        → cond b1 (engine_value (fold v))
        (cond b2 (removal_value v)
        (cond b3 (target_value v) (cond b4 (access_value (fold v)) (cond b5 (processor_value (fold v)) (other_named w)))))
        ≡ rule_remove_by_id rs
        → ranges_of (removal_value v) ≡ rs
    go true b2 b3 b4 b5 h = other (engine_value (fold v)) (engine-no (fold v)) h
    go false true b3 b4 b5 h = ap ranges_of h
    go false false true b4 b5 h = other (target_value v) (target-no v) h
    go false false false true b5 h = other (access_value (fold v)) (access-no (fold v)) h
    go false false false false true h = other (processor_value (fold v)) (processor-no (fold v)) h
    go false false false false false h = other (other_named w) (other-no w) h

-- ONE ACTION, WHERE WHAT IS HELD AND WHAT IT GIVES IS WITHIN THE LIMITS

-- controls with room for so many ranges and targets more
pub record HasRoom (c : Controls) (ranges targets : ℕ) : Type 0 where
  pub for-ranges : length c.ranges + ranges ≤ 256
  pub for-targets : length c.targets + targets ≤ 64

all_fit : (c : Controls) (rs : List RuleIdRange) → length c.ranges + length rs ≤ 256 → ranges_if_room c rs ≡ with_ranges c (add_ranges c.ranges rs)
all_fit c rs h = rw (le-ltb 256 (length c.ranges + length rs) h)

target_fits : (c : Controls) (at : Place) → length c.targets + 1 ≤ 64 → target_if_room c at ≡ with_targets c (add_target c.targets at)
target_fits c at h = rw (lt-leb 64 (length c.targets) (omega arith))

coded-ranges : (at : Place) (value : List ℕ) (code : ℕ) (c : Controls) → 17 < code
    → applied_code at value code c ≡ ranges_if_room c (ranges_of (removal_value (trim value)))
unfolding applied_code
coded-ranges at value code c h = rw (lt-leb code 16 (omega arith), ne_eqb code 17 (λ e. omega arith))

directive-fits : (at : Place) (name value : List ℕ) (d : Directive) (c : Controls) → directive_of name value ≡ d
    → HasRoom c (range_count d) (target_count d) → applied_code at value (code_of (without_lists value d)) c ≡ applied c at d
unfolding applied_code
directive-fits at name value (rule_engine RuleEngineMode.On) c e h = refl
directive-fits at name value (rule_engine RuleEngineMode.DetectionOnly) c e h = refl
directive-fits at name value (rule_engine RuleEngineMode.Off) c e h = refl
directive-fits at name value (rule_remove_by_id rs) c e h =
    coded-ranges at value (18 + min (length rs) 257) c (omega arith)
    ∙ (ap (ranges_if_room c) (removal-is name value rs e) ∙ all_fit c rs h.for-ranges)
directive-fits at name value (rule_remove_target_by_id id target) c e h = target_fits c at h.for-targets
directive-fits at name value (request_body_access BodyAccess.On) c e h = refl
directive-fits at name value (request_body_access BodyAccess.Off) c e h = refl
directive-fits at name value (request_body_processor BodyProcessor.Urlencoded) c e h = refl
directive-fits at name value (request_body_processor BodyProcessor.Multipart) c e h = refl
directive-fits at name value (request_body_processor BodyProcessor.Json) c e h = refl
directive-fits at name value (request_body_processor BodyProcessor.Xml) c e h = refl
directive-fits at name value (unsupported UnsupportedReason.ModeValue) c e h = refl
directive-fits at name value (unsupported UnsupportedReason.IdList) c e h = refl
directive-fits at name value (unsupported UnsupportedReason.TargetForm) c e h = refl
directive-fits at name value (unsupported UnsupportedReason.BodyAccessValue) c e h = refl
directive-fits at name value (unsupported UnsupportedReason.Processor) c e h = refl
directive-fits at name value (unsupported UnsupportedReason.Audit) c e h = refl
directive-fits at name value (unsupported UnsupportedReason.Unrecognised) c e h = refl

-- its code says whether a directive adds ranges
directive-removes : (value : List ℕ) (d : Directive) → is_adding (code_of (without_lists value d)) ≡ is_removal d
directive-removes value (rule_engine RuleEngineMode.On) = refl
directive-removes value (rule_engine RuleEngineMode.DetectionOnly) = refl
directive-removes value (rule_engine RuleEngineMode.Off) = refl
directive-removes value (rule_remove_by_id rs) = lt-ltb 17 (18 + min (length rs) 257) (omega arith)
directive-removes value (rule_remove_target_by_id id target) = refl
directive-removes value (request_body_access BodyAccess.On) = refl
directive-removes value (request_body_access BodyAccess.Off) = refl
directive-removes value (request_body_processor BodyProcessor.Urlencoded) = refl
directive-removes value (request_body_processor BodyProcessor.Multipart) = refl
directive-removes value (request_body_processor BodyProcessor.Json) = refl
directive-removes value (request_body_processor BodyProcessor.Xml) = refl
directive-removes value (unsupported UnsupportedReason.ModeValue) = refl
directive-removes value (unsupported UnsupportedReason.IdList) = refl
directive-removes value (unsupported UnsupportedReason.TargetForm) = refl
directive-removes value (unsupported UnsupportedReason.BodyAccessValue) = refl
directive-removes value (unsupported UnsupportedReason.Processor) = refl
directive-removes value (unsupported UnsupportedReason.Audit) = refl
directive-removes value (unsupported UnsupportedReason.Unrecognised) = refl

-- LISTS OF CODES WITH ZEROS BEHIND THEM

abbrev pub zeros : ℕ → List ℕ
zeros k = replicate k 0

drop-zeros : (i k : ℕ) → drop i (zeros k) ≡ zeros (k - i)
drop-zeros zero k = let z : k - zero ≡ k = omega arith in rw z
drop-zeros (suc i) zero = let z : zero - suc i ≡ zero = omega arith in rw z
drop-zeros (suc i) (suc k) = let z : suc k - suc i ≡ k - i = omega arith in rw z (drop-zeros i k)

take-zeros : (n k : ℕ) → any is_change (take n (zeros k)) ≡ false
take-zeros zero k = refl
take-zeros (suc n) zero = refl
take-zeros (suc n) (suc k) = take-zeros n k

pub drop-padded : (f : Action → ℕ) (l : List Action) (i k : ℕ) → drop i (map f l ++ zeros k) ≡ map f (drop i l) ++ zeros
    (k - (i - length l))
drop-padded f l zero k = let z : k - (zero - length l) ≡ k = omega arith in rw z
drop-padded f [] (suc i) k = let z : suc i - zero ≡ suc i = omega arith in rw z (drop-zeros (suc i) k)
drop-padded f (x ∷ l) (suc i) k = let z : suc i - suc (length l) ≡ i - length l = omega arith in rw z (drop-padded f l i k)

-- what stands from i on: the element there, and those after it
head-is : (l : List Action) (i : ℕ) (a : Action) (r : List Action) → drop i l ≡ a ∷ r → get_or l i no_action ≡ a
head-is l i a r e =
    let z : i + 0 ≡ i = omega arith in
    let h : get_or l (i + 0) no_action ≡ a = sym (get_or-drop i l 0 no_action) ∙ ap (λ (m : List Action). get_or m 0 no_action) e in
    rw z at h

tail-is : (l : List Action) (i : ℕ) (a : Action) (r : List Action) → drop i l ≡ a ∷ r → drop (suc i) l ≡ r
tail-is l i a r e = ap (λ (n : ℕ). drop n l) (sym (add-one i)) ∙ (sym (drop-drop 1 i l) ∙ ap (drop 1) e)

-- A CALL'S CODES

abbrev pub source_of : Given → Source
source_of q = record { phase = q.settings.phase; text = q.text; actions = q.actions }

module _ (q : Given) where
  abbrev s : Source
  s = source_of q

  abbrev placed : ℕ → Action → Placed
  placed i a = record { position = i; action = a }

  abbrev place : ℕ → Place
  place i = record { phase = q.settings.phase; position = i }

  -- what an action leaves: itself nothing, where it is no ctl
  abbrev after_action : ℕ → Action → Controls → Controls
  after_action i a c = cond (eqb a.kind 19) (applied c (place i) (directive_in q.text (placed i a))) c

  -- how many ranges, or targets, an action gives
  abbrev gives : (Directive → ℕ) → ℕ → Action → ℕ
  gives given i a = cond (eqb a.kind 19) (given (directive_in q.text (placed i a))) 0

  action-fits : (i : ℕ) (a : Action) (c : Controls) → HasRoom c (gives range_count i a) (gives target_count i a)
      → applied_code (place i) (part_of q.text a.value) (code_at q.text a) c ≡ after_action i a c
  unfolding code_at directive_in
  action-fits i a c h = go (eqb a.kind 19) h.for-ranges h.for-targets
    where
      name : List ℕ
      name = part_of q.text a.text

      value : List ℕ
      value = part_of q.text a.value

      go : (b : Bool)
          → length c.ranges + cond b (range_count (directive_of name value)) 0 ≤ 256
          → length c.targets + cond b (target_count (directive_of name value)) 0 ≤ 64
          → applied_code (place i) value (cond b (code_of (without_lists value (directive_of name value))) 0) c
          ≡ cond b (applied c (place i) (directive_of name value)) c
      go true r t = directive-fits (place i) name value (directive_of name value) c refl (record { for-ranges = r; for-targets = t })
      go false r t = few-idle (place i) value 0 c (omega arith)

  -- after it there is room for what the others give
  action-counts : (count : Controls → ℕ) (given : Directive → ℕ) → Counted count given → (i : ℕ) (a : Action) (c : Controls)
      → count (after_action i a c) ≤ count c + gives given i a
  action-counts count given counted i a c = go (eqb a.kind 19)
    where
      go : (b : Bool)
          → count (cond b (applied c (place i) (directive_in q.text (placed i a))) c)
          ≤ count c + cond b (given (directive_in q.text (placed i a))) 0
      go true = counted.by_one c (place i) (directive_in q.text (placed i a))
      go false = omega arith

  action-gives : (given : Directive → ℕ) (i : ℕ) (a : Action) (rest : List Placed)
      → total (λ p. given (directive_in q.text p)) (keep (eqb a.kind 19) (placed i a ∷ []) ++ rest)
      ≡ gives given i a + total (λ p. given (directive_in q.text p)) rest
  action-gives given i a rest = go (eqb a.kind 19)
    where
      go : (b : Bool)
          → total (λ p. given (directive_in q.text p)) (keep b (placed i a ∷ []) ++ rest)
          ≡ cond b (given (directive_in q.text (placed i a))) 0 + total (λ p. given (directive_in q.text p)) rest
      go true = omega arith
      go false = omega arith

  -- the ctl actions from one on: the first, and those after it
  after_first : (i : ℕ) (a : Action) (rest : List Placed) (c : Controls)
      → action_controls q (keep (eqb a.kind 19) (placed i a ∷ []) ++ rest) c ≡ action_controls q rest (after_action i a c)
  after_first i a rest c = go (eqb a.kind 19)
    where
      go : (b : Bool)
          → action_controls q (keep b (placed i a ∷ []) ++ rest) c
          ≡ action_controls q rest (cond b (applied c (place i) (directive_in q.text (placed i a))) c)
      go true = refl
      go false = refl

  -- the controls of so many actions from position i on
  abbrev out_of : ℕ → ℕ → List Action → Controls → Controls
  out_of i n l c = action_controls q (controls_in (placed_from i (take n l))) c

  -- what they give
  abbrev all_give : (Directive → ℕ) → ℕ → ℕ → List Action → ℕ
  all_give given i n l = total (λ p. given (directive_in q.text p)) (controls_in (placed_from i (take n l)))

  codes-fit : (l : List Action) (i n k : ℕ) (c : Controls) → drop i q.actions ≡ l
      → HasRoom c (all_give range_count i n l) (all_give target_count i n l)
      → applied_codes s i (take n (map (code_at q.text) l ++ zeros k)) c ≡ out_of i n l c
  codes-fit [] i zero k c e h = refl
  codes-fit [] i (suc n) k c e h = codes-idle s i (take (suc n) (zeros k)) c (take-zeros (suc n) k)
  codes-fit (a ∷ l) i zero k c e h = refl
  codes-fit (a ∷ l) i (suc n) k c e h =
      let rest = controls_in (placed_from (suc i) (take n l)) in
      let d = after_action i a c in
      let r = action-gives range_count i a rest in
      let t = action-gives target_count i a rest in
      let first : HasRoom c (gives range_count i a) (gives target_count i a)
      = record { for-ranges = omega (arith, h.for-ranges, r); for-targets = omega (arith, h.for-targets, t) } in
      let others : HasRoom d (all_give range_count (suc i) n l) (all_give target_count (suc i) n l)
      = record {
        for-ranges = omega (arith, h.for-ranges, r, action-counts (λ x. length x.ranges) range_count ranges-counted i a c);
        for-targets = omega (arith, h.for-targets, t, action-counts (λ x. length x.targets) target_count targets-counted i a c);
      } in
      ap (λ (x : Action). applied_codes s (suc i) (take n (map (code_at q.text) l ++ zeros k))
      (applied_code (place i) (part_of q.text x.value) (code_at q.text a) c)) (head-is q.actions i a l e)
      ∙ (ap (applied_codes s (suc i) (take n (map (code_at q.text) l ++ zeros k))) (action-fits i a c first)
      ∙ (codes-fit l (suc i) n k d (tail-is q.actions i a l e) others ∙ sym (after_first i a rest c)))

  -- an action's code adds ranges where its directive does
  action-removes : (i : ℕ) (a : Action) → is_adding (code_at q.text a) ≡ any (λ p. is_removal (directive_in q.text p)) (keep (eqb a.kind 19) (placed i a ∷ []))
  unfolding code_at directive_in
  action-removes i a = go (eqb a.kind 19)
    where
      d : Directive
      d = directive_of (part_of q.text a.text) (part_of q.text a.value)

      go : (b : Bool) → is_adding (cond b (code_of (without_lists (part_of q.text a.value) d)) 0)
          ≡ any (λ (p : Placed). is_removal (directive_of (part_of q.text p.action.text) (part_of q.text p.action.value))) (keep b (placed i a ∷ []))
      go true = directive-removes (part_of q.text a.value) d ∙ sym (or-false-is (is_removal d))
      go false = refl

  codes-remove : (l : List Action) (i n k : ℕ)
      → any is_adding (take n (map (code_at q.text) l ++ zeros k)) ≡ any (λ p. is_removal (directive_in q.text p)) (controls_in (placed_from i (take n l)))
  codes-remove [] i zero k = refl
  codes-remove [] i (suc n) k = any-stricter is_change is_adding adding-changes (take (suc n) (zeros k)) (take-zeros (suc n) k)
  codes-remove (a ∷ l) i zero k = refl
  codes-remove (a ∷ l) i (suc n) k =
      ap₂ ◌||◌ (action-removes i a) (codes-remove l (suc i) n k)
      ∙ sym (any_append (λ p. is_removal (directive_in q.text p)) (keep (eqb a.kind 19) (placed i a ∷ [])) (controls_in (placed_from (suc i) (take n l))))

  module _ (codes : List ℕ) (k : ℕ) (are : codes ≡ over (zeros k) (codes_of q.text q.actions)) where
    pub padded : codes ≡ codes_of q.text q.actions ++ zeros (k - length (codes_of q.text q.actions))
    padded = are ∙ ap (λ (l : List ℕ). codes_of q.text q.actions ++ l)
        (drop-zeros (length (codes_of q.text q.actions)) k)

    rule_fits : (m : ℕ) (c : Controls) → HasRoom c (rule_total q range_count (get_or q.rules m no_rule)) (rule_total q target_count (get_or q.rules m no_rule))
        → rule_by_codes s codes (get_or q.rules m no_rule) c ≡ rule_controls q m c
    unfolding rule_by_codes rule_controls actions_at rule_at actions_of rule_total
    rule_fits m c h =
        let r = get_or q.rules m no_rule in
        let size = k - length (codes_of q.text q.actions) in
        let from = drop-padded (code_at q.text) q.actions r.first size in
        ap (λ (l : List ℕ). applied_codes s r.first (take r.count (drop r.first l)) c) padded
        ∙ (ap (λ (l : List ℕ). applied_codes s r.first (take r.count l) c) from
        ∙ codes-fit (drop r.first q.actions) r.first r.count (size - (r.first - length q.actions)) c refl h)

    -- whether its codes add ranges is whether its directives do
    rule-removes : (m : ℕ) → rule_adds codes (get_or q.rules m no_rule) ≡ member_removes q m
    unfolding rule_adds member_removes actions_at rule_at actions_of
    rule-removes m =
        let r = get_or q.rules m no_rule in
        let size = k - length (codes_of q.text q.actions) in
        let from = drop-padded (code_at q.text) q.actions r.first size in
        ap (λ (l : List ℕ). any is_adding (take r.count (drop r.first l))) padded
        ∙ (ap (λ (l : List ℕ). any is_adding (take r.count l)) from
        ∙ codes-remove (drop r.first q.actions) r.first r.count (size - (r.first - length q.actions)))

    pub unit-removes : (ms : List ℕ) → unit_adds codes q.rules ms ≡ unit_removes q ms
    unit-removes [] = refl
    unit-removes (m ∷ ms) = ap₂ ◌||◌ (rule-removes m) (unit-removes ms)

    -- a unit whose members' directives give no more than there is room for
    pub unit-fits : (ms : List ℕ) (c : Controls)
        → HasRoom c (total (λ m. rule_total q range_count (get_or q.rules m no_rule)) ms) (total (λ m. rule_total q target_count (get_or q.rules m no_rule)) ms)
        → unit_by_codes s codes q.rules ms c ≡ unit_controls q ms c
    unit-fits [] c h = refl
    unit-fits (m ∷ ms) c h =
        let r = member-count q (λ x. length x.ranges) range_count ranges-counted m c in
        let t = member-count q (λ x. length x.targets) target_count targets-counted m c in
        ap (unit_by_codes s codes q.rules ms)
        (rule_fits m c (record { for-ranges = omega (arith, h.for-ranges); for-targets = omega (arith, h.for-targets) }))
        ∙ unit-fits ms (rule_controls q m c)
        (record { for-ranges = omega (arith, h.for-ranges, r); for-targets = omega (arith, h.for-targets, t) })
