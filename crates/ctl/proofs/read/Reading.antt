-- What the reader answers and leaves, by its tests. Assumes nothing.
use Rattle.std.specs.Prelude.{Some, None}
use Prim.Native.Nat.{ℕ, ◌≤◌, ◌<◌, min}
use mathlib.Core.Path.{◌≡◌, refl, sym, ap, ◌∙◌}
use mathlib.Core.Bool.{Bool, true, false, cond, ◌||◌}
use mathlib.Core.Logic.{◌⊎◌, ⊎_elim, inl, inr}
use mathlib.Core.List.{List, [], ◌∷◌, map}
use native.Mathlib.Omega.{arith}
use borrow.Author.Tests.{lt-ltb, le-ltb}
use lib.Dec.{ltb, eqb}
use lib.ListN.{length, take}
use lib.Seq.{take_all}
use Rattle.reading.specs.declared.RuleIdRange.{RuleIdRange}
use Rattle.reading.specs.declared.CtlDirective.{CtlDirective}
use Rattle.reading.specs.Lists.{any, over}
use Rattle.reading.specs.Text.{same, ascii, trim, fold, holds_byte, cut_before, cut_after, id_parts, any_bad, ranges_in}
use Rattle.reading.specs.Directive.{Directive, rule_engine, rule_remove_by_id, rule_remove_target_by_id, request_body_access}
use Rattle.reading.specs.Directive.{request_body_processor, unsupported, engine_value, access_value, processor_value, removal_value}
use Rattle.reading.specs.Directive.{target_value, other_named, directive_named, directive_of, ranges_of, is_high, reader_answer, without_lists, start_of}
use Rattle.reading.specs.Directive.{end_of, ReaderOutcome, reader_outcome}
use Rattle.ctl.specs.WriteRanges.{all_fitting, Written}
use Rattle.ctl.specs.ReadDirective.{ranges_counted}

-- a directive without its lists still says how many ranges there are
pub counted : (lent : List ℕ) (d : Directive) → ranges_counted (without_lists lent d) ≡ length (ranges_of d)
counted lent (rule_engine m) = refl
counted lent (rule_remove_by_id rs) = refl
counted lent (rule_remove_target_by_id id target) = refl
counted lent (request_body_access a) = refl
counted lent (request_body_processor p) = refl
counted lent (unsupported r) = refl

-- a directive has no ranges, or those of its value
abbrev Known : List ℕ → Directive → Type 0
Known v d = (ranges_of d ≡ []) ⊎ (ranges_of d ≡ ranges_in (id_parts v))

module _ (v : List ℕ) where
  either : (b : Bool) (x y : Directive) → Known v x → Known v y → Known v (cond b x y)
  either true x y p q = p
  either false x y p q = q

  engine-known : (w : List ℕ) → Known v (engine_value w)
  engine-known w =
      either (same w (ascii "on")) _ _ (inl refl)
      (either (same w (ascii "off")) _ _ (inl refl) (either (same w (ascii "detectiononly")) _ _ (inl refl) (inl refl)))

  access-known : (w : List ℕ) → Known v (access_value w)
  access-known w = either (same w (ascii "on")) _ _ (inl refl) (either (same w (ascii "off")) _ _ (inl refl) (inl refl))

  processor-known : (w : List ℕ) → Known v (processor_value w)
  processor-known w =
      either (same w (ascii "urlencoded")) _ _ (inl refl)
      (either (same w (ascii "multipart")) _ _ (inl refl)
      (either (same w (ascii "json")) _ _ (inl refl) (either (same w (ascii "xml")) _ _ (inl refl) (inl refl))))

  target-known : Known v (target_value v)
  target-known =
      either (holds_byte 59 v) _ _
      (either (eqb (length (trim (cut_before 59 v))) 0 || eqb (length (trim (cut_after 59 v))) 0) _ _ (inl refl) (inl refl))
      (inl refl)

  removal-known : Known v (removal_value v)
  removal-known = either (any_bad (id_parts v) || eqb (length (ranges_in (id_parts v))) 0) _ _ (inl refl) (inr refl)

  other-known : (name : List ℕ) → Known v (other_named name)
  other-known name = either (same name (ascii "auditengine")) _ _ (inl refl) (either (same name (ascii "auditlogparts")) _ _ (inl refl) (inl refl))

  known : (name : List ℕ) → Known v (directive_named name v)
  known name =
      either (same name (ascii "ruleengine")) _ _ (engine-known (fold v))
      (either (same name (ascii "ruleremovebyid")) _ _ removal-known
      (either (same name (ascii "ruleremovetargetbyid")) _ _ target-known
      (either (same name (ascii "requestbodyaccess")) _ _ (access-known (fold v))
      (either (same name (ascii "requestbodyprocessor")) _ _ (processor-known (fold v)) (other-known name)))))

ranges-are : (name value : List ℕ) → (length (ranges_of (directive_of name value)) ≡ 0 → ⊥)
    → ranges_of (directive_of name value) ≡ ranges_in (id_parts (trim value))
unfolding directive_of
ranges-are name value n =
    ⊎_elim (λ e. absurd (n (ap length e))) (λ e. e) (known (trim value) (fold (trim name)))

over_none : (rs : List RuleIdRange) (g : RuleIdRange → ℕ) (l : List ℕ) → length rs ≡ 0 → l ≡ over l (map g rs)
over_none [] g l z = refl
over_none (r ∷ rs) g l z = absurd (omega arith)

-- the tests on the two texts, passed
pub record TextsPass (name value : List ℕ) : Type 0 where
  pub name-short : length name ≤ 65536
  pub value-short : length value ≤ 65536
  pub name-low : any is_high name ≡ false
  pub value_low : any is_high value ≡ false

-- the answer, by the tests in their order
module _ (name value : List ℕ) (room : ℕ) where
  pub name-long : 65536 < length name → reader_answer name value room ≡ 2
  unfolding reader_answer
  name-long h = rw (lt-ltb 65536 (length name) h)

  pub value-long : length name ≤ 65536 → 65536 < length value → reader_answer name value room ≡ 2
  unfolding reader_answer
  value-long a h = rw (le-ltb 65536 (length name) a, lt-ltb 65536 (length value) h)

  pub name-high : length name ≤ 65536 → length value ≤ 65536 → any is_high name ≡ true → reader_answer name value room ≡ 6
  unfolding reader_answer
  name-high a b e = rw (le-ltb 65536 (length name) a, le-ltb 65536 (length value) b, e)

  pub value-high : length name ≤ 65536 → length value ≤ 65536 → any is_high name ≡ false → any is_high value ≡ true
      → reader_answer name value room ≡ 6
  unfolding reader_answer
  value-high a b c e = rw (le-ltb 65536 (length name) a, le-ltb 65536 (length value) b, c, e)

  module _ (p : TextsPass name value) where
    by-room : reader_answer name value room ≡ cond (ltb room (length (ranges_of (directive_of name value)))) 7 0
    unfolding reader_answer
    by-room = rw (
      le-ltb 65536 (length name) p.name-short,
      le-ltb 65536 (length value) p.value-short,
      p.name-low,
      p.value_low,
    )

    pub too_short : room < length (ranges_of (directive_of name value)) → reader_answer name value room ≡ 7
    too_short h = by-room ∙ simp (lt-ltb room (length (ranges_of (directive_of name value))) h)

    pub fits : length (ranges_of (directive_of name value)) ≤ room → reader_answer name value room ≡ 0
    fits h = by-room ∙ simp (le-ltb room (length (ranges_of (directive_of name value))) h)

-- the list of a directive without ranges
pub unwritten : (name value : List ℕ) (g : RuleIdRange → ℕ) (l : List ℕ) → length (ranges_of (directive_of name value)) ≡ 0
    → l ≡ over l (map g (ranges_of (directive_of name value)))
unwritten name value g l z = over_none (ranges_of (directive_of name value)) g l z

-- the outcome of a call, by its answer
module _ (name value starts ends : List ℕ) where
  abbrev room : ℕ
  room = min (length starts) (length ends)

  pub refusal-answer : (n : ℕ) → reader_answer name value room ≡ n → eqb n 0 ≡ false
      → ◌≡◌ {A = ReaderOutcome} (record { answer = n; directive = None; starts = starts; ends = ends })
      (reader_outcome name value starts ends)
  unfolding reader_outcome
  refusal-answer n e z = rw (e, z)

  pub accepted : (d : CtlDirective) (starts' ends' : List ℕ) → reader_answer name value room ≡ 0
      → d ≡ without_lists value (directive_of name value)
      → starts' ≡ over starts (map start_of (ranges_of (directive_of name value)))
      → ends' ≡ over ends (map end_of (ranges_of (directive_of name value)))
      → ◌≡◌ {A = ReaderOutcome} (record { answer = 0; directive = Some d; starts = starts'; ends = ends' })
      (reader_outcome name value starts ends)
  unfolding reader_outcome
  accepted d starts' ends' e p q r = rw e (λ i. record { answer = 0; directive = Some (p i); starts = q i; ends = r i })

  -- the lists with the ranges written
  module _ (v starts' ends' : List ℕ) (ve : v ≡ trim value)
      (n : length (ranges_of (directive_of name value)) ≡ 0 → ⊥) (h : length (ranges_of (directive_of name value)) ≤ room)
      (w : Written v starts ends starts' ends') where
    all : all_fitting v starts ends ≡ ranges_of (directive_of name value)
    unfolding all_fitting
    all =
        let r : ranges_in (id_parts v) ≡ ranges_of (directive_of name value) = ap (λ (t : List ℕ). ranges_in (id_parts t)) ve ∙ sym
        (ranges-are name value n) in
        ap (take room) r ∙ take_all room (ranges_of (directive_of name value)) h

    pub starts-written : starts' ≡ over starts (map start_of (ranges_of (directive_of name value)))
    starts-written = w.starts-are ∙ ap (λ (l : List RuleIdRange). over starts (map start_of l)) all

    pub ends-written : ends' ≡ over ends (map end_of (ranges_of (directive_of name value)))
    ends-written = w.ends-are ∙ ap (λ (l : List RuleIdRange). over ends (map end_of l)) all
