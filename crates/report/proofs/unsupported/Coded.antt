-- By the codes of a call's actions the first unsupported directive is the definitions'. Without code; assumes nothing.
use Prim.Native.Nat.{ℕ, zero, suc, ◌+◌, ◌-◌, ◌≤◌, min}
use mathlib.Core.Path.{◌≡◌, refl, sym, ap, fun_ext, ◌∙◌}
use mathlib.Core.Bool.{Bool, true, false, cond, ◌&&◌, ◌||◌}
use mathlib.Core.List.{List, [], ◌∷◌, ◌++◌, map}
use native.Mathlib.Omega.{arith}
use borrow.Author.Tests.{lt-leb}
use lib.Dec.{leb, eqb}
use lib.ListN.{length, take, drop, get_or, replicate, length-map}
use lib.Seq.{take_all}
use Rattle.reading.specs.declared.CallSettings.{CallSettings}
use Rattle.reading.specs.declared.Action.{Action}
use Rattle.reading.specs.declared.Marker.{Marker}
use Rattle.reading.specs.declared.Rule.{Rule}
use Rattle.reading.specs.declared.JournalEntry.{JournalEntry}
use Rattle.reading.specs.declared.RuleEngineMode.{RuleEngineMode}
use Rattle.reading.specs.declared.BodyAccess.{BodyAccess}
use Rattle.reading.specs.declared.BodyProcessor.{BodyProcessor}
use Rattle.reading.specs.declared.UnsupportedReason.{UnsupportedReason}
use Rattle.reading.specs.declared.UnsupportedAt.{UnsupportedAt}
use Rattle.reading.specs.Lists.{keep, any, gather, over}
use Rattle.reading.specs.Text.{part_of}
use Rattle.reading.specs.Numbers.{reason_number}
use Rattle.reading.specs.Directive.{Directive, rule_engine, rule_remove_by_id, rule_remove_target_by_id, request_body_access, request_body_processor, unsupported}
use Rattle.reading.specs.Directive.{directive_of, without_lists, reasons_of}
use Rattle.reading.specs.Actions.{Placed, placed_from, actions_of, controls_in, directive_in}
use Rattle.reading.specs.Reading.{rust}
use Rattle.reading.specs.Call.{Given, no_rule, rule_at, is_link, actions_at}
use Rattle.reading.specs.Replay.{held_after, closed_by, units_from, units_of}
use Rattle.reading.specs.Report.{none_unsupported, member_unsupported, first_or, unsupported_in}
use Rattle.apply.specs.Codes.{code_of, code_at, codes_of, is_reason}
use Rattle.apply.proofs.run.Fits.{zeros, drop-padded, padded}
use Rattle.lists.proofs.Tests.{or-false, any_append, gather_append}
use Rattle.report.specs.ByCodes.{coded, member_coded, rules_alone, unsupported_by_codes}
use Rattle.report.proofs.unsupported.RuleLaws.{reasons_in}

-- LISTS WITHOUT AN ELEMENT THAT PASSES A TEST, and elements that give nothing

module _ {A : Type 0} (test : A → Bool) where
  any-take : (n : ℕ) (l : List A) → any test l ≡ false → any test (take n l) ≡ false
  any-take zero l h = refl
  any-take (suc n) [] h = refl
  any-take (suc n) (x ∷ l) h = let p = or-false (test x) (any test l) h in rw p.0 (any-take n l p.1)

  any-drop : (n : ℕ) (l : List A) → any test l ≡ false → any test (drop n l) ≡ false
  any-drop zero l h = h
  any-drop (suc n) [] h = refl
  any-drop (suc n) (x ∷ l) h = any-drop n l (or-false (test x) (any test l) h).1

gather_none : {A B : Type 0} (give : A → List B) → ((x : A) → give x ≡ []) → (l : List A) → gather give l ≡ []
gather_none give none [] = refl
gather_none give none (x ∷ l) = rw (none x) (gather_none give none l)

-- ONE ACTION: its code is a reason where its directive has one

abbrev of_code : ℕ → ℕ → List UnsupportedAt
of_code m code = keep (is_reason code) (record { index = m; reason = code } ∷ [])

silent : (m : ℕ) (codes : List ℕ) → any is_reason codes ≡ false → reasons_in m codes ≡ []
silent m [] h = refl
silent m (code ∷ codes) h = let p = or-false (is_reason code) (any is_reason codes) h in rw p.0 (silent m codes p.1)

told : ℕ → List UnsupportedReason → List UnsupportedAt
told m rs = map (λ r. record { index = m; reason = reason_number r }) rs

directive-told : (m : ℕ) (value : List ℕ) (d : Directive) → reasons_in m (code_of (without_lists value d) ∷ []) ≡ told m (reasons_of d)
unfolding told
directive-told m value (rule_engine RuleEngineMode.On) = refl
directive-told m value (rule_engine RuleEngineMode.DetectionOnly) = refl
directive-told m value (rule_engine RuleEngineMode.Off) = refl
directive-told m value (rule_remove_by_id rs) =
    let many = lt-leb (18 + min (length rs) 257) 7 (omega arith) in
    rw many (none (leb 1 (18 + min (length rs) 257)) (record { index = m; reason = 18 + min (length rs) 257 } ∷ []))
  where
    none : (b : Bool) (us : List UnsupportedAt) → keep (b && false) us ++ [] ≡ []
    none true us = refl
    none false us = refl
directive-told m value (rule_remove_target_by_id id target) = refl
directive-told m value (request_body_access BodyAccess.On) = refl
directive-told m value (request_body_access BodyAccess.Off) = refl
directive-told m value (request_body_processor BodyProcessor.Urlencoded) = refl
directive-told m value (request_body_processor BodyProcessor.Multipart) = refl
directive-told m value (request_body_processor BodyProcessor.Json) = refl
directive-told m value (request_body_processor BodyProcessor.Xml) = refl
directive-told m value (unsupported UnsupportedReason.ModeValue) = refl
directive-told m value (unsupported UnsupportedReason.IdList) = refl
directive-told m value (unsupported UnsupportedReason.TargetForm) = refl
directive-told m value (unsupported UnsupportedReason.BodyAccessValue) = refl
directive-told m value (unsupported UnsupportedReason.Processor) = refl
directive-told m value (unsupported UnsupportedReason.Audit) = refl
directive-told m value (unsupported UnsupportedReason.Unrecognised) = refl

module _ (m : ℕ) (text : List ℕ) where
  -- what one action tells
  abbrev of_placed : Placed → List UnsupportedAt
  of_placed p = told m (reasons_of (directive_in text p))

  action-told : (at : ℕ) (a : Action) (rest : List ℕ) (others : List Placed) → reasons_in m rest ≡ gather of_placed others
      → reasons_in m (code_at text a ∷ rest) ≡ gather of_placed (keep (eqb a.kind 19) (record { position = at; action = a } ∷ []) ++ others)
  unfolding code_at directive_in
  action-told at a rest others h = by (eqb a.kind 19)
    where
      value : List ℕ
      value = part_of text a.value

      d : Directive
      d = directive_of (part_of text a.text) value

      by : (b : Bool)
          → reasons_in m (cond b (code_of (without_lists value d)) 0 ∷ rest) ≡ gather of_placed (keep b (record { position = at; action = a } ∷ []) ++ others)
      by true =
          gather_append (of_code m) (code_of (without_lists value d) ∷ []) rest
          ∙ (ap (λ (us : List UnsupportedAt). us ++ reasons_in m rest) (directive-told m value d) ∙ ap (λ (us : List UnsupportedAt). told m (reasons_of d) ++ us) h)
      by false = h

  actions-told : (at : ℕ) (l : List Action) → reasons_in m (codes_of text l) ≡ gather of_placed (controls_in (placed_from at l))
  actions-told at [] = refl
  actions-told at (a ∷ l) = action-told at a (codes_of text l) (controls_in (placed_from (suc at) l)) (actions-told (suc at) l)

  -- zeros behind the codes tell nothing
  zeros-silent : (n k : ℕ) → reasons_in m (take n (zeros k)) ≡ []
  zeros-silent zero k = refl
  zeros-silent (suc n) zero = refl
  zeros-silent (suc n) (suc k) = zeros-silent n k

  part-told : (n : ℕ) (l : List Action) (k : ℕ) → reasons_in m (take n (codes_of text l ++ zeros k)) ≡ reasons_in m (codes_of text (take n l))
  part-told zero l k = refl
  part-told (suc n) [] k = zeros-silent (suc n) k
  part-told (suc n) (a ∷ l) k = ap (λ (us : List UnsupportedAt). of_code m (code_at text a) ++ us) (part-told n l k)

-- A CALL in the Rust's reading

module _ (settings : CallSettings) (rules : List Rule) (actions : List Action) (markers : List Marker) (text outcomes : List ℕ) where
  abbrev g : Given
  g = record { reading = rust; settings = settings; rules = rules; actions = actions; markers = markers; text = text; outcomes = outcomes }

  -- which units a journal closes is decided by the rules alone
  units-same : (held : List ℕ) (es : List JournalEntry) → units_from (rules_alone rules) held es ≡ units_from g held es
  unfolding is_link rule_at
  units-same held [] = refl
  units-same held (e ∷ es) = ap (λ (us : List (List ℕ)). closed_by g held e ++ us) (units-same (held_after g held e) es)

  all-units : (journal : List JournalEntry) → units_of (rules_alone rules) journal ≡ units_of g journal
  unfolding units_of
  all-units journal = units-same [] journal

  module _ (codes : List ℕ) (are : codes ≡ over (replicate 4096 0) (codes_of text actions)) where
    member-told : (m : ℕ) → member_coded codes rules m ≡ member_unsupported g m
    unfolding coded member_unsupported actions_at rule_at actions_of told
    member-told m =
        let r = get_or rules m no_rule in
        let size = 4096 - length (codes_of text actions) in
        let few = drop r.first actions in
        ap (λ (l : List ℕ). reasons_in m (take r.count (drop r.first l))) (padded g codes 4096 are)
        ∙ (ap (λ (l : List ℕ). reasons_in m (take r.count l)) (drop-padded (code_at text) actions r.first size)
        ∙ (part-told m text r.count few (size - (r.first - length actions)) ∙ actions-told m text r.first (take r.count few)))

    pub by_codes : (journal : List JournalEntry) → unsupported_by_codes codes rules journal ≡ unsupported_in g journal
    unfolding unsupported_by_codes
    by_codes journal =
        ap (λ (us : List (List ℕ)). first_or (gather (gather (member_coded codes rules)) us) none_unsupported) (all-units journal)
        ∙ ap (λ (member : ℕ → List UnsupportedAt). first_or (gather (gather member) (units_of g journal)) none_unsupported) (fun_ext member-told)

    -- WHERE NO ACTION IS UNSUPPORTED

    zeros-none : (k : ℕ) → any is_reason (zeros k) ≡ false
    zeros-none zero = refl
    zeros-none (suc k) = zeros-none k

    module _ (none : any is_reason (codes_of text actions) ≡ false) where
      none-coded : any is_reason codes ≡ false
      none-coded =
          ap (any is_reason) (padded g codes 4096 are)
          ∙ (any_append is_reason (codes_of text actions) (zeros (4096 - length (codes_of text actions)))
          ∙ (ap (λ (b : Bool). b || any is_reason (zeros (4096 - length (codes_of text actions)))) none ∙ zeros-none (4096 - length (codes_of text actions))))

      member-silent : (m : ℕ) → member_coded codes rules m ≡ []
      unfolding coded
      member-silent m =
          let r = get_or rules m no_rule in
          silent m (take r.count (drop r.first codes)) (any-take is_reason r.count (drop r.first codes) (any-drop is_reason r.first codes none-coded))

      units-silent : (us : List (List ℕ)) → gather (gather (member_coded codes rules)) us ≡ []
      units-silent us = gather_none (gather (member_coded codes rules)) (gather_none (member_coded codes rules) member-silent) us

      none_told : (journal : List JournalEntry) → none_unsupported ≡ unsupported_by_codes codes rules journal
      unfolding unsupported_by_codes
      none_told journal = sym (ap (λ (us : List UnsupportedAt). first_or us none_unsupported) (units-silent (units_of (rules_alone rules) journal)))

    -- what is looked for only where some action is unsupported
    pub told-where : length actions ≤ 4096 → (some : Bool) → some ≡ any is_reason (take 4096 (codes_of text actions)) → (journal : List JournalEntry)
        → cond some (unsupported_by_codes codes rules journal) none_unsupported ≡ unsupported_in g journal
    told-where few some is journal = by some (is ∙ ap (any is_reason) (take_all 4096 (codes_of text actions) (omega (arith, length-map actions (code_at text))))) ∙ by_codes journal
      where
        by : (b : Bool) → b ≡ any is_reason (codes_of text actions)
            → cond b (unsupported_by_codes codes rules journal) none_unsupported ≡ unsupported_by_codes codes rules journal
        by true e = refl
        by false e = none_told (sym e) journal
