-- What the tests of the phase call say of its refusals, and that nothing is to do, from what its callees leave.
use Prim.Native.Nat.{ℕ, ◌*◌, ◌/◌, ◌≤◌}
use mathlib.Core.Path.{◌≡◌, refl, sym, ap, subst, ◌∙◌}
use mathlib.Core.Bool.{Bool, true, false, cond, ◌||◌}
use mathlib.Core.List.{List}
use lib.ListN.{length, take, replicate}
use lib.Dec.{eqb}
use Rattle.reading.specs.declared.RuleEngineMode.{RuleEngineMode}
use Rattle.reading.specs.Lists.{any, over}
use Rattle.reading.specs.Numbers.{mode_of_number}
use Rattle.reading.specs.Controls.{is_off, mode_or, bad_controls}
use Rattle.reading.specs.Records.{rule_list, action_list, marker_list, journal_list, given_of, LentLists}
use Rattle.reading.specs.declared.CallSettings.{CallSettings}
use Rattle.reading.specs.declared.Report.{Report}
use Rattle.reading.specs.Report.{none_unsupported, report_with, report_of}
use Rattle.reading.specs.Call.{Given, Call}
use Rattle.reading.specs.Walk.{is_stopped, nothing_to_do}
use Rattle.reading.specs.Refusals.{refusal_of}
use Rattle.lists.proofs.RecordLaws.{length-rules}
use Rattle.lists.proofs.RecordLaws.{length-actions}
use Rattle.control.specs.ControlsStruct.{controls_of}
use Rattle.control.proofs.state.HeldLaws.{ranges-length, targets-length}
use Rattle.apply.specs.Codes.{codes_of, is_reason}
use Rattle.report.specs.ByCodes.{unsupported_by_codes}
use Rattle.report.proofs.unsupported.Coded.{told-where}
use Rattle.refusals.specs.Totals.{limit_refusal}
use Rattle.refusals.proofs.totals.Refused.{limit_is, codes-fit, codes-front}
use Rattle.refusals.specs.declared.first.Sizes.{Sizes}
use Rattle.refusals.specs.FirstRefusal.{Sized, Roomed, first_of_seven}
use Rattle.transaction.specs.declared.types.Transaction.{Transaction}
use Rattle.transaction.specs.declared.types.Phase.{Phase}
use Rattle.transaction.specs.RunPhase.{call_of, answer_without, Ran}
use Rattle.transaction.specs.WalkRules.{fresh, Ready, Walked}
use Rattle.transaction.proofs.Promise.{few-of-seven, seven-first, past-seven, ran-refused, ran-idle}
use Rattle.transaction.proofs.Promise.{lists_of_walk, busy, fresh-is, ready_of, visited-within, ran-walked}
use Rattle.transaction.proofs.Promise.{length-data-list, length-journal-list}

-- what the call is lent, in the code's form
pub record Lent : Type 0 where
  pub call : CallSettings
  pub rules : List ℕ
  pub actions : List ℕ
  pub markers : List ℕ
  pub text : List ℕ
  pub outcomes : List ℕ
  pub t : Transaction
  pub lists : LentLists

abbrev pub given_in : Lent → Given
given_in g = given_of g.call g.rules g.actions (marker_list g.markers) g.text g.outcomes

abbrev pub call_at : Lent → Call
call_at g = call_of (given_in g) g.t g.lists

module _ (g : Lent) where
  abbrev q : Call
  q = call_at g

  abbrev pub sizes_of : Sizes
  sizes_of = record {
    bad_controls = bad_controls (controls_of g.t.controls);
    ids_used = g.t.ids;
    entries_used = g.t.entries;
    ids = length g.lists.ids;
    entries = length g.lists.entries / 4;
  }

  pub sized-so : Sized q.transaction q.lists sizes_of
  sized-so = record {
    controls = refl;
    ids-used = refl;
    entries-used = refl;
    ids = refl;
    entries = length-data-list g.lists.entries;
  }

  pub roomed-so : Roomed q.lists (record { journal = length g.lists.journal / 2 })
  roomed-so = record { journal = length-journal-list g.lists.journal }

  -- that nothing is to do
  pub idle-is : (set : RuleEngineMode) (b : Bool) → set ≡ mode_of_number g.call.mode
      → b ≡ (g.t.allowed || is_stopped g.t.intervention || is_off (mode_or set g.t.controls.settings.mode) || eqb (length g.rules / 5) 0)
      → nothing_to_do q.given q.transaction ≡ b
  unfolding controls_of
  idle-is set b m e =
      let off : Bool = is_off (mode_or (mode_of_number g.call.mode) g.t.controls.settings.mode) in
      ap (λ (n : ℕ). g.t.allowed || is_stopped g.t.intervention || off || eqb n 0) (length-rules g.rules)
      ∙ sym (e ∙ rw m)

  -- the codes, and those of a lent part
  module _ (z : first_of_seven q ≡ 0) where
    few : length (action_list g.actions) ≤ 4096
    few = few-of-seven q z

    abbrev codes : List ℕ
    codes = codes_of g.text (action_list g.actions)

    pub digested : (d : List ℕ) → d ≡ over (replicate 4096 0) (take 4096 codes) → d ≡ over (replicate 4096 0) codes
    digested d e = e ∙ codes-fit g.text (action_list g.actions) (replicate 4096 0) few

    module _ (d : List ℕ) (e : d ≡ over (replicate 4096 0) codes) where
      front-is : take (length g.actions / 6) d ≡ codes
      front-is =
          ap (take (length g.actions / 6)) e
          ∙ (ap (λ (n : ℕ). take n (over (replicate 4096 0) codes)) (sym (length-actions g.actions))
          ∙ codes-front g.text (action_list g.actions) (replicate 4096 0) few)

      -- refusals 8 and 9, tested on the part of the codes that is lent, are the last two
      pub limited : (part : List ℕ) (k : ℕ) → part ≡ take (length g.actions / 6) d
          → k ≡ limit_refusal (rule_list g.rules) (take 4096 part) g.t.controls.ranges g.t.controls.targets
          → k ≡ refusal_of q
      limited part k p h =
          h
          ∙ (ap (λ (l : List ℕ). limit_refusal (rule_list g.rules) (take 4096 l) g.t.controls.ranges g.t.controls.targets) (p ∙ front-is)
          ∙ (ap (λ (n : ℕ). limit_refusal (rule_list g.rules) (take 4096 codes) n g.t.controls.targets) (sym (ranges-length g.t.controls))
          ∙ (ap (limit_refusal (rule_list g.rules) (take 4096 codes) (length q.transaction.controls.ranges)) (sym (targets-length g.t.controls))
          ∙ (limit_is q few ∙ sym (past-seven q z)))))

      -- what is told besides of a journal, by the codes
      pub told_at : (c entries : List ℕ) (some : Bool) (told : Report) → c ≡ d → some ≡ any is_reason (take 4096 codes)
          → told ≡ report_with (journal_list entries) (cond some (unsupported_by_codes c (rule_list g.rules) (journal_list entries)) none_unsupported)
          → told ≡ report_of (given_in g) (journal_list entries)
      told_at c entries some told ce is t =
          t ∙ ap (report_with (journal_list entries))
          (told-where g.call (rule_list g.rules) (action_list g.actions) (marker_list g.markers) g.text g.outcomes c (ce ∙ e) few some is (journal_list entries))

  -- the answers that leave everything as it was lent
  abbrev RanAs : Phase → Type 0
  RanAs r = Ran (given_in g) g.t g.lists r g.lists

  abbrev as_lent : ℕ → Phase
  as_lent k = record { answer = answer_without k; transaction = g.t }

  module _ (k : ℕ) (r : Phase) (e : r ≡ as_lent k) where
    pub ran-by : k ≡ refusal_of q → (k ≡ 0 → ⊥) → RanAs r
    ran-by a n = subst (λ (x : Phase). RanAs x) (sym e) (ran-refused (given_in g) g.t g.lists k a n)

    pub ran_first : k ≡ first_of_seven q → (k ≡ 0 → ⊥) → RanAs r
    ran_first a n = ran-by (a ∙ sym (seven-first q (λ z. n (a ∙ z)))) n

  pub ran-nothing : (r : Phase) → r ≡ as_lent 0 → refusal_of q ≡ 0 → nothing_to_do q.given q.transaction ≡ true → RanAs r
  ran-nothing r e a h = subst (λ (x : Phase). RanAs x) (sym e) (ran-idle (given_in g) g.t g.lists a h)

  -- the walk: what it asks, and what is promised of what it leaves
  module _ (a : refusal_of q ≡ 0) (h : nothing_to_do q.given q.transaction ≡ false) where
    is-new : g.t ≡ fresh g.t
    is-new = let b = busy q.given q.transaction h in fresh-is g.t b.unallowed b.unstopped

    pub ready_at : (c : List ℕ) → c ≡ over (replicate 4096 0) (codes_of g.text (action_list g.actions))
        → Ready (given_in g) (fresh g.t) c (lists_of_walk g.lists)
    ready_at c e =
        subst (λ (x : Transaction). Ready (given_in g) x c (lists_of_walk g.lists)) is-new (ready_of (given_in g) g.t g.lists a h c e)

    module _ (r : Phase) (l : LentLists) (w : Walked (given_in g) (fresh g.t) (lists_of_walk g.lists) r (lists_of_walk l)) where
      walked : Walked (given_in g) g.t (lists_of_walk g.lists) r (lists_of_walk l)
      walked = subst (λ (x : Transaction). Walked (given_in g) x (lists_of_walk g.lists) r (lists_of_walk l)) (sym is-new) w

      pub visited-at : 2 * r.answer.visits ≤ length l.journal
      visited-at = visited-within (given_in g) g.t g.lists a h r l walked

      pub ran-at : (told : Report) → told ≡ report_of (given_in g) (journal_list (take (2 * r.answer.visits) l.journal))
          → Ran (given_in g) g.t g.lists
          (record {
            answer = record { answer = r.answer.answer; error = r.answer.error; visits = r.answer.visits; report = told };
            transaction = r.transaction;
          }) l
      ran-at told e = ran-walked (given_in g) g.t g.lists a h r l walked told e
