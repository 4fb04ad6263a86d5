use mathlib.Core.Path.{◌≡◌, sym, ◌∙◌}
use Prim.Native.Nat.{ℕ}
use Rattle.std.proofs.lemmas.Result.{err_from_is_err_and}
use mathlib.Core.List.{List}
use Rattle.reading.specs.declared.CallSettings.{CallSettings}
use Rattle.reading.specs.Call.{Transaction, Lists}
use Rattle.lists.proofs.RefusalLaws.{numbered}
use Rattle.refusals.specs.FirstRefusal.{first_of_seven}
use Rattle.refusals.proofs.first.LentLaws.{first_from5}
use Rattle.refusals.proofs.first.LentLaws.{Lent, call_on, counted, four-first, past-four, says-5, says-6, says-7}
use Rattle.refusals.proofs.first.first_refusal.Goals as goal

-- what the function is given, with a transaction and lists
abbrev lent : CallSettings → List ℕ → List ℕ → List ℕ → List ℕ → List ℕ → Transaction → Lists → Lent
lent call rules actions markers text outcomes t lists = record {
  call = call;
  rules = rules;
  actions = actions;
  markers = markers;
  text = text;
  outcomes = outcomes;
  t = t;
  lists = lists;
}

-- each answer but the first: after each test it is one of the later refusals
pub returns-in_err-early_refusal : goal.returns-in_err-early_refusal
returns-in_err-early_refusal c t lists l free =
    let a = c.args in
    let x = lent a.call a.rules.now a.actions.now a.markers.now a.text.now a.outcomes.now t lists in
    let p = err_from_is_err_and c.from_residual.result c.from_residual.ensures.1 in
    let e = c.in_err-early_refusal.ensures (call_on x) (counted x l) in
    rw (p.1, p.2) (e ∙ sym (four-first (call_on x) (λ z. numbered _ (e ∙ z))))

pub returns-then-has_bad_record : goal.returns-then-has_bad_record
returns-then-has_bad_record c t lists l free =
    let a = c.args in
    let x = lent a.call a.rules.now a.actions.now a.markers.now a.text.now a.outcomes.now t lists in
    let from-5 : first_of_seven (call_on x) ≡ first_from5 (call_on x)
    = past-four (call_on x) (sym (c.in_ok-early_refusal.ensures (call_on x) (counted x l))) in
    rw (from-5, says-5 x l c.has_bad_record.ensures c.if-has_bad_record.true)

pub returns-then-has_high_byte : goal.returns-then-has_high_byte
returns-then-has_high_byte c t lists l free =
    let a = c.args in
    let x = lent a.call a.rules.now a.actions.now a.markers.now a.text.now a.outcomes.now t lists in
    let from-5 : first_of_seven (call_on x) ≡ first_from5 (call_on x)
    = past-four (call_on x) (sym (c.in_ok-early_refusal.ensures (call_on x) (counted x l))) in
    rw (from-5, says-5 x l c.has_bad_record.ensures c.if-has_bad_record.false, says-6 x l c.has_high_byte.ensures c.if-has_high_byte.true)

pub returns-then-has_no_room : goal.returns-then-has_no_room
returns-then-has_no_room c t lists l free =
    let a = c.args in
    let x = lent a.call a.rules.now a.actions.now a.markers.now a.text.now a.outcomes.now t lists in
    let from-5 : first_of_seven (call_on x) ≡ first_from5 (call_on x)
    = past-four (call_on x) (sym (c.in_ok-early_refusal.ensures (call_on x) (counted x l))) in
    rw (
      from-5,
      says-5 x l c.has_bad_record.ensures c.if-has_bad_record.false,
      says-6 x l c.has_high_byte.ensures c.if-has_high_byte.false,
      says-7 x l free c.has_no_room.ensures c.if-has_no_room.true,
    )

pub returns : goal.returns
returns c t lists l free =
    let a = c.args in
    let x = lent a.call a.rules.now a.actions.now a.markers.now a.text.now a.outcomes.now t lists in
    let from-5 : first_of_seven (call_on x) ≡ first_from5 (call_on x)
    = past-four (call_on x) (sym (c.in_ok-early_refusal.ensures (call_on x) (counted x l))) in
    rw (
      from-5,
      says-5 x l c.has_bad_record.ensures c.if-has_bad_record.false,
      says-6 x l c.has_high_byte.ensures c.if-has_high_byte.false,
      says-7 x l free c.has_no_room.ensures c.if-has_no_room.false,
    )
