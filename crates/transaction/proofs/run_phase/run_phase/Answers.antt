use Prim.Native.Nat.{ℕ, ◌≤◌, ◌*◌, ◌/◌}
use mathlib.Core.Path.{◌≡◌, refl, sym, subst, ◌∙◌}
use mathlib.Core.List.{List}
use native.Mathlib.Omega.{arith}
use lib.ListN.{length, take, replicate}
use lib.Seq.{length-take-le}
use Rattle.reading.specs.declared.CallSettings.{CallSettings}
use Rattle.reading.specs.Lists.{over}
use Rattle.reading.specs.Records.{action_list, lent}
use Rattle.reading.specs.Refusals.{refusal_of}
use Rattle.lists.proofs.RecordLaws.{length-actions}
use Rattle.apply.specs.Codes.{codes_of}
use Rattle.reading.specs.Numbers.{refusal_number}
use Rattle.reading.specs.Call.{Lists}
use Rattle.reading.specs.Call.{Transaction as Transaction'}
use Rattle.reading.specs.Records.{rule_list}
use Rattle.lists.proofs.RefusalLaws.{numbered}
use Rattle.refusals.specs.declared.first.Sizes.{Sizes}
use Rattle.refusals.specs.FirstRefusal.{Sized, Roomed, first_of_seven}
use Rattle.refusals.specs.Totals.{limit_refusal}
use Rattle.transaction.specs.declared.types.Transaction.{Transaction}
use Rattle.transaction.proofs.Promise.{few-of-seven}
use Rattle.transaction.proofs.Tested.{Lent, given_in, call_at, sizes_of, sized-so, roomed-so, idle-is, digested, limited}
use Rattle.transaction.proofs.Tested.{ran_first, ran-by, ran-nothing, ready_at, visited-at, told_at, ran-at}
use Rattle.transaction.proofs.run_phase.run_phase.Goals as goal

-- what the call is given
abbrev given : Transaction → CallSettings → List ℕ → List ℕ → List ℕ → List ℕ → List ℕ → List ℕ → List ℕ → List ℕ → Lent
given t call rules actions markers text outcomes ids entries journal = record {
  call = call;
  rules = rules;
  actions = actions;
  markers = markers;
  text = text;
  outcomes = outcomes;
  t = t;
  lists = lent ids entries journal;
}

-- k is what refusals 1 to 7 answer
seven : (g : Lent) (sizes : Sizes) (k : ℕ) → sizes ≡ sizes_of g
    → ((t : Transaction') (lists : Lists) → Sized t lists sizes → Roomed lists (record { journal = length g.lists.journal / 2 })
    → k ≡ first_of_seven (record { given = given_in g; transaction = t; lists = lists }))
    → k ≡ first_of_seven (call_at g)
seven g sizes k e f =
    f (call_at g).transaction (call_at g).lists (subst (Sized (call_at g).transaction (call_at g).lists) (sym e) (sized-so g)) (roomed-so g)

-- so many codes fit as there are actions
few-fit : (g : Lent) (d : List ℕ) → first_of_seven (call_at g) ≡ 0 → length d ≡ 4096 → length g.actions / 6 ≤ length d
few-fit g d zero room = omega (arith, few-of-seven (call_at g) zero, length-actions g.actions)

-- past refusals 1 to 7: the codes d, and what refusals 8 and 9 answer by them
module _ (g : Lent) (zero : first_of_seven (call_at g) ≡ 0) (d : List ℕ)
    (written : d ≡ over (replicate 4096 0) (take 4096 (codes_of g.text (action_list g.actions)))) where
  codes : d ≡ over (replicate 4096 0) (codes_of g.text (action_list g.actions))
  codes = digested g zero d written

  last : (k : ℕ) → k ≡ limit_refusal (rule_list g.rules) (take 4096 (take (length g.actions / 6) d)) g.t.controls.ranges g.t.controls.targets
      → k ≡ refusal_of (call_at g)
  last k e = limited g zero d codes _ k refl e

pub returns-in-Err : goal.returns-in-Err
returns-in-Err c =
    let a = c.args in
    let g = given a.t a.call a.rules.now a.actions.now a.markers.now a.text.now a.outcomes.now a.ids.now a.entries.now a.journal.now in
    ran_first g (refusal_number c.in-Err.refusal) c.as_lent.result
    (rw c.number.ensures at c.as_lent.ensures) (seven g _ _ c.sizes_of-sizes.ensures c.in-Err.ensures) (numbered _)

pub slice_bounds-codes-end : goal.slice_bounds-codes-end
slice_bounds-codes-end c =
    let a = c.args in
    let g = given a.t a.call a.rules.now a.actions.now a.markers.now a.text.now a.outcomes.now a.ids.now a.entries.now a.journal.now in
    few-fit g c.write_codes-some_unsupported.new.codes (sym (seven g _ _ c.sizes_of-sizes.ensures c.in_default.ensures)) c.write_codes-some_unsupported.auto.codes

pub slice_bounds-limit_refusal-end : goal.slice_bounds-limit_refusal-end
slice_bounds-limit_refusal-end c =
    let a = c.args in
    let g = given a.t a.call a.rules.now a.actions.now a.markers.now a.text.now a.outcomes.now a.ids.now a.entries.now a.journal.now in
    let fits = few-fit g c.write_codes-some_unsupported.new.codes (sym (seven g _ _ c.sizes_of-sizes.ensures c.in_default.ensures)) c.write_codes-some_unsupported.auto.codes in
    sym (length-take-le _ _ fits)

pub returns-in-Err-limit_refusal : goal.returns-in-Err-limit_refusal
returns-in-Err-limit_refusal c =
    let a = c.args in
    let g = given a.t a.call a.rules.now a.actions.now a.markers.now a.text.now a.outcomes.now a.ids.now a.entries.now a.journal.now in
    let zero = sym (seven g _ _ c.sizes_of-sizes.ensures c.in_default.ensures) in
    ran-by g (refusal_number c.in-Err-limit_refusal.refusal) c.as_lent-in-Err-limit_refusal.result
    (rw c.number-in-Err-limit_refusal.ensures at c.as_lent-in-Err-limit_refusal.ensures)
    (last g zero c.write_codes-some_unsupported.new.codes c.write_codes-some_unsupported.ensures.codes_after _ c.in-Err-limit_refusal.ensures) (numbered _)

pub returns-then-is_idle : goal.returns-then-is_idle
returns-then-is_idle c =
    let a = c.args in
    let g = given a.t a.call a.rules.now a.actions.now a.markers.now a.text.now a.outcomes.now a.ids.now a.entries.now a.journal.now in
    let zero = sym (seven g _ _ c.sizes_of-sizes.ensures c.in_default.ensures) in
    let idle = idle-is g c.mode_of_number-ruleset_mode.result c.is_idle.result c.mode_of_number-ruleset_mode.ensures c.is_idle.ensures in
    ran-nothing g c.as_lent-then-is_idle.result c.as_lent-then-is_idle.ensures
    (sym (last g zero c.write_codes-some_unsupported.new.codes c.write_codes-some_unsupported.ensures.codes_after _ c.in_default-limit_refusal.ensures))
    (idle ∙ c.if-is_idle.true)

pub walk_rules-p-requires : goal.walk_rules-p-requires
walk_rules-p-requires c =
    let a = c.args in
    let g = given a.t a.call a.rules.now a.actions.now a.markers.now a.text.now a.outcomes.now a.ids.now a.entries.now a.journal.now in
    let zero = sym (seven g _ _ c.sizes_of-sizes.ensures c.in_default.ensures) in
    let idle = idle-is g c.mode_of_number-ruleset_mode.result c.is_idle.result c.mode_of_number-ruleset_mode.ensures c.is_idle.ensures in
    let d = c.write_codes-some_unsupported.new.codes in
    let written = c.write_codes-some_unsupported.ensures.codes_after in
    ready_at g (sym (last g zero d written _ c.in_default-limit_refusal.ensures)) (idle ∙ c.if-is_idle.false) _ (codes g zero d written)

pub overflow_mul-visited : goal.overflow_mul-visited
overflow_mul-visited c =
    let a = c.args in
    let g = given a.t a.call a.rules.now a.actions.now a.markers.now a.text.now a.outcomes.now a.ids.now a.entries.now a.journal.now in
    let zero = sym (seven g _ _ c.sizes_of-sizes.ensures c.in_default.ensures) in
    let idle = idle-is g c.mode_of_number-ruleset_mode.result c.is_idle.result c.mode_of_number-ruleset_mode.ensures c.is_idle.ensures in
    let d = c.write_codes-some_unsupported.new.codes in
    let written = c.write_codes-some_unsupported.ensures.codes_after in
    let lists = lent c.walk_rules-p.new.ids c.walk_rules-p.new.entries c.walk_rules-p.new.journal in
    let visited : 2 * c.walk_rules-p.result.answer.visits ≤ length lists.journal
    = visited-at g (sym (last g zero d written _ c.in_default-limit_refusal.ensures)) (idle ∙ c.if-is_idle.false) c.walk_rules-p.result lists c.walk_rules-p.ensures in
    omega (arith, visited, c.walk_rules-p.auto.journal, c.well_formed.1.1.1.1.1.1.1.1.1.0.1)

pub slice_bounds-tell-end : goal.slice_bounds-tell-end
slice_bounds-tell-end c =
    let a = c.args in
    let g = given a.t a.call a.rules.now a.actions.now a.markers.now a.text.now a.outcomes.now a.ids.now a.entries.now a.journal.now in
    let zero = sym (seven g _ _ c.sizes_of-sizes.ensures c.in_default.ensures) in
    let idle = idle-is g c.mode_of_number-ruleset_mode.result c.is_idle.result c.mode_of_number-ruleset_mode.ensures c.is_idle.ensures in
    let d = c.write_codes-some_unsupported.new.codes in
    let written = c.write_codes-some_unsupported.ensures.codes_after in
    visited-at g (sym (last g zero d written _ c.in_default-limit_refusal.ensures)) (idle ∙ c.if-is_idle.false) c.walk_rules-p.result
    (lent c.walk_rules-p.new.ids c.walk_rules-p.new.entries c.walk_rules-p.new.journal) c.walk_rules-p.ensures

pub slice_bounds-tell-end-2 : goal.slice_bounds-tell-end-2
slice_bounds-tell-end-2 c =
    let a = c.args in
    let g = given a.t a.call a.rules.now a.actions.now a.markers.now a.text.now a.outcomes.now a.ids.now a.entries.now a.journal.now in
    let zero = sym (seven g _ _ c.sizes_of-sizes.ensures c.in_default.ensures) in
    let idle = idle-is g c.mode_of_number-ruleset_mode.result c.is_idle.result c.mode_of_number-ruleset_mode.ensures c.is_idle.ensures in
    let d = c.write_codes-some_unsupported.new.codes in
    let written = c.write_codes-some_unsupported.ensures.codes_after in
    sym (length-take-le _ _ (visited-at g (sym (last g zero d written _ c.in_default-limit_refusal.ensures)) (idle ∙ c.if-is_idle.false) c.walk_rules-p.result
    (lent c.walk_rules-p.new.ids c.walk_rules-p.new.entries c.walk_rules-p.new.journal) c.walk_rules-p.ensures))

pub returns : goal.returns
returns c =
    let a = c.args in
    let g = given a.t a.call a.rules.now a.actions.now a.markers.now a.text.now a.outcomes.now a.ids.now a.entries.now a.journal.now in
    let zero = sym (seven g _ _ c.sizes_of-sizes.ensures c.in_default.ensures) in
    let idle = idle-is g c.mode_of_number-ruleset_mode.result c.is_idle.result c.mode_of_number-ruleset_mode.ensures c.is_idle.ensures in
    let d = c.write_codes-some_unsupported.new.codes in
    let written = c.write_codes-some_unsupported.ensures.codes_after in
    ran-at g (sym (last g zero d written _ c.in_default-limit_refusal.ensures)) (idle ∙ c.if-is_idle.false) c.walk_rules-p.result
    (lent c.walk_rules-p.new.ids c.walk_rules-p.new.entries c.walk_rules-p.new.journal) c.walk_rules-p.ensures c.tell-p.result
    (told_at g zero d (codes g zero d written) _ _ c.write_codes-some_unsupported.result c.tell-p.result refl
    c.write_codes-some_unsupported.ensures.value c.tell-p.ensures)
