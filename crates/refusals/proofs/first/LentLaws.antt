-- What the tests of the lists and sizes that a call lends say of its refusals. Assumes nothing.
use Prim.Native.Nat.{ℕ, suc, ◌+◌, ◌/◌}
use mathlib.Core.Path.{◌≡◌, refl, sym, ◌∙◌}
use mathlib.Core.Bool.{Bool, true, false, cond, ◌||◌}
use mathlib.Core.List.{List}
use native.Mathlib.Omega.{arith}
use borrow.Author.Tests.{eq-eqb, ne_eqb}
use lib.ListN.{length}
use lib.Dec.{ltb}
use Rattle.reading.specs.Lists.{any}
use Rattle.reading.specs.Directive.{is_high}
use Rattle.reading.specs.declared.CallSettings.{CallSettings}
use Rattle.reading.specs.Records.{rule_list, action_list, marker_list, given_of}
use Rattle.reading.specs.Call.{Call, Transaction, Lists}
use Rattle.reading.specs.Refusals.{refused1, refused2, refused3, refused4, refused5, refused6, refused7}
use Rattle.reading.specs.Refusals.{bad_rule, bad_action, bad_marker, bad_outcome}
use Rattle.lists.proofs.RecordLaws.{length-actions}
use Rattle.lists.proofs.RecordLaws.{length-rules, length-markers}
use Rattle.refusals.specs.declared.first.Counts.{Counts}
use Rattle.refusals.specs.declared.first.Sizes.{Sizes}
use Rattle.refusals.specs.declared.first.Room.{Room}
use Rattle.refusals.specs.FirstRefusal.{Sized, Roomed, Counted, first_of_four, first_of_seven}

-- the answer `t` of a test `b` of what is counted is that of the refusal
module _ {q : Call} {call : CallSettings} {counts : Counts} {sizes : Sizes} (l : Counted q call counts sizes) where
  pub says-1 : {b t : Bool} → b ≡ (ltb call.phase 1 || ltb 5 call.phase || ltb 2 call.mode) → b ≡ t → refused1 q ≡ t
  unfolding refused1
  says-1 h e = rw l.settings-are (sym h ∙ e)

  pub says-2 : {b t : Bool}
      → b ≡ (ltb 512 counts.rules || ltb 4096 counts.actions || ltb 256 counts.markers || ltb 65536 counts.bytes)
      → b ≡ t → refused2 q ≡ t
  unfolding refused2
  says-2 h e = rw (l.rules, l.actions, l.markers, l.bytes) (sym h ∙ e)

  pub says-3 : {b t : Bool}
      → b ≡ (sizes.bad_controls || ltb sizes.ids sizes.ids_used || ltb sizes.entries sizes.entries_used)
      → b ≡ t → refused3 q ≡ t
  unfolding refused3
  says-3 h e =
      let s = l.sized in
      rw (s.controls, s.ids, s.ids-used, s.entries, s.entries-used) (sym h ∙ e)

  pub differ : (counts.outcomes ≡ counts.rules → ⊥) → refused4 q ≡ true
  unfolding refused4
  differ h = rw (l.outcomes, l.rules, ne_eqb counts.outcomes counts.rules h)

  pub agree : counts.outcomes ≡ counts.rules → refused4 q ≡ false
  unfolding refused4
  agree h = rw (l.outcomes, l.rules, eq-eqb counts.outcomes counts.rules h)

-- what a call lends, in numbers but for the transaction and the lists that are written
pub record Lent : Type 0 where
  pub call : CallSettings
  pub rules : List ℕ
  pub actions : List ℕ
  pub markers : List ℕ
  pub text : List ℕ
  pub outcomes : List ℕ
  pub t : Transaction
  pub lists : Lists

abbrev pub call_on : Lent → Call
call_on l = record {
  given = given_of l.call l.rules l.actions (marker_list l.markers) l.text l.outcomes;
  transaction = l.t;
  lists = l.lists;
}

-- the same of such a call
module _ (l : Lent) {sizes : Sizes} (s : Sized l.t l.lists sizes) where
  pub counted : Counted (call_on l) l.call
      (record {
        rules = length l.rules / 5;
        actions = length l.actions / 6;
        markers = length l.markers / 3;
        bytes = length l.text;
        outcomes = length l.outcomes;
      }) sizes
  counted = record {
    settings-are = refl;
    rules = length-rules l.rules;
    actions = length-actions l.actions;
    markers = length-markers l.markers;
    bytes = refl;
    outcomes = refl;
    sized = s;
  }

  pub says-5 : {b x : Bool}
      → b ≡ (any (bad_rule (length l.actions / 6)) (rule_list l.rules) || any (bad_action (length l.text)) (action_list l.actions)
      || any (bad_marker (length l.text) (length l.rules / 5)) (marker_list l.markers) || any bad_outcome l.outcomes)
      → b ≡ x → refused5 (call_on l) ≡ x
  unfolding refused5
  says-5 h e = rw (length-rules l.rules, length-actions l.actions) (sym h ∙ e)

  pub says-6 : {b x : Bool} → b ≡ any is_high l.text → b ≡ x → refused6 (call_on l) ≡ x
  unfolding refused6
  says-6 h e = sym h ∙ e

  pub says-7 : {room : Room} → Roomed l.lists room → {b x : Bool}
      → b ≡ (ltb sizes.ids (sizes.ids_used + length l.rules / 5)
      || ltb sizes.entries (sizes.entries_used + length l.rules / 5) || ltb room.journal (length l.rules / 5))
      → b ≡ x → refused7 (call_on l) ≡ x
  unfolding refused7
  says-7 free h e =
      rw (length-rules l.rules, s.ids, s.ids-used, s.entries, s.entries-used, free.journal) (sym h ∙ e)

-- the first that applies of those from a number on
abbrev pub first_from7 : Call → ℕ
first_from7 q = cond (refused7 q) 7 0

abbrev pub first_from6 : Call → ℕ
first_from6 q = cond (refused6 q) 6 (first_from7 q)

abbrev pub first_from5 : Call → ℕ
first_from5 q = cond (refused5 q) 5 (first_from6 q)

-- one test of several, whose answer is not 0; and one that does not apply
pub one_same : (b : Bool) (n x y : ℕ) → ((y ≡ 0 → ⊥) → x ≡ y) → (cond b n y ≡ 0 → ⊥) → cond b n x ≡ cond b n y
one_same true n x y f h = refl
one_same false n x y f h = f h

pub one-past : (b : Bool) (n x y z : ℕ) → (y ≡ 0 → x ≡ z) → cond b (suc n) y ≡ 0 → cond b (suc n) x ≡ z
one-past true n x y z f h = absurd (omega arith)
one-past false n x y z f h = f h

module _ (q : Call) where
  pub four-first : (first_of_four q ≡ 0 → ⊥) → first_of_seven q ≡ first_of_four q
  unfolding first_of_four first_of_seven
  four-first =
      one_same (refused1 q) 1 _ _ (one_same (refused2 q) 2 _ _ (one_same (refused3 q) 3 _ _
      (one_same (refused4 q) 4 (first_from5 q) 0 (λ h. absurd (h refl)))))

  pub past-four : first_of_four q ≡ 0 → first_of_seven q ≡ first_from5 q
  unfolding first_of_four first_of_seven
  past-four =
      one-past (refused1 q) 0 _ _ _ (one-past (refused2 q) 1 _ _ _ (one-past (refused3 q) 2 _ _ _
      (one-past (refused4 q) 3 (first_from5 q) 0 (first_from5 q) (λ h. refl))))
