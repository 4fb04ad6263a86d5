use Rattle.std.specs.Prelude.{is_some}
use Prim.Native.Nat.{ℕ, ◌/◌}
use mathlib.Core.Path.{◌≡◌, refl, sym, ap, subst, ◌∙◌}
use mathlib.Core.List.{List}
use lib.ListN.{length}
use Rattle.reading.specs.declared.CallSettings.{CallSettings}
use Rattle.reading.specs.Records.{marker_list, given_of}
use Rattle.reading.specs.Call.{Given}
use Rattle.apply.specs.Append.{struct_of}
use Rattle.transaction.specs.declared.types.Phase.{Phase}
use Rattle.transaction.specs.declared.types.WalkState.{WalkState}
use Rattle.transaction.specs.declared.types.Transaction.{Transaction}
use Rattle.transaction.specs.WalkRules.{WalkLists, walk_lists, fresh, start_of, Ready, Walked}
use Rattle.transaction.proofs.Found.{verdict-found, visit-found}
use Rattle.transaction.proofs.Progress.{Sofar, sofar-none, sofar-end, few-ranges}
use Rattle.transaction.proofs.Turn.{Turning, inside-rules, past-rules, journal-ahead}
use Rattle.transaction.proofs.Turn.{sofar-on, fewer-left-on, sofar-error, room-closed}
use Rattle.transaction.proofs.Turn.{sofar-closed, fewer-left-closed, walked-closed}
use Rattle.transaction.proofs.walk.walk_rules.Invariants.{entry_by}
use Rattle.transaction.proofs.walk.walk_rules.Goals.{After-start-at, After-visit_next-v}
use Rattle.transaction.proofs.walk.walk_rules.Goals as goal

-- what the function is called with
record Asked : Type 0 where
  t : Transaction
  call : CallSettings
  rules : List ℕ
  actions : List ℕ
  markers : List ℕ
  text : List ℕ
  outcomes : List ℕ
  codes : List ℕ
  ids : List ℕ
  entries : List ℕ
  journal : List ℕ

abbrev asked : Transaction → CallSettings → List ℕ → List ℕ → List ℕ → List ℕ → List ℕ → List ℕ → List ℕ → List ℕ → List ℕ → Asked
asked t call rules actions markers text outcomes codes ids entries journal = record {
  t = t;
  call = call;
  rules = rules;
  actions = actions;
  markers = markers;
  text = text;
  outcomes = outcomes;
  codes = codes;
  ids = ids;
  entries = entries;
  journal = journal;
}

-- what is given, and the lists as lent
abbrev given : Asked → Given
given a = given_of a.call a.rules a.actions (marker_list a.markers) a.text a.outcomes

abbrev lists : Asked → WalkLists
lists a = walk_lists a.ids a.entries a.journal

-- the transaction that the walk's first state and the arrays make up; it is the one that was passed
abbrev entry : Asked → WalkState → Transaction
entry a at = entry_by at a.t.controls.starts a.t.controls.ends a.t.controls.phases a.t.controls.positions

entry_is : (a : Asked) (at : WalkState) → at ≡ start_of a.t → entry a at ≡ fresh a.t
entry_is a at e = ap (entry a) e

ready : (a : Asked) (at : WalkState) → at ≡ start_of a.t → Ready (given a) (fresh a.t) a.codes (lists a)
    → Ready (given a) (entry a at) a.codes (lists a)
ready a at e = subst (λ (t : Transaction). Ready (given a) t a.codes (lists a)) (sym (entry_is a at e))

walked : (a : Asked) (at : WalkState) → at ≡ start_of a.t → (r : Phase) (l : WalkLists) → Walked (given a) (entry a at) (lists a) r l
    → Walked (given a) (fresh a.t) (lists a) r l
walked a at e r l = subst (λ (t : Transaction). Walked (given a) t (lists a) r l) (entry_is a at e)

-- the call, once the walk's first state is made
abbrev called : After-start-at → Asked
called c =
    asked c.args.t c.args.call c.args.rules.now c.args.actions.now c.args.markers.now c.args.text.now c.args.outcomes.now c.args.codes.now
    c.args.ids.now c.args.entries.now c.args.journal.now

-- a turn, once its rule is visited
abbrev asked_at : After-visit_next-v → Asked
asked_at c =
    asked c.args.t c.args.call c.args.rules.now c.args.actions.now c.args.markers.now c.args.text.now c.args.outcomes.now c.args.codes.now
    c.args.ids.now c.args.entries.now c.args.journal.now

abbrev visited : After-visit_next-v → Turning
visited c =
    let a = asked_at c in
    let begun = entry a c.start-at.result in
    let r = ready a c.start-at.result c.start-at.ensures c.requires in
    let l = c.loop-at in
    let held = struct_of l.at.counts l.arrays.starts l.arrays.ends l.arrays.phases l.arrays.positions in
    let few = few-ranges (given a) begun a.codes a.ids a.entries a.journal r
    l.ids l.entries l.journal held l.at.counts.added l.at.state l.at.visits l.at.ids l.at.entries l.invariant in
    let v = c.visit_next-v in
    record {
      q = given a;
      t = begun;
      codes = a.codes;
      ids₀ = a.ids;
      entries₀ = a.entries;
      journal₀ = a.journal;
      ready = r;
      reading = refl;
      ids = l.ids;
      entries = l.entries;
      journal = l.journal;
      c = held;
      added = l.at.counts.added;
      s = l.at.state;
      visits = l.at.visits;
      listed = l.at.ids;
      written = l.at.entries;
      so = l.invariant;
      inside = inside-rules a.rules l.at.state.next c.loop-at-test.true;
      found = v.result.verdict;
      found-is = verdict-found (given a) held l.at.state l.at.visits few l.invariant.merged v.result v.ensures.value;
      w = v.result;
      w-is = visit-found (given a) held l.at.state l.at.visits few l.invariant.merged v.result v.ensures.value;
    }

walked_at : (c : After-visit_next-v) (r : Phase) (l : WalkLists) → Walked (given (asked_at c)) (visited c).t (lists (asked_at c)) r l
    → Walked (given (asked_at c)) (fresh c.args.t) (lists (asked_at c)) r l
walked_at c = walked (asked_at c) c.start-at.result c.start-at.ensures

pub loop-at-init : goal.loop-at-init
loop-at-init c =
    let a = called (goal.at.loop-at-init c).After-start-at in
    subst (λ (r : WalkState). Sofar (given a) (entry a c.start-at.result) a.ids a.entries a.journal a.ids a.entries
    a.journal (entry a c.start-at.result).controls r.counts.added r.state r.visits (entry a c.start-at.result).ids (entry a c.start-at.result).entries)
    (sym c.start-at.ensures)
    (sofar-none (given a) (entry a c.start-at.result) a.codes a.ids a.entries a.journal
    (ready a c.start-at.result c.start-at.ensures c.requires))

pub visit_next-v-requires : goal.visit_next-v-requires
visit_next-v-requires c =
    let a = called (goal.at.visit_next-v-requires c).After-start-at in
    let l = c.loop-at in
    journal-ahead (given a) (entry a c.start-at.result) a.codes a.ids a.entries a.journal
    (ready a c.start-at.result c.start-at.ensures c.requires) refl l.ids l.entries l.journal
    (struct_of l.at.counts l.arrays.starts l.arrays.ends l.arrays.phases l.arrays.positions) l.at.counts.added l.at.state l.at.visits l.at.ids l.at.entries l.invariant
    (inside-rules a.rules l.at.state.next c.loop-at-test.true)

-- AN ERROR

pub returns-then-is_error : goal.returns-then-is_error
returns-then-is_error c =
    let now = (goal.at.returns-then-is_error c).After-visit_next-v in
    let v = c.visit_next-v in
    rw (c.ended.ensures, c.end_at.ensures)
    (walked_at now _ _
    (sofar-error (visited now) v.new.journal v.ensures.journal_after (sym c.is_error.ensures ∙ c.if-is_error.true)))

-- NO UNIT IS CLOSED

pub loop-at-smaller-in_default : goal.loop-at-smaller-in_default
loop-at-smaller-in_default c =
    let v = c.visit_next-v in
    fewer-left-on (visited (goal.at.loop-at-smaller-in_default c).After-visit_next-v) v.new.journal v.ensures.journal_after
    (ap is_some c.in_default.is) (length c.args.rules.now / 5) c.loop-at-test.true

pub loop-at-preserved-in_default : goal.loop-at-preserved-in_default
loop-at-preserved-in_default c =
    let v = c.visit_next-v in
    sofar-on (visited (goal.at.loop-at-preserved-in_default c).After-visit_next-v) v.new.journal v.ensures.journal_after
    (ap is_some c.in_default.is) (sym c.is_error.ensures ∙ c.if-is_error.false)

-- A UNIT IS CLOSED

pub finish_unit-left-requires : goal.finish_unit-left-requires
finish_unit-left-requires c =
    let l = c.loop-at in
    let v = c.visit_next-v in
    room-closed (visited (goal.at.finish_unit-left-requires c).After-visit_next-v) v.new.journal v.ensures.journal_after c.in-Some.first c.in-Some.is
    l.at.counts l.arrays.starts l.arrays.ends l.arrays.phases l.arrays.positions refl refl

pub returns-in-Ends : goal.returns-in-Ends
returns-in-Ends c =
    let now = (goal.at.returns-in-Ends c).After-visit_next-v in
    let l = c.loop-at in
    let v = c.visit_next-v in
    rw c.ended-in-Ends.ensures
    (walked_at now _ _
    (walked-closed (visited now) v.new.journal v.ensures.journal_after c.in-Some.first c.in-Some.is l.at.counts l.arrays.starts l.arrays.ends l.arrays.phases l.arrays.positions refl refl _ _ _ _ _ _ _
    c.finish_unit-left.ensures _ c.in-Ends.is))

pub loop-at-smaller : goal.loop-at-smaller
loop-at-smaller c =
    let l = c.loop-at in
    let v = c.visit_next-v in
    fewer-left-closed (visited (goal.at.loop-at-smaller c).After-visit_next-v) v.new.journal v.ensures.journal_after c.in-Some.first c.in-Some.is
    l.at.counts l.arrays.starts l.arrays.ends l.arrays.phases l.arrays.positions refl refl _ _ _ _ _ _ _
    c.finish_unit-left.ensures _ c.in-GoesOn.is (length c.args.rules.now / 5) c.loop-at-test.true

pub loop-at-preserved : goal.loop-at-preserved
loop-at-preserved c =
    let l = c.loop-at in
    let v = c.visit_next-v in
    sofar-closed (visited (goal.at.loop-at-preserved c).After-visit_next-v) v.new.journal v.ensures.journal_after c.in-Some.first c.in-Some.is
    l.at.counts l.arrays.starts l.arrays.ends l.arrays.phases l.arrays.positions refl refl _ _ _ _ _ _ _
    c.finish_unit-left.ensures _ c.in-GoesOn.is

-- NO RULE IS LEFT

pub returns : goal.returns
returns c =
    let a = called (goal.at.returns c).After-start-at in
    let l = c.loop-at in
    rw (c.ended-2.ensures, c.end_at-2.ensures)
    (walked a c.start-at.result c.start-at.ensures _ _
    (sofar-end (given a) (entry a c.start-at.result) a.ids a.entries a.journal
    l.ids l.entries l.journal (struct_of l.at.counts l.arrays.starts l.arrays.ends l.arrays.phases l.arrays.positions) l.at.counts.added l.at.state l.at.visits l.at.ids
    l.at.entries l.invariant
    (past-rules a.rules l.at.state.next c.loop-at-test.false)))
