-- Laws of the walk: its turns, lists of its visits with one more, and visits none of which is the last. Assumes nothing.
use Prim.Native.Nat.{ℕ, zero, suc, ◌+◌, ◌≤◌, ◌<◌, min}
use mathlib.Core.Path.{◌≡◌, refl, sym, ap, ◌∙◌}
use mathlib.Core.Bool.{Bool, true, false, not, cond, ◌&&◌, ◌||◌}
use mathlib.Core.List.{List, [], ◌∷◌, ◌++◌, append_assoc}
use native.Mathlib.Omega.{arith}
use borrow.Author.Tests.{lt-ltb, le-ltb, ltb-true, ltb-false}
use lib.Dec.{ltb}
use Rattle.reading.specs.declared.JournalEntry.{JournalEntry}
use Rattle.reading.specs.declared.Verdict.{Verdict}
use Rattle.reading.specs.Lists.{any, keep, gather}
use Rattle.reading.specs.Controls.{Controls, is_off}
use Rattle.reading.specs.Call.{Given, rule_count, mode_under}
use Rattle.reading.specs.Units.{unit_ids, unit_data}
use Rattle.reading.specs.Walk.{State, Visit, Ending, goes_on, allows, errs, stops, is_last, visit_by, visit_at, is_visited}
use Rattle.reading.specs.Walk.{walk, entry_of, journal_of, closed_in, ids_of, data_of, controls_after, gives_allow, allowed_by}
use Rattle.reading.specs.Walk.{intervention_by, is_error, answer_by, error_index_by}
use Rattle.reading.specs.Directive.{Directive}
use Rattle.theorems.specs.Replayed.{not_last}
use Rattle.theorems.specs.WithinLimits.{units_give, give-append}
use Rattle.lists.proofs.Tests.{any_append}
use Rattle.apply.specs.AddedRanges.{unit_removes, adds_ranges}
use Rattle.apply.proofs.run.StepLaws.{Grown}
use Rattle.apply.proofs.run.Fits.{grows}

-- TURNS

visited : (q : Given) (st : State) → st.next < rule_count q → is_off (mode_under q st.controls) ≡ false → is_visited q st ≡ true
visited q st h on = rw (lt-ltb st.next (rule_count q) h, on)

pub walk_step : (k : ℕ) (q : Given) (st : State) → st.next < rule_count q → is_off (mode_under q st.controls) ≡ false
    → walk (suc k) q st ≡ visit_at q st ∷ keep (not (is_last (visit_at q st).ending)) (walk k q (visit_at q st).after)
unfolding walk
walk_step k q st h on = rw (visited q st h on)

pub walk_end : (k : ℕ) (q : Given) (st : State) → rule_count q ≤ st.next → walk k q st ≡ []
unfolding walk
walk_end zero q st h = refl
walk_end (suc k) q st h = rw (le-ltb st.next (rule_count q) h)

not-visited : (b : Bool) → (b && false) ≡ false
not-visited true = refl
not-visited false = refl

pub walk-off : (k : ℕ) (q : Given) (st : State) → is_off (mode_under q st.controls) ≡ true → walk k q st ≡ []
unfolding walk
walk-off zero q st h = refl
walk-off (suc k) q st h = rw (h, not-visited (ltb st.next (rule_count q)))

-- it does not matter how far after the last rule the walk stands
pub walk-clip : (k : ℕ) (q : Given) (next : ℕ) (ms : List ℕ) (c : Controls)
    → walk k q (record { next = min next (rule_count q); members = ms; controls = c }) ≡ walk k q
    (record { next = next; members = ms; controls = c })
walk-clip k q next ms c = go (ltb next (rule_count q)) refl
  where
    go : (b : Bool) → ltb next (rule_count q) ≡ b
        → walk k q (record { next = min next (rule_count q); members = ms; controls = c }) ≡ walk k q
        (record { next = next; members = ms; controls = c })
    go true e = let z : min next (rule_count q) ≡ next = omega (arith, ltb-true next (rule_count q) e) in rw z
    go false e =
        let l : rule_count q ≤ next = ltb-false next (rule_count q) e in
        let z : min next (rule_count q) ≡ rule_count q = omega arith in
        walk_end k q (record { next = min next (rule_count q); members = ms; controls = c }) (omega arith)
        ∙ sym (walk_end k q (record { next = next; members = ms; controls = c }) l)

-- ONE VISIT MORE

pub journal-more : (l : List Visit) (v : Visit) → journal_of (l ++ (v ∷ [])) ≡ journal_of l ++ (entry_of v ∷ [])
journal-more [] v = refl
journal-more (w ∷ l) v = ap (λ (m : List JournalEntry). entry_of w ∷ m) (journal-more l v)

closed-append : (l m : List Visit) → closed_in (l ++ m) ≡ closed_in l ++ closed_in m
closed-append [] m = refl
closed-append (w ∷ l) m = rw (closed-append l m, append_assoc w.closed (closed_in l) (closed_in m))

gather_append : {A B : Type 0} (give : A → List B) (xs ys : List A) → gather give (xs ++ ys) ≡ gather give xs ++ gather give ys
gather_append give [] ys = refl
gather_append give (x ∷ xs) ys = rw (gather_append give xs ys, append_assoc (give x) (gather give xs) (gather give ys))

pub ids-append : (q : Given) (l m : List Visit) → ids_of q (l ++ m) ≡ ids_of q l ++ ids_of q m
ids-append q l m = rw (closed-append l m, gather_append (unit_ids q) (closed_in l) (closed_in m))

pub data-append : (q : Given) (l m : List Visit) → data_of q (l ++ m) ≡ data_of q l ++ data_of q m
data-append q l m = rw (closed-append l m, gather_append (unit_data q) (closed_in l) (closed_in m))

pub controls-append : (c : Controls) (l m : List Visit) → controls_after c (l ++ m) ≡ controls_after (controls_after c l) m
controls-append c [] m = refl
controls-append c (w ∷ l) m = controls-append w.after.controls l m

-- VISITS NONE OF WHICH IS THE LAST

abbrev pub Going : List Visit → Type 0
Going [] = Unit {0}
Going (v ∷ vs) = (is_last v.ending ≡ false) × Going vs

pub going_more : (l : List Visit) (v : Visit) → Going l → is_last v.ending ≡ false → Going (l ++ (v ∷ []))
going_more [] v g e = (e, tt)
going_more (w ∷ l) v g e = (g.0, going_more l v g.1 e)

pub true-false : true ≡ false → ⊥
true-false e = let z : ◌≡◌ {A = ℕ} 1 0 = ap (λ (b : Bool). cond b 1 0) e in omega arith

no-error : (e : Ending) → is_last e ≡ false → is_error e ≡ false
no-error goes_on h = refl
no-error allows h = refl
no-error errs h = absurd (true-false h)
no-error (stops i) h = refl

no-allow : (e : Ending) → is_last e ≡ false → gives_allow e ≡ false
no-allow goes_on h = refl
no-allow allows h = h
no-allow errs h = refl
no-allow (stops i) h = refl

pub answer-after : (l m : List Visit) → Going l → answer_by (l ++ m) ≡ answer_by m
answer-after [] m g = refl
answer-after (v ∷ l) m g = rw (no-error v.ending g.0) (answer-after l m g.1)

pub error-after : (l m : List Visit) → Going l → error_index_by (l ++ m) ≡ error_index_by m
error-after [] m g = refl
error-after (v ∷ l) m g = rw (no-error v.ending g.0) (error-after l m g.1)

pub allowed-after : (l m : List Visit) → Going l → allowed_by (l ++ m) ≡ allowed_by m
allowed-after [] m g = refl
allowed-after (v ∷ l) m g = rw (no-allow v.ending g.0) (allowed-after l m g.1)

pub intervention-after : (l m : List Visit) → Going l → intervention_by (l ++ m) ≡ intervention_by m
intervention-after [] m g = refl
intervention-after (v ∷ l) m g = not_last v.ending (intervention_by (l ++ m)) g.0 ∙ intervention-after l m g.1

-- NO TARGET IS TAKEN AWAY
pub visit-grows : (q : Given) (st : State) (v : Verdict) (l : Bool) → Grown st.controls (visit_by q st v l).after.controls
visit-grows q st Verdict.Missed l = omega arith
visit-grows q st Verdict.Matched true = omega arith
visit-grows q st Verdict.Matched false = grows q (st.members ++ (st.next ∷ [])) st.controls
visit-grows q st Verdict.Removed true = omega arith
visit-grows q st Verdict.Removed false = omega arith
visit-grows q st Verdict.Error l = omega arith

-- WHAT IS GIVEN, in visits one after the other
pub given-append : (q : Given) (given : Directive → ℕ) (l m : List Visit)
    → units_give q given (closed_in (l ++ m)) ≡ units_give q given (closed_in l) + units_give q given (closed_in m)
given-append q given l m = ap (units_give q given) (closed-append l m) ∙ give-append q given (closed_in l) (closed_in m)

pub adds-append : (q : Given) (l m : List Visit) → adds_ranges q (l ++ m) ≡ (adds_ranges q l || adds_ranges q m)
adds-append q l m = ap (any (unit_removes q)) (closed-append l m) ∙ any_append (unit_removes q) (closed_in l) (closed_in m)
