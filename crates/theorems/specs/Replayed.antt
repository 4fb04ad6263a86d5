-- Demand 3 as a theorem, without the code and for any reading, any lengths and any call: what the walk gives is what its
-- journal's closed units give.
use Rattle.std.specs.Prelude.{ℕ, zero, suc, ◌≡◌, refl, List, [], ◌∷◌, ◌++◌, Bool, true, false, not, cond, ◌&&◌, ◌||◌, Option, Some, None}
use Rattle.std.proofs.Common.{◌∙◌, arith}
use Rattle.reading.specs.declared.Intervention.{Intervention}
use Rattle.reading.specs.declared.Verdict.{Verdict}
use Rattle.reading.specs.declared.DisruptiveOutcome.{DisruptiveOutcome}
use Rattle.reading.specs.Lists.{keep, any}
use Rattle.reading.specs.Controls.{Controls, is_on}
use Rattle.reading.specs.Call.{Given, Transaction, is_link, mode_under, rule_count}
use Rattle.reading.specs.Units.{unit_controls, unit_disruptive, unit_intervention, is_allow, is_stopping}
use Rattle.reading.specs.Walk.{State, Visit, Ending, goes_on, allows, errs, stops, is_last, gives_allow, intervention_or, visit_by, visit_at, verdict_at, is_visited, walk, walk_of, start, nothing_to_do, entry_of, journal_of, closed_in, controls_after, allowed_by, intervention_by}
use Rattle.reading.specs.Replay.{held_after, closed_by, units_from, last_closed_from, units_controls, unit_allows, stop_of}
use Rattle.lists.proofs.Tests.{any_append}

-- ONE VISIT, by what the rule is found to be and by whether it is a link

module _ (q : Given) (st : State) where
  -- the members after a visit are those that the replay holds after its entry
  held-is : (v : Verdict) (l : Bool) → is_link q st.next ≡ l
      → (visit_by q st v l).after.members ≡ held_after q st.members (entry_of (visit_by q st v l))
  held-is Verdict.Missed l e = refl
  held-is Verdict.Matched true e = rw e
  held-is Verdict.Matched false e = rw e
  held-is Verdict.Removed true e = rw e
  held-is Verdict.Removed false e = rw e
  held-is Verdict.Error l e = refl

  -- the unit that a visit closes is the one that its entry closes
  closed_is : (v : Verdict) (l : Bool) → is_link q st.next ≡ l
      → (visit_by q st v l).closed ≡ closed_by q st.members (entry_of (visit_by q st v l))
  closed_is Verdict.Missed l e = refl
  closed_is Verdict.Matched true e = rw e
  closed_is Verdict.Matched false e = rw e
  closed_is Verdict.Removed true e = refl
  closed_is Verdict.Removed false e = refl
  closed_is Verdict.Error l e = refl

  -- the controls after a visit are those of the unit that it closes
  pub controls-are : (v : Verdict) (l : Bool) → (visit_by q st v l).after.controls ≡ units_controls q (visit_by q st v l).closed st.controls
  controls-are Verdict.Missed l = refl
  controls-are Verdict.Matched true = refl
  controls-are Verdict.Matched false = refl
  controls-are Verdict.Removed true = refl
  controls-are Verdict.Removed false = refl
  controls-are Verdict.Error l = refl

-- an ending's tests, by the two conditions of 01
ending-allow : (q : Given) (unit : List ℕ) (a b : Bool)
    → gives_allow (cond a allows (cond b (stops (unit_intervention q unit)) goes_on)) ≡ (a || false)
ending-allow q unit true b = refl
ending-allow q unit false true = refl
ending-allow q unit false false = refl

ending-stop : (q : Given) (unit : List ℕ) (d : DisruptiveOutcome) (on : Bool)
    → intervention_or (cond (is_allow d) allows (cond (is_stopping d && on) (stops (unit_intervention q unit)) goes_on)) None
    ≡ cond (is_stopping d && on) (Some (unit_intervention q unit)) None
ending-stop q unit DisruptiveOutcome.Nothing on = refl
ending-stop q unit DisruptiveOutcome.Deny true = refl
ending-stop q unit DisruptiveOutcome.Deny false = refl
ending-stop q unit DisruptiveOutcome.Block true = refl
ending-stop q unit DisruptiveOutcome.Block false = refl
ending-stop q unit DisruptiveOutcome.Pass on = refl
ending-stop q unit DisruptiveOutcome.Allow on = refl
ending-stop q unit (DisruptiveOutcome.Redirect at) true = refl
ending-stop q unit (DisruptiveOutcome.Redirect at) false = refl
ending-stop q unit DisruptiveOutcome.Drop true = refl
ending-stop q unit DisruptiveOutcome.Drop false = refl

module _ (q : Given) (st : State) where
  -- a visit gives allow where the unit that it closes does
  allow-is : (v : Verdict) (l : Bool) → gives_allow (visit_by q st v l).ending ≡ any (unit_allows q) (visit_by q st v l).closed
  allow-is Verdict.Missed l = refl
  allow-is Verdict.Matched true = refl
  allow-is Verdict.Matched false =
      let unit = st.members ++ (st.next ∷ []) in
      ending-allow q unit (is_allow (unit_disruptive q unit)) (is_stopping (unit_disruptive q unit) && is_on (mode_under q (unit_controls q unit st.controls)))
  allow-is Verdict.Removed true = refl
  allow-is Verdict.Removed false = refl
  allow-is Verdict.Error l = refl

  -- a visit gives the intervention of the unit that it closes
  stop_is : (v : Verdict) (l : Bool)
      → intervention_or (visit_by q st v l).ending None ≡ stop_of q (visit_by q st v l).closed (visit_by q st v l).after.controls
  stop_is Verdict.Missed l = refl
  stop_is Verdict.Matched true = refl
  stop_is Verdict.Matched false =
      let unit = st.members ++ (st.next ∷ []) in
      ending-stop q unit (unit_disruptive q unit) (is_on (mode_under q (unit_controls q unit st.controls)))
  stop_is Verdict.Removed true = refl
  stop_is Verdict.Removed false = refl
  stop_is Verdict.Error l = refl

-- a visit that is not the last gives no intervention
pub not_last : (e : Ending) (other : Option Intervention) → is_last e ≡ false → intervention_or e other ≡ other
not_last goes_on other h = refl
not_last allows other h = refl
not_last errs other h = refl
not_last (stops i) other h = absurd (bool-absurd h)
  where
    bool-absurd : true ≡ false → ⊥
    bool-absurd p = let z : ◌≡◌ {A = ℕ} 0 1 = cc in omega arith

-- SEVERAL VISITS

pub controls-append : (q : Given) (us vs : List (List ℕ)) (c : Controls) → units_controls q (us ++ vs) c ≡ units_controls q vs (units_controls q us c)
controls-append q [] vs c = refl
controls-append q (u ∷ us) vs c = controls-append q us vs (unit_controls q u c)

-- what is claimed of visits that began with the members ms of an open chain and the controls c
pub record Replayed (q : Given) (ms : List ℕ) (c : Controls) (l : List Visit) : Type 0 where
  pub units : closed_in l ≡ units_from q ms (journal_of l)
  pub controls : controls_after c l ≡ units_controls q (closed_in l) c
  pub allow : allowed_by l ≡ any (unit_allows q) (closed_in l)
  pub intervention : intervention_by l ≡ stop_of q (last_closed_from q ms (journal_of l)) (controls_after c l)

none-replayed : (q : Given) (ms : List ℕ) (c : Controls) → Replayed q ms c []
none-replayed q ms c = record { units = refl; controls = refl; allow = refl; intervention = refl }

kept-replayed : (q : Given) (ms : List ℕ) (c : Controls) (b : Bool) (l : List Visit) → Replayed q ms c l → Replayed q ms c (keep b l)
kept-replayed q ms c true l r = r
kept-replayed q ms c false l r = none-replayed q ms c

-- what one visit is, as the replay sees it
record Seen (q : Given) (ms : List ℕ) (c : Controls) (v : Visit) : Type 0 where
  held : v.after.members ≡ held_after q ms (entry_of v)
  closed : v.closed ≡ closed_by q ms (entry_of v)
  controls : v.after.controls ≡ units_controls q v.closed c
  allow : gives_allow v.ending ≡ any (unit_allows q) v.closed
  stop : intervention_or v.ending None ≡ stop_of q v.closed v.after.controls

one_more : (q : Given) (ms : List ℕ) (c : Controls) (v : Visit) (l : List Visit) → Seen q ms c v
    → intervention_by (v ∷ l) ≡ stop_of q (last_closed_from q ms (journal_of (v ∷ l))) (controls_after c (v ∷ l))
    → Replayed q v.after.members v.after.controls l → Replayed q ms c (v ∷ l)
one_more q ms c v l s i r =
    record {
      units = rw (s.closed, r.units, s.held);
      controls = rw (controls-append q v.closed (closed_in l) c, ← s.controls) r.controls;
      allow = rw (any_append (unit_allows q) v.closed (closed_in l), s.allow, r.allow);
      intervention = i;
    }

-- the intervention after one more visit, where the others, if any, follow one that was not the last
stop-more : (q : Given) (ms : List ℕ) (c : Controls) (v : Visit) (l : List Visit) → Seen q ms c v → is_last v.ending ≡ false
    → Replayed q v.after.members v.after.controls l
    → intervention_by (v ∷ l) ≡ stop_of q (last_closed_from q ms (journal_of (v ∷ l))) (controls_after c (v ∷ l))
stop-more q ms c v [] s e r = rw (← s.closed) s.stop
stop-more q ms c v (w ∷ ws) s e r = not_last v.ending (intervention_by (w ∷ ws)) e ∙ rw (← s.held) r.intervention

-- a visit and, where it is not the last, those after it
visit-more : (q : Given) (ms : List ℕ) (c : Controls) (v : Visit) (l : List Visit) → Seen q ms c v
    → Replayed q v.after.members v.after.controls l → Replayed q ms c (v ∷ keep (not (is_last v.ending)) l)
visit-more q ms c v l s r = by (is_last v.ending) refl
  where
    by : (b : Bool) → is_last v.ending ≡ b → Replayed q ms c (v ∷ keep (not b) l)
    by true e = one_more q ms c v [] s (rw (← s.closed) s.stop) (none-replayed q v.after.members v.after.controls)
    by false e = one_more q ms c v l s (stop-more q ms c v l s e r) r

seen : (q : Given) (st : State) (v : Verdict) (l : Bool) → is_link q st.next ≡ l → Seen q st.members st.controls (visit_by q st v l)
seen q st v l e =
    record {
      held = held-is q st v l e;
      closed = closed_is q st v l e;
      controls = controls-are q st v l;
      allow = allow-is q st v l;
      stop = stop_is q st v l;
    }

pub replays : (k : ℕ) (q : Given) (st : State) → Replayed q st.members st.controls (walk k q st)
unfolding walk visit_at
replays zero q st = none-replayed q st.members st.controls
replays (suc k) q st =
    let v : Visit = visit_at q st in
    kept-replayed q st.members st.controls (is_visited q st) (v ∷ keep (not (is_last v.ending)) (walk k q v.after))
    (visit-more q st.members st.controls v (walk k q v.after)
    (seen q st (verdict_at q st.controls st.next) (is_link q st.next) refl)
    (replays k q v.after))

-- the whole walk
pub walk-replayed : (q : Given) (t : Transaction) → Replayed q [] t.controls (walk_of q t)
unfolding walk_of
walk-replayed q t =
    kept-replayed q [] t.controls (not (nothing_to_do q t)) (walk (rule_count q) q (start t)) (replays (rule_count q) q (start t))
