-- 01's domain: "each rule that the Rust run evaluates has that run's outcome; the other rules' outcomes are free." The
-- outcomes of rules that are passed or removed have no influence, for any reading.
use Prim.Native.Nat.{ℕ, zero, suc, ◌+◌}
use Rattle.std.specs.Prelude.{◌≡◌, ◌⊎◌, Bool, not, ◌&&◌, ◌||◌, eqb, Option, Some, None}
use Rattle.std.proofs.Math.Path.{refl, ap, subst, fun_ext}
use Rattle.std.proofs.Common.{sym, ◌∙◌, inl, inr}
use mathlib.Core.List.{List, [], ◌∷◌, ◌++◌}
use Rattle.std.proofs.Math.Bool.{true, false, cond}
use native.Mathlib.Omega.{arith}
use Rattle.std.proofs.Math.ListN.{length}
use Rattle.reading.specs.declared.Verdict.{Verdict}
use Rattle.reading.specs.declared.DisruptiveOutcome.{DisruptiveOutcome}
use Rattle.reading.specs.declared.FlowOutcome.{FlowOutcome}
use Rattle.reading.specs.declared.Intervention.{Intervention}
use Rattle.reading.specs.declared.JournalEntry.{JournalEntry}
use Rattle.reading.specs.declared.DataEntry.{DataEntry}
use Rattle.reading.specs.Lists.{keep, gather, any, over}
use Rattle.reading.specs.Numbers.{verdict_number}
use Rattle.reading.specs.Controls.{Controls, is_removed, is_on}
use Rattle.reading.specs.Actions.{Placed, controls_in, last_disruptive}
use Rattle.reading.specs.Markers.{marker_position}
use Rattle.reading.specs.Call.{Given, Call, Transaction, rule_count, rule_at, is_link, id_at, outcome_at, actions_at, mode_under}
use Rattle.reading.specs.Refusals.{bad_outcome, refused1, refused2, refused3, refused4, refused5, refused6, refused7, refused8, refused9, rule_total, refusal_of, is_accepted}
use Rattle.reading.specs.Units.{starter_of, member_data, data_entry, unit_data, action_controls, rule_controls, unit_controls, unit_flow, unit_disruptive, unit_intervention, stop_status, is_allow, is_stopping}
use Rattle.reading.specs.Walk.{State, Visit, allows, goes_on, stops, is_last, verdict_by, verdict_at, after_chain, jump_from, marker_name, after_flow, ending_by, visit_by, visit_at, is_visited, walk, walk_of, start, nothing_to_do, entry_of, journal_of, closed_in, ids_of, data_of, controls_after, allowed_by, intervention_by, answer_by, error_index_by}
use Rattle.reading.specs.declared.UnsupportedAt.{UnsupportedAt}
use Rattle.reading.specs.Report.{member_unsupported, unit_unsupported, first_or, unsupported_by, visits_with, report_by}
use Rattle.reading.specs.Outcome.{visits_of, outcome_of, at_free_end, if_none}

-- the same with other outcomes
abbrev pub with_outcomes : List ℕ → Given → Given
with_outcomes outcomes q = record {
  reading = q.reading;
  settings = q.settings;
  rules = q.rules;
  actions = q.actions;
  markers = q.markers;
  text = q.text;
  outcomes = outcomes;
}

-- two calls have the same outcome for every rule of a journal that is not removed
abbrev pub SameOutcomes : Given → Given → List JournalEntry → Type 0
SameOutcomes q p [] = Unit {0}
SameOutcomes q p (e ∷ es) = ((e.verdict ≡ 2) ⊎ (outcome_at q e.index ≡ outcome_at p e.index)) × SameOutcomes q p es

-- and for some rules
abbrev SameOf : Given → Given → List ℕ → Type 0
SameOf q p [] = Unit {0}
SameOf q p (m ∷ ms) = (outcome_at q m ≡ outcome_at p m) × SameOf q p ms

module _ (outcomes : List ℕ) (q : Given) where
  -- WHAT LOOKS AT NO OUTCOME

  actions-same : (ps : List Placed) (c : Controls) → action_controls (with_outcomes outcomes q) ps c ≡ action_controls q ps c
  actions-same [] c = refl
  actions-same (p ∷ ps) c = actions-same ps _

  controls-same : (u : List ℕ) (c : Controls) → unit_controls (with_outcomes outcomes q) u c ≡ unit_controls q u c
  unfolding rule_controls actions_at rule_at
  controls-same [] c = refl
  controls-same (m ∷ ms) c =
      ap (λ (d : Controls). unit_controls (with_outcomes outcomes q) ms d) (actions-same (controls_in (actions_at q m)) c)
      ∙ controls-same ms (rule_controls q m c)

  status-same : (ps : List Placed) (d : DisruptiveOutcome) → stop_status (with_outcomes outcomes q) ps d ≡ stop_status q ps d
  status-same ps DisruptiveOutcome.Nothing = refl
  status-same ps DisruptiveOutcome.Deny = refl
  status-same ps DisruptiveOutcome.Block = refl
  status-same ps DisruptiveOutcome.Pass = refl
  status-same ps DisruptiveOutcome.Allow = refl
  status-same ps (DisruptiveOutcome.Redirect at) = refl
  status-same ps DisruptiveOutcome.Drop = refl

  stop-same : (u : List ℕ) → unit_intervention (with_outcomes outcomes q) u ≡ unit_intervention q u
  unfolding unit_intervention id_at actions_at rule_at
  stop-same u = λ i. record {
    status = status-same (actions_at q (starter_of u)) (last_disruptive (actions_at q (starter_of u))) i;
    url = (unit_intervention q u).url;
    log = (unit_intervention q u).log;
    closing = (unit_intervention q u).closing;
    starter = (unit_intervention q u).starter;
    phase = (unit_intervention q u).phase;
    drop = (unit_intervention q u).drop;
    metadata = (unit_intervention q u).metadata;
  }

  jump-same : (after : ℕ) (found : Option ℕ) → jump_from (with_outcomes outcomes q) after found ≡ jump_from q after found
  jump-same after None = refl
  jump-same after (Some position) = refl

  flow-same : (after : ℕ) (f : FlowOutcome) → after_flow (with_outcomes outcomes q) after f ≡ after_flow q after f
  flow-same after FlowOutcome.Continue = refl
  flow-same after FlowOutcome.Chain = refl
  flow-same after (FlowOutcome.Skip n) = refl
  flow-same after (FlowOutcome.SkipAfter position) = jump-same after (marker_position q.text q.markers (marker_name q position))

  ending-same : (u : List ℕ) (c : Controls) (d : DisruptiveOutcome) → ending_by (with_outcomes outcomes q) u c d ≡ ending_by q u c d
  ending-same u c d = ap (λ (i : Intervention). cond (is_allow d) allows (cond (is_stopping d && is_on (mode_under q c)) (stops i) goes_on)) (stop-same u)

  -- a visit by its verdict
  visit-same : (st : State) (v : Verdict) (l : Bool) → visit_by (with_outcomes outcomes q) st v l ≡ visit_by q st v l
  unfolding unit_flow unit_disruptive actions_at rule_at after_chain
  visit-same st Verdict.Missed l = refl
  visit-same st Verdict.Matched true = refl
  visit-same st Verdict.Matched false =
      let u : List ℕ = st.members ++ (st.next ∷ []) in
      let c : Controls = unit_controls q u st.controls in
      λ i. record {
        index = st.next;
        verdict = Verdict.Matched;
        closed = u ∷ [];
        after = record { next = flow-same (suc st.next) (unit_flow q u) i; members = []; controls = controls-same u st.controls i };
        ending = (ap (λ (d : Controls). ending_by (with_outcomes outcomes q) u d (unit_disruptive q u)) (controls-same u st.controls) ∙ ending-same u c (unit_disruptive q u)) i;
      }
  visit-same st Verdict.Removed true = refl
  visit-same st Verdict.Removed false = refl
  visit-same st Verdict.Error l = refl

  -- WHAT DOES

  -- the verdict of a rule that is removed, or has the same outcome
  verdict-same : (c : Controls) (i : ℕ)
      → (verdict_number (verdict_at q c i) ≡ 2) ⊎ (outcome_at q i ≡ outcome_at (with_outcomes outcomes q) i)
      → verdict_at (with_outcomes outcomes q) c i ≡ verdict_at q c i
  unfolding verdict_at id_at rule_at
  verdict-same c i h = by (is_removed c.ranges (id_at q i)) h
    where
      not-removed : (a b : Bool) → verdict_number (cond a Verdict.Missed (cond b Verdict.Error Verdict.Matched)) ≡ 2 → ⊥
      not-removed true b e = omega arith
      not-removed false true e = omega arith
      not-removed false false e = omega arith

      by : (b : Bool) → (verdict_number (cond b Verdict.Removed (verdict_by (outcome_at q i))) ≡ 2) ⊎ (outcome_at q i ≡ outcome_at (with_outcomes outcomes q) i)
          → cond b Verdict.Removed (verdict_by (outcome_at (with_outcomes outcomes q) i)) ≡ cond b Verdict.Removed (verdict_by (outcome_at q i))
      by true g = refl
      by false (inl e) = absurd (not-removed (eqb (outcome_at q i) 0) (eqb (outcome_at q i) 3) e)
      by false (inr e) = ap verdict_by (sym e)

  -- a visit's entry is that of its verdict
  entry-is : (st : State) (v : Verdict) (l : Bool) → entry_of (visit_by q st v l) ≡ record { index = st.next; verdict = verdict_number v }
  entry-is st Verdict.Missed l = refl
  entry-is st Verdict.Matched true = refl
  entry-is st Verdict.Matched false = refl
  entry-is st Verdict.Removed true = refl
  entry-is st Verdict.Removed false = refl
  entry-is st Verdict.Error l = refl

  -- what is known of a visit's entry
  Known : JournalEntry → Type 0
  Known e = (e.verdict ≡ 2) ⊎ (outcome_at q e.index ≡ outcome_at (with_outcomes outcomes q) e.index)

  known-verdict : (st : State) → Known (entry_of (visit_at q st))
      → (verdict_number (verdict_at q st.controls st.next) ≡ 2) ⊎ (outcome_at q st.next ≡ outcome_at (with_outcomes outcomes q) st.next)
  unfolding Known visit_at
  known-verdict st h = subst (λ (e : JournalEntry). Known e) (entry-is st (verdict_at q st.controls st.next) (is_link q st.next)) h

  turn-visit : (st : State) → Known (entry_of (visit_at q st)) → visit_at (with_outcomes outcomes q) st ≡ visit_at q st
  unfolding visit_at is_link rule_at
  turn-visit st h =
      ap (λ (v : Verdict). visit_by (with_outcomes outcomes q) st v (is_link q st.next)) (verdict-same st.controls st.next (known-verdict st h))
      ∙ visit-same st (verdict_at q st.controls st.next) (is_link q st.next)

  -- THE WALK

  kept_same : (b : Bool) (l m : List Visit) → (SameOutcomes q (with_outcomes outcomes q) (journal_of m) → l ≡ m)
      → SameOutcomes q (with_outcomes outcomes q) (journal_of (keep b m)) → keep b l ≡ keep b m
  kept_same true l m f h = f h
  kept_same false l m f h = refl

  turn-same : (st : State) (b : Bool) (rest : State → List Visit) (m : List Visit)
      → (SameOutcomes q (with_outcomes outcomes q) (journal_of m) → rest (visit_at q st).after ≡ m)
      → SameOutcomes q (with_outcomes outcomes q) (journal_of (keep b (visit_at q st ∷ keep (not (is_last (visit_at q st).ending)) m)))
      → keep b (visit_at (with_outcomes outcomes q) st ∷ keep (not (is_last (visit_at (with_outcomes outcomes q) st).ending)) (rest (visit_at (with_outcomes outcomes q) st).after))
      ≡ keep b (visit_at q st ∷ keep (not (is_last (visit_at q st).ending)) m)
  unfolding Known
  turn-same st false rest m f h = refl
  turn-same st true rest m f h =
      ap (λ (v : Visit). v ∷ keep (not (is_last v.ending)) (rest v.after)) (turn-visit st h.0)
      ∙ ap (λ (l : List Visit). visit_at q st ∷ l) (kept_same (not (is_last (visit_at q st).ending)) (rest (visit_at q st).after) m f h.1)

  walk_same : (k : ℕ) (st : State) → SameOutcomes q (with_outcomes outcomes q) (journal_of (walk k q st)) → walk k (with_outcomes outcomes q) st ≡ walk k q st
  unfolding walk
  walk_same zero st h = refl
  walk_same (suc k) st h =
      turn-same st (is_visited q st) (λ s. walk k (with_outcomes outcomes q) s) (walk k q (visit_at q st).after) (walk_same k (visit_at q st).after) h

  pub outcomes-free : (t : Transaction) → SameOutcomes q (with_outcomes outcomes q) (journal_of (walk_of q t)) → walk_of (with_outcomes outcomes q) t ≡ walk_of q t
  unfolding walk_of
  outcomes-free t h =
      kept_same (not (nothing_to_do q t)) (walk (rule_count q) (with_outcomes outcomes q) (start t)) (walk (rule_count q) q (start t))
      (walk_same (rule_count q) (start t)) h

  -- THE DATA: a member of a closed unit was visited and not removed, so it has the same outcome

  same_more : (ms : List ℕ) (i : ℕ) → SameOf q (with_outcomes outcomes q) ms → outcome_at q i ≡ outcome_at (with_outcomes outcomes q) i
      → SameOf q (with_outcomes outcomes q) (ms ++ (i ∷ []))
  same_more [] i h e = (e, tt)
  same_more (m ∷ ms) i h e = (h.0, same_more ms i h.1 e)

  same_kept : (b : Bool) (ms : List ℕ) → SameOf q (with_outcomes outcomes q) ms → SameOf q (with_outcomes outcomes q) (keep b ms)
  same_kept true ms h = h
  same_kept false ms h = tt

  -- a matched rule is not removed
  matched-known : {A : Type 0} → (◌≡◌ {A = ℕ} 1 2) ⊎ A → A
  matched-known (inl e) = absurd (omega arith)
  matched-known (inr a) = a

  -- the members of each unit
  AllSame : List (List ℕ) → Type 0
  AllSame [] = Unit {0}
  AllSame (u ∷ us) = SameOf q (with_outcomes outcomes q) u × AllSame us

  visit-members : (st : State) (v : Verdict) (l : Bool) → SameOf q (with_outcomes outcomes q) st.members
      → (verdict_number v ≡ 2) ⊎ (outcome_at q st.next ≡ outcome_at (with_outcomes outcomes q) st.next)
      → SameOf q (with_outcomes outcomes q) (visit_by q st v l).after.members × AllSame (visit_by q st v l).closed
  unfolding AllSame
  visit-members st Verdict.Missed l h k = (tt, tt)
  visit-members st Verdict.Matched true h k = (same_more st.members st.next h (matched-known k), tt)
  visit-members st Verdict.Matched false h k = (tt, (same_more st.members st.next h (matched-known k), tt))
  visit-members st Verdict.Removed true h k = (tt, tt)
  visit-members st Verdict.Removed false h k = (same_kept (not q.reading.breaks) st.members h, tt)
  visit-members st Verdict.Error l h k = (h, tt)

  all_append : (us vs : List (List ℕ)) → AllSame us → AllSame vs → AllSame (us ++ vs)
  unfolding AllSame
  all_append [] vs h g = g
  all_append (u ∷ us) vs h g = (h.0, all_append us vs h.1 g)

  kept-members : (b : Bool) (l : List Visit) → (SameOutcomes q (with_outcomes outcomes q) (journal_of l) → AllSame (closed_in l))
      → SameOutcomes q (with_outcomes outcomes q) (journal_of (keep b l)) → AllSame (closed_in (keep b l))
  unfolding AllSame
  kept-members true l f h = f h
  kept-members false l f h = tt

  turn-members : (st : State) (b : Bool) (m : List Visit) → SameOf q (with_outcomes outcomes q) st.members
      → (SameOf q (with_outcomes outcomes q) (visit_at q st).after.members → SameOutcomes q (with_outcomes outcomes q) (journal_of m) → AllSame (closed_in m))
      → SameOutcomes q (with_outcomes outcomes q) (journal_of (keep b (visit_at q st ∷ keep (not (is_last (visit_at q st).ending)) m)))
      → AllSame (closed_in (keep b (visit_at q st ∷ keep (not (is_last (visit_at q st).ending)) m)))
  unfolding visit_at Known AllSame
  turn-members st false m s f h = tt
  turn-members st true m s f h =
      let parts = visit-members st (verdict_at q st.controls st.next) (is_link q st.next) s (known-verdict st h.0) in
      all_append (visit_at q st).closed (closed_in (keep (not (is_last (visit_at q st).ending)) m)) parts.1
      (kept-members (not (is_last (visit_at q st).ending)) m (f parts.0) h.1)

  walk-members : (k : ℕ) (st : State) → SameOf q (with_outcomes outcomes q) st.members
      → SameOutcomes q (with_outcomes outcomes q) (journal_of (walk k q st)) → AllSame (closed_in (walk k q st))
  unfolding walk AllSame
  walk-members zero st s h = tt
  walk-members (suc k) st s h =
      turn-members st (is_visited q st) (walk k q (visit_at q st).after) s (walk-members k (visit_at q st).after) h

  members-data : (s : ℕ) (ms : List ℕ) → SameOf q (with_outcomes outcomes q) ms
      → gather (member_data (with_outcomes outcomes q) s) ms ≡ gather (member_data q s) ms
  unfolding id_at rule_at
  members-data s [] h = refl
  members-data s (m ∷ ms) h =
      ap (λ (n : ℕ). keep (eqb n 2) (data_entry q s m ∷ []) ++ gather (member_data (with_outcomes outcomes q) s) ms) (sym h.0)
      ∙ ap (λ (l : List DataEntry). member_data q s m ++ l) (members-data s ms h.1)

  units-data : (us : List (List ℕ)) → AllSame us → gather (unit_data (with_outcomes outcomes q)) us ≡ gather (unit_data q) us
  unfolding AllSame
  units-data [] h = refl
  units-data (u ∷ us) h =
      ap (λ (l : List DataEntry). l ++ gather (unit_data (with_outcomes outcomes q)) us) (members-data (starter_of u) u h.0)
      ∙ ap (λ (l : List DataEntry). unit_data q u ++ l) (units-data us h.1)

  pub data-free : (t : Transaction) → SameOutcomes q (with_outcomes outcomes q) (journal_of (walk_of q t)) → data_of (with_outcomes outcomes q) (walk_of q t) ≡ data_of q (walk_of q t)
  unfolding walk_of
  data-free t h =
      units-data (closed_in (walk_of q t))
      (kept-members (not (nothing_to_do q t)) (walk (rule_count q) q (start t)) (walk-members (rule_count q) (start t) tt) h)

-- THE WHOLE OUTCOME OF A CALL

-- the call with other outcomes
abbrev pub call_with_outcomes : List ℕ → Call → Call
call_with_outcomes outcomes q = record { given = with_outcomes outcomes q.given; transaction = q.transaction; lists = q.lists }

-- no refusal looks at more of the outcomes than how many there are and whether one is unknown
pub refusals-free : (outcomes : List ℕ) (q : Call) → length outcomes ≡ length q.given.outcomes
    → any bad_outcome outcomes ≡ any bad_outcome q.given.outcomes
    → refusal_of (call_with_outcomes outcomes q) ≡ refusal_of q
unfolding refusal_of refused1 refused2 refused3 refused4 refused5 refused6 refused7 refused8 refused9 rule_total
refusals-free outcomes q h k = rw (h, k)

module _ (outcomes : List ℕ) (q : Call) (known : SameOutcomes q.given (with_outcomes outcomes q.given) (journal_of (visits_of q))) where
  -- the visits, and the data, of a call that is refused alike
  visits-free : refusal_of (call_with_outcomes outcomes q) ≡ refusal_of q → visits_of (call_with_outcomes outcomes q) ≡ visits_of q
  unfolding visits_of
  visits-free h =
      ap (λ (n : ℕ). keep (eqb n 0) (walk_of (with_outcomes outcomes q.given) q.transaction)) h
      ∙ kept_same outcomes q.given (is_accepted q) (walk_of (with_outcomes outcomes q.given) q.transaction) (walk_of q.given q.transaction) (outcomes-free outcomes q.given q.transaction) known

  visits-data : data_of (with_outcomes outcomes q.given) (visits_of q) ≡ data_of q.given (visits_of q)
  unfolding visits_of
  visits-data = by (is_accepted q) known
    where
      by : (b : Bool) → SameOutcomes q.given (with_outcomes outcomes q.given) (journal_of (keep b (walk_of q.given q.transaction)))
          → data_of (with_outcomes outcomes q.given) (keep b (walk_of q.given q.transaction)) ≡ data_of q.given (keep b (walk_of q.given q.transaction))
      by true k = data-free outcomes q.given q.transaction k
      by false k = refl

  entries-free : refusal_of (call_with_outcomes outcomes q) ≡ refusal_of q
      → data_of (with_outcomes outcomes q.given) (visits_of (call_with_outcomes outcomes q)) ≡ data_of q.given (visits_of q)
  entries-free h = ap (λ (vs : List Visit). data_of (with_outcomes outcomes q.given) vs) (visits-free h) ∙ visits-data

  -- no outcome is looked at for what is unsupported
  members-unsupported : member_unsupported (with_outcomes outcomes q.given) ≡ member_unsupported q.given
  unfolding member_unsupported actions_at rule_at
  members-unsupported = fun_ext (λ m. refl)

  visits-unsupported : (vs : List Visit) → unsupported_by (with_outcomes outcomes q.given) vs ≡ unsupported_by q.given vs
  visits-unsupported [] = refl
  visits-unsupported (v ∷ vs) =
      ap (λ (member : ℕ → List UnsupportedAt). first_or (gather (gather member) v.closed) (unsupported_by (with_outcomes outcomes q.given) vs)) members-unsupported
      ∙ ap (first_or (gather (unit_unsupported q.given) v.closed)) (visits-unsupported vs)

  report-free : (vs : List Visit) → report_by (with_outcomes outcomes q.given) vs ≡ report_by q.given vs
  report-free vs = λ i. record {
    missed = visits_with Verdict.Missed vs;
    matched = visits_with Verdict.Matched vs;
    removed = visits_with Verdict.Removed vs;
    errors = visits_with Verdict.Error vs;
    unsupported = visits-unsupported vs i;
  }

  -- a call that is refused alike, or not at all, has the same outcome: answer, error, visits, report, transaction and lists
  refused-alike : refusal_of (call_with_outcomes outcomes q) ≡ refusal_of q → outcome_of (call_with_outcomes outcomes q) ≡ outcome_of q
  unfolding outcome_of id_at rule_at
  refused-alike h =
      let t : Transaction = q.transaction in
      let visits : visits_of (call_with_outcomes outcomes q) ≡ visits_of q = visits-free h in
      let entries = entries-free h in
      let report : report_by (with_outcomes outcomes q.given) (visits_of (call_with_outcomes outcomes q)) ≡ report_by q.given (visits_of q) =
      ap (report_by (with_outcomes outcomes q.given)) visits ∙ report-free (visits_of q) in
      λ i. record {
        answer = cond (eqb (h i) 0) (answer_by (visits i)) (h i);
        error = error_index_by (visits i);
        visits = length (visits i);
        report = report i;
        transaction = record {
          controls = controls_after t.controls (visits i);
          allowed = t.allowed || allowed_by (visits i);
          intervention = if_none (intervention_by (visits i)) t.intervention;
          ids = t.ids + length (ids_of q.given (visits i));
          data-entries = t.data-entries + length (entries i);
        };
        lists = record {
          ids = at_free_end t.ids q.lists.ids (ids_of q.given (visits i));
          data-entries = at_free_end t.data-entries q.lists.data-entries (entries i);
          journal = over q.lists.journal (journal_of (visits i));
        };
      }

-- with other outcomes, as many and as well known, that are the same for every rule that is visited and not removed, the whole
-- outcome is the same, for a refused call too
pub call-free : (outcomes : List ℕ) (q : Call) → length outcomes ≡ length q.given.outcomes
    → any bad_outcome outcomes ≡ any bad_outcome q.given.outcomes
    → SameOutcomes q.given (with_outcomes outcomes q.given) (journal_of (visits_of q))
    → outcome_of (call_with_outcomes outcomes q) ≡ outcome_of q
call-free outcomes q h k known = refused-alike outcomes q known (refusals-free outcomes q h k)
