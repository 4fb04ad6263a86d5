-- The demands as theorems about the outcome that 01 defines, for any reading: demand 3 whole; a refused call and a call
-- with nothing to do change nothing; the answers.
use Rattle.std.specs.Prelude.{ℕ, ◌+◌, ◌≤◌, ◌≡◌, refl, List, [], ◌∷◌, ◌++◌, ◌⊎◌, Bool, true, false, not, cond, ◌&&◌, ◌||◌, length, take, drop, eqb, Option, Some, None}
use Rattle.std.proofs.Common.{sym, ap, ◌∙◌, inl, inr, arith, take-append-drop, eq-eqb, ne_eqb, eqb-true}
use Rattle.std.proofs.lemmas.Bool.{eqb-false}
use Rattle.reading.specs.declared.JournalEntry.{JournalEntry}
use Rattle.reading.specs.declared.Intervention.{Intervention}
use Rattle.reading.specs.Lists.{keep}
use Rattle.reading.specs.Call.{Given, Call, Transaction, Lists, rule_count, is_link, mode_under}
use Rattle.reading.specs.Controls.{Controls, is_on}
use Rattle.reading.specs.Units.{unit_disruptive, unit_intervention, is_stopping}
use Rattle.reading.specs.Walk.{Visit, walk, start, walk_of, is_stopped, nothing_to_do, journal_of, allowed_by, intervention_by, answer_by, error_index_by, is_error}
use Rattle.reading.specs.Replay.{held_after, units_of, last_closed_from, last_closed, stop_of, replayed_controls, replayed_intervention}
use Rattle.reading.specs.Refusals.{refusal_of, refused1, refused2, refused3, refused4, refused5, refused6, refused7, refused8, refused9}
use Rattle.reading.specs.Outcome.{Outcome, visits_of, outcome_of, at_free_end, if_none, transaction_after, lists_after}
use Rattle.reading.specs.Demand3.{Demand3, StoppedBy, found_journal}
use Rattle.lists.proofs.Tests.{or-false-is}
use Rattle.theorems.specs.Replayed.{Replayed, walk-replayed}
use Rattle.theorems.specs.Rising.{indexes-rise}
use Rattle.theorems.specs.WithinLimits.{accepted-visits, length-journal}
use Rattle.reading.specs.Report.{no_report, report_by}
use Rattle.theorems.specs.Reported.{report-told}
use Rattle.theorems.specs.Answers.{ErrorFound, ten-only-after-error, zero-or-ten}

take-front : {A : Type 0} (xs ys : List A) → take (length xs) (xs ++ ys) ≡ xs
take-front [] ys = take_none ys
  where
    take_none : {A : Type 0} (l : List A) → take 0 l ≡ []
    take_none [] = refl
    take_none (x ∷ l) = refl
take-front (x ∷ xs) ys = ap (λ l. x ∷ l) (take-front xs ys)

-- the journal found is that of the visits
found-is : (q : Call) → found_journal (outcome_of q) ≡ journal_of (visits_of q)
unfolding outcome_of
found-is q =
    rw (← length-journal (visits_of q)) (take-front (journal_of (visits_of q)) (drop (length (journal_of (visits_of q))) q.lists.journal))

pub none-held : (i : Option Intervention) → is_stopped i ≡ false → i ≡ None
none-held None e = refl
none-held (Some i) e = absurd (let y : ◌≡◌ {A = ℕ} 0 1 = cc in omega arith)

pub or-none : (i : Option Intervention) → if_none i None ≡ i
or-none None = refl
or-none (Some i) = refl

-- THE ANSWERS

-- every refusal's number is 1 to 9
few-refusals : (q : Call) → refusal_of q ≤ 9
unfolding refusal_of
few-refusals q = by (refused1 q) (refused2 q) (refused3 q) (refused4 q) (refused5 q) (refused6 q) (refused7 q) (refused8 q) (refused9 q)
  where
    by_last : (b : Bool) → cond b 9 0 ≤ 9
    by_last true = omega arith
    by_last false = omega arith

    one : (b : Bool) (n m : ℕ) → n ≤ 9 → m ≤ 9 → cond b n m ≤ 9
    one true n m h g = h
    one false n m h g = g

    by : (a b c d e f g h i : Bool)
        → cond a 1 (cond b 2 (cond c 3 (cond d 4 (cond e 5 (cond f 6 (cond g 7 (cond h 8 (cond i 9 0)))))))) ≤ 9
    by a b c d e f g h i =
        one a 1 _ (omega arith) (one b 2 _ (omega arith) (one c 3 _ (omega arith) (one d 4 _ (omega arith)
        (one e 5 _ (omega arith) (one f 6 _ (omega arith) (one g 7 _ (omega arith) (one h 8 _ (omega arith) (by_last i))))))))

-- the answer is the refusal's number, where one applies, and else 0 or 10
pub refused-answer : (q : Call) → (refusal_of q ≡ 0 → ⊥) → (outcome_of q).answer ≡ refusal_of q
unfolding outcome_of
refused-answer q h = rw (ne_eqb (refusal_of q) 0 h)

pub accepted-answer : (q : Call) → refusal_of q ≡ 0 → (outcome_of q).answer ≡ answer_by (walk_of q.given q.transaction)
unfolding outcome_of
accepted-answer q e = ap (λ (b : Bool). cond b (answer_by (visits_of q)) (refusal_of q)) (eq-eqb (refusal_of q) 0 e) ∙ ap answer_by (accepted-visits q e)

-- an answer of 0 or 10 is that of a call that was not refused
pub answered-accepted : (q : Call) → ((outcome_of q).answer ≡ 0) ⊎ ((outcome_of q).answer ≡ 10) → refusal_of q ≡ 0
answered-accepted q a = by (eqb (refusal_of q) 0) refl a
  where
    by : (b : Bool) → eqb (refusal_of q) 0 ≡ b → ((outcome_of q).answer ≡ 0) ⊎ ((outcome_of q).answer ≡ 10) → refusal_of q ≡ 0
    by true e x = eqb-true (refusal_of q) 0 e
    by false e (inl z) = sym (refused-answer q (eqb-false (refusal_of q) 0 e)) ∙ z
    by false e (inr t) = absurd (omega (arith, few-refusals q, sym (refused-answer q (eqb-false (refusal_of q) 0 e)) ∙ t))

-- the error's index is 0 with every answer but 10 (docs/DECISIONS.md, D122)
no-error-index : (l : List Visit) → answer_by l ≡ 0 → error_index_by l ≡ 0
no-error-index [] h = refl
no-error-index (v ∷ vs) h = by (is_error v.ending) (no-error-index vs) h
  where
    by : (b : Bool) → (answer_by vs ≡ 0 → error_index_by vs ≡ 0) → cond b 10 (answer_by vs) ≡ 0 → cond b v.index (error_index_by vs) ≡ 0
    by true f g = absurd (omega arith)
    by false f g = f g

-- the index of visits whose answer is not 10
not-ten : (l : List Visit) → (answer_by l ≡ 0) ⊎ (answer_by l ≡ 10) → (answer_by l ≡ 10 → ⊥) → error_index_by l ≡ 0
not-ten l (inl z) n = no-error-index l z
not-ten l (inr t) n = absurd (n t)

pub other-answers-no-index : (q : Call) → ((outcome_of q).answer ≡ 10 → ⊥) → (outcome_of q).error ≡ 0
unfolding outcome_of visits_of
other-answers-no-index q h = by (eqb (refusal_of q) 0) refl
  where
    by : (b : Bool) → eqb (refusal_of q) 0 ≡ b → error_index_by (keep b (walk_of q.given q.transaction)) ≡ 0
    by false e = refl
    by true e =
        not-ten (walk_of q.given q.transaction) (zero-or-ten (walk_of q.given q.transaction))
        (λ t. h (ap (λ (b : Bool). cond b (answer_by (keep b (walk_of q.given q.transaction))) (refusal_of q)) e ∙ t))

-- demand 1: answer 10's condition
pub ten-has-cause : (q : Call) → (outcome_of q).answer ≡ 10 → ErrorFound q.given q.transaction.controls (walk_of q.given q.transaction)
ten-has-cause q h = ten-only-after-error q.given q.transaction (sym (accepted-answer q (answered-accepted q (inr h))) ∙ h)

-- DEMAND 3, WHOLE

pub demand3 : (q : Call) → Demand3 q (outcome_of q)
unfolding outcome_of units_of last_closed
demand3 q answered unallowed unstopped =
    let e : refusal_of q ≡ 0 = answered-accepted q answered in
    let vs : visits_of q ≡ walk_of q.given q.transaction = accepted-visits q e in
    let r : Replayed q.given [] q.transaction.controls (walk_of q.given q.transaction) = walk-replayed q.given q.transaction in
    let found : found_journal (outcome_of q) ≡ journal_of (walk_of q.given q.transaction) = found-is q ∙ ap journal_of vs in
    record {
      visits = ap length vs;
      journal = found;
      report = rw found (ap (report_by q.given) vs ∙ report-told q.given q.transaction);
      rising = rw found (indexes-rise q.given q.transaction);
      ids = rw (found, vs, ← r.units);
      ids-used = rw (found, vs, ← r.units);
      data-entries = rw (found, vs, ← r.units);
      data-used = rw (found, vs, ← r.units);
      controls = rw (found, vs, ← r.units) r.controls;
      allow = rw (found, vs, ← r.units) (ap (λ (b : Bool). b || allowed_by (walk_of q.given q.transaction)) unallowed ∙ r.allow);
      intervention =
          rw (found, vs, ← r.units, ← r.controls) (
          ap (λ (i : Option Intervention). if_none (intervention_by (walk_of q.given q.transaction)) i) (none-held q.transaction.intervention unstopped)
          ∙ or-none (intervention_by (walk_of q.given q.transaction)) ∙ r.intervention);
    }

-- "An intervention is then found exactly when ..": the equation of `Accounted`, as the two directions

-- an entry closes one unit or none, and so does the last of several
OneOrNone : List (List ℕ) → Type 0
OneOrNone l = (l ≡ []) ⊎ ((u : List ℕ) × (l ≡ u ∷ []))

one-or-none : (q : Given) (held : List ℕ) (journal : List JournalEntry) → OneOrNone (last_closed_from q held journal)
unfolding OneOrNone
one-or-none q held [] = inl refl
one-or-none q held (e ∷ []) = by (eqb e.verdict 1 && not (is_link q e.index))
  where
    by : (b : Bool) → OneOrNone (keep b ((held ++ (e.index ∷ [])) ∷ []))
    by true = inr (held ++ (e.index ∷ []), refl)
    by false = inl refl
one-or-none q held (e ∷ f ∷ es) = one-or-none q (held_after q held e) (f ∷ es)

same-intervention : (i j : Intervention) → Some i ≡ Some j → i ≡ j
same-intervention i j e = cc

never : (i : Intervention) → None ≡ Some i → ⊥
never i e = let z : ◌≡◌ {A = ℕ} 0 1 = cc in omega arith

pub stop-has-cause : (q : Given) (t : Transaction) (journal : List JournalEntry) (i : Intervention)
    → replayed_intervention q t journal ≡ Some i → StoppedBy q t journal i
unfolding last_closed OneOrNone
stop-has-cause q t journal i h = by (one-or-none q [] journal)
  where
    c : Controls
    c = replayed_controls q t journal

    unit-by : (u : List ℕ) → last_closed_from q [] journal ≡ u ∷ [] → (s on : Bool) → is_stopping (unit_disruptive q u) ≡ s → is_on (mode_under q c) ≡ on
        → cond (s && on) (Some (unit_intervention q u)) None ≡ Some i → StoppedBy q t journal i
    unit-by u e true true p r g =
        record { unit = u; closed-last = e; stopping = p; mode-on = r; built = sym (same-intervention (unit_intervention q u) i g) }
    unit-by u e true false p r g = absurd (never i g)
    unit-by u e false on p r g = absurd (never i g)

    by : OneOrNone (last_closed_from q [] journal) → StoppedBy q t journal i
    by (inl e) = absurd (never i (sym (ap (λ (l : List (List ℕ)). stop_of q l c) e) ∙ h))
    by (inr p) =
        unit-by p.0 p.1 (is_stopping (unit_disruptive q p.0)) (is_on (mode_under q c)) refl refl
        (sym (ap (λ (l : List (List ℕ)). stop_of q l c) p.1) ∙ h)

pub cause-stops : (q : Given) (t : Transaction) (journal : List JournalEntry) (i : Intervention)
    → StoppedBy q t journal i → replayed_intervention q t journal ≡ Some i
cause-stops q t journal i s =
    ap (λ (l : List (List ℕ)). stop_of q l (replayed_controls q t journal)) s.closed-last
    ∙ ap (λ (b : Bool). cond (b && is_on (mode_under q (replayed_controls q t journal))) (Some (unit_intervention q s.unit)) None) s.stopping
    ∙ ap (λ (b : Bool). cond b (Some (unit_intervention q s.unit)) None) s.mode-on
    ∙ ap Some (sym s.built)

-- CALLS THAT CHANGE NOTHING

-- everything that was lent is found as it was, and the journal counts no entry
pub record AsLent (q : Call) (o : Outcome) : Type 0 where
  pub visits : o.visits ≡ 0
  pub report : o.report ≡ no_report
  pub transaction : o.transaction ≡ q.transaction
  pub lists : o.lists ≡ q.lists

drop-none : {A : Type 0} (l : List A) → drop 0 l ≡ l
drop-none [] = refl
drop-none (x ∷ l) = refl

no-more-entries : {A : Type 0} (used : ℕ) (l : List A) → at_free_end used l [] ≡ l
no-more-entries used l = rw (drop-none (drop used l)) (take-append-drop used l)

transaction-kept : (g : Given) (t : Transaction) → transaction_after g t [] ≡ t
transaction-kept g t = λ i. record {
  controls = t.controls;
  allowed = or-false-is t.allowed i;
  intervention = t.intervention;
  ids = plus_none t.ids i;
  data-entries = plus_none t.data-entries i;
}
  where
    plus_none : (n : ℕ) → n + 0 ≡ n
    plus_none n = omega arith

lists-kept : (g : Given) (t : Transaction) (lent : Lists) → lists_after g t lent [] ≡ lent
lists-kept g t lent = λ i. record {
  ids = no-more-entries t.ids lent.ids i;
  data-entries = no-more-entries t.data-entries lent.data-entries i;
  journal = drop-none lent.journal i;
}

-- a call without visits
no-visits : (q : Call) → visits_of q ≡ [] → AsLent q (outcome_of q)
unfolding outcome_of
no-visits q e =
    record {
      visits = ap length e;
      report = ap (report_by q.given) e;
      transaction = ap (transaction_after q.given q.transaction) e ∙ transaction-kept q.given q.transaction;
      lists = ap (lists_after q.given q.transaction q.lists) e ∙ lists-kept q.given q.transaction q.lists;
    }

-- demand 1: "Any other call gets the first number of 01's list that applies, and transaction and lists are found exactly as lent."
pub refused-as-lent : (q : Call) → (refusal_of q ≡ 0 → ⊥) → AsLent q (outcome_of q)
unfolding visits_of
refused-as-lent q h = no-visits q (ap (λ (b : Bool). keep b (walk_of q.given q.transaction)) (ne_eqb (refusal_of q) 0 h))

-- 01: "Nothing is done if already allowed or stopped, if the mode is Off, or if there are no rules."
pub idle-as-lent : (q : Call) → refusal_of q ≡ 0 → nothing_to_do q.given q.transaction ≡ true → AsLent q (outcome_of q)
unfolding walk_of
idle-as-lent q e h = no-visits q (accepted-visits q e ∙ ap (λ (b : Bool). keep (not b) (walk (rule_count q.given) q.given (start q.transaction))) h)

pub idle-answer : (q : Call) → refusal_of q ≡ 0 → nothing_to_do q.given q.transaction ≡ true → (outcome_of q).answer ≡ 0
unfolding walk_of
idle-answer q e h =
    accepted-answer q e ∙ ap (λ (b : Bool). answer_by (keep (not b) (walk (rule_count q.given) q.given (start q.transaction)))) h
