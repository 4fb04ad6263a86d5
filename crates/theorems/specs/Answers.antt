-- Answer 10 is given only where a visited rule that was not removed had outcome 3, for any reading.
use Rattle.std.specs.Prelude.{ℕ, zero, suc, ◌≡◌, refl, List, [], ◌∷◌, ◌++◌, Bool, true, false, not, cond, ◌&&◌, ◌⊎◌, eqb}
use Rattle.std.proofs.Common.{sym, ap, ◌∙◌, inl, inr, arith, eqb-true}
use Rattle.reading.specs.declared.Verdict.{Verdict}
use Rattle.reading.specs.declared.JournalEntry.{JournalEntry}
use Rattle.reading.specs.Lists.{keep}
use Rattle.reading.specs.Numbers.{verdict_number}
use Rattle.reading.specs.Controls.{Controls, is_removed, is_on}
use Rattle.reading.specs.Call.{Given, Transaction, rule_count, is_link, id_at, outcome_at, mode_under}
use Rattle.reading.specs.Units.{unit_controls, unit_disruptive, unit_intervention, is_allow, is_stopping}
use Rattle.reading.specs.Walk.{State, Visit, Ending, goes_on, allows, errs, stops, is_last, is_error, verdict_by, verdict_at, visit_by, visit_at, is_visited, walk, walk_of, start, nothing_to_do, entry_of, journal_of, controls_after, answer_by, error_index_by}

-- the last entry of the journal of visits that began with the controls c is that of a rule with outcome 3 that those
-- visits' controls do not remove, and the error's index is its index
pub record ErrorFound (q : Given) (c : Controls) (l : List Visit) : Type 0 where
  pub earlier : List JournalEntry
  pub last_entry : journal_of l ≡ earlier ++ (record { index = error_index_by l; verdict = 3 } ∷ [])
  pub outcome : outcome_at q (error_index_by l) ≡ 3
  pub not-removed : is_removed (controls_after c l).ranges (id_at q (error_index_by l)) ≡ false

-- a rule that is found to be in error is not removed and has outcome 3
record InError (q : Given) (c : Controls) (i : ℕ) : Type 0 where
  outcome : outcome_at q i ≡ 3
  not-removed : is_removed c.ranges (id_at q i) ≡ false

-- the four verdicts are different
abbrev is_error_verdict : Verdict → Bool
is_error_verdict Verdict.Missed = false
is_error_verdict Verdict.Matched = false
is_error_verdict Verdict.Removed = false
is_error_verdict Verdict.Error = true

error-outcome : (n : ℕ) → is_error_verdict (verdict_by n) ≡ true → n ≡ 3
error-outcome n e = by (eqb n 0) (eqb n 3) refl e
  where
    by : (a b : Bool) → eqb n 3 ≡ b → is_error_verdict (cond a Verdict.Missed (cond b Verdict.Error Verdict.Matched)) ≡ true → n ≡ 3
    by true b p h = absurd (let y : ◌≡◌ {A = ℕ} 0 1 = cc in omega arith)
    by false true p h = eqb-true n 3 p
    by false false p h = absurd (let y : ◌≡◌ {A = ℕ} 0 1 = cc in omega arith)

in-error : (q : Given) (c : Controls) (i : ℕ) → is_error_verdict (verdict_at q c i) ≡ true → InError q c i
unfolding verdict_at
in-error q c i e = by (is_removed c.ranges (id_at q i)) refl e
  where
    by : (b : Bool) → is_removed c.ranges (id_at q i) ≡ b → is_error_verdict (cond b Verdict.Removed (verdict_by (outcome_at q i))) ≡ true → InError q c i
    by true p h = absurd (let y : ◌≡◌ {A = ℕ} 0 1 = cc in omega arith)
    by false p h = record { outcome = error-outcome (outcome_at q i) h; not-removed = p }

-- only such a rule's visit ends in an error
no-error : (a b : Bool) (i : Ending) → is_error i ≡ false → is_error (cond a allows (cond b i goes_on)) ≡ false
no-error true b i h = refl
no-error false true i h = h
no-error false false i h = refl

error-verdict : (q : Given) (st : State) (v : Verdict) (l : Bool) → is_error (visit_by q st v l).ending ≡ is_error_verdict v
error-verdict q st Verdict.Missed l = refl
error-verdict q st Verdict.Matched true = refl
error-verdict q st Verdict.Matched false =
    let unit = st.members ++ (st.next ∷ []) in
    let d = unit_disruptive q unit in
    no-error (is_allow d) (is_stopping d && is_on (mode_under q (unit_controls q unit st.controls))) (stops (unit_intervention q unit)) refl
error-verdict q st Verdict.Removed true = refl
error-verdict q st Verdict.Removed false = refl
error-verdict q st Verdict.Error l = refl

-- the visit of such a rule
record ErrorVisit (st : State) (v : Visit) : Type 0 where
  number : verdict_number v.verdict ≡ 3
  index : v.index ≡ st.next
  controls : v.after.controls ≡ st.controls

error-visit : (q : Given) (st : State) (v : Verdict) (l : Bool) → is_error_verdict v ≡ true → ErrorVisit st (visit_by q st v l)
error-visit q st Verdict.Missed l e = absurd (let y : ◌≡◌ {A = ℕ} 0 1 = cc in omega arith)
error-visit q st Verdict.Matched l e = absurd (let y : ◌≡◌ {A = ℕ} 0 1 = cc in omega arith)
error-visit q st Verdict.Removed l e = absurd (let y : ◌≡◌ {A = ℕ} 0 1 = cc in omega arith)
error-visit q st Verdict.Error l e = record { number = refl; index = refl; controls = refl }

error-last : (e : Ending) → is_error e ≡ true → is_last e ≡ true
error-last goes_on h = absurd (let y : ◌≡◌ {A = ℕ} 0 1 = cc in omega arith)
error-last allows h = refl
error-last errs h = refl
error-last (stops i) h = refl

-- a visit that ends in an error, which is the last
this-one : (q : Given) (st : State) (v : Visit) (rest : List Visit) → is_error v.ending ≡ true → InError q st.controls st.next → ErrorVisit st v
    → ErrorFound q st.controls (v ∷ keep (not (is_last v.ending)) rest)
this-one q st v rest e i s =
    rw (error-last v.ending e) (record {
      earlier = [];
      last_entry = rw e (ap (λ (n : ℕ). record { index = v.index; verdict = n } ∷ []) s.number);
      outcome = rw (e, s.index) i.outcome;
      not-removed = rw (e, s.index, s.controls) i.not-removed;
    })

-- one before others of which the last ends in an error
one-of-others : (q : Given) (c : Controls) (v : Visit) (l : List Visit) → is_error v.ending ≡ false → ErrorFound q v.after.controls l
    → ErrorFound q c (v ∷ l)
one-of-others q c v l e f =
    record {
      earlier = entry_of v ∷ f.earlier;
      last_entry = rw e (ap (λ (es : List JournalEntry). entry_of v ∷ es) f.last_entry);
      outcome = rw e f.outcome;
      not-removed = rw e f.not-removed;
    }

-- the visits of a state, where those after the first are known
turn-error : (q : Given) (st : State) (rest : List Visit) (b : Bool)
    → (answer_by (keep (not (is_last (visit_at q st).ending)) rest) ≡ 10 → ErrorFound q (visit_at q st).after.controls (keep (not (is_last (visit_at q st).ending)) rest))
    → answer_by (keep b (visit_at q st ∷ keep (not (is_last (visit_at q st).ending)) rest)) ≡ 10
    → ErrorFound q st.controls (keep b (visit_at q st ∷ keep (not (is_last (visit_at q st).ending)) rest))
unfolding visit_at
turn-error q st rest false f h = absurd (omega arith)
turn-error q st rest true f h = by (is_error v.ending) refl
  where
    verdict : Verdict
    verdict = verdict_at q st.controls st.next

    v : Visit
    v = visit_by q st verdict (is_link q st.next)

    by : (b : Bool) → is_error v.ending ≡ b → ErrorFound q st.controls (v ∷ keep (not (is_last v.ending)) rest)
    by true e =
        let is : is_error_verdict verdict ≡ true = sym (error-verdict q st verdict (is_link q st.next)) ∙ e in
        this-one q st v rest e (in-error q st.controls st.next is) (error-visit q st verdict (is_link q st.next) is)
    by false e = one-of-others q st.controls v (keep (not (is_last v.ending)) rest) e (f (rw e at h))

kept-error : (q : Given) (c : Controls) (b : Bool) (l : List Visit) → (answer_by l ≡ 10 → ErrorFound q c l) → answer_by (keep b l) ≡ 10 → ErrorFound q c (keep b l)
kept-error q c true l f h = f h
kept-error q c false l f h = absurd (omega arith)

errors : (k : ℕ) (q : Given) (st : State) → answer_by (walk k q st) ≡ 10 → ErrorFound q st.controls (walk k q st)
unfolding walk
errors zero q st h = absurd (omega arith)
errors (suc k) q st h =
    let v : Visit = visit_at q st in
    turn-error q st (walk k q v.after) (is_visited q st)
    (kept-error q v.after.controls (not (is_last v.ending)) (walk k q v.after) (errors k q v.after)) h

-- 01: "Answer 10 is no refusal: a visited rule that was not removed had outcome 3; its index is given"
pub ten-only-after-error : (q : Given) (t : Transaction) → answer_by (walk_of q t) ≡ 10 → ErrorFound q t.controls (walk_of q t)
unfolding walk_of
ten-only-after-error q t h =
    kept-error q t.controls (not (nothing_to_do q t)) (walk (rule_count q) q (start t)) (errors (rule_count q) q (start t)) h

-- the visits' answer is 0 or 10
pub zero-or-ten : (l : List Visit) → (answer_by l ≡ 0) ⊎ (answer_by l ≡ 10)
zero-or-ten [] = inl refl
zero-or-ten (v ∷ vs) = by (is_error v.ending) (zero-or-ten vs)
  where
    by : (b : Bool) → (answer_by vs ≡ 0) ⊎ (answer_by vs ≡ 10) → (cond b 10 (answer_by vs) ≡ 0) ⊎ (cond b 10 (answer_by vs) ≡ 10)
    by true h = inr refl
    by false h = h
