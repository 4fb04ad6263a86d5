-- The indexes of a journal rise strictly, and each is that of a rule, for any reading.
use Rattle.std.specs.Prelude.{ℕ, zero, suc, ◌+◌, ◌≤◌, ◌<◌, ◌≡◌, refl, List, [], ◌∷◌, ◌++◌, Bool, true, false, not, cond, ◌&&◌, ◌||◌, length, drop, ltb, eqb, Option, Some, None}
use Rattle.std.proofs.Common.{ap, ◌∙◌, arith, ltb-true, eqb-true}
use Rattle.reading.specs.declared.Verdict.{Verdict}
use Rattle.reading.specs.declared.Rule.{Rule}
use Rattle.reading.specs.declared.FlowOutcome.{FlowOutcome}
use Rattle.reading.specs.declared.JournalEntry.{JournalEntry}
use Rattle.reading.specs.Lists.{keep}
use Rattle.reading.specs.Controls.{is_off}
use Rattle.reading.specs.Markers.{marker_position}
use Rattle.reading.specs.Reading.{Reading, jumps}
use Rattle.reading.specs.Call.{Given, Transaction, rule_count, is_link, mode_under}
use Rattle.reading.specs.Units.{unit_flow}
use Rattle.reading.specs.Demand3.{Rises}
use Rattle.reading.specs.Walk.{State, Visit, is_last, chain_rest, after_chain, jump_from, marker_name, after_flow, visit_by, visit_at, verdict_at, is_visited, walk, walk_of, start, nothing_to_do, journal_of}
use Rattle.lists.proofs.Tests.{and-true}

-- a chain has at least the rule that it is asked from
rest-positive : (rs : List Rule) (i : ℕ) → i < length rs → 0 < chain_rest (drop i rs)
rest-positive [] i h = elim h [ ]
rest-positive (r ∷ rs) zero h = by (eqb r.link 1)
  where
    by : (b : Bool) → 0 < cond b (suc (chain_rest rs)) 1
    by true = omega arith
    by false = omega arith
rest-positive (r ∷ rs) (suc i) h = rest-positive rs i (omega arith)

pub chain-ahead : (q : Given) (i : ℕ) → i < rule_count q → i < after_chain q i
unfolding after_chain
chain-ahead q i h = omega (arith, rest-positive q.rules i h)

-- no reading jumps back
pub jumps-ahead : (r : Reading) (position after : ℕ) → jumps r position after ≡ true → after ≤ position
jumps-ahead r position after e = by (ltb after position) r.adjacent (eqb position after) refl refl e
  where
    by : (a b c : Bool) → ltb after position ≡ a → eqb position after ≡ c → (a || b && c) ≡ true → after ≤ position
    by true b c p s h = omega (arith, ltb-true after position p)
    by false true true p s h = omega (arith, eqb-true position after s)
    by false true false p s h = absurd (let y : ◌≡◌ {A = ℕ} 0 1 = cc in omega arith)
    by false false c p s h = absurd (let y : ◌≡◌ {A = ℕ} 0 1 = cc in omega arith)

jump-ahead : (q : Given) (i : ℕ) (found : Option ℕ) → i < rule_count q → i < jump_from q (suc i) found
jump-ahead q i None h = h
jump-ahead q i (Some position) h = by (jumps q.reading position (suc i)) refl
  where
    by : (b : Bool) → jumps q.reading position (suc i) ≡ b → i < cond b position (rule_count q)
    by true e = omega (arith, jumps-ahead q.reading position (suc i) e)
    by false e = h

flow-ahead : (q : Given) (i : ℕ) (f : FlowOutcome) → i < rule_count q → i < after_flow q (suc i) f
flow-ahead q i FlowOutcome.Continue h = omega arith
flow-ahead q i FlowOutcome.Chain h = omega arith
flow-ahead q i (FlowOutcome.Skip n) h = omega arith
flow-ahead q i (FlowOutcome.SkipAfter position) h = jump-ahead q i (marker_position q.text q.markers (marker_name q position)) h

-- every visit goes on to a greater index
pub goes-ahead : (q : Given) (st : State) (v : Verdict) (l : Bool) → st.next < rule_count q → st.next < (visit_by q st v l).after.next
goes-ahead q st Verdict.Missed l h = chain-ahead q st.next h
goes-ahead q st Verdict.Matched true h = omega arith
goes-ahead q st Verdict.Matched false h = flow-ahead q st.next (unit_flow q (st.members ++ (st.next ∷ []))) h
goes-ahead q st Verdict.Removed true h = chain-ahead q st.next h
goes-ahead q st Verdict.Removed false h = omega arith
goes-ahead q st Verdict.Error l h = omega arith

-- a visit has the index that the state says
pub index_is : (q : Given) (st : State) (v : Verdict) (l : Bool) → (visit_by q st v l).index ≡ st.next
index_is q st Verdict.Missed l = refl
index_is q st Verdict.Matched true = refl
index_is q st Verdict.Matched false = refl
index_is q st Verdict.Removed true = refl
index_is q st Verdict.Removed false = refl
index_is q st Verdict.Error l = refl

pub visited-within : (q : Given) (st : State) → is_visited q st ≡ true → st.next < rule_count q
visited-within q st e = ltb-true st.next (rule_count q) (and-true (ltb st.next (rule_count q)) (not (is_off (mode_under q st.controls))) e).0

weaker : (n a b : ℕ) (l : List JournalEntry) → a ≤ b → Rises n b l → Rises n a l
weaker n a b [] h r = tt
weaker n a b (e ∷ es) h r = (omega (arith, r.0), r.1, r.2)

kept-rises : (n a : ℕ) (b : Bool) (l : List Visit) → Rises n a (journal_of l) → Rises n a (journal_of (keep b l))
kept-rises n a true l r = r
kept-rises n a false l r = tt

one-rises : (n : ℕ) (v : Visit) (l : List Visit) (at : ℕ) → v.index ≡ at → at < n → at < v.after.next
    → Rises n v.after.next (journal_of l) → Rises n at (journal_of (v ∷ l))
one-rises n v l at e h g r = (omega arith, omega arith, weaker n (suc v.index) v.after.next (journal_of l) (omega arith) r)

turn-rises : (q : Given) (st : State) (rest : List Visit) (b : Bool) → is_visited q st ≡ b
    → Rises (rule_count q) (visit_at q st).after.next (journal_of rest)
    → Rises (rule_count q) st.next (journal_of (keep b (visit_at q st ∷ keep (not (is_last (visit_at q st).ending)) rest)))
unfolding visit_at
turn-rises q st rest false e r = tt
turn-rises q st rest true e r =
    let verdict : Verdict = verdict_at q st.controls st.next in
    let link : Bool = is_link q st.next in
    let v : Visit = visit_by q st verdict link in
    let h : st.next < rule_count q = visited-within q st e in
    one-rises (rule_count q) v (keep (not (is_last v.ending)) rest) st.next (index_is q st verdict link) h (goes-ahead q st verdict link h)
    (kept-rises (rule_count q) v.after.next (not (is_last v.ending)) rest r)

rises : (k : ℕ) (q : Given) (st : State) → Rises (rule_count q) st.next (journal_of (walk k q st))
unfolding walk
rises zero q st = tt
rises (suc k) q st = turn-rises q st (walk k q (visit_at q st).after) (is_visited q st) refl (rises k q (visit_at q st).after)

-- demand 3: "the indexes strictly rising"
pub indexes-rise : (q : Given) (t : Transaction) → Rises (rule_count q) 0 (journal_of (walk_of q t))
unfolding walk_of
indexes-rise q t = kept-rises (rule_count q) 0 (not (nothing_to_do q t)) (walk (rule_count q) q (start t)) (rises (rule_count q) q (start t))

-- THE WALK ENDS BY ITSELF: it is cut nowhere by the count of visits that it is given

turn-enough : (q : Given) (st : State) (rest more : List Visit) (b : Bool) → is_visited q st ≡ b
    → (st.next < (visit_at q st).after.next → more ≡ rest)
    → keep b (visit_at q st ∷ keep (not (is_last (visit_at q st).ending)) more) ≡ keep b (visit_at q st ∷ keep (not (is_last (visit_at q st).ending)) rest)
unfolding visit_at
turn-enough q st rest more false e h = refl
turn-enough q st rest more true e h =
    let verdict : Verdict = verdict_at q st.controls st.next in
    let link : Bool = is_link q st.next in
    let v : Visit = visit_by q st verdict link in
    ap (λ (l : List Visit). v ∷ keep (not (is_last v.ending)) l) (h (goes-ahead q st verdict link (visited-within q st e)))

no-visit : (q : Given) (st : State) (l : List Visit) (b : Bool) → is_visited q st ≡ b → rule_count q ≤ st.next → keep b l ≡ []
no-visit q st l false e h = refl
no-visit q st l true e h = absurd (omega (arith, visited-within q st e))

one-enough : (k : ℕ) (q : Given) (st : State) → rule_count q ≤ k + st.next → walk (suc k) q st ≡ walk k q st
unfolding walk
one-enough zero q st h =
    no-visit q st (visit_at q st ∷ keep (not (is_last (visit_at q st).ending)) (walk zero q (visit_at q st).after)) (is_visited q st) refl (omega arith)
one-enough (suc k) q st h =
    turn-enough q st (walk k q (visit_at q st).after) (walk (suc k) q (visit_at q st).after) (is_visited q st) refl
    (λ g. one-enough k q (visit_at q st).after (omega arith))

pub walk-complete : (q : Given) (t : Transaction) (more : ℕ) → walk (rule_count q + more) q (start t) ≡ walk (rule_count q) q (start t)
walk-complete q t zero =
    let z : rule_count q + 0 ≡ rule_count q = omega arith in
    ap (λ (k : ℕ). walk k q (start t)) z
walk-complete q t (suc more) =
    let z : rule_count q + suc more ≡ suc (rule_count q + more) = omega arith in
    ap (λ (k : ℕ). walk k q (start t)) z ∙ one-enough (rule_count q + more) q (start t) (omega arith) ∙ walk-complete q t more
