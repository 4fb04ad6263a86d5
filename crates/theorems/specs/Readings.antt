-- Where the two readings, and the manual and the Rust, agree, so that docs/DIFFERENCES.md lists all that is left; and what
-- does not depend on the reading.
use Rattle.std.specs.Prelude.{ℕ, zero, suc, ◌+◌, ◌≤◌, ◌<◌, ◌≡◌, refl, ◌⊎◌, List, [], ◌∷◌, ◌++◌, Bool, true, false, not, cond, ◌&&◌, ◌||◌, length, leb, ltb, eqb, Option, Some, None}
use Rattle.std.proofs.Common.{sym, ap, ◌∙◌, inl, inr, arith, drop-cons, le-leb, ne_eqb, ltb-true, ltb-false, eqb-true}
use Rattle.std.proofs.lemmas.Bool.{lt-leb, eqb-false}
use Rattle.reading.specs.declared.RuleEngineMode.{RuleEngineMode}
use Rattle.reading.specs.declared.Verdict.{Verdict}
use Rattle.reading.specs.declared.FlowOutcome.{FlowOutcome}
use Rattle.reading.specs.declared.DisruptiveOutcome.{DisruptiveOutcome}
use Rattle.reading.specs.declared.IdPart.{IdPart}
use Rattle.reading.specs.declared.Rule.{Rule}
use Rattle.reading.specs.declared.Action.{Action}
use Rattle.reading.specs.Text.{ascii, same, trim, fold, digits, id_parts, id_part, is_bad, range_in, any_bad, ranges_in}
use Rattle.reading.specs.declared.UnsupportedReason.{UnsupportedReason}
use Rattle.reading.specs.Directive.{Directive, rule_remove_by_id, unsupported, directive_named, directive_of, reason_named}
use Rattle.reading.specs.Controls.{Controls, is_on, is_off}
use Rattle.reading.specs.Actions.{Placed, kind_of, last_from, last_of, is_flow, flow_by, last_flow, last_status}
use Rattle.reading.specs.Markers.{later}
use Rattle.reading.specs.Reading.{Reading, rust, manual, jumps, rust_status, manual_status}
use Rattle.reading.specs.Call.{Given, Call, Transaction, rule_count, rule_at, is_link, actions_at, no_rule, mode_under}
use Rattle.reading.specs.Walk.{State, goes_on, allows, stops, is_last, intervention_or, after_chain, jump_from, marker_name, after_flow, ending_by, visit_by, is_stopped, nothing_to_do}
use Rattle.reading.specs.Units.{starter_of, unit_flow, is_allow, is_stopping, stop_status, unit_intervention}
use Rattle.reading.specs.Refusals.{refusal_of, refused1, refused2, refused3, refused4, refused5, refused6, refused7, refused8, refused9, rule_total, outside, outside_text, number_limit, bad_rule, bad_action}
use Rattle.reading.specs.Manual.{manual_jumps, manual_rule_named, manual_target, rust_target, manual_skip, rust_skip, manual_acts, rust_acts, manual_redirect_status, rust_redirect_status, manual_matched, rust_link, rust_closed, manual_flow, rust_flow, manual_enters, rust_enters, manual_stops, rust_stops, manual_removal_by, manual_removal, rust_removal, manual_names, rust_names, manual_takes_id, rust_takes_id, manual_takes_metadata, rust_takes_metadata, manual_takes_number, rust_takes_number}
use Rattle.lists.proofs.Tests.{any_append}

-- actions among which there is neither chain nor multiMatch
abbrev pub NoChain : List Placed → Type 0
NoChain [] = Unit {0}
NoChain (p ∷ ps) = (kind_of p ≡ 7 → ⊥) × (kind_of p ≡ 10 → ⊥) × NoChain ps

-- the manual's instance jumps as the manual says
pub manual-jumps : (position after : ℕ) → jumps manual position after ≡ manual_jumps position after
manual-jumps position after = by (ltb after position) (eqb position after) refl refl
  where
    by : (a b : Bool) → ltb after position ≡ a → eqb position after ≡ b → (a || b) ≡ leb after position
    by true b p e = sym (le-leb after position (omega (arith, ltb-true after position p)))
    by false true p e = sym (le-leb after position (omega (arith, eqb-true position after e)))
    by false false p e =
        sym (lt-leb after position (below (ltb-false after position p) (eqb-false position after e)))
      where
        below : position ≤ after → (position ≡ after → ⊥) → position < after
        below h n = omega arith

-- the two jump alike but at the index after the closing rule
pub jumps-agree : (position after : ℕ) → (position ≡ after → ⊥) → jumps rust position after ≡ jumps manual position after
jumps-agree position after h = rw (ne_eqb position after h)

-- deny has one status in both where the starter has no status action
pub status-agrees : rust_status None ≡ manual_status None
status-agrees = refl

-- skip passes as many in both where no link lies ahead
link-is : (q : Given) (i : ℕ) → i < rule_count q → is_link q i ≡ false → after_chain q i ≡ i + 1
unfolding is_link rule_at after_chain
link-is q i h e = rw (drop-cons q.rules i no_rule h, e)

pub skips-agree : (q : Given) (after n : ℕ) → after + n ≤ rule_count q → ((j : ℕ) → after ≤ j → j < after + n → is_link q j ≡ false)
    → manual_skip q after n ≡ rust_skip after n
unfolding manual_skip
skips-agree q after zero h none_ahead = omega arith
skips-agree q after (suc n) h none_ahead =
    let z : (after + 1) + n ≡ after + suc n = omega arith in
    rw (link-is q after (omega arith) (none_ahead after (omega arith) (omega arith)))
    (skips-agree q (after + 1) n (omega arith) (λ j a b. none_ahead j (omega arith) (omega arith)) ∙ z)

-- disruptive actions act alike in On, and all but allow in every mode
pub acts-agree-on : (d : DisruptiveOutcome) → manual_acts RuleEngineMode.On d ≡ rust_acts RuleEngineMode.On d
acts-agree-on DisruptiveOutcome.Nothing = refl
acts-agree-on DisruptiveOutcome.Deny = refl
acts-agree-on DisruptiveOutcome.Block = refl
acts-agree-on DisruptiveOutcome.Pass = refl
acts-agree-on DisruptiveOutcome.Allow = refl
acts-agree-on (DisruptiveOutcome.Redirect at) = refl
acts-agree-on DisruptiveOutcome.Drop = refl

pub acts-agree : (mode : RuleEngineMode) (d : DisruptiveOutcome) → is_allow d ≡ false → manual_acts mode d ≡ rust_acts mode d
acts-agree mode d e = rw e

-- a unit of one rule has the same controls in both
pub controls-agree : (q : Given) (m : ℕ) (c : Controls) → rust_closed q (m ∷ []) c ≡ manual_matched q m c
controls-agree q m c = refl

-- redirect has the same status but for a status action of 301, 303 or 307
pub redirects-agree : (n : ℕ) → (n ≡ 301 → ⊥) → (n ≡ 303 → ⊥) → (n ≡ 307 → ⊥)
    → manual_redirect_status (Some n) ≡ rust_redirect_status (Some n)
redirects-agree n a b c = rw (ne_eqb n 301 a, ne_eqb n 303 b, ne_eqb n 307 c)

pub plain-redirects-agree : manual_redirect_status None ≡ rust_redirect_status None
plain-redirects-agree = refl

-- flow is the same where a rule has neither chain nor multiMatch
flow-tests : (found : Option Placed) (ps : List Placed) → NoChain ps
    → last_from found (λ kind. eqb kind 8 || eqb kind 9) ps ≡ last_from found is_flow ps
flow-tests found [] h = refl
flow-tests found (p ∷ ps) h =
    ap (λ (b : Bool). last_from (cond b (Some p) found) (λ kind. eqb kind 8 || eqb kind 9) ps) (by (kind_of p) h.0 h.1)
    ∙ flow-tests (cond (is_flow (kind_of p)) (Some p) found) ps h.2
  where
    by : (k : ℕ) → (k ≡ 7 → ⊥) → (k ≡ 10 → ⊥) → (eqb k 8 || eqb k 9) ≡ is_flow k
    by k a b = go (eqb k 8) (eqb k 9) refl refl
      where
        outside : (k < 7) ⊎ (10 < k) → is_flow k ≡ false
        outside (inl l) = rw (lt-leb 7 k l)
        outside (inr g) = rw (le-leb 7 k (omega arith), lt-leb k 10 g)

        inside : 7 ≤ k → k ≤ 10 → is_flow k ≡ true
        inside l g = rw (le-leb 7 k l, le-leb k 10 g)

        side : (b : Bool) → ltb k 7 ≡ b → (k ≡ 8 → ⊥) → (k ≡ 9 → ⊥) → (k < 7) ⊎ (10 < k)
        side true e c d = inl (ltb-true k 7 e)
        side false e c d = inr (omega (arith, ltb-false k 7 e))

        go : (c d : Bool) → eqb k 8 ≡ c → eqb k 9 ≡ d → (c || d) ≡ is_flow k
        go true d e f = sym (inside (omega (arith, eqb-true k 8 e)) (omega (arith, eqb-true k 8 e)))
        go false true e f = sym (inside (omega (arith, eqb-true k 9 f)) (omega (arith, eqb-true k 9 f)))
        go false false e f = sym (outside (side (ltb k 7) refl (eqb-false k 8 e) (eqb-false k 9 f)))

pub flows-agree : (ps : List Placed) → NoChain ps → manual_flow ps ≡ rust_flow ps
unfolding last_of last_flow
flows-agree ps h = ap flow_by (flow-tests None ps h)

-- phases 1 to 4 are entered alike, and stopped alike
pub enters-agree : (q : Given) (t : Transaction) → (q.settings.phase ≡ 5 → ⊥) → manual_enters q t ≡ rust_enters t
enters-agree q t h = ap (λ (b : Bool). b || rust_enters t) (ne_eqb q.settings.phase 5 h)

pub stops-agree : (q : Given) → (q.settings.phase ≡ 5 → ⊥) → manual_stops q ≡ rust_stops q
stops-agree q h = ap not (ne_eqb q.settings.phase 5 h)

-- a value without a comma is read alike
pub removals-agree : (value : List ℕ) → id_parts value ≡ value ∷ [] → manual_removal value ≡ rust_removal value
unfolding any_bad ranges_in
removals-agree value h =
    sym (ap (λ (ps : List (List ℕ)). cond (any_bad ps || eqb (length (ranges_in ps)) 0) (unsupported UnsupportedReason.IdList) (rule_remove_by_id (ranges_in ps))) h ∙ by (id_part value))
  where
    by : (p : IdPart)
        → cond (is_bad p || false || eqb (length (range_in p ++ [])) 0) (unsupported UnsupportedReason.IdList) (rule_remove_by_id (range_in p ++ [])) ≡ manual_removal_by p
    by IdPart.Blank = refl
    by IdPart.Bad = refl
    by (IdPart.Range r) = refl

-- a name that is no number leads to the same place
pub targets-agree : (q : Given) (name : List ℕ) → digits name ≡ None → manual_target q name ≡ rust_target q name
targets-agree q name h = ap (λ (n : Option ℕ). later (rust_target q name) (manual_rule_named q.rules n)) h ∙ by (rust_target q name)
  where
    by : (found : Option ℕ) → later found None ≡ found
    by None = refl
    by (Some position) = refl

-- what the Rust calls a directive the manual does too
pub names-agree : (name : List ℕ) → rust_names name ≡ true → manual_names name ≡ true
names-agree name h = rw (any_append, h)

-- rules with an id are taken alike, and starters' metadata, and the numbers of kinds other than severity, maturity and accuracy
pub ids-agree : (member : Bool) (r : Rule) → r.present ≡ 1 → manual_takes_id member r ≡ rust_takes_id r
ids-agree true r h = rw h
ids-agree false r h = rw h

pub metadata-agree : (kind : ℕ) → manual_takes_metadata false kind ≡ rust_takes_metadata false kind
metadata-agree kind = refl

pub numbers-agree : (kind number : ℕ) → (kind ≡ 16 → ⊥) → (kind ≡ 17 → ⊥) → (kind ≡ 18 → ⊥) → manual_takes_number kind number ≡ rust_takes_number kind number
numbers-agree kind number a b c = rw (ne_eqb kind 16 a, ne_eqb kind 17 b, ne_eqb kind 18 c)

-- THE RUST'S RULES OF Manual.antt ARE THE WALK'S, THE READER'S AND THE REFUSALS'

pub walk-skips : (q : Given) (after n : ℕ) → after_flow q after (FlowOutcome.Skip n) ≡ rust_skip after n
walk-skips q after n = refl

pub walk-acts : (q : Given) (unit : List ℕ) (c : Controls) (d : DisruptiveOutcome) → is_last (ending_by q unit c d) ≡ rust_acts (mode_under q c) d
walk-acts q unit c d = by (is_allow d) (is_stopping d && is_on (mode_under q c))
  where
    by : (a b : Bool) → is_last (cond a allows (cond b (stops (unit_intervention q unit)) goes_on)) ≡ (a || b)
    by true b = refl
    by false true = refl
    by false false = refl

-- whether a unit stops the request is no matter of the phase
pub walk-stops : (q : Given) (unit : List ℕ) (c : Controls) (d : DisruptiveOutcome)
    → is_stopped (intervention_or (ending_by q unit c d) None) ≡ (rust_stops q && is_stopping d && is_on (mode_under q c))
walk-stops q unit c d = by d (is_on (mode_under q c))
  where
    by : (d : DisruptiveOutcome) (on : Bool)
        → is_stopped (intervention_or (cond (is_allow d) allows (cond (is_stopping d && on) (stops (unit_intervention q unit)) goes_on)) None) ≡ (is_stopping d && on)
    by DisruptiveOutcome.Nothing on = refl
    by DisruptiveOutcome.Deny true = refl
    by DisruptiveOutcome.Deny false = refl
    by DisruptiveOutcome.Block true = refl
    by DisruptiveOutcome.Block false = refl
    by DisruptiveOutcome.Pass on = refl
    by DisruptiveOutcome.Allow on = refl
    by (DisruptiveOutcome.Redirect at) true = refl
    by (DisruptiveOutcome.Redirect at) false = refl
    by DisruptiveOutcome.Drop true = refl
    by DisruptiveOutcome.Drop false = refl

twice-not : (b : Bool) → b ≡ not (not b)
twice-not true = refl
twice-not false = refl

-- a call has something to do exactly where it is entered, the mode is not Off and there are rules
pub walk-enters : (q : Given) (t : Transaction)
    → nothing_to_do q t ≡ (not (rust_enters t) || is_off (mode_under q t.controls) || eqb (rule_count q) 0)
walk-enters q t = rw (← twice-not (t.allowed || is_stopped t.intervention))

pub walk-link : (q : Given) (st : State) → (visit_by q st Verdict.Matched true).after.controls ≡ rust_link q st.next st.controls
walk-link q st = refl

pub walk-closed : (q : Given) (st : State) → (visit_by q st Verdict.Matched false).after.controls ≡ rust_closed q (st.members ++ (st.next ∷ [])) st.controls
walk-closed q st = refl

pub walk-redirects : (q : Given) (ps : List Placed) (at : ℕ) → stop_status q ps (DisruptiveOutcome.Redirect at) ≡ rust_redirect_status (last_status ps)
walk-redirects q ps at = refl

-- where a name leads
pub walk-targets : (q : Given) (after position : ℕ) → after_flow q after (FlowOutcome.SkipAfter position) ≡ jump_from q after (rust_target q (marker_name q position))
walk-targets q after position = refl

-- a unit's flow
pub walk-flows : (q : Given) (unit : List ℕ) → unit_flow q unit ≡ rust_flow (actions_at q (starter_of unit))
unfolding unit_flow
walk-flows q unit = refl

-- a directive of another name is unsupported, for the reason that goes by its name
pub reader-names : (name value : List ℕ) → rust_names name ≡ false → directive_of name value ≡ unsupported (reason_named (fold (trim name)))
unfolding directive_of
reader-names name value h =
    let w : List ℕ = fold (trim name) in
    by (same w (ascii "ruleengine")) (same w (ascii "ruleremovebyid")) (same w (ascii "ruleremovetargetbyid")) (same w (ascii "requestbodyaccess"))
    (same w (ascii "requestbodyprocessor")) (same w (ascii "auditengine")) (same w (ascii "auditlogparts")) _ _ _ _ _ _ _ _ _ _ h
  where
    audit : (f g : Bool)
        → cond f (unsupported UnsupportedReason.Audit) (cond g (unsupported UnsupportedReason.Audit) (unsupported UnsupportedReason.Unrecognised))
        ≡ unsupported (cond (f || g) UnsupportedReason.Audit UnsupportedReason.Unrecognised)
    audit true g = refl
    audit false true = refl
    audit false false = refl

    by : (a b c d e f g : Bool) (va vb vc vd ve : Directive) (ra rb rc rd re : UnsupportedReason) → (a || (b || (c || (d || (e || false))))) ≡ false
        → cond a va (cond b vb (cond c vc (cond d vd (cond e ve
        (cond f (unsupported UnsupportedReason.Audit) (cond g (unsupported UnsupportedReason.Audit) (unsupported UnsupportedReason.Unrecognised)))))))
        ≡ unsupported (cond a ra (cond b rb (cond c rc (cond d rd (cond e re (cond (f || g) UnsupportedReason.Audit UnsupportedReason.Unrecognised))))))
    by true b c d e f g va vb vc vd ve ra rb rc rd re h = absurd (let z : ◌≡◌ {A = ℕ} 0 1 = cc in omega arith)
    by false true c d e f g va vb vc vd ve ra rb rc rd re h = absurd (let z : ◌≡◌ {A = ℕ} 0 1 = cc in omega arith)
    by false false true d e f g va vb vc vd ve ra rb rc rd re h = absurd (let z : ◌≡◌ {A = ℕ} 0 1 = cc in omega arith)
    by false false false true e f g va vb vc vd ve ra rb rc rd re h = absurd (let z : ◌≡◌ {A = ℕ} 0 1 = cc in omega arith)
    by false false false false true f g va vb vc vd ve ra rb rc rd re h = absurd (let z : ◌≡◌ {A = ℕ} 0 1 = cc in omega arith)
    by false false false false false f g va vb vc vd ve ra rb rc rd re h = audit f g

-- and a removal's value is read so
pub reader-removals : (value : List ℕ) → directive_named (ascii "ruleremovebyid") value ≡ rust_removal value
unfolding same
reader-removals value = refl

-- refusal 5 takes the rules that the Rust takes
pub refusal-ids : (actions : ℕ) (r : Rule) → bad_rule actions r ≡ (not (rust_takes_id r) || ltb 1 r.link || outside actions r.first r.count)
refusal-ids actions r = rw (← twice-not (ltb 1 r.present))

pub refusal-numbers : (bytes : ℕ) (a : Action) (member : Bool)
    → bad_action bytes a ≡ (ltb 20 a.kind || not (rust_takes_metadata member a.kind) || not (rust_takes_number a.kind a.number) || outside_text bytes a.text || outside_text bytes a.value)
refusal-numbers bytes a member = by (ltb 20 a.kind) (ltb (number_limit a.kind) a.number) (outside_text bytes a.text) (outside_text bytes a.value)
  where
    by : (b c d e : Bool) → (b || c || d || e) ≡ (b || false || not (not c) || d || e)
    by true c d e = refl
    by false true d e = refl
    by false false d e = refl

-- WHAT DOES NOT DEPEND ON THE READING

-- the call with another reading
abbrev pub under_reading : Reading → Call → Call
under_reading r q = record {
  given = record {
    reading = r;
    settings = q.given.settings;
    rules = q.given.rules;
    actions = q.given.actions;
    markers = q.given.markers;
    text = q.given.text;
    outcomes = q.given.outcomes;
  };
  transaction = q.transaction;
  lists = q.lists;
}

-- no refusal depends on the reading
pub refusals-agree : (r : Reading) (q : Call) → refusal_of (under_reading r q) ≡ refusal_of q
unfolding refusal_of refused1 refused2 refused3 refused4 refused5 refused6 refused7 refused8 refused9 rule_total
refusals-agree r q = refl
