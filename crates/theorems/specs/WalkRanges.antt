-- The ranges that a phase leaves, for any reading: those held with the closed units' own merged in, in the merged form, and they remove
-- the ids that the plain list of all of them removes. 02, A.6.
use Prim.{tt, Unit}
use Rattle.std.specs.Prelude.{ℕ, zero, suc, ◌≤◌, ◌<◌, ◌≡◌, refl, Bool, true, false, not, cond, ◌||◌, List, [], ◌∷◌, ◌++◌, length, leb, ltb, eqb, Option, Some, None}
use Rattle.std.proofs.Common.{sym, ap, ◌∙◌, arith, leb-true, leb-false, eqb-true, le-ltb, ltb-false}
use Rattle.reading.specs.declared.IdPart.{IdPart}
use Rattle.reading.specs.declared.RuleIdRange.{RuleIdRange}
use Rattle.reading.specs.declared.Place.{Place}
use Rattle.reading.specs.declared.Verdict.{Verdict}
use Rattle.reading.specs.Limits.{most_ranges, most_targets}
use Rattle.reading.specs.Lists.{keep, gather}
use Rattle.reading.specs.Text.{ascii, same, trim, fold, holds_byte, cut_before, cut_after, number_of, one_id, ids_to, ids_from, id_part, range_in, id_parts, any_bad, ranges_in}
use Rattle.reading.specs.Directive.{Directive, rule_engine, rule_remove_by_id, rule_remove_target_by_id, request_body_access, request_body_processor, unsupported, engine_value, removal_value, target_value, access_value, processor_value, other_named, directive_named, directive_of, ranges_of}
use Rattle.reading.specs.Ranges.{is_merged, add_range, add_ranges}
use Rattle.reading.specs.Controls.{Controls, applied, with_ranges, is_removed, bad_controls, add_range_answer, with_range}
use Rattle.reading.specs.Actions.{Placed, controls_in, directive_in}
use Rattle.reading.specs.Call.{Given, Call, Transaction, rule_count, is_link, id_at, outcome_at, actions_at}
use Rattle.reading.specs.Units.{action_controls, rule_controls, unit_controls, member_ranges, unit_ranges}
use Rattle.reading.specs.Walk.{State, Visit, is_last, verdict_by, verdict_at, visit_by, visit_at, is_visited, walk, walk_of, start, nothing_to_do, closed_in, controls_after, ranges_by}
use Rattle.reading.specs.Replay.{units_controls}
use Rattle.reading.specs.Refusals.{refusal_of, refused3, is_accepted}
use Rattle.reading.specs.Outcome.{visits_of, outcome_of}
use Rattle.lists.proofs.Tests.{or-false}
use Rattle.theorems.specs.MergedRanges.{Ordered, AllOrdered, Merged, form-says, says-form, form-ordered, added-merged, length-added, all-added-merged, added-in-turn, merged-removes, removed-append}
use Rattle.theorems.specs.Replayed.{controls-are, walk-replayed}
use Rattle.theorems.specs.Rising.{index_is}
use Rattle.theorems.specs.WithinLimits.{next_one, passed, accepted-within}

-- WHAT IS READ HAS NO START ABOVE ITS END

one-ordered : (n : Option ℕ) → AllOrdered (range_in (one_id n))
unfolding one_id
one-ordered (Some n) = (omega arith, tt)
one-ordered None = tt

to-ordered : (start : ℕ) (n : Option ℕ) → AllOrdered (range_in (ids_to start n))
unfolding ids_to
to-ordered start (Some end) = by (leb start end) refl
  where
    by : (b : Bool) → leb start end ≡ b → AllOrdered (range_in (cond b (IdPart.Range (record { start = start; end = end })) IdPart.Bad))
    by true e = (leb-true start end e, tt)
    by false e = tt
to-ordered start None = tt

from-ordered : (n m : Option ℕ) → AllOrdered (range_in (ids_from n m))
unfolding ids_from
from-ordered (Some start) m = to-ordered start m
from-ordered None m = tt

-- a part between commas
part-ordered : (p : List ℕ) → AllOrdered (range_in (id_part p))
unfolding id_part
part-ordered p = by (eqb (length (trim p)) 0) (holds_byte 45 (trim p))
  where
    by : (a b : Bool)
        → AllOrdered (range_in (cond a IdPart.Blank (cond b (ids_from (number_of (trim (cut_before 45 (trim p)))) (number_of (trim (cut_after 45 (trim p))))) (one_id (number_of (trim p))))))
    by true b = tt
    by false true = from-ordered (number_of (trim (cut_before 45 (trim p)))) (number_of (trim (cut_after 45 (trim p))))
    by false false = one-ordered (number_of (trim p))

append-ordered : (xs ys : List RuleIdRange) → AllOrdered xs → AllOrdered ys → AllOrdered (xs ++ ys)
append-ordered [] ys o p = p
append-ordered (x ∷ xs) ys o p = (o.0, append-ordered xs ys o.1 p)

parts-ordered : (ps : List (List ℕ)) → AllOrdered (ranges_in ps)
unfolding ranges_in
parts-ordered [] = tt
parts-ordered (p ∷ ps) = append-ordered (range_in (id_part p)) (ranges_in ps) (part-ordered p) (parts-ordered ps)

-- a directive whose ranges are such
abbrev AsRead : Directive → Type 0
AsRead d = AllOrdered (ranges_of d)

-- one of two
either : (b : Bool) (d e : Directive) → AsRead d → AsRead e → AsRead (cond b d e)
either true d e o p = o
either false d e o p = p

engine-read : (w : List ℕ) → AsRead (engine_value w)
engine-read w =
    either (same w (ascii "on")) _ _ tt
    (either (same w (ascii "off")) _ _ tt (either (same w (ascii "detectiononly")) _ _ tt tt))

access-read : (w : List ℕ) → AsRead (access_value w)
access-read w = either (same w (ascii "on")) _ _ tt (either (same w (ascii "off")) _ _ tt tt)

processor-read : (w : List ℕ) → AsRead (processor_value w)
processor-read w =
    either (same w (ascii "urlencoded")) _ _ tt
    (either (same w (ascii "multipart")) _ _ tt
    (either (same w (ascii "json")) _ _ tt (either (same w (ascii "xml")) _ _ tt tt)))

removal-read : (value : List ℕ) → AsRead (removal_value value)
removal-read value = either (any_bad (id_parts value) || eqb (length (ranges_in (id_parts value))) 0) _ _ tt (parts-ordered (id_parts value))

target-read : (value : List ℕ) → AsRead (target_value value)
target-read value =
    let id = trim (cut_before 59 value) in
    let target = trim (cut_after 59 value) in
    either (holds_byte 59 value) _ _ (either (eqb (length id) 0 || eqb (length target) 0) _ _ tt tt) tt

other-read : (name : List ℕ) → AsRead (other_named name)
other-read name =
    either (same name (ascii "auditengine")) _ _ tt (either (same name (ascii "auditlogparts")) _ _ tt tt)

named-read : (name value : List ℕ) → AsRead (directive_named name value)
named-read name value =
    either (same name (ascii "ruleengine")) _ _ (engine-read (fold value))
    (either (same name (ascii "ruleremovebyid")) _ _ (removal-read value)
    (either (same name (ascii "ruleremovetargetbyid")) _ _ (target-read value)
    (either (same name (ascii "requestbodyaccess")) _ _ (access-read (fold value))
    (either (same name (ascii "requestbodyprocessor")) _ _ (processor-read (fold value)) (other-read name)))))

-- what a directive is read to
pub ranges-ordered : (name value : List ℕ) → AllOrdered (ranges_of (directive_of name value))
unfolding directive_of
ranges-ordered name value = named-read (fold (trim name)) (trim value)

-- an action's directive
pub action-ordered : (text : List ℕ) (p : Placed) → AllOrdered (ranges_of (directive_in text p))
unfolding directive_in
action-ordered text p = ranges-ordered _ _

-- what several give, each of them such ranges
gathered-ordered : {A : Type 0} (give : A → List RuleIdRange) (xs : List A) → ((x : A) → AllOrdered (give x)) → AllOrdered (gather give xs)
gathered-ordered give [] o = tt
gathered-ordered give (x ∷ xs) o = append-ordered (give x) (gather give xs) (o x) (gathered-ordered give xs o)

member-ordered : (g : Given) (m : ℕ) → AllOrdered (member_ranges g m)
unfolding member_ranges
member-ordered g m = gathered-ordered _ (controls_in (actions_at g m)) (action-ordered g.text)

-- a unit's ranges, and those of several units
pub unit-ordered : (g : Given) (u : List ℕ) → AllOrdered (unit_ranges g u)
unit-ordered g u = gathered-ordered (member_ranges g) u (member-ordered g)

pub units-ordered : (g : Given) (us : List (List ℕ)) → AllOrdered (gather (unit_ranges g) us)
units-ordered g us = gathered-ordered (unit_ranges g) us (unit-ordered g)

-- THE RANGES AFTER DIRECTIVES ARE THOSE HELD WITH THE DIRECTIVES' OWN MERGED IN, in their order

directive-adds : (c : Controls) (at : Place) (d : Directive) → (applied c at d).ranges ≡ add_ranges c.ranges (ranges_of d)
unfolding add_ranges
directive-adds c at (rule_engine m) = refl
directive-adds c at (rule_remove_by_id rs) = refl
directive-adds c at (rule_remove_target_by_id id target) = refl
directive-adds c at (request_body_access a) = refl
directive-adds c at (request_body_processor p) = refl
directive-adds c at (unsupported r) = refl

-- one more and those after it
adds-more : (held held' rs ss after : List RuleIdRange) → held' ≡ add_ranges held rs → after ≡ add_ranges held' ss → after ≡ add_ranges held (rs ++ ss)
adds-more held held' rs ss after e f = f ∙ (ap (λ (l : List RuleIdRange). add_ranges l ss) e ∙ sym (added-in-turn held rs ss))

actions-add : (g : Given) (ps : List Placed) (c : Controls)
    → (action_controls g ps c).ranges ≡ add_ranges c.ranges (gather (λ p. ranges_of (directive_in g.text p)) ps)
unfolding add_ranges
actions-add g [] c = refl
actions-add g (p ∷ ps) c =
    let at : Place = record { phase = g.settings.phase; position = p.position } in
    let d : Directive = directive_in g.text p in
    adds-more c.ranges (applied c at d).ranges (ranges_of d) _ _ (directive-adds c at d) (actions-add g ps (applied c at d))

member-adds : (g : Given) (m : ℕ) (c : Controls) → (rule_controls g m c).ranges ≡ add_ranges c.ranges (member_ranges g m)
unfolding rule_controls member_ranges
member-adds g m c = actions-add g (controls_in (actions_at g m)) c

-- after a unit
pub unit-adds : (g : Given) (u : List ℕ) (c : Controls) → (unit_controls g u c).ranges ≡ add_ranges c.ranges (unit_ranges g u)
unfolding add_ranges
unit-adds g [] c = refl
unit-adds g (m ∷ ms) c =
    adds-more c.ranges (rule_controls g m c).ranges (member_ranges g m) _ _ (member-adds g m c) (unit-adds g ms (rule_controls g m c))

-- after several units
pub units-add : (g : Given) (us : List (List ℕ)) (c : Controls) → (units_controls g us c).ranges ≡ add_ranges c.ranges (gather (unit_ranges g) us)
unfolding add_ranges
units-add g [] c = refl
units-add g (u ∷ us) c =
    adds-more c.ranges (unit_controls g u c).ranges (unit_ranges g u) _ _ (unit-adds g u c) (units-add g us (unit_controls g u c))

-- after a visit, whatever the rule is found to be
pub visit-adds : (g : Given) (st : State) (v : Verdict) (l : Bool)
    → (visit_by g st v l).after.controls.ranges ≡ add_ranges st.controls.ranges (gather (unit_ranges g) (visit_by g st v l).closed)
visit-adds g st v l = ap (λ (c : Controls). c.ranges) (controls-are g st v l) ∙ units-add g (visit_by g st v l).closed st.controls

-- after the whole walk
pub ranges-after : (g : Given) (t : Transaction) → (controls_after t.controls (walk_of g t)).ranges ≡ add_ranges t.controls.ranges (ranges_by g (walk_of g t))
ranges-after g t = ap (λ (c : Controls). c.ranges) (walk-replayed g t).controls ∙ units-add g (closed_in (walk_of g t)) t.controls

-- THE FORM IS KEPT

-- by a unit
pub unit-merged : (g : Given) (u : List ℕ) (c : Controls) → Merged c.ranges → Merged (unit_controls g u c).ranges
unit-merged g u c f = rw (unit-adds g u c) (all-added-merged c.ranges (unit_ranges g u) f (unit-ordered g u))

-- by a visit, whatever the rule is found to be, and by the visit of a state
pub visit-by-merged : (g : Given) (st : State) (v : Verdict) (l : Bool) → Merged st.controls.ranges
    → Merged (visit_by g st v l).after.controls.ranges
visit-by-merged g st v l f =
    let us = (visit_by g st v l).closed in
    rw (visit-adds g st v l) (all-added-merged st.controls.ranges (gather (unit_ranges g) us) f (units-ordered g us))

pub visit-merged : (g : Given) (st : State) → Merged st.controls.ranges → Merged (visit_at g st).after.controls.ranges
unfolding visit_at
visit-merged g st f = visit-by-merged g st (verdict_at g st.controls st.next) (is_link g st.next) f

-- by the whole walk
pub after-merged : (g : Given) (t : Transaction) → Merged t.controls.ranges → Merged (controls_after t.controls (walk_of g t)).ranges
after-merged g t f =
    rw (ranges-after g t) (all-added-merged t.controls.ranges (ranges_by g (walk_of g t)) f (units-ordered g (closed_in (walk_of g t))))

-- CONTROLS THAT 3 DOES NOT MEET

-- have the form
pub controls-form : (c : Controls) → bad_controls c ≡ false → Merged c.ranges
unfolding bad_controls
controls-form c e =
    form-says 0 c.ranges (is_true (is_merged c.ranges) (or-false (ltb most_ranges (length c.ranges) || ltb most_targets (length c.targets)) _ e).1)
  where
    is_true : (b : Bool) → not b ≡ false → b ≡ true
    is_true true h = refl
    is_true false h = absurd (let z : ◌≡◌ {A = ℕ} 0 1 = cc in omega arith)

-- and those that have the form, at most 256 ranges and at most 64 targets are not met
form-controls : (c : Controls) → length c.ranges ≤ 256 → length c.targets ≤ 64 → Merged c.ranges → bad_controls c ≡ false
unfolding bad_controls
form-controls c h k f = rw (le-ltb 256 (length c.ranges) h, le-ltb 64 (length c.targets) k, says-form 0 c.ranges f)

-- of them at most 64 targets
few-targets : (c : Controls) → bad_controls c ≡ false → length c.targets ≤ 64
unfolding bad_controls
few-targets c e =
    let counts = (or-false (ltb most_ranges (length c.ranges) || ltb most_targets (length c.targets)) _ e).0 in
    ltb-false 64 (length c.targets) (or-false (ltb most_ranges (length c.ranges)) _ counts).1

-- A RANGE ADDED SINGLY

-- what an addition that is answered 0 rests on
record Taken (c : Controls) (r : RuleIdRange) : Type 0 where
  controls : bad_controls c ≡ false
  ordered : Ordered r
  free : length c.ranges < 256

taken : (c : Controls) (r : RuleIdRange) → add_range_answer c r ≡ 0 → Taken c r
unfolding add_range_answer
taken c r e =
    let p = next_one (bad_controls c) 2 _ e in
    let o = next_one (ltb r.end r.start) 4 _ p.1 in
    let f = next_one (leb most_ranges (length c.ranges)) 7 0 o.1 in
    record { controls = p.0; ordered = ltb-false r.end r.start o.0; free = leb-false 256 (length c.ranges) f.0 }

-- the ids removed after it are those of the plain list with the range at its end
pub single-removes : (c : Controls) (r : RuleIdRange) (id : Option ℕ) → add_range_answer c r ≡ 0
    → is_removed (with_range c r).ranges id ≡ is_removed (c.ranges ++ (r ∷ [])) id
unfolding add_ranges
single-removes c r id e =
    let t = taken c r e in
    rw e (merged-removes c.ranges (r ∷ []) id (form-ordered 0 c.ranges (controls-form c t.controls)) (t.ordered, tt))

-- controls that 3 does not meet are such after it, whatever it is answered
pub single-good : (c : Controls) (r : RuleIdRange) → bad_controls c ≡ false → bad_controls (with_range c r) ≡ false
single-good c r g = by (eqb (add_range_answer c r) 0) refl
  where
    by : (b : Bool) → eqb (add_range_answer c r) 0 ≡ b → bad_controls (with_ranges c (cond b (add_range c.ranges r) c.ranges)) ≡ false
    by true e =
        let t = taken c r (eqb-true (add_range_answer c r) 0 e) in
        form-controls (with_ranges c (add_range c.ranges r)) (omega (arith, length-added c.ranges r)) (few-targets c g)
        (added-merged c.ranges r (controls-form c g) t.ordered)
    by false e = g

-- AN ACCEPTED CALL

-- the ranges held have the form
pub accepted-form : (q : Call) → refusal_of q ≡ 0 → Merged q.transaction.controls.ranges
unfolding refused3
accepted-form q e =
    let c = q.transaction.controls in
    controls-form c (or-false (bad_controls c) _ (or-false _ _ (passed q e).third).0).0

-- what any call leaves: a refused one has no visits, and adds none
pub found-ranges : (q : Call) → (outcome_of q).transaction.controls.ranges ≡ add_ranges q.transaction.controls.ranges (ranges_by q.given (visits_of q))
unfolding outcome_of visits_of add_ranges
found-ranges q = by (is_accepted q)
  where
    by : (b : Bool)
        → (controls_after q.transaction.controls (keep b (walk_of q.given q.transaction))).ranges
        ≡ add_ranges q.transaction.controls.ranges (ranges_by q.given (keep b (walk_of q.given q.transaction)))
    by true = ranges-after q.given q.transaction
    by false = refl

-- and what an accepted one leaves has the form
pub found-form : (q : Call) → refusal_of q ≡ 0 → Merged (outcome_of q).transaction.controls.ranges
found-form q e =
    rw (found-ranges q)
    (all-added-merged q.transaction.controls.ranges (ranges_by q.given (visits_of q)) (accepted-form q e) (units-ordered q.given (closed_in (visits_of q))))

-- so that 3 meets it neither in a question nor in the next call
pub found-good : (q : Call) → refusal_of q ≡ 0 → bad_controls (outcome_of q).transaction.controls ≡ false
found-good q e =
    let w = accepted-within q e in
    form-controls (outcome_of q).transaction.controls w.ranges w.targets (found-form q e)

-- THE SAME IDS ARE REMOVED AS BY THE PLAIN LIST OF ALL RANGES ACCEPTED: those held and those of the closed units, as they are written
pub plain-removes : (q : Call) → refusal_of q ≡ 0 → (id : Option ℕ)
    → is_removed (outcome_of q).transaction.controls.ranges id ≡ is_removed (q.transaction.controls.ranges ++ ranges_by q.given (visits_of q)) id
plain-removes q e id =
    rw (found-ranges q)
    (merged-removes q.transaction.controls.ranges (ranges_by q.given (visits_of q)) id (form-ordered 0 q.transaction.controls.ranges (accepted-form q e)) (units-ordered q.given (closed_in (visits_of q))))

-- VISITS ARE THE SAME AS WITH THE PLAIN LIST: what a rule is found to be is all that the walk asks of the ranges

-- each visit's verdict is the one that the plain list of the ranges so far gives
abbrev pub PlainVerdicts : Given → List RuleIdRange → List Visit → Type 0
PlainVerdicts g plain [] = Unit {0}
PlainVerdicts g plain (v ∷ vs) =
    (v.verdict ≡ cond (is_removed plain (id_at g v.index)) Verdict.Removed (verdict_by (outcome_at g v.index)))
    × PlainVerdicts g (plain ++ gather (unit_ranges g) v.closed) vs

-- two lists that remove the same ids
abbrev SameIds : List RuleIdRange → List RuleIdRange → Type 0
SameIds xs ys = (id : Option ℕ) → is_removed xs id ≡ is_removed ys id

-- a visit's verdict
verdict-is : (g : Given) (st : State) (v : Verdict) (l : Bool) → (visit_by g st v l).verdict ≡ v
verdict-is g st Verdict.Missed l = refl
verdict-is g st Verdict.Matched true = refl
verdict-is g st Verdict.Matched false = refl
verdict-is g st Verdict.Removed true = refl
verdict-is g st Verdict.Removed false = refl
verdict-is g st Verdict.Error l = refl

plain-verdict : (g : Given) (st : State) (plain : List RuleIdRange) → SameIds st.controls.ranges plain
    → (visit_at g st).verdict ≡ cond (is_removed plain (id_at g (visit_at g st).index)) Verdict.Removed (verdict_by (outcome_at g (visit_at g st).index))
unfolding visit_at verdict_at
plain-verdict g st plain s =
    rw (verdict-is g st (verdict_at g st.controls st.next) (is_link g st.next), index_is g st (verdict_at g st.controls st.next) (is_link g st.next), s (id_at g st.next))

-- the ranges after a visit remove the ids that the plain list with the visit's own removes
plain-after : (g : Given) (st : State) (plain : List RuleIdRange) → AllOrdered st.controls.ranges → SameIds st.controls.ranges plain
    → SameIds (visit_at g st).after.controls.ranges (plain ++ gather (unit_ranges g) (visit_at g st).closed)
unfolding visit_at
plain-after g st plain o s id =
    let v = visit_by g st (verdict_at g st.controls st.next) (is_link g st.next) in
    let own = gather (unit_ranges g) v.closed in
    rw (visit-adds g st (verdict_at g st.controls st.next) (is_link g st.next))
    (merged-removes st.controls.ranges own id o (units-ordered g v.closed)
    ∙ (removed-append st.controls.ranges own id
    ∙ (ap (λ (b : Bool). b || is_removed own id) (s id) ∙ sym (removed-append plain own id))))

kept-plain : (g : Given) (plain : List RuleIdRange) (b : Bool) (l : List Visit) → PlainVerdicts g plain l → PlainVerdicts g plain (keep b l)
kept-plain g plain true l h = h
kept-plain g plain false l h = tt

plain_walk : (k : ℕ) (g : Given) (st : State) (plain : List RuleIdRange) → Merged st.controls.ranges → SameIds st.controls.ranges plain
    → PlainVerdicts g plain (walk k g st)
unfolding walk
plain_walk zero g st plain f s = tt
plain_walk (suc k) g st plain f s =
    let v : Visit = visit_at g st in
    let own = gather (unit_ranges g) v.closed in
    kept-plain g plain (is_visited g st) (v ∷ keep (not (is_last v.ending)) (walk k g v.after)) (
      plain-verdict g st plain s,
      kept-plain g (plain ++ own) (not (is_last v.ending)) (walk k g v.after)
          (plain_walk k g v.after (plain ++ own) (visit-merged g st f) (plain-after g st plain (form-ordered 0 st.controls.ranges f) s)),
    )

-- the visits of an accepted call, from the ranges held on
pub plain-verdicts : (q : Call) → refusal_of q ≡ 0 → PlainVerdicts q.given q.transaction.controls.ranges (visits_of q)
unfolding visits_of walk_of
plain-verdicts q e =
    let g = q.given in
    let t = q.transaction in
    let held = t.controls.ranges in
    kept-plain g held (is_accepted q) (keep (not (nothing_to_do g t)) (walk (rule_count g) g (start t)))
    (kept-plain g held (not (nothing_to_do g t)) (walk (rule_count g) g (start t))
    (plain_walk (rule_count g) g (start t) held (accepted-form q e) (λ id. refl)))
