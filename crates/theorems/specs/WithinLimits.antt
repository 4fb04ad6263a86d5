-- An accepted call never passes 256 ranges, 64 targets or the free entries of a lent list, for any reading: the members of
-- closed units are different rules, so that what they give is within what refusals 7, 8 and 9 counted.
use Rattle.std.specs.Prelude.{ℕ, zero, suc, ◌+◌, ◌-◌, ◌≤◌, ◌<◌, ◌≡◌, refl, List, [], ◌∷◌, ◌++◌, Bool, true, false, not, cond, ◌||◌, length, get_or, take, drop, ltb, eqb, Option, Some, None}
use Rattle.std.proofs.Common.{ap, ◌∙◌, arith, length-append, length-take, length-drop, ltb-false}
use Rattle.reading.specs.declared.Verdict.{Verdict}
use Rattle.reading.specs.declared.Rule.{Rule}
use Rattle.reading.specs.declared.Place.{Place}
use Rattle.reading.specs.Lists.{keep, total, gather, over}
use Rattle.reading.specs.Numbers.{list_of}
use Rattle.reading.specs.Directive.{Directive, rule_engine, rule_remove_by_id, rule_remove_target_by_id, request_body_access, request_body_processor, unsupported, range_count, target_count}
use Rattle.reading.specs.Controls.{Controls, applied}
use Rattle.reading.specs.Actions.{Placed, controls_in, directive_in}
use Rattle.reading.specs.Call.{Given, Call, Transaction, rule_count, rule_at, no_rule, is_link, id_at, outcome_at, actions_at}
use Rattle.reading.specs.Units.{starter_of, unit_ids, unit_data, member_data, data_entry, action_controls, rule_controls, unit_controls}
use Rattle.reading.specs.Walk.{State, Visit, is_last, visit_by, visit_at, verdict_at, is_visited, walk, walk_of, start, nothing_to_do, journal_of, closed_in, ids_of, data_of, controls_after}
use Rattle.reading.specs.Replay.{units_controls}
use Rattle.reading.specs.Refusals.{refusal_of, refused1, refused2, refused3, refused4, refused5, refused6, refused7, refused8, refused9, rule_total}
use Rattle.reading.specs.Outcome.{visits_of, outcome_of, at_free_end}
use Rattle.lists.proofs.Tests.{or-false}
use Rattle.theorems.specs.MergedRanges.{length-all-added}
use Rattle.theorems.specs.Replayed.{replays, walk-replayed}
use Rattle.theorems.specs.Rising.{goes-ahead, visited-within}

-- ONE LAW FOR EVERY WEIGHT: closed units weigh no more than the rules

-- the weight of so many indexes from one on
abbrev pub ahead : (ℕ → ℕ) → ℕ → ℕ → ℕ
ahead w zero i = 0
ahead w (suc k) i = w i + ahead w k (suc i)

-- those from a later index on, up to n, weigh no more
one_later : (w : ℕ → ℕ) (n i k : ℕ) → n - i ≡ k → ahead w (n - suc i) (suc i) ≤ ahead w k i
one_later w n i zero e =
    let z : n - suc i ≡ 0 = omega arith in
    rw z (omega arith)
one_later w n i (suc k) e =
    let z : n - suc i ≡ k = omega arith in
    rw z (omega arith)

later-by : (w : ℕ → ℕ) (n i d : ℕ) → ahead w (n - (i + d)) (i + d) ≤ ahead w (n - i) i
later-by w n i zero =
    let z : i + 0 ≡ i = omega arith in
    rw z (omega arith)
later-by w n i (suc d) =
    let z : i + suc d ≡ suc (i + d) = omega arith in
    rw z (omega (arith, one_later w n (i + d) (n - (i + d)) refl, later-by w n i d))

later : (w : ℕ → ℕ) (n i j : ℕ) → i ≤ j → ahead w (n - j) j ≤ ahead w (n - i) i
later w n i j h =
    let z : i + (j - i) ≡ j = omega arith in
    rw z at (later-by w n i (j - i))

-- an index and those from a later one on
with-later : (w : ℕ → ℕ) (n i j : ℕ) → i < n → i < j → w i + ahead w (n - j) j ≤ ahead w (n - i) i
with-later w n i j h g =
    let z : n - i ≡ suc (n - suc i) = omega arith in
    rw z (omega (arith, later w n (suc i) j (omega arith)))

total-append : {A : Type 0} (w : A → ℕ) (xs ys : List A) → total w (xs ++ ys) ≡ total w xs + total w ys
total-append w [] ys = omega arith
total-append w (x ∷ xs) ys = omega (arith, total-append w xs ys)

-- a member more
total-more : {A : Type 0} (w : A → ℕ) (xs : List A) (x : A) → total w (xs ++ (x ∷ [])) ≡ total w xs + w x
total-more w xs x = omega (arith, total-append w xs (x ∷ []))

total_kept : {A : Type 0} (w : A → ℕ) (b : Bool) (xs : List A) → total w (keep b xs) ≤ total w xs
total_kept w true xs = omega arith
total_kept w false xs = omega arith

-- one visit: what it closes and what it holds weigh no more than what was held and its own rule
visit-weighs : (w : ℕ → ℕ) (q : Given) (st : State) (v : Verdict) (l : Bool)
    → total (total w) (visit_by q st v l).closed + total w (visit_by q st v l).after.members ≤ total w st.members + w st.next
visit-weighs w q st Verdict.Missed l = omega arith
visit-weighs w q st Verdict.Matched true = omega (arith, total-more w st.members st.next)
visit-weighs w q st Verdict.Matched false = omega (arith, total-more w st.members st.next)
visit-weighs w q st Verdict.Removed true = omega arith
visit-weighs w q st Verdict.Removed false = omega (arith, total_kept w (not q.reading.breaks) st.members)
visit-weighs w q st Verdict.Error l = omega arith

-- visits from a state on
abbrev Weighs : (ℕ → ℕ) → Given → State → List Visit → Type 0
Weighs w q st l = total (total w) (closed_in l) ≤ total w st.members + ahead w (rule_count q - st.next) st.next

kept-weighs : (w : ℕ → ℕ) (q : Given) (st : State) (b : Bool) (l : List Visit) → Weighs w q st l → Weighs w q st (keep b l)
kept-weighs w q st true l h = h
kept-weighs w q st false l h = omega arith

turn-weighs : (w : ℕ → ℕ) (q : Given) (st : State) (rest : List Visit) (b : Bool) → is_visited q st ≡ b → Weighs w q (visit_at q st).after rest
    → Weighs w q st (keep b (visit_at q st ∷ keep (not (is_last (visit_at q st).ending)) rest))
unfolding visit_at
turn-weighs w q st rest false e r = omega arith
turn-weighs w q st rest true e r =
    let verdict : Verdict = verdict_at q st.controls st.next in
    let link : Bool = is_link q st.next in
    let v : Visit = visit_by q st verdict link in
    let h : st.next < rule_count q = visited-within q st e in
    let l : List Visit = keep (not (is_last v.ending)) rest in
    omega (
      arith,
      total-append (total w) v.closed (closed_in l),
      kept-weighs w q v.after (not (is_last v.ending)) rest r,
      visit-weighs w q st verdict link,
      with-later w (rule_count q) st.next v.after.next h (goes-ahead q st verdict link h),
    )

weighs : (w : ℕ → ℕ) (k : ℕ) (q : Given) (st : State) → Weighs w q st (walk k q st)
unfolding walk
weighs w zero q st = omega arith
weighs w (suc k) q st = turn-weighs w q st (walk k q (visit_at q st).after) (is_visited q st) refl (weighs w k q (visit_at q st).after)

pub closed-weigh : (w : ℕ → ℕ) (q : Given) (t : Transaction) → total (total w) (closed_in (walk_of q t)) ≤ ahead w (rule_count q) 0
unfolding walk_of
closed-weigh w q t =
    let z : rule_count q - 0 ≡ rule_count q = omega arith in
    omega (arith, rw z at (kept-weighs w q (start t) (not (nothing_to_do q t)) (walk (rule_count q) q (start t)) (weighs w (rule_count q) q (start t))))

-- the weight of all indexes is that of all rules
ahead-shift : (f : Rule → ℕ) (r : Rule) (rs : List Rule) (k i : ℕ)
    → ahead (λ j. f (get_or (r ∷ rs) j no_rule)) k (suc i) ≡ ahead (λ j. f (get_or rs j no_rule)) k i
ahead-shift f r rs zero i = refl
ahead-shift f r rs (suc k) i = ap (λ (n : ℕ). f (get_or rs i no_rule) + n) (ahead-shift f r rs k (suc i))

pub ahead-rules : (f : Rule → ℕ) (rs : List Rule) → ahead (λ j. f (get_or rs j no_rule)) (length rs) 0 ≡ total f rs
ahead-rules f [] = refl
ahead-rules f (r ∷ rs) = ap (λ (n : ℕ). f r + n) (ahead-shift f r rs (length rs) 0 ∙ ahead-rules f rs)

ahead-ones : (k i : ℕ) → ahead (λ j. 1) k i ≡ k
ahead-ones zero i = refl
ahead-ones (suc k) i = omega (arith, ahead-ones k (suc i))

-- WHAT UNITS GIVE, COUNTED

-- a count of the controls that each directive raises by no more than its own: the ranges, of which some may merge, and the targets
pub record Counted (count : Controls → ℕ) (given : Directive → ℕ) : Type 0 where
  pub by_one : (c : Controls) (at : Place) (d : Directive) → count (applied c at d) ≤ count c + given d

pub ranges-counted : Counted (λ c. length c.ranges) range_count
ranges-counted = record { by_one = one }
  where
    one : (c : Controls) (at : Place) (d : Directive) → length (applied c at d).ranges ≤ length c.ranges + range_count d
    one c at (rule_engine m) = omega arith
    one c at (rule_remove_by_id rs) = length-all-added c.ranges rs
    one c at (rule_remove_target_by_id id target) = omega arith
    one c at (request_body_access a) = omega arith
    one c at (request_body_processor p) = omega arith
    one c at (unsupported r) = omega arith

pub targets-counted : Counted (λ c. length c.targets) target_count
targets-counted = record { by_one = one }
  where
    one : (c : Controls) (at : Place) (d : Directive) → length (applied c at d).targets ≤ length c.targets + target_count d
    one c at (rule_engine m) = omega arith
    one c at (rule_remove_by_id rs) = omega arith
    one c at (rule_remove_target_by_id id target) = omega (arith, length-append c.targets (at ∷ []))
    one c at (request_body_access a) = omega arith
    one c at (request_body_processor p) = omega arith
    one c at (unsupported r) = omega arith

-- what so many of all members' directives in units give, each counted as it is written
abbrev pub units_give : Given → (Directive → ℕ) → List (List ℕ) → ℕ
units_give q given us = total (total (λ m. rule_total q given (get_or q.rules m no_rule))) us

module _ (q : Given) (count : Controls → ℕ) (given : Directive → ℕ) (counted : Counted count given) where
  actions-count : (ps : List Placed) (c : Controls)
      → count (action_controls q ps c) ≤ count c + total (λ p. given (directive_in q.text p)) ps
  actions-count [] c = omega arith
  actions-count (p ∷ ps) c =
      let at : Place = record { phase = q.settings.phase; position = p.position } in
      let d : Directive = directive_in q.text p in
      omega (arith, actions-count ps (applied c at d), counted.by_one c at d)

  pub member-count : (m : ℕ) (c : Controls) → count (rule_controls q m c) ≤ count c + rule_total q given (get_or q.rules m no_rule)
  unfolding rule_controls actions_at rule_at rule_total
  member-count m c = actions-count (controls_in (actions_at q m)) c

  unit-count : (u : List ℕ) (c : Controls) → count (unit_controls q u c) ≤ count c + total (λ m. rule_total q given (get_or q.rules m no_rule)) u
  unit-count [] c = omega arith
  unit-count (m ∷ ms) c = omega (arith, unit-count ms (rule_controls q m c), member-count m c)

  units-count : (us : List (List ℕ)) (c : Controls)
      → count (units_controls q us c) ≤ count c + units_give q given us
  units-count [] c = omega arith
  units-count (u ∷ us) c = omega (arith, units-count us (unit_controls q u c), unit-count u c)

  -- a visit: at most what the unit gives that it closes
  visit-count : (st : State) (v : Verdict) (l : Bool) → count (visit_by q st v l).after.controls ≤ count st.controls + units_give q given (visit_by q st v l).closed
  visit-count st Verdict.Missed l = omega arith
  visit-count st Verdict.Matched true = omega arith
  visit-count st Verdict.Matched false = omega (arith, unit-count (st.members ++ (st.next ∷ [])) st.controls)
  visit-count st Verdict.Removed true = omega arith
  visit-count st Verdict.Removed false = omega arith
  visit-count st Verdict.Error l = omega arith

  -- the closed units of the walk give no more than all rules
  walk-gives : (t : Transaction) → units_give q given (closed_in (walk_of q t)) ≤ total (rule_total q given) q.rules
  walk-gives t =
      omega (arith, closed-weigh (λ m. rule_total q given (get_or q.rules m no_rule)) q t, ahead-rules (rule_total q given) q.rules)

  -- the controls after the whole walk count at most those held and those of all rules
  walk-count : (t : Transaction) → count (controls_after t.controls (walk_of q t)) ≤ count t.controls + total (rule_total q given) q.rules
  walk-count t =
      omega (
        arith,
        ap count (walk-replayed q t).controls,
        units-count (closed_in (walk_of q t)) t.controls,
        walk-gives t,
      )

-- at most one id a unit, one unit a visit, and one visit a rule
one-id : (i : Option ℕ) → length (list_of i) ≤ 1
one-id None = omega arith
one-id (Some n) = omega arith

ids-few : (q : Given) (us : List (List ℕ)) → length (gather (unit_ids q) us) ≤ length us
ids-few q [] = omega arith
ids-few q (u ∷ us) =
    omega (arith, length-append (unit_ids q u) (gather (unit_ids q) us), one-id (id_at q (starter_of u)), ids-few q us)

one_unit : (q : Given) (st : State) (v : Verdict) (l : Bool) → length (visit_by q st v l).closed ≤ 1
one_unit q st Verdict.Missed l = omega arith
one_unit q st Verdict.Matched true = omega arith
one_unit q st Verdict.Matched false = omega arith
one_unit q st Verdict.Removed true = omega arith
one_unit q st Verdict.Removed false = omega arith
one_unit q st Verdict.Error l = omega arith

-- what is claimed of at most k visits
record Few (k : ℕ) (l : List Visit) : Type 0 where
  visits : length l ≤ k
  units : length (closed_in l) ≤ k

no_more : (k : ℕ) → Few k []
no_more k = record { visits = omega arith; units = omega arith }

kept-few : (k : ℕ) (b : Bool) (l : List Visit) → Few k l → Few k (keep b l)
kept-few k true l h = h
kept-few k false l h = no_more k

one-few : (k : ℕ) (v : Visit) (l : List Visit) → length v.closed ≤ 1 → Few k l → Few (suc k) (v ∷ l)
one-few k v l h f =
    record { visits = omega (arith, f.visits); units = omega (arith, length-append v.closed (closed_in l), f.units) }

few : (k : ℕ) (q : Given) (st : State) → Few k (walk k q st)
unfolding walk visit_at
few zero q st = no_more 0
few (suc k) q st =
    let v : Visit = visit_at q st in
    kept-few (suc k) (is_visited q st) (v ∷ keep (not (is_last v.ending)) (walk k q v.after))
    (one-few k v (keep (not (is_last v.ending)) (walk k q v.after))
    (one_unit q st (verdict_at q st.controls st.next) (is_link q st.next))
    (kept-few k (not (is_last v.ending)) (walk k q v.after) (few k q v.after)))

walk-few : (q : Given) (t : Transaction) → Few (rule_count q) (walk_of q t)
unfolding walk_of
walk-few q t = kept-few (rule_count q) (not (nothing_to_do q t)) (walk (rule_count q) q (start t)) (few (rule_count q) q (start t))

-- at most one data entry a member
one_entry : (q : Given) (s m : ℕ) → length (member_data q s m) ≤ 1
one_entry q s m = by (eqb (outcome_at q m) 2)
  where
    by : (b : Bool) → length (keep b (data_entry q s m ∷ [])) ≤ 1
    by true = omega arith
    by false = omega arith

members-data : (q : Given) (s : ℕ) (ms : List ℕ) → length (gather (member_data q s) ms) ≤ total (λ m. 1) ms
members-data q s [] = omega arith
members-data q s (m ∷ ms) =
    omega (arith, length-append (member_data q s m) (gather (member_data q s) ms), one_entry q s m, members-data q s ms)

units-data : (q : Given) (us : List (List ℕ)) → length (gather (unit_data q) us) ≤ total (total (λ m. 1)) us
units-data q [] = omega arith
units-data q (u ∷ us) =
    omega (arith, length-append (unit_data q u) (gather (unit_data q) us), members-data q (starter_of u) u, units-data q us)

pub ids-within : (q : Given) (t : Transaction) → length (ids_of q (walk_of q t)) ≤ rule_count q
ids-within q t = omega (arith, ids-few q (closed_in (walk_of q t)), (walk-few q t).units)

pub data-within : (q : Given) (t : Transaction) → length (data_of q (walk_of q t)) ≤ rule_count q
data-within q t = omega (arith, units-data q (closed_in (walk_of q t)), closed-weigh (λ m. 1) q t, ahead-ones (rule_count q) 0)

pub visits-within : (q : Given) (t : Transaction) → length (walk_of q t) ≤ rule_count q
visits-within q t = (walk-few q t).visits

-- AN ACCEPTED CALL

-- no refusal applies
pub record Passed (q : Call) : Type 0 where
  pub first : refused1 q ≡ false
  pub second : refused2 q ≡ false
  pub third : refused3 q ≡ false
  pub fourth : refused4 q ≡ false
  pub fifth : refused5 q ≡ false
  pub sixth : refused6 q ≡ false
  pub seventh : refused7 q ≡ false
  pub eighth : refused8 q ≡ false
  pub ninth : refused9 q ≡ false

-- a refusal that does not apply, and what is left
pub next_one : (b : Bool) (n m : ℕ) → cond b (suc n) m ≡ 0 → (b ≡ false) × (m ≡ 0)
next_one true n m e = absurd (omega arith)
next_one false n m e = (refl, e)

pub passed : (q : Call) → refusal_of q ≡ 0 → Passed q
unfolding refusal_of
passed q e =
    let p1 = next_one (refused1 q) 0 _ e in
    let p2 = next_one (refused2 q) 1 _ p1.1 in
    let p3 = next_one (refused3 q) 2 _ p2.1 in
    let p4 = next_one (refused4 q) 3 _ p3.1 in
    let p5 = next_one (refused5 q) 4 _ p4.1 in
    let p6 = next_one (refused6 q) 5 _ p5.1 in
    let p7 = next_one (refused7 q) 6 _ p6.1 in
    let p8 = next_one (refused8 q) 7 _ p7.1 in
    let p9 = next_one (refused9 q) 8 _ p8.1 in
    record {
      first = p1.0;
      second = p2.0;
      third = p3.0;
      fourth = p4.0;
      fifth = p5.0;
      sixth = p6.0;
      seventh = p7.0;
      eighth = p8.0;
      ninth = p9.0;
    }

-- an accepted call's visits are the walk
pub accepted-visits : (q : Call) → refusal_of q ≡ 0 → visits_of q ≡ walk_of q.given q.transaction
unfolding visits_of
accepted-visits q e = ap (λ (n : ℕ). keep (eqb n 0) (walk_of q.given q.transaction)) e

-- what an accepted call leaves is within every limit
pub record Within (q : Call) : Type 0 where
  pub ranges : length (outcome_of q).transaction.controls.ranges ≤ 256
  pub targets : length (outcome_of q).transaction.controls.targets ≤ 64
  pub ids : (outcome_of q).transaction.ids ≤ length q.lists.ids
  pub data-entries : (outcome_of q).transaction.data-entries ≤ length q.lists.data-entries
  pub visits : (outcome_of q).visits ≤ length q.lists.journal
  -- and no list grows or shrinks
  pub ids-length : length (outcome_of q).lists.ids ≡ length q.lists.ids
  pub data-length : length (outcome_of q).lists.data-entries ≡ length q.lists.data-entries
  pub journal-length : length (outcome_of q).lists.journal ≡ length q.lists.journal

-- refusals 8 and 9 that do not apply
not-eighth : (q : Call) → refused8 q ≡ false → length q.transaction.controls.ranges + total (rule_total q.given range_count) q.given.rules ≤ 256
unfolding refused8
not-eighth q e = ltb-false 256 (length q.transaction.controls.ranges + total (rule_total q.given range_count) q.given.rules) e

not-ninth : (q : Call) → refused9 q ≡ false → length q.transaction.controls.targets + total (rule_total q.given target_count) q.given.rules ≤ 64
unfolding refused9
not-ninth q e = ltb-false 64 (length q.transaction.controls.targets + total (rule_total q.given target_count) q.given.rules) e

-- HELD AND GIVEN: what is held at entry and what the closed units of a walk give, up to any visit
pub visit-ranges : (q : Given) (st : State) (v : Verdict) (l : Bool)
    → length (visit_by q st v l).after.controls.ranges ≤ length st.controls.ranges + units_give q range_count (visit_by q st v l).closed
visit-ranges q = visit-count q (λ c. length c.ranges) range_count ranges-counted

pub visit-targets : (q : Given) (st : State) (v : Verdict) (l : Bool)
    → length (visit_by q st v l).after.controls.targets ≤ length st.controls.targets + units_give q target_count (visit_by q st v l).closed
visit-targets q = visit-count q (λ c. length c.targets) target_count targets-counted

-- the same of a walk from a state on
pub walk-ranges : (k : ℕ) (q : Given) (st : State)
    → length (controls_after st.controls (walk k q st)).ranges ≤ length st.controls.ranges + units_give q range_count (closed_in (walk k q st))
walk-ranges k q st =
    omega (
      arith,
      ap (λ (c : Controls). length c.ranges) (replays k q st).controls,
      units-count q (λ c. length c.ranges) range_count ranges-counted (closed_in (walk k q st)) st.controls,
    )

pub give-append : (q : Given) (given : Directive → ℕ) (us vs : List (List ℕ)) → units_give q given (us ++ vs) ≡ units_give q given us + units_give q given vs
give-append q given = total-append (total (λ m. rule_total q given (get_or q.rules m no_rule)))

pub ranges-given : (q : Call) → refusal_of q ≡ 0
    → length q.transaction.controls.ranges + units_give q.given range_count (closed_in (walk_of q.given q.transaction)) ≤ 256
ranges-given q e =
    omega (arith, walk-gives q.given (λ c. length c.ranges) range_count ranges-counted q.transaction, not-eighth q (passed q e).eighth)

pub targets-given : (q : Call) → refusal_of q ≡ 0
    → length q.transaction.controls.targets + units_give q.given target_count (closed_in (walk_of q.given q.transaction)) ≤ 64
targets-given q e =
    omega (arith, walk-gives q.given (λ c. length c.targets) target_count targets-counted q.transaction, not-ninth q (passed q e).ninth)

-- the free entries, where refusal 7 does not apply
pub record Free (q : Call) : Type 0 where
  pub ids : q.transaction.ids + rule_count q.given ≤ length q.lists.ids
  pub data-entries : q.transaction.data-entries + rule_count q.given ≤ length q.lists.data-entries
  pub journal : rule_count q.given ≤ length q.lists.journal

pub not-seventh : (q : Call) → refused7 q ≡ false → Free q
unfolding refused7
not-seventh q e =
    let ids : Bool = ltb (length q.lists.ids) (q.transaction.ids + rule_count q.given) in
    let entries : Bool = ltb (length q.lists.data-entries) (q.transaction.data-entries + rule_count q.given) in
    let lists = or-false (ids || entries) (ltb (length q.lists.journal) (rule_count q.given)) e in
    let both = or-false ids entries lists.0 in
    record {
      ids = ltb-false (length q.lists.ids) (q.transaction.ids + rule_count q.given) both.0;
      data-entries = ltb-false (length q.lists.data-entries) (q.transaction.data-entries + rule_count q.given) both.1;
      journal = ltb-false (length q.lists.journal) (rule_count q.given) lists.1;
    }

-- what is written within a list leaves its length
over-length : {A : Type 0} (found new : List A) → length new ≤ length found → length (over found new) ≡ length found
over-length found new h = omega (arith, length-append new (drop (length new) found), length-drop (length new) found)

free-end-length : {A : Type 0} (used : ℕ) (found new : List A) → used + length new ≤ length found → length (at_free_end used found new) ≡ length found
free-end-length used found new h =
    let d : length (drop used found) ≡ length found - used = length-drop used found in
    let used-is : length (take used found) ≡ used = length-take used found ∙ omega arith in
    omega (arith, length-append (take used found) (over (drop used found) new), over-length (drop used found) new (omega arith))

pub length-journal : (l : List Visit) → length (journal_of l) ≡ length l
length-journal [] = refl
length-journal (v ∷ vs) = ap suc (length-journal vs)

pub accepted-within : (q : Call) → refusal_of q ≡ 0 → Within q
unfolding outcome_of
accepted-within q e =
    let p : Passed q = passed q e in
    let f : Free q = not-seventh q p.seventh in
    record {
      ranges = rw (accepted-visits q e) (omega (arith, walk-count q.given (λ c. length c.ranges) range_count ranges-counted q.transaction, not-eighth q p.eighth));
      targets = rw (accepted-visits q e) (omega (arith, walk-count q.given (λ c. length c.targets) target_count targets-counted q.transaction, not-ninth q p.ninth));
      ids = rw (accepted-visits q e) (omega (arith, ids-within q.given q.transaction, f.ids));
      data-entries = rw (accepted-visits q e) (omega (arith, data-within q.given q.transaction, f.data-entries));
      visits = rw (accepted-visits q e) (omega (arith, visits-within q.given q.transaction, f.journal));
      ids-length = rw (accepted-visits q e) (free-end-length q.transaction.ids q.lists.ids (ids_of q.given (walk_of q.given q.transaction)) (omega (arith, ids-within q.given q.transaction, f.ids)));
      data-length = rw (accepted-visits q e) (free-end-length q.transaction.data-entries q.lists.data-entries (data_of q.given (walk_of q.given q.transaction)) (omega (arith, data-within q.given q.transaction, f.data-entries)));
      journal-length = rw (accepted-visits q e) (over-length q.lists.journal (journal_of (walk_of q.given q.transaction)) (omega (arith, length-journal (walk_of q.given q.transaction), visits-within q.given q.transaction, f.journal)));
    }
