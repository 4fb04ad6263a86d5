-- The visit that the code makes is the definition's. Assumes nothing.
use Prim.Native.Nat.{ℕ, ◌+◌, ◌≤◌, ◌<◌, min}
use Rattle.std.specs.Prelude.{Option, Some, is_some, unwrap_or}
use mathlib.Core.Path.{◌≡◌, refl, sym, ap, ◌∙◌}
use mathlib.Core.Bool.{Bool, true, false, cond}
use mathlib.Core.List.{List, [], ◌∷◌, ◌++◌, append-nil}
use native.Mathlib.Omega.{arith}
use native.Mathlib.Numerals.{add-one}
use borrow.Author.Tests.{lt-ltb}
use lib.Dec.{eqb, ltb}
use lib.ListN.{length, drop, get_or}
use Rattle.reading.specs.declared.Verdict.{Verdict}
use Rattle.reading.specs.declared.Rule.{Rule}
use Rattle.reading.specs.declared.RuleEngineMode.{RuleEngineMode}
use Rattle.reading.specs.Lists.{keep}
use Rattle.reading.specs.Numbers.{verdict_number, mode_of_number}
use Rattle.reading.specs.Reading.{rust}
use Rattle.reading.specs.Controls.{Controls, mode_or}
use Rattle.reading.specs.Call.{Given, rule_count, rule_at, id_at, outcome_at, record_id, is_link, no_rule, mode_under}
use Rattle.reading.specs.Units.{unit_controls, unit_flow}
use Rattle.reading.specs.Walk.{State, Visit, visit_by, visit_at, verdict_at, verdict_by, after_chain, after_flow, entry_of, chain_rest}
use Rattle.theorems.specs.MergedRanges.{Merged}
use Rattle.control.specs.declared.state.Controls as held
use Rattle.control.specs.ControlsStruct.{controls_of}
use Rattle.control.specs.Halving.{found_by_halving}
use Rattle.control.proofs.ranges.HalvingLaws.{halving-finds}
use Rattle.unit.specs.declared.visit.VisitOutcome.{VisitOutcome}
use Rattle.unit.specs.declared.visit.State as code
use Rattle.unit.specs.VisitRule.{entry_by, passed, found_by, found_at}
use Rattle.transaction.proofs.Turns.{true-false}

false-true : false ≡ true → ⊥
false-true e = true-false (sym e)

-- what the code finds of a rule is the definition's verdict, as long as all held ranges are in the arrays and have the merged form
found-law : (q : Given) (c : held.Controls) (i : ℕ) (found : Verdict) → c.ranges ≤ 256 → Merged (controls_of c).ranges
    → found ≡ cond (found_by_halving (min c.ranges 256) c.starts c.ends (record_id (get_or q.rules i no_rule)))
    Verdict.Removed (verdict_by (get_or q.outcomes i 0))
    → found ≡ verdict_at q (controls_of c) i
unfolding verdict_at id_at rule_at outcome_at controls_of
found-law q c i found h f e =
    let z : min c.ranges 256 ≡ c.ranges = omega arith in
    rw (z, halving-finds c.ranges c.starts c.ends (record_id (get_or q.rules i no_rule)) h f) at e

-- a visit has what was found in it
found-by : (past rest : ℕ) (chain : Option ℕ) (first : ℕ) (found : Verdict) (link : Bool)
    → (found_by past rest chain first found link).verdict ≡ found
found-by past rest chain first Verdict.Missed link = refl
found-by past rest chain first Verdict.Matched true = refl
found-by past rest chain first Verdict.Matched false = refl
found-by past rest chain first Verdict.Removed true = refl
found-by past rest chain first Verdict.Removed false = refl
found-by past rest chain first Verdict.Error link = refl

pub visit-verdict : (rules : List Rule) (s : code.State) (visits : ℕ) (found : Verdict) (w : VisitOutcome)
    → w ≡ found_at rules s visits found → w.verdict ≡ found
unfolding found_at
visit-verdict rules s visits found w e = rw e (go (ltb s.next (length rules)))
  where
    go : (inside : Bool) → (cond inside
        (found_by (s.next + 1) (s.next + chain_rest (drop s.next rules)) s.chain (entry_by s visits) found
        (eqb (get_or rules s.next no_rule).link 1)) (passed found s.next s.chain)).verdict ≡ found
    go true = found-by _ _ _ _ found _
    go false = refl

-- the same of a visit under the ranges of a struct
module _ (q : Given) (c : held.Controls) (s : code.State) (visits : ℕ) (few : c.ranges ≤ 256) (form : Merged (controls_of c).ranges) (w : VisitOutcome)
    (w-is : w ≡ found_at q.rules s visits
    (cond (found_by_halving (min c.ranges 256) c.starts c.ends (record_id (get_or q.rules s.next no_rule)))
    Verdict.Removed (verdict_by (get_or q.outcomes s.next 0)))) where
  abbrev by_ranges : Verdict
  by_ranges =
      cond (found_by_halving (min c.ranges 256) c.starts c.ends (record_id (get_or q.rules s.next no_rule)))
      Verdict.Removed (verdict_by (get_or q.outcomes s.next 0))

  verdict-now : w.verdict ≡ by_ranges
  verdict-now = visit-verdict q.rules s visits by_ranges w w-is

  pub verdict-found : w.verdict ≡ verdict_at q (controls_of c) s.next
  verdict-found = found-law q c s.next w.verdict few form verdict-now

  pub visit-found : w ≡ found_at q.rules s visits w.verdict
  visit-found = w-is ∙ ap (found_at q.rules s visits) (sym verdict-now)

-- the mode under the controls of a struct
pub mode-law : (q : Given) (c : held.Controls) (m now : RuleEngineMode) → m ≡ mode_of_number q.settings.mode → now ≡ mode_or m
    c.settings.mode
    → now ≡ mode_under q (controls_of c)
unfolding controls_of
mode-law q c m now e f = rw e at f

-- a rule of the definitions' state, given what is found and whether it is a link; `w` is what the code finds
module _ (q : Given) (reading : q.reading ≡ rust) (st : State) (chain : Option ℕ) (first : ℕ) where
  abbrev unit : List ℕ
  unit = st.members ++ (st.next ∷ [])

  abbrev pub by_code : Verdict → Bool → VisitOutcome
  by_code found link = found_by (st.next + 1) (after_chain q st.next) chain first found link

  closed-by : (v : Verdict) (l : Bool) → (visit_by q st v l).closed ≡ keep (is_some (by_code v l).closes) (unit ∷ [])
  closed-by Verdict.Missed l = refl
  closed-by Verdict.Matched true = refl
  closed-by Verdict.Matched false = refl
  closed-by Verdict.Removed true = refl
  closed-by Verdict.Removed false = refl
  closed-by Verdict.Error l = refl

  controls-by : (v : Verdict) (l : Bool)
      → (visit_by q st v l).after.controls ≡ cond (is_some (by_code v l).closes) (unit_controls q unit st.controls) st.controls
  controls-by Verdict.Missed l = refl
  controls-by Verdict.Matched true = refl
  controls-by Verdict.Matched false = refl
  controls-by Verdict.Removed true = refl
  controls-by Verdict.Removed false = refl
  controls-by Verdict.Error l = refl

  next-by : (v : Verdict) (l : Bool)
      → (visit_by q st v l).after.next ≡ cond (is_some (by_code v l).closes) (after_flow q (by_code v l).after.next (unit_flow q unit))
      (by_code v l).after.next
  next-by Verdict.Missed l = refl
  next-by Verdict.Matched true = sym (add-one st.next)
  next-by Verdict.Matched false = rw (add-one st.next)
  next-by Verdict.Removed true = refl
  next-by Verdict.Removed false = sym (add-one st.next)
  next-by Verdict.Error l = sym (add-one st.next)

  -- a visit that closes a unit found its rule matched
  matched-by : (v : Verdict) (l : Bool) → is_some (by_code v l).closes ≡ true → v ≡ Verdict.Matched
  matched-by Verdict.Missed l e = absurd (false-true e)
  matched-by Verdict.Matched true e = refl
  matched-by Verdict.Matched false e = refl
  matched-by Verdict.Removed true e = absurd (false-true e)
  matched-by Verdict.Removed false e = absurd (false-true e)
  matched-by Verdict.Error l e = absurd (false-true e)

  -- the unit that is closed begins where the chain does, and so does the chain that is open then
  begun-by : (v : Verdict) (l : Bool) (begun : ℕ) → (by_code v l).closes ≡ Some begun → begun ≡ first
  begun-by Verdict.Missed l begun e = cc
  begun-by Verdict.Matched true begun e = cc
  begun-by Verdict.Matched false begun e = cc
  begun-by Verdict.Removed true begun e = cc
  begun-by Verdict.Removed false begun e = cc
  begun-by Verdict.Error l begun e = cc

  chain-by : (v : Verdict) (l : Bool) (begun visits : ℕ) → first ≡ unwrap_or chain visits
      → (by_code v l).after.chain ≡ Some begun → begun ≡ first
  chain-by Verdict.Missed l begun visits d e = cc
  chain-by Verdict.Matched true begun visits d e = cc
  chain-by Verdict.Matched false begun visits d e = cc
  chain-by Verdict.Removed true begun visits d e = cc
  chain-by Verdict.Removed false begun visits d e = sym (d ∙ ap (λ (o : Option ℕ). unwrap_or o visits) e)
  chain-by Verdict.Error l begun visits d e = sym (d ∙ ap (λ (o : Option ℕ). unwrap_or o visits) e)

  -- the members of the chain that is open then; `since` are the matched entries of the chain with this visit
  members-by : (v : Verdict) (l : Bool) (since : List ℕ) → since ≡ st.members ++ keep (eqb (verdict_number v) 1) (st.next ∷ [])
      → (is_some chain ≡ false → st.members ≡ []) → keep (is_some (by_code v l).after.chain) since ≡ (visit_by q st v l).after.members
  members-by Verdict.Missed l since e h = refl
  members-by Verdict.Matched true since e h = e
  members-by Verdict.Matched false since e h = refl
  members-by Verdict.Removed true since e h = refl
  members-by Verdict.Removed false since e h = rw reading (kept (is_some chain) refl)
    where
      kept : (b : Bool) → is_some chain ≡ b → keep b since ≡ st.members
      kept true d = e ∙ append-nil st.members
      kept false d = sym (h d)
  members-by Verdict.Error l since e h = kept (is_some chain) refl
    where
      kept : (b : Bool) → is_some chain ≡ b → keep b since ≡ st.members
      kept true d = e ∙ append-nil st.members
      kept false d = sym (h d)

-- the same of the rule that the walk stands at
module _ (q : Given) (reading : q.reading ≡ rust) (ms : List ℕ) (c : Controls) (s : code.State) (visits : ℕ)
    (inside : s.next < rule_count q)
    (found : Verdict) (found-is : found ≡ verdict_at q c s.next) (w : VisitOutcome) (w-is : w ≡ found_at q.rules s visits found)
  where
    abbrev pub state_of : State
    state_of = record { next = s.next; members = ms; controls = c }

    abbrev pub visit_of : Visit
    visit_of = visit_at q state_of

    abbrev pub unit_of : List ℕ
    unit_of = ms ++ (s.next ∷ [])

    abbrev by_rule : VisitOutcome
    by_rule = found_by (s.next + 1) (after_chain q s.next) s.chain (entry_by s visits) found (is_link q s.next)

    pub code_is : w ≡ by_rule
    unfolding found_at is_link rule_at after_chain
    code_is = w-is ∙ rw (lt-ltb s.next (rule_count q) inside)

    pub visit-is : visit_of ≡ visit_by q state_of found (is_link q s.next)
    unfolding visit_at
    visit-is = rw found-is

    pub entry-is : entry_of visit_of ≡ record { index = s.next; verdict = verdict_number found }
    unfolding visit_at
    entry-is = rw visit-is (go found (is_link q s.next))
      where
        go : (v : Verdict) (l : Bool) → entry_of (visit_by q state_of v l) ≡ record { index = s.next; verdict = verdict_number v }
        go Verdict.Missed l = refl
        go Verdict.Matched true = refl
        go Verdict.Matched false = refl
        go Verdict.Removed true = refl
        go Verdict.Removed false = refl
        go Verdict.Error l = refl

    pub closed_is : visit_of.closed ≡ keep (is_some w.closes) (unit_of ∷ [])
    closed_is = rw (visit-is, code_is) (closed-by q reading state_of s.chain (entry_by s visits) found (is_link q s.next))

    pub controls-is : visit_of.after.controls ≡ cond (is_some w.closes) (unit_controls q unit_of c) c
    controls-is = rw (visit-is, code_is) (controls-by q reading state_of s.chain (entry_by s visits) found (is_link q s.next))

    pub next-is : visit_of.after.next ≡ cond (is_some w.closes) (after_flow q w.after.next (unit_flow q unit_of)) w.after.next
    next-is = rw (visit-is, code_is) (next-by q reading state_of s.chain (entry_by s visits) found (is_link q s.next))

    pub unit-begun : (begun : ℕ) → w.closes ≡ Some begun → begun ≡ entry_by s visits
    unit-begun begun e =
        begun-by q reading state_of s.chain (entry_by s visits) found (is_link q s.next) begun
        (ap (λ (x : VisitOutcome). x.closes) (sym code_is) ∙ e)

    pub chain-begun : (begun : ℕ) → w.after.chain ≡ Some begun → begun ≡ entry_by s visits
    chain-begun begun e =
        chain-by q reading state_of s.chain (entry_by s visits) found (is_link q s.next) begun visits refl
        (ap (λ (x : VisitOutcome). x.after.chain) (sym code_is) ∙ e)

    pub closes-matched : is_some w.closes ≡ true → found ≡ Verdict.Matched
    closes-matched e =
        matched-by q reading state_of s.chain (entry_by s visits) found (is_link q s.next)
        (ap (λ (x : VisitOutcome). is_some x.closes) (sym code_is) ∙ e)

    pub members-are : (since : List ℕ) → since ≡ ms ++ keep (eqb (verdict_number found) 1) (s.next ∷ [])
        → (is_some s.chain ≡ false → ms ≡ [])
        → keep (is_some w.after.chain) since ≡ visit_of.after.members
    members-are since e h =
        rw (visit-is, code_is) (members-by q reading state_of s.chain (entry_by s visits) found (is_link q s.next) since e h)
