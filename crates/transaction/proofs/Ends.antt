-- How a visit leaves the phase, in the code and in the definition. Assumes nothing.
use Rattle.std.specs.Prelude.{Option, None, is_some}
use Prim.Native.Nat.{ℕ, ◌<◌}
use mathlib.Core.Path.{◌≡◌, refl, ap, ◌∙◌}
use mathlib.Core.Bool.{Bool, true, false, not, cond, ◌&&◌}
use mathlib.Core.List.{List, [], ◌∷◌, ◌++◌}
use Rattle.reading.specs.declared.Verdict.{Verdict}
use Rattle.reading.specs.declared.DisruptiveOutcome.{DisruptiveOutcome}
use Rattle.reading.specs.declared.Intervention.{Intervention}
use Rattle.reading.specs.declared.RuleEngineMode.{RuleEngineMode}
use Rattle.reading.specs.Reading.{rust}
use Rattle.reading.specs.Controls.{Controls, is_on}
use Rattle.reading.specs.Call.{Given, mode_under, is_link, rule_count}
use Rattle.reading.specs.Units.{unit_disruptive, unit_intervention, is_allow, is_stopping}
use Rattle.reading.specs.Walk.{State, Visit, goes_on, allows, errs, stops, is_last, is_error, gives_allow, intervention_or, visit_by}
use Rattle.reading.specs.Walk.{verdict_at}
use Rattle.reading.specs.Walk as reading
use Rattle.unit.specs.declared.visit.VisitOutcome.{VisitOutcome}
use Rattle.unit.specs.declared.visit.State as code
use Rattle.unit.specs.VisitRule.{entry_by, found_at}
use Rattle.unit.specs.VisitRule as visit
use Rattle.intervention.specs.declared.decide.Ending.{Ending}
use Rattle.intervention.specs.EndOfVisit.{end_by}
use Rattle.intervention.specs.BuildIntervention.{intervention_at_end}
use Rattle.transaction.specs.WalkRules.{is_going, is_errs, is_allows}
use Rattle.transaction.proofs.Found.{by_code, code_is, visit-is, visit_of, unit_of, state_of}

-- the code's ending of a definition's
abbrev pub kind_of : reading.Ending → Ending
kind_of goes_on = Ending.GoesOn
kind_of allows = Ending.Allows
kind_of errs = Ending.Errs
kind_of (stops i) = Ending.Stops

pub last-kind : (x : reading.Ending) → is_last x ≡ not (is_going (kind_of x))
last-kind goes_on = refl
last-kind allows = refl
last-kind errs = refl
last-kind (stops i) = refl

pub error_kind : (x : reading.Ending) → is_error x ≡ is_errs (kind_of x)
error_kind goes_on = refl
error_kind allows = refl
error_kind errs = refl
error_kind (stops i) = refl

pub allow-kind : (x : reading.Ending) → gives_allow x ≡ is_allows (kind_of x)
allow-kind goes_on = refl
allow-kind allows = refl
allow-kind errs = refl
allow-kind (stops i) = refl

module _ (a b : Bool) (i : Intervention) where
  abbrev by : Bool → Bool → reading.Ending
  by x y = cond x allows (cond y (stops i) goes_on)

  kind-by : (x y : Bool) → kind_of (by x y) ≡ cond x Ending.Allows (cond y Ending.Stops Ending.GoesOn)
  kind-by true y = refl
  kind-by false true = refl
  kind-by false false = refl

  stop-by : (x y : Bool) → intervention_or (by x y) None ≡ intervention_at_end (kind_of (by x y)) i
  stop-by true y = refl
  stop-by false true = refl
  stop-by false false = refl

-- how a visit leaves the phase: by a rule error, else by the last disruptive action of its unit, if it closes one
abbrev pub end_of : Verdict → DisruptiveOutcome → RuleEngineMode → Ending
end_of found d mode = cond (visit.is_error found) Ending.Errs (end_by d mode)

-- by what is found and whether the rule is a link
module _ (q : Given) (reading : q.reading ≡ rust) (st : State) (chain : Option ℕ) (first : ℕ) where
  abbrev unit : List ℕ
  unit = st.members ++ (st.next ∷ [])

  ending-by : (v : Verdict) (l : Bool) (d : DisruptiveOutcome)
      → d ≡ cond (is_some (by_code q reading st chain first v l).closes) (unit_disruptive q unit) DisruptiveOutcome.Nothing
      → kind_of (visit_by q st v l).ending ≡ end_of v d (mode_under q (visit_by q st v l).after.controls)
  ending-by Verdict.Missed l d e = rw e
  ending-by Verdict.Matched true d e = rw e
  ending-by Verdict.Matched false d e = rw e (kind-by true true (unit_intervention q unit) (is_allow (unit_disruptive q unit))
      (is_stopping (unit_disruptive q unit) && is_on (mode_under q (visit_by q st Verdict.Matched false).after.controls)))
  ending-by Verdict.Removed true d e = rw e
  ending-by Verdict.Removed false d e = rw e
  ending-by Verdict.Error l d e = refl

  stopping-by : (v : Verdict) (l : Bool) (i : Intervention)
      → (is_some (by_code q reading st chain first v l).closes ≡ true → i ≡ unit_intervention q unit)
      → intervention_or (visit_by q st v l).ending None ≡ intervention_at_end (kind_of (visit_by q st v l).ending) i
  stopping-by Verdict.Missed l i e = refl
  stopping-by Verdict.Matched true i e = refl
  stopping-by Verdict.Matched false i e = rw (e refl)
      (stop-by true true (unit_intervention q unit) (is_allow (unit_disruptive q unit))
      (is_stopping (unit_disruptive q unit) && is_on (mode_under q (visit_by q st Verdict.Matched false).after.controls)))
  stopping-by Verdict.Removed true i e = refl
  stopping-by Verdict.Removed false i e = refl
  stopping-by Verdict.Error l i e = refl

-- the same of the rule that the walk stands at
module _ (q : Given) (reading : q.reading ≡ rust) (ms : List ℕ) (c : Controls) (s : code.State) (visits : ℕ)
    (inside : s.next < rule_count q)
    (found : Verdict) (found-is : found ≡ verdict_at q c s.next) (w : VisitOutcome) (w-is : w ≡ found_at q.rules s visits found)
  where
    abbrev v : Visit
    v = visit_of q reading ms c s visits inside found found-is w w-is

    abbrev st : State
    st = state_of q reading ms c s visits inside found found-is w w-is

    abbrev unit_now : List ℕ
    unit_now = unit_of q reading ms c s visits inside found found-is w w-is

    pub ending-is : (d : DisruptiveOutcome) → d ≡ cond (is_some w.closes) (unit_disruptive q unit_now) DisruptiveOutcome.Nothing
        → kind_of v.ending ≡ end_of found d (mode_under q v.after.controls)
    ending-is d e =
        let z = ending-by q reading st s.chain (entry_by s visits) found (is_link q s.next) d
        (e ∙ ap (λ (x : VisitOutcome). cond (is_some x.closes) (unit_disruptive q unit_now) DisruptiveOutcome.Nothing)
        (code_is q reading ms c s visits inside found found-is w w-is)) in
        rw (visit-is q reading ms c s visits inside found found-is w w-is) z

    pub stopping-is : (i : Intervention) → (is_some w.closes ≡ true → i ≡ unit_intervention q unit_now)
        → intervention_or v.ending None ≡ intervention_at_end (kind_of v.ending) i
    stopping-is i e =
        rw (visit-is q reading ms c s visits inside found found-is w w-is)
        (stopping-by q reading st s.chain (entry_by s visits) found (is_link q s.next) i
        (λ h. e (ap (λ (x : VisitOutcome). is_some x.closes) (code_is q reading ms c s visits inside found found-is w w-is) ∙ h)))
