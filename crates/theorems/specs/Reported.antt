-- What a phase tells besides, as its walk found it, is what its journal tells; and it leaves no visit out.
use Rattle.std.specs.Prelude.{ℕ, ◌+◌, ◌≡◌, refl, cond, List, [], ◌∷◌, ◌++◌, length, eqb}
use Rattle.std.proofs.Common.{sym, ap, ◌∙◌, arith}
use Rattle.reading.specs.declared.Verdict.{Verdict}
use Rattle.reading.specs.Numbers.{verdict_number}
use Rattle.reading.specs.declared.UnsupportedAt.{UnsupportedAt}
use Rattle.reading.specs.Lists.{gather}
use Rattle.reading.specs.Call.{Given, Transaction}
use Rattle.reading.specs.Walk.{Visit, walk_of, journal_of, closed_in}
use Rattle.reading.specs.Replay.{units_of}
use Rattle.reading.specs.Report.{same_verdict, visits_with, report_by, entries_with, report_with, report_of}
use Rattle.reading.specs.Report.{none_unsupported, unit_unsupported, first_or, unsupported_by, unsupported_in}
use Rattle.lists.proofs.Tests.{gather_append}
use Rattle.theorems.specs.Replayed.{walk-replayed}

-- two verdicts are the same where their numbers are
number-told : (x y : Verdict) → same_verdict x y ≡ eqb (verdict_number y) (verdict_number x)
number-told Verdict.Missed Verdict.Missed = refl
number-told Verdict.Missed Verdict.Matched = refl
number-told Verdict.Missed Verdict.Removed = refl
number-told Verdict.Missed Verdict.Error = refl
number-told Verdict.Matched Verdict.Missed = refl
number-told Verdict.Matched Verdict.Matched = refl
number-told Verdict.Matched Verdict.Removed = refl
number-told Verdict.Matched Verdict.Error = refl
number-told Verdict.Removed Verdict.Missed = refl
number-told Verdict.Removed Verdict.Matched = refl
number-told Verdict.Removed Verdict.Removed = refl
number-told Verdict.Removed Verdict.Error = refl
number-told Verdict.Error Verdict.Missed = refl
number-told Verdict.Error Verdict.Matched = refl
number-told Verdict.Error Verdict.Removed = refl
number-told Verdict.Error Verdict.Error = refl

-- as many visits found a verdict as entries have its number
count-told : (x : Verdict) (vs : List Visit) → visits_with x vs ≡ entries_with (verdict_number x) (journal_of vs)
count-told x [] = refl
count-told x (v ∷ vs) = rw (number-told x v.verdict, count-told x vs)

-- the first of two lists, one after the other
pub first-append : (us ws : List UnsupportedAt) (other : UnsupportedAt) → first_or (us ++ ws) other ≡ first_or us (first_or ws other)
first-append [] ws other = refl
first-append (u ∷ us) ws other = refl

-- the first of the visits' units, visit by visit, is the first of all closed units
first-closed : (g : Given) (vs : List Visit) → unsupported_by g vs ≡ first_or (gather (unit_unsupported g) (closed_in vs)) none_unsupported
first-closed g [] = refl
first-closed g (v ∷ vs) =
    ap (first_or (gather (unit_unsupported g) v.closed)) (first-closed g vs)
    ∙ sym (ap (λ (us : List UnsupportedAt). first_or us none_unsupported) (gather_append (unit_unsupported g) v.closed (closed_in vs))
    ∙ first-append (gather (unit_unsupported g) v.closed) (gather (unit_unsupported g) (closed_in vs)) none_unsupported)

-- the unsupported directive that a walk's visits tell is the one that its journal's closed units tell
pub unsupported-told : (g : Given) (t : Transaction) → unsupported_by g (walk_of g t) ≡ unsupported_in g (journal_of (walk_of g t))
unfolding units_of
unsupported-told g t =
    first-closed g (walk_of g t)
    ∙ ap (λ (us : List (List ℕ)). first_or (gather (unit_unsupported g) us) none_unsupported) (walk-replayed g t).units

pub report-told : (g : Given) (t : Transaction) → report_by g (walk_of g t) ≡ report_of g (journal_of (walk_of g t))
unfolding report_with
report-told g t =
    let vs = walk_of g t in
    λ i. record {
      missed = count-told Verdict.Missed vs i;
      matched = count-told Verdict.Matched vs i;
      removed = count-told Verdict.Removed vs i;
      errors = count-told Verdict.Error vs i;
      unsupported = unsupported-told g t i;
    }

-- a visit counts for one verdict
one-counted : (x : Verdict)
    → cond (same_verdict Verdict.Missed x) 1 0 + cond (same_verdict Verdict.Matched x) 1 0 + cond (same_verdict Verdict.Removed x) 1 0
    + cond (same_verdict Verdict.Error x) 1 0 ≡ 1
one-counted Verdict.Missed = refl
one-counted Verdict.Matched = refl
one-counted Verdict.Removed = refl
one-counted Verdict.Error = refl

-- every visit is counted, and once
pub report-complete : (g : Given) (vs : List Visit)
    → (report_by g vs).missed + (report_by g vs).matched + (report_by g vs).removed + (report_by g vs).errors ≡ length vs
report-complete g [] = refl
report-complete g (v ∷ vs) = omega (arith, one-counted v.verdict, report-complete g vs)
