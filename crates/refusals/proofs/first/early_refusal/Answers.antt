use mathlib.Core.Path.{◌≡◌}
use mathlib.Core.Bool.{cond}
use Rattle.reading.specs.Refusals.{refused3, refused4}
use Rattle.refusals.specs.FirstRefusal.{first_of_four}
use Rattle.refusals.proofs.first.LentLaws.{says-1, says-2, says-3, differ, agree}
use Rattle.refusals.proofs.first.early_refusal.Goals as goal

pub returns-then-is_unknown : goal.returns-then-is_unknown
unfolding first_of_four
returns-then-is_unknown c q l = rw (says-1 l c.is_unknown.ensures c.if-is_unknown.true)

pub returns-then-is_too_large : goal.returns-then-is_too_large
unfolding first_of_four
returns-then-is_too_large c q l =
    rw (says-1 l c.is_unknown.ensures c.if-is_unknown.false, says-2 l c.is_too_large.ensures c.if-is_too_large.true)

pub returns-then-is_miscounted : goal.returns-then-is_miscounted
unfolding first_of_four
returns-then-is_miscounted c q l = rw ((let fact : first_of_four q ≡ cond (refused3 q) 3 (cond (refused4 q) 4 0) = rw (says-1 l c.is_unknown.ensures c.if-is_unknown.false, says-2 l c.is_too_large.ensures c.if-is_too_large.false) in fact), says-3 l c.is_miscounted.ensures c.if-is_miscounted.true)

pub returns-then-counts : goal.returns-then-counts
unfolding first_of_four
returns-then-counts c q l =
    rw ((let fact : first_of_four q ≡ cond (refused3 q) 3 (cond (refused4 q) 4 0) = rw (says-1 l c.is_unknown.ensures c.if-is_unknown.false, says-2 l c.is_too_large.ensures c.if-is_too_large.false) in fact), says-3 l c.is_miscounted.ensures c.if-is_miscounted.false, differ l c.if-counts.true)

pub returns : goal.returns
unfolding first_of_four
returns c q l =
    rw ((let fact : first_of_four q ≡ cond (refused3 q) 3 (cond (refused4 q) 4 0) = rw (says-1 l c.is_unknown.ensures c.if-is_unknown.false, says-2 l c.is_too_large.ensures c.if-is_too_large.false) in fact), says-3 l c.is_miscounted.ensures c.if-is_miscounted.false, agree l c.if-counts.false)
