use mathlib.Core.Path.{sym, ◌∙◌}
use native.Mathlib.Omega.{arith}
use borrow.Author.Tests.{leb-true}
use Rattle.refusals.proofs.totals.Exceeding.{none-adds}
use Rattle.refusals.proofs.totals.Following.{follow-fits}
use Rattle.refusals.proofs.totals.exceeds.Goals as goal
use Rattle.refusals.proofs.totals.exceeds.Goals.{then-whole-eq0-via-then-whole-eq0, then-whole-eq0-via-else-whole-eq0+then-follow, then-whole-limit, else-whole-limit}

pub returns-then-whole-eq0 : goal.returns-then-whole-eq0
returns-then-whole-eq0 g c =
    let a = c.args in
    let few = c.if-limit-held.false in
    elim c.then-whole-eq0.branch [
      | then-whole-eq0-via-then-whole-eq0 w ↦
          none-adds _ a.codes.now a.rules.now a.held a.limit few (sym c.whole_weight-whole.ensures ∙ w.if-whole-eq0.true)
      | then-whole-eq0-via-else-whole-eq0+then-follow w ↦ elim w.if-whole-limit.branch [
        | then-whole-limit v ↦
            follow-fits _ a.codes.now a.rules.now a.held a.limit few (sym v.follow.ensures ∙ sym v.value-is ∙ w.if-follow.true)
            (omega (arith, c.whole_weight-whole.ensures, v.if-whole-limit.true))
        | else-whole-limit v ↦ absurd (omega (arith, leb-true _ _ (sym v.value-is ∙ w.if-follow.true), v.if-whole-limit.false))
      ]
    ]
