use Rattle.std.proofs.Common.{rules, tests}
use mathlib.Core.Path.{refl, ◌∙◌}
use Rattle.std.proofs.lemmas.Iterator.{YieldsList-from_range}
use Rattle.std.proofs.lemmas.Iterator.Search.{all_from_yields_List}
use Rattle.control.proofs.ranges.FormLaws.{first-bad, first_good, follows_at}
use Rattle.control.proofs.ranges.is_merged.Goals as goal

pub returns-then-starts-ends : goal.returns-then-starts-ends
returns-then-starts-ends c =
    rw (← c.min-n.ensures)
    (all_from_yields_List (follows_at c.args.starts.now c.args.ends.now) _ _ _ c.all.ensures.ran
    (YieldsList-from_range 1 c.min-n.result _ refl refl) (λ x b q k. search (rules, tests))
    ∙ first_good _ _ c.min-n.result c.if-n-eq0.false c.if-starts-ends.true)

pub returns-else-starts-ends : goal.returns-else-starts-ends
returns-else-starts-ends c = rw (← c.min-n.ensures) (first-bad _ _ c.min-n.result c.if-n-eq0.false c.if-starts-ends.false)
