use Rattle.std.proofs.Common.{rules, tests}
use mathlib.Core.Path.{refl, ◌∙◌}
use lib.ListN.{get_or}
use Rattle.std.proofs.lemmas.Iterator.{YieldsList-from_range}
use Rattle.std.proofs.lemmas.Iterator.Search.{any_from_yields_List}
use Rattle.apply.proofs.changes.CodeLaws.{is_change, changes-any}
use Rattle.apply.proofs.changes.rule_changes.Goals as goal

pub returns : goal.returns
returns c =
    any_from_yields_List (λ k. is_change (get_or c.args.codes.now k 0)) _ _ _ c.any.ensures.ran
    (YieldsList-from_range c.args.rule.first c.codes_end-end.result _ refl refl) (λ x b q k. search (rules, tests))
    ∙ changes-any _ c.args.rule _ c.codes_end-end.ensures
