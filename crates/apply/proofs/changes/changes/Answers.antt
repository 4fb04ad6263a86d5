use Rattle.std.proofs.Common.{rules, tests}
use mathlib.Core.Path.{refl, ◌∙◌}
use native.Mathlib.Omega.{arith}
use lib.ListN.{length}
use Prim.Native.Nat.{◌/◌}
use Rattle.std.proofs.lemmas.Iterator.{YieldsList-from_range}
use Rattle.std.proofs.lemmas.Iterator.Search.{any_from_yields_List}
use Rattle.reading.specs.Records.{rule_list}
use Rattle.apply.proofs.changes.MemberLaws.{entry_test, members-any}
use Rattle.apply.proofs.changes.changes.Goals as goal

pub returns : goal.returns
returns c =
    let given = c.args in
    any_from_yields_List (entry_test given.codes.now (rule_list given.rules.now) given.entries.now) _ _ _ c.any.ensures.ran
    (YieldsList-from_range 0 (length given.entries.now / 2) (length given.entries.now / 2) refl (omega arith)) (λ x b q k. search (rules, tests))
    ∙ members-any _ _ _ (length given.entries.now / 2) 0 (omega arith)
