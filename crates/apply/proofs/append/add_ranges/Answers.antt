use borrow.Author.Rules.{rules}
use Rattle.apply.proofs.append.LentLaws.{lent_none, lent-merged}
use Rattle.apply.proofs.append.add_ranges.Goals as goal

pub returns-then-n-eq0-clause-added : goal.returns-then-n-eq0-clause-added
returns-then-n-eq0-clause-added c =
    let a = c.args in
    lent_none a.h a.value.now _ a.arrays.now.starts a.arrays.now.ends c.trim-v.ensures _ c.fitting-n.ensures (search rules) (search rules)
    c.if-n-eq0.true _ _ c.clear_once.ensures c.clear_once-2.ensures

pub returns-clause-added : goal.returns-clause-added
returns-clause-added c =
    let a = c.args in
    lent-merged a.h a.value.now _ a.arrays.now.starts a.arrays.now.ends c.trim-v.ensures _ c.fitting-n.ensures (search rules) (search rules)
    c.if-n-eq0.false _ _ _ _ c.clear_once.ensures c.clear_once-2.ensures
    c.write_after.ensures.starts_after c.write_after.ensures.ends_after _ _ _ c.merge_after.ensures
