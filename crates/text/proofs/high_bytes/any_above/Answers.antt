use Rattle.std.proofs.Common.{rules, ◌∙◌, sym, ap, max}
use borrow.Author.Tests.{tests}
use lib.Dec.{ltb}
use Rattle.std.proofs.lemmas.Iterator.{YieldsList-from_slice}
use Rattle.std.proofs.lemmas.Iterator.Consumers.{fold_from_yields_List}
use Rattle.text.proofs.high_bytes.Above as above
use Rattle.text.proofs.high_bytes.any_above.Goals as goal

pub returns : goal.returns
returns c =
    let s = c.args.s.now in
    let e = fold_from_yields_List _ max 0 c.fold.result c.fold.ensures.ran (YieldsList-from_slice s cc) (λ a x b q k. search (rules, tests)) in
    ap (ltb c.args.limit) e ∙ sym (above.any_above c.args.limit s)
