use Rattle.std.proofs.Common.{rules, ◌-◌, length, take, ◌∙◌, sym, ap}
use mathlib.Core.List.{reverse}
use Rattle.std.proofs.lemmas.List.{length-reverse}
use borrow.Author.Tests.{tests}
use Rattle.std.proofs.lemmas.Iterator.Adapters.{YieldsList-from_rev_slice}
use Rattle.std.proofs.lemmas.Iterator.Search.{position_from_yields_List}
use Rattle.text.proofs.ascii.Search.{first_place}
use Rattle.text.proofs.trim.Trimming.{other, end_at}
use Rattle.text.proofs.trim.trim_end.Goals as goal

pub returns : goal.returns
returns c =
    let s = c.args.s.now in
    let e = position_from_yields_List other _ _ c.position.result c.position.ensures.ran (YieldsList-from_rev_slice s cc) (λ x b q k. search (rules, tests)) in
    ap (λ n. take (length s - n) s) (c.unwrap_or-blanks.ensures ∙ first_place _ (reverse s) _ _ (length-reverse s) e) ∙ sym (end_at s)
