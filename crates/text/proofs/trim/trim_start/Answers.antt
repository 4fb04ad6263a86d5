use Rattle.std.proofs.Common.{rules, ◌∙◌, sym, ap, refl, drop}
use Rattle.lists.proofs.Slices.{rest_eq}
use borrow.Author.Tests.{tests}
use Rattle.std.proofs.lemmas.Iterator.{YieldsList-from_slice}
use Rattle.std.proofs.lemmas.Iterator.Search.{position_from_yields_List}
use Rattle.text.proofs.ascii.Search.{first_place}
use Rattle.text.proofs.trim.Trimming.{other, start_at}
use Rattle.text.proofs.trim.trim_start.Goals as goal

pub returns : goal.returns
returns c =
    let s = c.args.s.now in
    let e = position_from_yields_List other _ _ c.position.result c.position.ensures.ran (YieldsList-from_slice s cc) (λ x b q k. search (rules, tests)) in
    rest_eq s _ ∙ ap (λ n. drop n s) (c.unwrap_or-start.ensures ∙ first_place _ s _ _ refl e) ∙ sym (start_at s)
