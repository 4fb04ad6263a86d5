use Rattle.std.proofs.Common.{rules, ◌∙◌, sym, ap, eqb, not, drop, length, refl, ◌+◌, ◌-◌, take}
use borrow.Author.Tests.{tests}
use Rattle.std.proofs.lemmas.Iterator.{YieldsList-from_slice}
use Rattle.std.proofs.lemmas.Iterator.Search.{position_from_yields_List}
use Rattle.lists.proofs.Slices.{rest_eq}
use Rattle.text.proofs.ascii.Search.{first_place}
use Rattle.ctl.proofs.range_count.Commas.{leading_is}
use Rattle.ctl.specs.Scan.{leading_commas}
use Rattle.ctl.proofs.range_count.skip_commas.Goals as goal

pub returns : goal.returns
returns c =
    let v = c.args.value.now in
    let s = take (length v - c.args.at) (drop c.args.at v) in
    let e = position_from_yields_List (λ b. not (eqb b 44)) _ _ c.position.result c.position.ensures.ran (YieldsList-from_slice s cc) (λ x b q k. search (rules, tests)) in
    ap (λ n. c.args.at + n) (c.unwrap_or.ensures ∙ first_place _ s _ _ refl e ∙ sym (leading_is s) ∙ ap leading_commas (rest_eq v c.args.at))
