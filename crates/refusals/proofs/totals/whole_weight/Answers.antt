use Rattle.std.proofs.Common.{rules, ◌≡◌, refl, sym, ◌∙◌}
use Rattle.std.proofs.iter.runs.Made.{chains}
use Rattle.std.specs.List.{sum_by}
use Rattle.std.proofs.lemmas.List.Recursion.{is_sum_by}
use Rattle.reading.specs.Lists.{total}
use Rattle.refusals.proofs.totals.whole_weight.Goals as goal

pub returns : goal.returns
returns g c =
    let w = g.C.Weighed.weight in
    let codes = c.args.codes.now in
    let e : c.sum-sum.result ≡ sum_by w codes = search (rules, chains) in
    c.from.ensures ∙ e ∙ sym (is_sum_by (total w) w refl (λ _ _. refl) codes)
