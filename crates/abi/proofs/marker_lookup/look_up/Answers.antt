use mathlib.Core.Path.{refl, sym, ap, ◌∙◌}
use Rattle.std.proofs.lemmas.Result.{err_from_is_err_and}
use Rattle.lists.proofs.RefusalLaws.{numbered}
use Rattle.abi.specs.MarkerLookup.{answered}
use Rattle.abi.proofs.marker_lookup.LookupLaws.{refused, accepted}
use Rattle.abi.proofs.marker_lookup.look_up.Goals as goal

pub returns-in_err-refusal : goal.returns-in_err-refusal
returns-in_err-refusal c =
    let p = err_from_is_err_and c.from_residual.result c.from_residual.ensures.1 in
    rw (p.1, p.2) (refused _ _ _ _ _ (sym c.in_err-refusal.ensures) (numbered _))

pub returns : goal.returns
returns c =
    ap (answered 0) c.marker_named.ensures ∙ accepted _ _ _ _ 0 (sym c.in_ok-refusal.ensures) refl
