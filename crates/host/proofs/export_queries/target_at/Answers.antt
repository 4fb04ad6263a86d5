use mathlib.Core.Path.{ap, ◌∙◌}
use Rattle.std.proofs.lemmas.Result.{err_from_is_err_and}
use Rattle.reading.specs.Numbers.{refusal_number}
use Rattle.host.proofs.export_queries.Answers.{no_target, found}
use Rattle.host.proofs.export_queries.target_at.Goals as goal

pub returns-in_err-refusal_of : goal.returns-in_err-refusal_of
returns-in_err-refusal_of c =
    let p = err_from_is_err_and c.from_residual.result c.from_residual.ensures.1 in
    no_target c.args.c c.args.at _ _ p.1 (ap refusal_number p.2 ∙ c.in_err-refusal_of.ensures)

pub returns : goal.returns
returns c = found c.args.c c.args.at _ _ c.in_ok-refusal_of.ensures c.into.ensures c.target_at.ensures
