use mathlib.Core.Path.{ap, ◌∙◌}
use Rattle.std.proofs.lemmas.Result.{err_from_is_err_and}
use Rattle.reading.specs.Numbers.{refusal_number, access_number}
use Rattle.reading.specs.Controls.{ask_access}
use Rattle.host.proofs.export_queries.Answers.{refuses, not-twice, gives}
use Rattle.host.specs.HostQueries.{controls_in, host_access}
use Rattle.host.proofs.export_queries.request_body_access.Goals as goal

pub returns-in_err-refusal_of : goal.returns-in_err-refusal_of
unfolding host_access
returns-in_err-refusal_of c =
    let p = err_from_is_err_and c.from_residual.result c.from_residual.ensures.1 in
    refuses c.args.c _ access_number (ask_access (controls_in c.args.c)) _ _ p.1 (ap refusal_number p.2 ∙ c.in_err-refusal_of.ensures)

pub returns-in_err-access : goal.returns-in_err-access
returns-in_err-access c = absurd (not-twice c.args.c _ c.in_ok-refusal_of.ensures _ c.into.ensures _ _ _ _ c.in_err-access.ensures)

pub returns : goal.returns
unfolding host_access
returns c = gives c.args.c _ c.in_ok-refusal_of.ensures _ c.into.ensures access_number ask_access _ _ c.in_ok-access.ensures c.number.ensures
