use mathlib.Core.Path.{ap, ◌∙◌}
use Rattle.std.proofs.lemmas.Result.{err_from_is_err_and}
use Rattle.reading.specs.Numbers.{refusal_number}
use Rattle.reading.specs.Controls.{ask_removed}
use Rattle.abi.specs.HostValues.{number_of, flag_number}
use Rattle.host.proofs.export_queries.Answers.{refuses, not-twice, gives}
use Rattle.host.specs.HostQueries.{controls_in, refusal_in, host_removed}
use Rattle.host.proofs.export_queries.is_rule_removed.Goals as goal

pub returns-in_err-refusal : goal.returns-in_err-refusal
unfolding host_removed
returns-in_err-refusal c =
    let p = err_from_is_err_and c.from_residual.result c.from_residual.ensures.1 in
    refuses c.args.c _ flag_number (ask_removed (controls_in c.args.c) (number_of c.args.id)) _ _ p.1
    (ap refusal_number p.2 ∙ c.in_err-refusal.ensures ∙ ap (refusal_in c.args.c) c.are_known.ensures)

pub returns-in_err-removed : goal.returns-in_err-removed
returns-in_err-removed c = absurd (not-twice c.args.c _ c.in_ok-refusal.ensures _ c.into.ensures _ _ _ _ c.in_err-removed.ensures)

pub returns : goal.returns
unfolding host_removed
returns c =
    gives c.args.c _ (c.in_ok-refusal.ensures ∙ ap (refusal_in c.args.c) c.are_known.ensures) _ c.into.ensures flag_number
    (λ x. ask_removed x (number_of c.args.id)) _ _ (rw (← c.into-2.ensures) c.in_ok-removed.ensures) c.flag_number.ensures
