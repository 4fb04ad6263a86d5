use mathlib.Core.Path.{refl, ap, ◌∙◌}
use Rattle.std.proofs.lemmas.Result.{err_from_is_err_and}
use Rattle.reading.specs.Numbers.{refusal_number}
use Rattle.reading.specs.Controls.{ask_target_count}
use Rattle.host.proofs.export_queries.Answers.{refuses, not-twice, gives}
use Rattle.host.specs.HostQueries.{controls_in, host_target_count}
use Rattle.host.proofs.export_queries.target_count.Goals as goal

pub returns-in_err-refusal_of : goal.returns-in_err-refusal_of
unfolding host_target_count
returns-in_err-refusal_of c =
    let p = err_from_is_err_and c.from_residual.result c.from_residual.ensures.1 in
    refuses c.args.c _ (λ n. n) (ask_target_count (controls_in c.args.c)) _ _ p.1 (ap refusal_number p.2 ∙ c.in_err-refusal_of.ensures)

pub returns-in_err-target_count : goal.returns-in_err-target_count
returns-in_err-target_count c = absurd (not-twice c.args.c _ c.in_ok-refusal_of.ensures _ c.into.ensures _ _ _ _ c.in_err-target_count.ensures)

pub returns : goal.returns
unfolding host_target_count
returns c = gives c.args.c _ c.in_ok-refusal_of.ensures _ c.into.ensures (λ n. n) ask_target_count _ _ c.in_ok-target_count.ensures refl
