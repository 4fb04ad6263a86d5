use mathlib.Core.Path.{ap, ◌∙◌}
use borrow.Author.Tests.{lt-ltb, le-ltb}
use Rattle.std.proofs.lemmas.Result.{err_from_is_err_and}
use Rattle.reading.specs.Numbers.{refusal_number, mode_number, mode_of_number}
use Rattle.reading.specs.Controls.{ask_mode}
use Rattle.host.proofs.export_queries.Answers.{refuses, not-twice, gives}
use Rattle.host.specs.HostQueries.{controls_in, host_mode}
use Rattle.host.proofs.export_queries.engine_mode.Goals as goal

pub returns-then-ruleset_mode-gt2 : goal.returns-then-ruleset_mode-gt2
unfolding host_mode
returns-then-ruleset_mode-gt2 c = rw (lt-ltb 2 c.args.ruleset_mode c.if-ruleset_mode-gt2.true)

pub returns-in_err-refusal_of : goal.returns-in_err-refusal_of
unfolding host_mode
returns-in_err-refusal_of c =
    let p = err_from_is_err_and c.from_residual.result c.from_residual.ensures.1 in
    rw (le-ltb 2 c.args.ruleset_mode c.if-ruleset_mode-gt2.false)
    (refuses c.args.c _ mode_number (ask_mode (mode_of_number c.args.ruleset_mode) (controls_in c.args.c)) _ _ p.1
    (ap refusal_number p.2 ∙ c.in_err-refusal_of.ensures))

pub returns-in_err-mode : goal.returns-in_err-mode
returns-in_err-mode c = absurd (not-twice c.args.c _ c.in_ok-refusal_of.ensures _ c.into.ensures _ _ _ _ c.in_err-mode.ensures)

pub returns : goal.returns
unfolding host_mode
returns c =
    rw (le-ltb 2 c.args.ruleset_mode c.if-ruleset_mode-gt2.false)
    (gives c.args.c _ c.in_ok-refusal_of.ensures _ c.into.ensures mode_number (ask_mode (mode_of_number c.args.ruleset_mode)) _ _
    (rw (← c.mode_of_number.ensures) c.in_ok-mode.ensures) c.number.ensures)
