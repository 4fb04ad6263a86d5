use mathlib.Core.Path.{sym, ◌∙◌}
use Rattle.lists.proofs.RefusalLaws.{numbered}
use Rattle.abi.proofs.host_phase.HostLaws.{none_of_four, one-of-four}
use Rattle.abi.proofs.host_phase.unknown_answer.Goals as goal

pub returns-in-Ok : goal.returns-in-Ok
returns-in-Ok c q l = none_of_four q (sym (c.in-Ok.ensures q l))

pub returns-in-Err : goal.returns-in-Err
returns-in-Err c q l =
    let e = c.in-Err.ensures q l in
    e ∙ one-of-four q (λ z. numbered _ (e ∙ z))
