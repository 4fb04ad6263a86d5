use mathlib.Core.Path.{sym, ap, ◌∙◌}
use mathlib.Core.Bool.{not, ◌&&◌}
use lib.Dec.{eqb}
use lib.ListN.{get_or}
use Rattle.reading.specs.Records.{action_list}
use Rattle.reading.specs.Walk.{no_action}
use Rattle.reading.specs.declared.Action.{Action}
use Rattle.apply.specs.Codes.{same_texts}
use Rattle.apply.proofs.codes.Writing.{code-none, code-ctl, code-again}
use Rattle.apply.proofs.codes.code_at.Goals as goal

pub returns-then-a-ne-CTL : goal.returns-then-a-ne-CTL
returns-then-a-ne-CTL c = λ is. code-none _ _ _ c.action_at-a.ensures c.if-a-ne-CTL.true

pub returns-then-is_again : goal.returns-then-is_again
returns-then-is_again c =
    let a = c.action_at-a in
    let g = c.args in
    let b = get_or (action_list g.actions.now) g.last no_action in
    λ is. code-again g.text.now b _ g.last_code is
    (ap (λ (x : Action). not (eqb g.last_code 0) && same_texts b x) (sym a.ensures) ∙ (sym c.is_again.ensures ∙ c.if-is_again.true))
    (ap (λ (x : Action). x.kind) (sym a.ensures) ∙ c.if-a-ne-CTL.false)

pub returns : goal.returns
returns c =
    λ is. code-ctl _ _ _ c.action_at-a.ensures c.if-a-ne-CTL.false c.part_of-name.ensures
    c.part_of-value.ensures c.parse.ensures c.code_of.ensures
