use mathlib.Core.Path.{sym, ◌∙◌}
use native.Mathlib.Omega.{arith}
use Rattle.report.proofs.unsupported.RuleLaws.{all_codes, code-found, code-passed, codes-past}
use Rattle.report.proofs.unsupported.first_of_rule.Goals as goal

pub returns-then-is_reason : goal.returns-then-is_reason
returns-then-is_reason c =
    let a = c.args in
    let end = c.codes_end-end in
    code-found a.index a.codes.now c.loop-i.i end.result (omega arith) (omega (arith, end.ensures)) (sym c.is_reason.ensures ∙ c.if-is_reason.true)
    ∙ (c.loop-i.invariant.2 ∙ all_codes a.index a.codes.now a.rule end.result end.ensures)

pub loop-i-preserved : goal.loop-i-preserved
loop-i-preserved c =
    let a = c.args in
    let end = c.codes_end-end in (
      omega arith,
      omega arith,
      code-passed a.index a.codes.now c.loop-i.i end.result (omega arith) (omega (arith, end.ensures)) (sym c.is_reason.ensures ∙ c.if-is_reason.false)
          ∙ c.loop-i.invariant.2,
    )

pub returns : goal.returns
returns c =
    let a = c.args in
    let end = c.codes_end-end in
    c.none.ensures
    ∙ (codes-past a.index a.codes.now c.loop-i.i end.result c.loop-i-test.false
    ∙ (c.loop-i.invariant.2 ∙ all_codes a.index a.codes.now a.rule end.result end.ensures))
