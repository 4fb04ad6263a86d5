use Prim.Native.Nat.{◌<◌, min}
use mathlib.Core.Path.{◌≡◌, ap, ◌∙◌}
use mathlib.Core.Logic.{inl, inr}
use native.Mathlib.Omega.{arith}
use lib.ListN.{length}
use Rattle.reading.specs.Lists.{any}
use Rattle.reading.specs.Records.{action_list}
use Rattle.lists.proofs.RecordLaws.{length-actions}
use Rattle.apply.specs.Codes.{is_reason}
use Rattle.apply.proofs.codes.Writing.{codes-more, codes-front, codes_all, seen_more, last_more}
use Rattle.apply.proofs.codes.write_codes.Goals as goal
use Rattle.apply.proofs.codes.write_codes.Goals.{then-code-ne0, else-code-ne0}

pub loop-i-preserved : goal.loop-i-preserved
loop-i-preserved c =
    let a = c.args in
    let inside : c.loop-i.i < length (action_list a.actions.now) = omega (arith, length-actions a.actions.now, c.min-n.ensures) in
    let code = c.code_at-code in
    let is = code.ensures c.loop-i.invariant.2 in (
      codes-more a.text.now (action_list a.actions.now) a.codes.now _ c.loop-i.i _ inside is c.loop-i.invariant.0,
      seen_more a.text.now (action_list a.actions.now) c.loop-i.unsupported c.loop-i.i _ c.is_reason-unsupported.result inside is
          c.is_reason-unsupported.ensures c.loop-i.invariant.1,
      last_more a.text.now (action_list a.actions.now) c.loop-i.last c.loop-i.last_code c.loop-i.i code.result c.if-code-ne0.last c.if-code-ne0.last_code is
          (elim c.if-code-ne0.branch [
            | then-code-ne0 w ↦ inl (w.last-is, w.last_code-is)
            | else-code-ne0 w ↦ inr (w.last-is, w.last_code-is)
          ]) c.loop-i.invariant.2,
    )

pub returns : goal.returns
returns c =
    let a = c.args in
    let all : c.loop-i.i ≡ min (length a.codes.now) (length (action_list a.actions.now)) = omega (arith, length-actions a.actions.now, c.min-n.ensures) in
    record {
      value = c.loop-i.invariant.1 ∙ ap (any is_reason) (codes-front a.text.now (action_list a.actions.now) a.codes.now c.loop-i.i all);
      codes_after = c.loop-i.invariant.0 ∙ codes_all a.text.now (action_list a.actions.now) a.codes.now c.loop-i.i all;
    }
