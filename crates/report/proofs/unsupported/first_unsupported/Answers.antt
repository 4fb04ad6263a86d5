use Rattle.std.proofs.Common.{◌<◌, ◌/◌, length, ◌∙◌, arith}
use Rattle.lists.proofs.Chunks.{entry-words}
use Rattle.report.proofs.unsupported.UnitLaws.{held_none, held_all, held-broken, held_kept, held-waits, told, held-silent}
use Rattle.report.proofs.unsupported.first_unsupported.Goals as goal
use Rattle.report.proofs.unsupported.first_unsupported.Goals.{then-breaks, else-breaks, else-rule-ne1-via-then-rule-ne1+else-held-ne0, else-rule-ne1-via-else-rule-ne1}

pub loop-index-init : goal.loop-index-init
loop-index-init c = held_none _ _ c.args.entries.now _ c.none-held.ensures

pub loop-index-preserved-then-verdict-ne1 : goal.loop-index-preserved-then-verdict-ne1
loop-index-preserved-then-verdict-ne1 c =
    let words = c.args.entries.now in
    let k = c.loop-index.index-index in
    let h : k < length words / 2 = omega (arith, c.as_chunks.ensures.front_len) in
    let is = entry-words words _ c.as_chunks.ensures.front k h in
    elim c.if-breaks.branch [
      | then-breaks w ↦
          rw w.held-is
          (held-broken _ _ words _ k h c.loop-index.invariant _ _ is _ c.rule_at-rule.ensures c.if-verdict-ne1.true _ c.breaks.ensures
          _ w.none-held-then-breaks.ensures w.if-breaks.true)
      | else-breaks w ↦
          rw w.held-is
          (held_kept _ _ words _ k h c.loop-index.invariant _ _ is _ c.rule_at-rule.ensures c.if-verdict-ne1.true _ c.breaks.ensures
          w.if-breaks.false)
    ]

pub returns-then-held-ne0 : goal.returns-then-held-ne0
returns-then-held-ne0 c =
    let words = c.args.entries.now in
    let k = c.loop-index.index-index in
    let h : k < length words / 2 = omega (arith, c.as_chunks.ensures.front_len) in
    let is = entry-words words _ c.as_chunks.ensures.front k h in
    told _ _ words _ k h c.loop-index.invariant _ _ is _ c.rule_at-rule.ensures c.if-verdict-ne1.false _ c.held_with-held.ensures
    c.if-rule-ne1.true c.if-held-ne0.true

pub loop-index-preserved : goal.loop-index-preserved
loop-index-preserved c =
    let words = c.args.entries.now in
    let k = c.loop-index.index-index in
    let h : k < length words / 2 = omega (arith, c.as_chunks.ensures.front_len) in
    let is = entry-words words _ c.as_chunks.ensures.front k h in
    elim c.else-rule-ne1.branch [
      | else-rule-ne1-via-then-rule-ne1+else-held-ne0 w ↦
          held-silent _ _ words _ k h c.loop-index.invariant _ _ is _ c.rule_at-rule.ensures c.if-verdict-ne1.false _ c.held_with-held.ensures
          w.if-rule-ne1.true w.if-held-ne0.false
      | else-rule-ne1-via-else-rule-ne1 w ↦
          held-waits _ _ words _ k h c.loop-index.invariant _ _ is _ c.rule_at-rule.ensures c.if-verdict-ne1.false _ c.held_with-held.ensures
          w.if-rule-ne1.false
    ]

pub returns : goal.returns
returns c =
    c.none.ensures
    ∙ held_all _ _ c.args.entries.now _ c.loop-index.index-index (omega (arith, c.as_chunks.ensures.front_len)) c.loop-index.invariant
