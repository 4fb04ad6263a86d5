use Rattle.std.proofs.Common.{◌<◌, ◌/◌, length, arith}
use Rattle.refusals.proofs.totals.Summing.{rule-part}
use Rattle.refusals.proofs.totals.Exceeding.{left_over, left-more, left_end}
use Rattle.refusals.proofs.totals.sums_exceed.Goals as goal

pub overflow_sub-sums : goal.overflow_sub-sums
overflow_sub-sums g c =
    let h : c.loop-first.first-index < length c.args.rules.now / 5 = omega (arith, c.as_chunks.ensures.front_len) in
    omega (arith, rule-part _ _ _ _ _ c.prefix_sums.ensures c.as_chunks.ensures.front _ _ _ h c.clip-from.ensures c.clip.ensures)

pub returns-then-left-added : goal.returns-then-left-added
returns-then-left-added g c =
    let h : c.loop-first.first-index < length c.args.rules.now / 5 = omega (arith, c.as_chunks.ensures.front_len) in
    let part = rule-part _ _ _ _ _ c.prefix_sums.ensures c.as_chunks.ensures.front _ _ _ h c.clip-from.ensures c.clip.ensures in
    left_over _ _ _ _ _ _ _ c.loop-first.invariant h (omega (arith, part))

pub loop-first-preserved : goal.loop-first-preserved
loop-first-preserved g c =
    let h : c.loop-first.first-index < length c.args.rules.now / 5 = omega (arith, c.as_chunks.ensures.front_len) in
    let part = rule-part _ _ _ _ _ c.prefix_sums.ensures c.as_chunks.ensures.front _ _ _ h c.clip-from.ensures c.clip.ensures in
    left-more _ _ _ _ _ _ _ c.loop-first.invariant h _ (omega (arith, part)) c.if-left-added.false

pub returns : goal.returns
returns g c = left_end _ _ _ _ _ _ _ c.loop-first.invariant (omega (arith, c.as_chunks.ensures.front_len))
