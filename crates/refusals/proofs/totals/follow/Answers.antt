use Rattle.std.proofs.Common.{◌<◌, ◌/◌, length, lit<, arith}
use Rattle.lists.proofs.Chunks.{word-of}
use Rattle.refusals.proofs.totals.Following.{follows-not, follows-more, follows-end}
use Rattle.refusals.proofs.totals.follow.Goals as goal

pub returns-then-from-end : goal.returns-then-from-end
returns-then-from-end c =
    let i = c.loop-first.first-index in
    let h : i < length c.args.rules.now / 5 = omega (arith, c.as_chunks.ensures.front_len) in
    let word = word-of 5 c.args.rules.now _ c.as_chunks.ensures.front i in
    follows-not _ _ _ i c.loop-first.invariant h _ (omega (arith, word 3 h (lit< tt))) c.if-from-end.true

pub loop-first-preserved : goal.loop-first-preserved
loop-first-preserved c =
    let i = c.loop-first.first-index in
    let h : i < length c.args.rules.now / 5 = omega (arith, c.as_chunks.ensures.front_len) in
    let word = word-of 5 c.args.rules.now _ c.as_chunks.ensures.front i in
    follows-more _ _ _ i c.loop-first.invariant h _ (omega (arith, word 3 h (lit< tt))) _
    (omega (arith, c.clip.ensures, word 4 h (lit< tt))) c.if-from-end.false

pub returns : goal.returns
returns c = follows-end _ _ _ c.loop-first.first-index c.loop-first.invariant (omega (arith, c.as_chunks.ensures.front_len))
