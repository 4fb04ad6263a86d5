use Rattle.std.proofs.Common.{◌≡◌, ◌-◌, ◌/◌, ◌<◌, length, ◌∙◌, arith}
use Rattle.lists.proofs.Chunks.{entry-words}
use Rattle.reading.specs.Report.{report_with}
use Rattle.report.proofs.verdicts.CountLaws.{counted-more, counted-hit, counted-other, counted-all, counted-fits, one_at_most}
use Rattle.report.proofs.verdicts.count_verdicts.Goals as goal

pub loop-verdict-preserved-then-verdict-eq0 : goal.loop-verdict-preserved-then-verdict-eq0
loop-verdict-preserved-then-verdict-eq0 c =
    let w = c.args.entries.now in
    let l = c.loop-verdict in
    let k = l.verdict-index in
    let h : k < length w / 2 = omega (arith, c.as_chunks.ensures.front_len) in
    let is = (entry-words w _ c.as_chunks.ensures.front k h).1 in
    let none = c.if-verdict-eq0.true in (
      omega (arith, counted-hit w 0 (k - l.others) k _ h is l.invariant.0 none),
      counted-other w 1 l.matched k _ h is l.invariant.1 (λ e. omega (arith, none, e)),
      counted-other w 2 l.removed k _ h is l.invariant.2 (λ e. omega (arith, none, e)),
      counted-other w 3 l.errors k _ h is l.invariant.3 (λ e. omega (arith, none, e)),
      omega arith,
      omega arith,
    )

pub overflow_add-matched : goal.overflow_add-matched
overflow_add-matched c =
    counted-fits c.args.entries.now 1 _ _ _ c.loop-verdict.invariant.1 (one_at_most _ 1 _ c.one_if-matched.ensures) (omega (arith, c.well_formed.0.1))

pub overflow_add-removed : goal.overflow_add-removed
overflow_add-removed c =
    counted-fits c.args.entries.now 2 _ _ _ c.loop-verdict.invariant.2 (one_at_most _ 2 _ c.one_if-removed.ensures) (omega (arith, c.well_formed.0.1))

pub overflow_add-errors : goal.overflow_add-errors
overflow_add-errors c =
    counted-fits c.args.entries.now 3 _ _ _ c.loop-verdict.invariant.3 (one_at_most _ 3 _ c.one_if-errors.ensures) (omega (arith, c.well_formed.0.1))

pub loop-verdict-preserved : goal.loop-verdict-preserved
loop-verdict-preserved c =
    let w = c.args.entries.now in
    let l = c.loop-verdict in
    let k = l.verdict-index in
    let h : k < length w / 2 = omega (arith, c.as_chunks.ensures.front_len) in
    let is = (entry-words w _ c.as_chunks.ensures.front k h).1 in (
      omega (arith, counted-other w 0 (k - l.others) k _ h is l.invariant.0 c.if-verdict-eq0.false),
      rw c.one_if-matched.ensures (counted-more w 1 l.matched k _ h is l.invariant.1),
      rw c.one_if-removed.ensures (counted-more w 2 l.removed k _ h is l.invariant.2),
      rw c.one_if-errors.ensures (counted-more w 3 l.errors k _ h is l.invariant.3),
      omega arith,
      omega arith,
    )

pub returns : goal.returns
unfolding report_with
returns c =
    let w = c.args.entries.now in
    let l = c.loop-verdict in
    let k = l.verdict-index in
    let missed = counted-all w 0 (k - l.others) k (omega (arith, c.as_chunks.ensures.front_len)) l.invariant.0 in
    let others : length c.as_chunks.result.0.now - l.others ≡ k - l.others = omega (arith, c.as_chunks.ensures.front_len) in
    λ i. record {
      missed = (others ∙ missed) i;
      matched = counted-all w 1 l.matched k (omega (arith, c.as_chunks.ensures.front_len)) l.invariant.1 i;
      removed = counted-all w 2 l.removed k (omega (arith, c.as_chunks.ensures.front_len)) l.invariant.2 i;
      errors = counted-all w 3 l.errors k (omega (arith, c.as_chunks.ensures.front_len)) l.invariant.3 i;
      unsupported = c.args.unsupported;
    }
