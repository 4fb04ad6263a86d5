use Rattle.std.proofs.Common.{rules, sym, eqb, add-one}
use native.Mathlib.Omega.{arith}
use borrow.Author.Tests.{tests}
use lib.ListN.{length-append}
use Rattle.std.specs.List.{slice_split}
use Rattle.std.proofs.lemmas.Iterator.Splits.{YieldsList-from_slice_split}
use Rattle.std.proofs.lemmas.Iterator.Consumers.{YieldsList-turn, YieldsList-end}
use Rattle.reading.specs.Text.{id_parts}
use Rattle.ctl.proofs.id_ranges.Filling.{split_is, starts_more, ends_more, written_all}
use Rattle.ctl.proofs.id_ranges.write_ranges.Given as given
use Rattle.ctl.proofs.id_ranges.write_ranges.Goals as goal

pub loop-part-preserved : goal.loop-part-preserved
loop-part-preserved c =
    let v = c.args.value.now in
    let turn = YieldsList-turn {steps = (given.iterator-loop-part).next_gives} {v = λ x. x.now} {s = c.into_iter-part-iterator.result} {all = slice_split (λ x. eqb x 44) v}
    (YieldsList-from_slice_split _ (λ x. eqb x 44) v (cc) (cc) (cc) (λ x b q k. search (rules, tests))) _ _ c.loop-part.yielded_by _ _ _ c.in-Some.is c.next.ensures.steps in
    let here = rw (sym (split_is 44 v)) at turn in
    let put = rw c.id_part.ensures at c.put_range-k.ensures in
    simp (length-append, add-one) (
      starts_more (id_parts v) c.args.starts.now c.args.ends.now _ _ here.0 here.1 _ _ _ _ _ _ c.loop-part.invariant.0 c.loop-part.invariant.1 put,
      ends_more (id_parts v) c.args.starts.now c.args.ends.now _ _ here.0 here.1 _ _ _ _ _ _ c.loop-part.invariant.0 c.loop-part.invariant.1 put,
    )

pub returns : goal.returns
returns c =
    let v = c.args.value.now in
    let all = YieldsList-end {steps = (given.iterator-loop-part).next_gives} {v = λ x. x.now} {s = c.into_iter-part-iterator.result} {all = slice_split (λ x. eqb x 44) v}
    (YieldsList-from_slice_split _ (λ x. eqb x 44) v (cc) (cc) (cc) (λ x b q k. search (rules, tests))) _ _ c.loop-part.yielded_by _ _ c.in-None.is c.next.ensures.steps in
    let n = rw (sym (split_is 44 v)) at all.1 in
    written_all v _ _ _ _ _ _ (omega arith) c.loop-part.invariant.0 c.loop-part.invariant.1
