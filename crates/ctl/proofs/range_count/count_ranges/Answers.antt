use Rattle.std.specs.Prelude.{Some, None}
use Prim.Native.Nat.{suc, ◌+◌, ◌≤◌}
use mathlib.Core.Path.{◌≡◌, sym, ◌∙◌}
use native.Mathlib.Omega.{arith}
use native.Mathlib.Numerals.{add-one}
use lib.ListN.{drop}
use Rattle.reading.specs.Directive.{removal_value}
use Rattle.ctl.specs.CountRanges.{count_of, count_in}
use Rattle.ctl.specs.Scan.{part_start}
use Rattle.ctl.proofs.range_count.Bytes.{few}
use Rattle.ctl.proofs.range_count.Passing.{after_part, after_step, scan, pass-counts, turn-digit, turn-other, turn-comma, turn_end}
use Rattle.ctl.proofs.range_count.Commas.{passed-inside, passed-counts}
use Rattle.ctl.proofs.range_count.count_ranges.Goals as goal

pub loop-i-init : goal.loop-i-init
loop-i-init c =
    let s = c.args.value.now in
    (omega arith, omega arith, rw c.part_start-seen.ensures (pass-counts s))

pub returns-in_default : goal.returns-in_default
returns-in_default c =
    let turn : count_in (removal_value c.args.value.now) ≡ after_part (scan (drop (suc c.loop-i.i) c.args.value.now) part_start) c.loop-i.n None
    = c.loop-i.invariant.2 ∙ turn-comma c.args.value.now c.loop-i.seen c.loop-i.n c.loop-i.i c.loop-i-test.true None c.if-b-eq44.true (sym c.part_end.ensures ∙ c.in_default.is) in
    sym turn

pub loop-i-preserved-then-k-eq0 : goal.loop-i-preserved-then-k-eq0
loop-i-preserved-then-k-eq0 c =
    let turn : count_in (removal_value c.args.value.now) ≡ after_part (scan (drop (suc c.loop-i.i) c.args.value.now) part_start) c.loop-i.n (Some c.in-Some.k)
    = c.loop-i.invariant.2 ∙ turn-comma c.args.value.now c.loop-i.seen c.loop-i.n c.loop-i.i c.loop-i-test.true (Some c.in-Some.k) c.if-b-eq44.true (sym c.part_end.ensures ∙ c.in-Some.is) in
    let small : c.in-Some.k ≤ 1 = few c.loop-i.seen c.in-Some.k (sym c.part_end.ensures ∙ c.in-Some.is) in
    simp (c.skip_commas-i.ensures, add-one, c.part_start-seen-then-b-eq44.ensures) (
      passed-inside c.args.value.now (suc c.loop-i.i) c.loop-i-test.true,
      omega (arith, small),
      turn ∙ passed-counts c.args.value.now (suc c.loop-i.i) (c.loop-i.n + c.in-Some.k),
    )

pub loop-i-preserved-else-k-eq0 : goal.loop-i-preserved-else-k-eq0
loop-i-preserved-else-k-eq0 c =
    let turn : count_in (removal_value c.args.value.now) ≡ after_part (scan (drop (suc c.loop-i.i) c.args.value.now) part_start) c.loop-i.n (Some c.in-Some.k)
    = c.loop-i.invariant.2 ∙ turn-comma c.args.value.now c.loop-i.seen c.loop-i.n c.loop-i.i c.loop-i-test.true (Some c.in-Some.k) c.if-b-eq44.true (sym c.part_end.ensures ∙ c.in-Some.is) in
    let small : c.in-Some.k ≤ 1 = few c.loop-i.seen c.in-Some.k (sym c.part_end.ensures ∙ c.in-Some.is) in
    simp (add-one, c.part_start-seen-then-b-eq44.ensures) (omega arith, omega (arith, small), turn)

pub returns-in_default-on_digit : goal.returns-in_default-on_digit
returns-in_default-on_digit c =
    let turn : count_in (removal_value c.args.value.now) ≡ after_step (λ q. scan (drop (suc c.loop-i.i) c.args.value.now) q c.loop-i.n) None
    = c.loop-i.invariant.2 ∙ turn-digit c.args.value.now c.loop-i.seen c.loop-i.n c.loop-i.i c.loop-i-test.true None c.if-b-eq44.false
    (sym c.is_ascii_digit.ensures.value ∙ c.if-is_ascii_digit.true) (sym c.on_digit.ensures ∙ c.in_default-on_digit.is) in
    sym turn

pub loop-i-preserved-then-is_ascii_digit : goal.loop-i-preserved-then-is_ascii_digit
loop-i-preserved-then-is_ascii_digit c =
    let turn : count_in (removal_value c.args.value.now) ≡ after_step (λ q. scan (drop (suc c.loop-i.i) c.args.value.now) q c.loop-i.n) (Some c.in-Some-on_digit.next)
    = c.loop-i.invariant.2 ∙ turn-digit c.args.value.now c.loop-i.seen c.loop-i.n c.loop-i.i c.loop-i-test.true (Some c.in-Some-on_digit.next) c.if-b-eq44.false
    (sym c.is_ascii_digit.ensures.value ∙ c.if-is_ascii_digit.true) (sym c.on_digit.ensures ∙ c.in-Some-on_digit.is) in
    simp add-one (omega arith, omega arith, turn)

pub returns-in_default-on_other : goal.returns-in_default-on_other
returns-in_default-on_other c =
    let turn : count_in (removal_value c.args.value.now) ≡ after_step (λ q. scan (drop (suc c.loop-i.i) c.args.value.now) q c.loop-i.n) None
    = c.loop-i.invariant.2 ∙ turn-other c.args.value.now c.loop-i.seen c.loop-i.n c.loop-i.i c.loop-i-test.true None c.if-b-eq44.false
    (sym c.is_ascii_digit.ensures.value ∙ c.if-is_ascii_digit.false) (sym c.on_other.ensures ∙ c.in_default-on_other.is) in
    sym turn

pub loop-i-preserved : goal.loop-i-preserved
loop-i-preserved c =
    let turn : count_in (removal_value c.args.value.now) ≡ after_step (λ q. scan (drop (suc c.loop-i.i) c.args.value.now) q c.loop-i.n) (Some c.in-Some-on_other.next)
    = c.loop-i.invariant.2 ∙ turn-other c.args.value.now c.loop-i.seen c.loop-i.n c.loop-i.i c.loop-i-test.true (Some c.in-Some-on_other.next) c.if-b-eq44.false
    (sym c.is_ascii_digit.ensures.value ∙ c.if-is_ascii_digit.false) (sym c.on_other.ensures ∙ c.in-Some-on_other.is) in
    simp add-one (omega arith, omega arith, turn)

pub returns-in_default-part_end : goal.returns-in_default-part_end
returns-in_default-part_end c =
    let turn : count_in (removal_value c.args.value.now) ≡ after_part count_of c.loop-i.n None
    = c.loop-i.invariant.2 ∙ turn_end c.args.value.now c.loop-i.seen c.loop-i.n c.loop-i.i None c.loop-i-test.false (sym c.part_end-2.ensures ∙ c.in_default-part_end.is) in
    sym turn

pub returns : goal.returns
returns c =
    let turn : count_in (removal_value c.args.value.now) ≡ after_part count_of c.loop-i.n (Some c.in-Some-part_end.k)
    = c.loop-i.invariant.2 ∙ turn_end c.args.value.now c.loop-i.seen c.loop-i.n c.loop-i.i (Some c.in-Some-part_end.k)
    c.loop-i-test.false (sym c.part_end-2.ensures ∙ c.in-Some-part_end.is) in
    c.counted.ensures ∙ sym turn
