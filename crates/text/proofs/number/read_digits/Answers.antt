use mathlib.Core.Path.{sym, ◌∙◌}
use native.Mathlib.Omega.{arith}
use native.Mathlib.Numerals.{add-one}
use Rattle.std.proofs.lemmas.Grind.{common_steps}
use Rattle.text.proofs.number.Digits.{digits-none, digits-start, digits_more, digits_other, digits_large, digits_end}
use Rattle.text.proofs.number.read_digits.Goals as goal

pub returns-then-is_empty : goal.returns-then-is_empty
returns-then-is_empty c = grind (arith, common_steps, digits-none)

pub loop-b-init : goal.loop-b-init
loop-b-init c = (omega arith, grind (arith, common_steps, digits-start))

pub returns-then-not-is_ascii_digit : goal.returns-then-not-is_ascii_digit
returns-then-not-is_ascii_digit c = sym (c.loop-b.invariant.1 ∙ digits_other c.loop-b.v _ c.loop-b.b-index (omega arith) (cc))

pub returns-in_default : goal.returns-in_default
returns-in_default c = sym (c.loop-b.invariant.1 ∙ digits_large c.loop-b.v _ c.loop-b.b-index (omega arith) (cc) (omega arith))

pub loop-b-preserved : goal.loop-b-preserved
loop-b-preserved c =
    let e = digits_more c.loop-b.v c.args.s.now c.loop-b.b-index (omega arith) (cc) in
    simp add-one (omega arith, c.loop-b.invariant.1 ∙ rw (sym c.in-Some.ensures.1) at e)

pub returns : goal.returns
returns c = sym (c.loop-b.invariant.1 ∙ digits_end c.loop-b.v _ c.loop-b.b-index (omega arith) (omega arith))
