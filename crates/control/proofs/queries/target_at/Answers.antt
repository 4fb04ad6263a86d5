use mathlib.Core.Path.{sym}
use native.Mathlib.Omega.{arith}
use Rattle.control.specs.ControlsStruct.{controls_of}
use Rattle.control.proofs.fields.PairLaws.{no_target, target_at}
use Rattle.control.proofs.queries.Asking.{gives, not-refused}
use Rattle.control.proofs.queries.target_at.Goals as goal

pub returns-then-c-at : goal.returns-then-c-at
unfolding controls_of
returns-then-c-at c = gives _ _ _ _ c.in_ok-check_controls.ensures (sym (no_target _ _ _ _ c.if-c-at.true))

pub bounds-c-at : goal.bounds-c-at
bounds-c-at c = omega (arith, (not-refused c.args.c c.in_ok-check_controls.ensures).few-targets)

pub returns : goal.returns
unfolding controls_of
returns c = gives _ _ _ _ c.in_ok-check_controls.ensures (sym (target_at _ _ _ _ c.if-c-at.false))

pub offset_bounds-c-at : goal.offset_bounds-c-at
offset_bounds-c-at c = omega (arith, (not-refused c.args.c c.in_ok-check_controls.ensures).few-targets)

pub offset_bounds-c-at-2 : goal.offset_bounds-c-at-2
offset_bounds-c-at-2 c = omega (arith, (not-refused c.args.c c.in_ok-check_controls.ensures).few-targets)

pub bounds-c-at-2 : goal.bounds-c-at-2
bounds-c-at-2 c = omega (arith, (not-refused c.args.c c.in_ok-check_controls.ensures).few-targets)
