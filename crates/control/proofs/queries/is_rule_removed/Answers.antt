use Prim.Native.Nat.{min}
use mathlib.Core.Path.{◌≡◌, ◌∙◌}
use native.Mathlib.Omega.{arith}
use Rattle.control.specs.ControlsStruct.{controls_of}
use Rattle.control.proofs.ranges.HalvingLaws.{halving-finds}
use Rattle.control.proofs.queries.Asking.{gives, not-refused}
use Rattle.control.proofs.queries.is_rule_removed.Goals as goal

pub returns : goal.returns
unfolding controls_of
returns c =
    let s = c.args.c in
    let w = not-refused s c.in_ok-check_controls.ensures in
    let m : min s.ranges 256 ≡ s.ranges = omega (arith, w.few-ranges) in
    gives _ _ _ _ c.in_ok-check_controls.ensures ((rw m at c.is_removed.ensures) ∙ halving-finds s.ranges s.starts s.ends _ w.few-ranges w.form-kept)
