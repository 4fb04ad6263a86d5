use mathlib.Core.Path.{refl}
use Rattle.control.specs.ControlsStruct.{controls_of}
use Rattle.control.proofs.queries.Asking.{gives}
use Rattle.control.proofs.queries.request_body_processor.Goals as goal

pub returns : goal.returns
unfolding controls_of
returns c = gives _ _ _ _ c.in_ok-check_controls.ensures refl
