-- What is found after a range or a target was added to a host's controls.
use Rattle.std.specs.Prelude.{ℕ, ◌≡◌, Bool, cond, eqb}
use Rattle.reading.specs.Controls as reading
use Rattle.control.specs.ControlsStruct.{Became}
use Rattle.abi.specs.declared.host_controls.HostControls.{HostControls}
use Rattle.abi.specs.HostControls.{known_controls, controls_from_host, controls_to_host}
use Rattle.host.specs.HostQueries.{refusal_in}
use Rattle.host.specs.declared.export_updates.HostChangeAnswer.{HostChangeAnswer}

-- An addition, of a range or of a target, that answers `answer` and makes of the controls `after`. Refused by a number that is not known, after 3, the
-- answer is 5. Where the answer is 0 the controls are changed as by the addition, and each number of the record is the one that
-- stands for them; else the record is as lent.
pub record HostAdded (adds : Bool) (before : HostControls) (r : HostChangeAnswer) (answer : ℕ) (after : reading.Controls) : Type 0 where
  pub answer-is : r.answer ≡ cond (eqb (refusal_in before (known_controls before)) 0) answer (refusal_in before (known_controls before))
  pub became : r.answer ≡ 0 → Became adds (controls_from_host before) (controls_from_host r.controls) after
  pub numbers : r.answer ≡ 0 → r.controls ≡ controls_to_host (controls_from_host r.controls)
  pub refused : (r.answer ≡ 0 → ⊥) → r.controls ≡ before
