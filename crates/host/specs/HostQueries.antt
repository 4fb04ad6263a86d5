-- What a host is answered that asks its controls a question.
use Rattle.std.specs.Prelude.{ℕ, Bool, cond, ◌&&◌, eqb, ltb, Option, None, Result, Ok, Err}
use Rattle.reading.specs.declared.Place.{Place}
use Rattle.reading.specs.declared.Refusal.{Refusal}
use Rattle.reading.specs.Numbers.{refusal_number, mode_of_number, mode_number, access_number, processor_setting_number}
use Rattle.reading.specs.Controls.{Asked, bad_controls, ask_mode, ask_removed, ask_target_count, ask_target, ask_access, ask_processor}
use Rattle.reading.specs.Controls as reading
use Rattle.control.specs.ControlsStruct.{controls_of}
use Rattle.abi.specs.declared.host_controls.HostControls.{HostControls}
use Rattle.abi.specs.declared.values.HostNumber.{HostNumber}
use Rattle.abi.specs.HostValues.{number_known, number_of, flag_number, host_place}
use Rattle.abi.specs.HostControls.{known_controls, controls_from_host}
use Rattle.host.specs.declared.export_queries.HostQueryAnswer.{HostQueryAnswer}
use Rattle.host.specs.declared.export_queries.HostTarget.{HostTarget}

-- the controls that a host's record stands for
abbrev pub controls_in : HostControls → reading.Controls
controls_in c = controls_of (controls_from_host c)

-- 01: "Questions to the controls give only 3". A host's record may hold a number that is not known: then 5, after 3 as everywhere
unfoldable pub refusal_in : HostControls → Bool → ℕ
refusal_in c known = cond (bad_controls (controls_in c)) 3 (cond known 0 5)

-- the answer to a question: the refusal and 0, or 0 and the number of the value that the question gives
abbrev pub answered : {A : Type 0} → ℕ → (A → ℕ) → Asked A → HostQueryAnswer
answered refusal number q = record { answer = refusal; value = cond (eqb refusal 0) (number q.value) 0 }

-- the same of a question that gave a number or was refused
abbrev pub answered_by : Result ℕ Refusal → HostQueryAnswer
answered_by (Ok value) = record { answer = 0; value = value }
answered_by (Err refusal) = record { answer = refusal_number refusal; value = 0 }

-- and of one that gave a target or none
abbrev pub target_by : Result (Option Place) Refusal → HostTarget
target_by (Ok found) = record { answer = 0; target = host_place found }
target_by (Err refusal) = record { answer = refusal_number refusal; target = host_place None }

-- "1. .. the rule set's mode is not 0 (On), 1 (DetectionOnly) or 2 (Off)."
unfoldable pub host_mode : HostControls → ℕ → HostQueryAnswer
host_mode c mode =
    answered (cond (ltb 2 mode) 1 (refusal_in c (known_controls c))) mode_number (ask_mode (mode_of_number mode) (controls_in c))

unfoldable pub host_removed : HostControls → HostNumber → HostQueryAnswer
host_removed c id = answered (refusal_in c (known_controls c && number_known id)) flag_number (ask_removed (controls_in c) (number_of id))

unfoldable pub host_target_count : HostControls → HostQueryAnswer
host_target_count c = answered (refusal_in c (known_controls c)) (λ n. n) (ask_target_count (controls_in c))

unfoldable pub host_target : HostControls → ℕ → HostTarget
host_target c at =
    let refusal = refusal_in c (known_controls c) in
    record { answer = refusal; target = host_place (cond (eqb refusal 0) (ask_target (controls_in c) at).value None) }

unfoldable pub host_access : HostControls → HostQueryAnswer
host_access c = answered (refusal_in c (known_controls c)) access_number (ask_access (controls_in c))

unfoldable pub host_processor : HostControls → HostQueryAnswer
host_processor c = answered (refusal_in c (known_controls c)) processor_setting_number (ask_processor (controls_in c))
