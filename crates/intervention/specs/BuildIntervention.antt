-- What a stopped phase gives.
use Rattle.std.specs.Prelude.{ℕ, Option, Some, None}
use Rattle.reading.specs.declared.DisruptiveOutcome.{DisruptiveOutcome}
use Rattle.reading.specs.declared.Intervention.{Intervention}
use Rattle.intervention.specs.declared.decide.Ending.{Ending}

-- the status of a disruptive action, given the caller's default: `stop_status` by the Rust's reading, which asks no status
-- action. Only a private function cites this.
abbrev pub status_by : DisruptiveOutcome → ℕ → ℕ
status_by DisruptiveOutcome.Nothing status = 0
status_by DisruptiveOutcome.Deny status = 403
status_by DisruptiveOutcome.Block status = status
status_by DisruptiveOutcome.Pass status = 0
status_by DisruptiveOutcome.Allow status = 0
status_by (DisruptiveOutcome.Redirect at) status = 302
status_by DisruptiveOutcome.Drop status = 444

-- the intervention, where the phase is stopped
abbrev pub intervention_at_end : Ending → Intervention → Option Intervention
intervention_at_end Ending.GoesOn i = None
intervention_at_end Ending.Allows i = None
intervention_at_end Ending.Errs i = None
intervention_at_end Ending.Stops i = Some i
