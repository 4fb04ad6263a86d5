-- How a visit leaves the phase.
use Rattle.std.specs.Prelude.{cond, ◌&&◌}
use Rattle.reading.specs.declared.RuleEngineMode.{RuleEngineMode}
use Rattle.reading.specs.declared.DisruptiveOutcome.{DisruptiveOutcome}
use Rattle.reading.specs.Controls.{is_on}
use Rattle.reading.specs.Units.{is_allow, is_stopping}
use Rattle.intervention.specs.declared.decide.Ending.{Ending}

-- of a closed unit, by its last disruptive action, if any, and the mode after its controls.
-- 01: "Allow takes effect in any mode; the four stopping actions only in On, tested after the unit's own controls."
abbrev pub end_by : DisruptiveOutcome → RuleEngineMode → Ending
end_by d mode = cond (is_allow d) Ending.Allows (cond (is_stopping d && is_on mode) Ending.Stops Ending.GoesOn)
