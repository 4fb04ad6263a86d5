-- What the code of an action sets.
use Rattle.std.specs.Prelude.{ℕ, cond, eqb, Some}
use Rattle.reading.specs.declared.RuleEngineMode.{RuleEngineMode}
use Rattle.reading.specs.declared.BodyAccess.{BodyAccess}
use Rattle.reading.specs.declared.BodyProcessor.{BodyProcessor}
use Rattle.control.specs.declared.state.Settings.{Settings}

abbrev pub mode_set : Settings → RuleEngineMode → Settings
mode_set s m = record { mode = Some m; access = s.access; processor = s.processor }

abbrev pub access_set : Settings → BodyAccess → Settings
access_set s a = record { mode = s.mode; access = Some a; processor = s.processor }

abbrev pub processor_set : Settings → BodyProcessor → Settings
processor_set s p = record { mode = s.mode; access = s.access; processor = Some p }

-- the settings after a code; those below 8 and from 17 on leave them
unfoldable pub settings_after : ℕ → Settings → Settings
settings_after code s =
    cond (eqb code 8) (mode_set s RuleEngineMode.On)
    (cond (eqb code 9) (mode_set s RuleEngineMode.DetectionOnly)
    (cond (eqb code 10) (mode_set s RuleEngineMode.Off)
    (cond (eqb code 11) (access_set s BodyAccess.On)
    (cond (eqb code 12) (access_set s BodyAccess.Off)
    (cond (eqb code 13) (processor_set s BodyProcessor.Urlencoded)
    (cond (eqb code 14) (processor_set s BodyProcessor.Multipart)
    (cond (eqb code 15) (processor_set s BodyProcessor.Json)
    (cond (eqb code 16) (processor_set s BodyProcessor.Xml) s))))))))
