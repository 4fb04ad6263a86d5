-- The numbers of a host's record: which of them are known, what they stand for, and what is written back. A definition gives
-- every number a meaning; only known ones are ever used.
use Rattle.std.specs.Prelude.{ℕ, Bool, cond, ◌&&◌, eqb, leb, Option, Some, None}
use Rattle.reading.specs.declared.Place.{Place}
use Rattle.reading.specs.declared.RuleEngineMode.{RuleEngineMode}
use Rattle.reading.specs.declared.BodyAccess.{BodyAccess}
use Rattle.reading.specs.declared.BodyProcessor.{BodyProcessor}
use Rattle.abi.specs.declared.values.HostNumber.{HostNumber}
use Rattle.abi.specs.declared.values.HostPlace.{HostPlace}

-- SETTINGS: 0 where one is not set, else one more than the value's number (`mode_setting_number` in crates/reading)
abbrev pub mode_setting : ℕ → Option RuleEngineMode
mode_setting n =
    cond (eqb n 0) None
    (cond (eqb n 1) (Some RuleEngineMode.On)
    (cond (eqb n 2) (Some RuleEngineMode.DetectionOnly) (Some RuleEngineMode.Off)))

abbrev pub access_setting : ℕ → Option BodyAccess
access_setting n =
    cond (eqb n 0) None
    (cond (eqb n 1) (Some BodyAccess.On) (Some BodyAccess.Off))

abbrev pub processor_setting : ℕ → Option BodyProcessor
processor_setting n =
    cond (eqb n 0) None
    (cond (eqb n 1) (Some BodyProcessor.Urlencoded)
    (cond (eqb n 2) (Some BodyProcessor.Multipart)
    (cond (eqb n 3) (Some BodyProcessor.Json) (Some BodyProcessor.Xml))))

abbrev pub settings_known : ℕ → ℕ → ℕ → Bool
settings_known mode access processor = leb mode 3 && leb access 2 && leb processor 4

-- FLAGS: 1 or 0
abbrev pub flag_of : ℕ → Bool
flag_of n = eqb n 1

abbrev pub flag_number : Bool → ℕ
flag_number b = cond b 1 0

abbrev pub flag_known : ℕ → Bool
flag_known n = leb n 1

-- A NUMBER OR A PLACE, OR NONE: the rest of an absent one is not looked at, and is written as zeros
abbrev pub number_of : HostNumber → Option ℕ
number_of h = cond (eqb h.present 1) (Some h.value) None

abbrev pub host_number : Option ℕ → HostNumber
host_number None = record { present = 0; value = 0 }
host_number (Some n) = record { present = 1; value = n }

abbrev pub number_known : HostNumber → Bool
number_known h = flag_known h.present

abbrev pub place_of : HostPlace → Option Place
place_of h = cond (eqb h.present 1) (Some (record { phase = h.phase; position = h.position })) None

abbrev pub host_place : Option Place → HostPlace
host_place None = record { present = 0; phase = 0; position = 0 }
host_place (Some at) = record { present = 1; phase = at.phase; position = at.position }

abbrev pub place_known : HostPlace → Bool
place_known h = flag_known h.present
