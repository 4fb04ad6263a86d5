-- A setting as a number, of any kind of value that is numbered from 0 on: 0 where it is not set, else one more than the value's number.
use Rattle.std.specs.Prelude.{ℕ, ◌<◌, ◌≡◌, ◌-◌, cond, eqb, Option, Some, None, refl}
use Rattle.std.proofs.Common.{arith}
use Rattle.reading.specs.declared.RuleEngineMode.{RuleEngineMode}
use Rattle.reading.specs.declared.BodyAccess.{BodyAccess}
use Rattle.reading.specs.declared.BodyProcessor.{BodyProcessor}
use Rattle.reading.specs.Numbers.{mode_number, mode_of_number, access_number, processor_number}

abbrev pub setting_number : {A : Type 0} → (A → ℕ) → Option A → ℕ
setting_number number None = 0
setting_number number (Some a) = ℕ.suc (number a)

-- and the setting that a number stands for
abbrev pub setting_of : {A : Type 0} → (ℕ → A) → ℕ → Option A
setting_of value n = cond (eqb n 0) None (Some (value (n - 1)))

-- every number above the last value's is read as that value (of a mode: `mode_of_number` in crates/reading)
abbrev pub access_of_number : ℕ → BodyAccess
access_of_number n = cond (eqb n 0) BodyAccess.On BodyAccess.Off

abbrev pub processor_of_number : ℕ → BodyProcessor
processor_of_number n =
    cond (eqb n 0) BodyProcessor.Urlencoded
    (cond (eqb n 1) BodyProcessor.Multipart
    (cond (eqb n 2) BodyProcessor.Json BodyProcessor.Xml))

-- THE LAWS OF EACH KIND: there are no more than four values, and a value's number stands for it
pub mode_few : (m : RuleEngineMode) → mode_number m < 4
mode_few RuleEngineMode.On = omega arith
mode_few RuleEngineMode.DetectionOnly = omega arith
mode_few RuleEngineMode.Off = omega arith

pub access_few : (a : BodyAccess) → access_number a < 4
access_few BodyAccess.On = omega arith
access_few BodyAccess.Off = omega arith

pub processor_few : (p : BodyProcessor) → processor_number p < 4
processor_few BodyProcessor.Urlencoded = omega arith
processor_few BodyProcessor.Multipart = omega arith
processor_few BodyProcessor.Json = omega arith
processor_few BodyProcessor.Xml = omega arith

pub mode_back : (m : RuleEngineMode) → mode_of_number (mode_number m) ≡ m
mode_back RuleEngineMode.On = refl
mode_back RuleEngineMode.DetectionOnly = refl
mode_back RuleEngineMode.Off = refl

pub access_back : (a : BodyAccess) → access_of_number (access_number a) ≡ a
access_back BodyAccess.On = refl
access_back BodyAccess.Off = refl

pub processor_back : (p : BodyProcessor) → processor_of_number (processor_number p) ≡ p
processor_back BodyProcessor.Urlencoded = refl
processor_back BodyProcessor.Multipart = refl
processor_back BodyProcessor.Json = refl
processor_back BodyProcessor.Xml = refl
